-- Pairs of numbers that are joined, and the classes that come of it.
use Rattle.std.specs.Prelude.{◌≡◌, ℕ, ◌<◌, Bool, List, [], ◌∷◌, All, length, slice_index}
use Rattle.face_walk.specs.Joining.{made_one}

-- the classes after the pairs were joined one after another
abbrev pub joined_by : List (ℕ × ℕ) → List ℕ → List ℕ
joined_by [] classes = classes
joined_by (p ∷ ps) classes = joined_by ps (made_one p.0 p.1 classes)

-- Labels of numbers: one on both of each pair, and two that no chain of pairs connects have different ones: what takes one value on
-- each pair takes one value on each label.
pub record AreJoinedBy (pairs : List (ℕ × ℕ)) (labels : List ℕ) : Type 0 where
  pub agree : All (λ p. slice_index labels p.0 ≡ slice_index labels p.1) pairs
  pub joined : (f : ℕ → Bool) → All (λ p. f p.0 ≡ f p.1) pairs → (j k : ℕ) → j < length labels → k < length labels → slice_index labels j ≡ slice_index labels k → f j ≡ f k
