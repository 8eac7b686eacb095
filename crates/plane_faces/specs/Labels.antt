-- Labels of faces, and of the parts of a set of faces.
use Rattle.std.specs.Prelude.{◌≡◌, ℕ, Bool, true, cond, ◌&&◌, nat_eq, List, All, Contains}
use Rattle.plane_model.specs.Points.{Segment}
use Rattle.plane_faces.specs.Places.{Place, left_side, right_side, IsBeside, AgreesWherePlacesMeet}

-- no test that takes one value where places meet tells a and b apart
abbrev pub IsJoined : List Segment → Place → Place → Type 0
IsJoined S a b = (f : Place → Bool) → AgreesWherePlacesMeet S f → f a ≡ f b

-- places that meet have one label, and places of one label are joined by such meetings
pub record IsFaceLabelling (S : List Segment) (label : Place → ℕ) : Type 0 where
  pub agrees : AgreesWherePlacesMeet S label
  pub joined : (a b : Place) → IsBeside S a → IsBeside S b → label a ≡ label b → IsJoined S a b

-- the places whose labels are among F
abbrev pub among : (Place → ℕ) → (ℕ → Bool) → Place → Bool
among label F a = F (label a)

-- both sides of the link l have labels among F
abbrev pub IsWithin : (Place → ℕ) → (ℕ → Bool) → Segment → Type 0
IsWithin label F l = (among label F (left_side l) ≡ true) × (among label F (right_side l) ≡ true)

-- f takes one value on each label, and on both sides of each link within F
pub record IsConstantWithin (S : List Segment) (label : Place → ℕ) (F : ℕ → Bool) (f : Place → Bool) : Type 0 where
  pub labels : (a b : Place) → IsBeside S a → IsBeside S b → label a ≡ label b → f a ≡ f b
  pub links : (l : Segment) → Contains S l → IsWithin label F l → f (left_side l) ≡ f (right_side l)

-- part numbers the labels among F, so that links within F join parts, and nothing else does
pub record IsPartLabelling (S : List Segment) (label : Place → ℕ) (F : ℕ → Bool) (part : ℕ → ℕ) : Type 0 where
  pub links : (l : Segment) → Contains S l → IsWithin label F l → part (label (left_side l)) ≡ part (label (right_side l))
  pub joined : (f : Place → Bool) → IsConstantWithin S label F f → (a b : Place) → IsBeside S a → IsBeside S b
      → among label F a ≡ true → among label F b ≡ true → part (label a) ≡ part (label b) → f a ≡ f b

-- the labels of one part
abbrev pub in_part : (ℕ → Bool) → (ℕ → ℕ) → ℕ → ℕ → Bool
in_part F part n k = F k && nat_eq (part k) n

-- ---- labels by joins

-- labels after the pairs of places were joined one after another: one on each pair, and no more joined than that
pub record IsJoining (S : List Segment) (pairs : List (Place × Place)) (label : Place → ℕ) : Type 0 where
  pub agree : All (λ p. label p.0 ≡ label p.1) pairs
  pub joined : (f : Place → Bool) → All (λ p. f p.0 ≡ f p.1) pairs → (a b : Place) → IsBeside S a → IsBeside S b → label a ≡ label b → f a ≡ f b

-- the label m made n
abbrev pub relabel : ℕ → ℕ → ℕ → ℕ
relabel m n k = cond (nat_eq k m) n k
