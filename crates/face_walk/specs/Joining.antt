-- Numbers in classes; a class is known by its least number.
use Rattle.std.specs.Prelude.{◌≡◌, ℕ, ◌<◌, ◌≤◌, List, [], ◌∷◌, ◌++◌, length, map, nat_eq, nat_lt, slice_index, slice_index_or, if◌then◌else◌}

-- no number leads to a greater one
abbrev pub GoesDown : List ℕ → Type 0
GoesDown lesser = (k : ℕ) → k < length lesser → slice_index lesser k ≤ k

-- of numbers that lead to lesser ones of their classes, or to themselves: the least number of each class, number by number
abbrev pub least_from : List ℕ → List ℕ → List ℕ
least_from found [] = found
least_from found (k ∷ ks) = least_from (found ++ slice_index_or found k (length found) ∷ []) ks

abbrev pub least_numbers : List ℕ → List ℕ
least_numbers lesser = least_from [] lesser

-- each number is alone in its class
abbrev pub AreAlone : List ℕ → Type 0
AreAlone classes = (k : ℕ) → k < length classes → slice_index classes k ≡ k

-- the least number of a class is of that class, and no number of it is less
pub record AreClasses (classes : List ℕ) : Type 0 where
  pub least : (k : ℕ) → k < length classes → slice_index classes k ≤ k
  pub inside : (k : ℕ) → k < length classes → slice_index classes (slice_index classes k) ≡ slice_index classes k

-- the class m made the class n
abbrev pub renamed : ℕ → ℕ → ℕ → ℕ
renamed m n k = if nat_eq k m then n else k

-- the classes with those of m and n made one, and the others as they were
abbrev pub made_one : ℕ → ℕ → List ℕ → List ℕ
made_one m n classes =
    let a : ℕ = slice_index classes m in
    let b : ℕ = slice_index classes n in
    if nat_lt a b then map (renamed b a) classes else map (renamed a b) classes
