-- Numbers of classes, from 0.
use Rattle.std.specs.Prelude.{◌≡◌, ◌↔◌, ℕ, ◌<◌, true, nat_eq, List, All, length, slice_index}
use Rattle.lists.specs.Lists.{has}

-- the numbers in a list are just those below the count: none is left out, and there is no other
pub record AreAllBelow (count : ℕ) (numbers : List ℕ) : Type 0 where
  pub below : All (λ n. n < count) numbers
  pub used : (n : ℕ) → n < count → has nat_eq numbers n ≡ true

-- The numbers below a count are given to the elements of classes: one to each class, a lesser one to a class with a lesser least number, and none is left out.
pub record IsNumbering (classes numbers : List ℕ) (count : ℕ) : Type 0 where
  pub each : length numbers ≡ length classes
  pub same : (j k : ℕ) → j < length classes → k < length classes → (slice_index numbers j ≡ slice_index numbers k) ↔ (slice_index classes j ≡ slice_index classes k)
  pub order : (j k : ℕ) → j < length classes → k < length classes → slice_index classes j < slice_index classes k → slice_index numbers j < slice_index numbers k
  pub below : (j : ℕ) → j < length classes → slice_index numbers j < count
  pub used : (n : ℕ) → n < count → (j : ℕ) × (j < length classes) × (slice_index numbers j ≡ n)
