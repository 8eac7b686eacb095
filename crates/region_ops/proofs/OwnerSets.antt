-- The numbers of the sets that have a face.
use Rattle.std.proofs.Common.{◌≡◌, ap, ◌∙◌, subst, arith, ℕ, ◌+◌, ◌<◌, Bool, true, List, [], Contains, length, get_or, nat_eq}
use Rattle.std.proofs.lemmas.List.{get_or_default}
use Rattle.lists.specs.Lists.{has, numbers_from}
use Rattle.bucket_grid.proofs.Numbers.{Contains-numbers_where}
use Rattle.bucket_grid.proofs.RisingNumbers.{numbers_pass}
use Rattle.face_sets.specs.Owners.{owners_of}
use Rattle.face_sets.proofs.BoundaryLemmas.{Contains_has, has_Contains}

-- a listed number is that of an element that passes
pub of_numbers : {X : Type 0} (k : ℕ) (test : X → Bool) (xs : List X) (m : ℕ) (d : X) → Contains (numbers_from k test xs) m → (n : ℕ) × (m ≡ k + n) × (n < length xs) × (test (get_or xs n d) ≡ true)
of_numbers k test xs m d c =
    let h = numbers_pass test k xs m c in
    (h.place, h.number, h.within, ap test (get_or_default xs h.place d h.item h.within ∙ h.is) ∙ h.passes)

pub of_owners : (sets : List (List ℕ)) (k m : ℕ) → Contains (owners_of sets k) m → (m < length sets) × Contains (get_or sets m []) k
of_owners sets k m c =
    let (j, same, below, has_face) = of_numbers 0 (λ (set : List ℕ). has nat_eq set k) sets m [] c in
    let is_j : j ≡ m = omega arith in
    (omega arith, has_Contains (get_or sets m []) k (subst (λ (i : ℕ). has nat_eq (get_or sets i []) k ≡ true) is_j has_face))

pub in_owners : (sets : List (List ℕ)) (k m : ℕ) → m < length sets → Contains (get_or sets m []) k → Contains (owners_of sets k) m
in_owners sets k m below there = Contains-numbers_where (λ (set : List ℕ). has nat_eq set k) sets m [] below (Contains_has (get_or sets m []) k there)
