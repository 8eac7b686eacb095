-- Choices: for each of some layers the number of a set, or none.
use Rattle.std.specs.Prelude.{◌≡◌, ℕ, ◌<◌, Bool, nat_eq, List, [], map, length, slice_get, slice_index_or, Option, Some, None, is_some}
use Rattle.std.specs.List.{list_any}
use Rattle.std.specs.Option.{option_eq}
use Rattle.std.specs.Ordering.{nat_cmp, is_lt}
use Rattle.std.specs.declared.cmp.Ordering.{Ordering}
use Rattle.std.specs.declared.cmp.Ordering.TheVariants.{Less, Equal, Greater}
use Rattle.std.specs.Cmp.Lexicographic.{pointwise, slice_cmp}
use Rattle.face_sets.specs.Owners.{owners_of, AreOwners}

abbrev pub Choice : Type 0
Choice = List (Option ℕ)

-- the first set of a layer that has the face, or none
abbrev pub first_with : List (List ℕ) → ℕ → Option ℕ
first_with sets k = slice_get (owners_of sets k) 0

-- the choice of a face
abbrev pub choice_of : List (List (List ℕ)) → ℕ → Choice
choice_of layers k = map (λ (sets : List (List ℕ)). first_with sets k) layers

-- some layer has a number
abbrev pub has_number : Choice → Bool
has_number choice = list_any (λ (n : Option ℕ). is_some n) choice

abbrev pub same_choice : Choice → Choice → Bool
same_choice = pointwise (option_eq nat_eq)

-- numbers ascend, and none comes after every number
abbrev pub number_order : Option ℕ → Option ℕ → Ordering
number_order (Some m) (Some n) = nat_cmp m n
number_order (Some m) None = Less
number_order None (Some n) = Greater
number_order None None = Equal

-- in lexicographic order
abbrev pub choice_before : Choice → Choice → Bool
choice_before c d = is_lt (slice_cmp number_order c d)

-- from lists of these lengths: for each list the number of an element, or none
pub record IsChoiceFrom (counts : List ℕ) (choice : Choice) : Type 0 where
  pub each : length choice ≡ length counts
  pub below : (i n : ℕ) → i < length counts → slice_index_or choice i None ≡ Some n → n < slice_index_or counts i 0

-- ---- on the way

-- for each of `count` faces its choice
pub record AreChoices (layers : List (List (List ℕ))) (count : ℕ) (choices : List Choice) : Type 0 where
  pub each : length choices ≡ count
  pub exact : (k : ℕ) → k < count → slice_index_or choices k [] ≡ choice_of layers k

-- for each layer the lists of the sets that have each of `count` faces
pub record AreLayerOwners (layers : List (List (List ℕ))) (count : ℕ) (owners : List (List (List ℕ))) : Type 0 where
  pub each : length owners ≡ length layers
  pub exact : (i : ℕ) → i < length layers → AreOwners (slice_index_or layers i []) count (slice_index_or owners i [])

-- the first numbers of the lists for a face
abbrev pub choice_among : List (List (List ℕ)) → ℕ → Choice
choice_among owners k = map (λ (lists : List (List ℕ)). slice_get (slice_index_or lists k []) 0) owners
