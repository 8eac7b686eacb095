-- The choice of a face, from the lists of the sets that have it.
use Rattle.std.proofs.Common.{◌≡◌, refl, sym, ap, ◌∙◌, subst, inl, inr, true≢false, arith, ℕ, suc, ◌+◌, ◌<◌, Bool, true, ◌||◌, ◌≤◌, nat_eq, List, [], ◌∷◌, ◌++◌, length, get_or, slice_get, take, drop, map, All, Contains, Option, Some, None, is_some, unwrap_or}
use Rattle.std.specs.declared.cmp.Ordering.{Ordering}
use Rattle.std.specs.declared.cmp.Ordering.TheVariants.{Less, Greater}
use Rattle.std.specs.Cmp.Lexicographic.{slice_cmp}
use Rattle.std.proofs.lemmas.Bool.{cases_Bool, cases_lt, eq-eqb}
use Rattle.std.proofs.lemmas.List.{take_more, get_or-map, get_or_default, length-map, drop_more, drop_all, length_push, get_or_append_left, get_or_push}
use Rattle.std.proofs.lemmas.List.Elements.{All-head, All-tail}
use Rattle.std.proofs.lemmas.List.Folds.{list_any_at}
use Rattle.lists.specs.Lists.{has}
use Rattle.bucket_grid.proofs.Numbers.{Contains-numbers_where, numbers_where_below}
use Rattle.face_walk.specs.Places.{FaceTable}
use Rattle.face_sets.specs.Owners.{owners_of, AreOwners}
use Rattle.face_sets.specs.Sets.{IsInnerFace, IsSetOf}
use Rattle.face_sets.proofs.SetLemmas.{pushed}
use Rattle.face_groups.proofs.Groups.{held_inside}
use Rattle.union_ops.specs.Choices.{Choice, first_with, choice_of, has_number, number_order, IsChoiceFrom, AreChoices, AreLayerOwners, choice_among}
use Rattle.union_ops.specs.Union.{IsHeld}

-- ---- one more face

pub choices_more : (layers : List (List (List ℕ))) (n : ℕ) (choices : List Choice) (choice : Choice) → AreChoices layers n choices → choice ≡ choice_of layers n → AreChoices layers (n + 1) (choices ++ choice ∷ [])
choices_more layers n choices choice h one = record {
  each = length_push choices choice ∙ ap (λ (m : ℕ). m + 1) h.each;
  exact = pushed choices choice [] n (λ k c. c ≡ choice_of layers k) h.each h.exact one;
}

-- one layer more
layers_push : (layers : List (List (List ℕ))) (count : ℕ) (sets : List (List ℕ)) (owners : List (List (List ℕ))) (lists : List (List ℕ)) →
    AreLayerOwners layers count owners → AreOwners sets count lists → AreLayerOwners (layers ++ sets ∷ []) count (owners ++ lists ∷ [])
layers_push layers count sets owners lists h one =
    let e = h.each in
    let longer = length_push layers sets in
    record {
      each = length_push owners lists ∙ ap (λ (n : ℕ). n + 1) e ∙ sym longer;
      exact = λ j l. elim (cases_lt j (length layers)) [
        | inl less ↦ subst (λ (s : List (List ℕ)). AreOwners s count (get_or (owners ++ lists ∷ []) j [])) (sym (get_or_append_left layers (sets ∷ []) [] j less))
            (subst (AreOwners (get_or layers j []) count) (sym (get_or_append_left owners (lists ∷ []) [] j (omega arith))) (h.exact j less))
        | inr more ↦
            (let at : length layers ≡ j = omega arith in
            subst (λ (s : List (List ℕ)). AreOwners s count (get_or (owners ++ lists ∷ []) j [])) (sym (get_or_push layers sets [] j at))
            (subst (AreOwners sets count) (sym (get_or_push owners lists [] j (omega arith))) one))
      ];
    }

pub layers_more : (layers : List (List (List ℕ))) (count i : ℕ) (d sets : List (List ℕ)) (owners : List (List (List ℕ))) (lists : List (List ℕ)) → i < length layers → sets ≡ get_or layers i d →
    AreLayerOwners (take i layers) count owners → AreOwners sets count lists → AreLayerOwners (take (i + 1) layers) count (owners ++ lists ∷ [])
layers_more layers count i d sets owners lists l is h one =
    subst (λ (ls : List (List (List ℕ))). AreLayerOwners ls count (owners ++ lists ∷ [])) (ap (λ (s : List (List ℕ)). take i layers ++ s ∷ []) is ∙ sym (take_more layers i d l))
    (layers_push (take i layers) count sets owners lists h one)

-- the first numbers of the lists are the first sets that have the face
pub among_is : (count k : ℕ) (layers owners : List (List (List ℕ))) → AreLayerOwners layers count owners → k < count → choice_among owners k ≡ choice_of layers k
among_is count k [] [] h l = refl
among_is count k [] (o ∷ os) h l = absurd (let e = h.each in omega arith)
among_is count k (s ∷ ss) [] h l = absurd (let e = h.each in omega arith)
among_is count k (s ∷ ss) (o ∷ os) h l =
    let first : get_or o k [] ≡ owners_of s k = (h.exact 0 (omega arith)).exact k l in
    let rest = among_is count k ss os (record { each = (let e = h.each in omega arith); exact = λ j m. h.exact (suc j) (omega arith) }) l in
    λ i. slice_get (first i) 0 ∷ rest i

-- ---- whose sets the numbers are

at_first : (P : ℕ → Type 0) (xs : List ℕ) (n : ℕ) → All P xs → slice_get xs 0 ≡ Some n → P n
at_first P [] n h e = absurd (true≢false (sym (ap (λ (o : Option ℕ). is_some o) e)))
at_first P (x ∷ xs) n h e = subst P (ap (λ (o : Option ℕ). unwrap_or o 0) e) (h 0 x (omega arith))

first_below : (sets : List (List ℕ)) (k n : ℕ) → first_with sets k ≡ Some n → n < length sets
first_below sets k n e = at_first (λ m. m < length sets) (owners_of sets k) n (numbers_where_below (λ (set : List ℕ). has nat_eq set k) sets) e

pub choice_from : (layers : List (List (List ℕ))) (k : ℕ) → IsChoiceFrom (map (λ (sets : List (List ℕ)). length sets) layers) (choice_of layers k)
choice_from layers k =
    let count : List (List ℕ) → ℕ = λ (sets : List (List ℕ)). length sets in
    let first : List (List ℕ) → Option ℕ = λ (sets : List (List ℕ)). first_with sets k in
    record {
      each = length-map layers first ∙ sym (length-map layers count);
      below = λ i n l e.
          let within : i < length layers = (let f = length-map layers count in omega arith) in
          let below : n < length (get_or layers i []) = first_below (get_or layers i []) k n (sym (get_or-map first layers i [] None within) ∙ e) in
          let here : get_or (map count layers) i 0 ≡ length (get_or layers i []) = get_or-map count layers i [] 0 within in
          omega arith;
    }

-- ---- faces that some set has

pub number_inside : (t : FaceTable) (k : ℕ) (layers : List (List (List ℕ))) → All (All (IsSetOf t)) layers → has_number (choice_of layers k) ≡ true → IsInnerFace t k
number_inside t k [] h e = absurd (true≢false (sym e))
number_inside t k (sets ∷ layers) h e = elim (cases_Bool (is_some (first_with sets k))) [
  | inl found ↦ held_inside t k 0 sets (All-head (All (IsSetOf t)) sets layers h) (λ none. true≢false (sym found ∙ ap (λ (ns : List ℕ). is_some (slice_get ns 0)) none))
  | inr missed ↦ number_inside t k layers (All-tail (All (IsSetOf t)) sets layers h) (ap (λ (b : Bool). b || has_number (choice_of layers k)) (sym missed) ∙ e)
]

some_first : (xs : List ℕ) (x : ℕ) → Contains xs x → is_some (slice_get xs 0) ≡ true
some_first [] x c = absurd (let l : c.0 < 0 = c.1 in omega arith)
some_first (y ∷ ys) x c = refl

found_first : (sets : List (List ℕ)) (set : List ℕ) (k : ℕ) → Contains sets set → Contains set k → is_some (first_with sets k) ≡ true
found_first sets set k (n, l, is) (j, m, at) =
    let same : get_or sets n [] ≡ set = get_or_default sets n [] set l ∙ is in
    let there : has nat_eq (get_or sets n []) k ≡ true =
    subst (λ (s : List ℕ). has nat_eq s k ≡ true) (sym same) (list_any_at (nat_eq k) set j k m (eq-eqb k (get_or set j k) (sym at))) in
    some_first (owners_of sets k) n (Contains-numbers_where (λ (s : List ℕ). has nat_eq s k) sets n [] l there)

pub held_number : (layers : List (List (List ℕ))) (k : ℕ) → IsHeld layers k → has_number (choice_of layers k) ≡ true
held_number layers k h =
    let (i, l, is) = h.of_the_layers in
    let first : List (List ℕ) → Option ℕ = λ (sets : List (List ℕ)). first_with sets k in
    let within : i < length (map first layers) = (let e = length-map layers first in omega arith) in
    let here : get_or (map first layers) i None ≡ first h.layer = get_or-map first layers i h.layer None l ∙ ap first is in
    list_any_at (λ (o : Option ℕ). is_some o) (map first layers) i None within
    (ap (λ (o : Option ℕ). is_some o) here ∙ found_first h.layer h.set k h.of_the_layer h.has)

-- ---- the order of two choices, number by number

abbrev compared : Choice → Choice → ℕ → Ordering
compared c d i = slice_cmp number_order (drop i c) (drop i d)

-- past the end of one of them
pub past_second : (c d : Choice) (i : ℕ) → i < length c → length d ≤ i → compared c d i ≡ Greater
past_second c d i l m = λ j. slice_cmp number_order (drop_more c i None l j) (drop_all i d m j)

pub past_first : (c d : Choice) (i : ℕ) → length c ≤ i → i < length d → compared c d i ≡ Less
past_first c d i l m = λ j. slice_cmp number_order (drop_all i c l j) (drop_more d i None m j)
