-- Steps that are kept as codes: in order, and searched.
use Rattle.std.proofs.Common.{◌≡◌, inl, inr, sym, ap, ◌∙◌, subst, ℕ, ◌+◌, ◌<◌, List, length, get_or, Some, Contains, arith}
use Rattle.std.specs.Prelude.{slice_get}
use Rattle.std.specs.List.{HoldsAt}
use Rattle.std.specs.List.Sorted.{IsSorted, IsSortedByKey, IsNonDecreasingBy, IsPartitionPoint}
use Rattle.std.specs.Ordering.{ordering_index, is_lt}
use Rattle.std.specs.declared.cmp.Ordering.TheVariants.{Less, Equal, Greater}
use Rattle.std.proofs.lemmas.Bool.{cases_lt}
use Rattle.std.proofs.lemmas.Cmp.{tied_itself}
use Rattle.std.proofs.lemmas.List.{get_or-map, length-map}
use Rattle.std.proofs.lemmas.List.Sorted.{searchable_from_sorted}
use Rattle.std.proofs.lemmas.Option.{slice_get-get_or}
use Rattle.lists.proofs.Members.{map-Contains}
use Rattle.plane_model.specs.Points.{Segment}
use Rattle.arc_table.specs.StepCodes.{step_of, steps_of}
use Rattle.arc_table.specs.Steps.{step_cmp}
use Rattle.arc_table.proofs.StepSearch.{step_cmp-total, same_step_is}

module _ (links : List Segment) (codes : List ℕ) where
  abbrev S : List Segment
  S = steps_of links codes

  step_there : (k : ℕ) (d : Segment) → k < length codes → get_or S k d ≡ step_of links (get_or codes k 0)
  step_there k d l = get_or-map (step_of links) codes k 0 d l

  pub how_many : length S ≡ length codes
  how_many = length-map codes (step_of links)

  -- codes in the order of their steps are steps in order
  pub sorted_steps : IsSortedByKey (step_of links) step_cmp codes → IsSorted step_cmp S
  sorted_steps h k d low l =
      let n = how_many in
      ap (λ (s : Segment). is_lt (step_cmp s (get_or S k d))) (step_there (k + 1) d (omega arith)) ∙ ap (λ (s : Segment). is_lt (step_cmp (step_of links (get_or codes (k + 1) 0)) s)) (step_there k d (omega arith))
      ∙ h k 0 low (omega arith)

  -- and the other way
  sorted_codes : IsSorted step_cmp S → IsSortedByKey (step_of links) step_cmp codes
  sorted_codes h k d low l =
      let n = how_many in
      let e = step_of links d in
      ap (λ (s : Segment). is_lt (step_cmp s (step_of links (get_or codes k d)))) (sym (get_or-map (step_of links) codes (k + 1) d e l)) ∙ ap (λ (s : Segment). is_lt (step_cmp (get_or S (k + 1) e) s)) (sym (get_or-map (step_of links) codes k d e (omega arith)))
      ∙ h k e low (omega arith)

  pub search_found : (x : Segment) (i : ℕ) → i < length codes → HoldsAt (λ y. step_cmp (step_of links y) x ≡ Equal) codes i → slice_get S i ≡ Some x
  search_found x i l h =
      let n = how_many in
      slice_get-get_or S i x (omega arith) ∙ ap Some (step_there i x l ∙ same_step_is (step_of links (get_or codes i 0)) x (h 0))

  pub search_misses : (x : Segment) → IsSorted step_cmp S → (i : ℕ)
      → (IsNonDecreasingBy (λ y. ordering_index (step_cmp (step_of links y) x)) codes → IsPartitionPoint (λ y. step_cmp (step_of links y) x ≡ Less) (λ y. step_cmp (step_of links y) x ≡ Greater) codes i)
      → Contains S x → ⊥
  search_misses x up i h c =
      let s = h (searchable_from_sorted step_cmp-total (step_of links) codes x (sorted_codes up)) in
      let m = map-Contains (step_of links) codes x c in
      let there = m.1 in
      let itself = tied_itself step_cmp-total x in
      elim (cases_lt there.0 i) [
        | inl l ↦ (
            let before = s.0 there.0 m.0 (omega arith) l in
            let e : Less ≡ Equal = sym (subst (λ (y : Segment). step_cmp y x ≡ Less) m.2 (subst (λ (y : ℕ). step_cmp (step_of links y) x ≡ Less) there.2 before)) ∙ itself in absurd (cc))
        | inr l ↦ (
            let after = s.1 there.0 m.0 l there.1 in
            let e : Greater ≡ Equal = sym (subst (λ (y : Segment). step_cmp y x ≡ Greater) m.2 (subst (λ (y : ℕ). step_cmp (step_of links y) x ≡ Greater) there.2 after)) ∙ itself in absurd (cc))
      ]
