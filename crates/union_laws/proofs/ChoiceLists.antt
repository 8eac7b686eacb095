-- All choices from the regions of layers, in lexicographic order.
use Rattle.std.proofs.Common.{◌≡◌, inl, inr, refl, sym, ap, subst, ◌∙◌, ◌==◌, ℕ, suc, Bool, true, nat_lt, List, [], ◌∷◌, ◌++◌, cond, Contains, length, map, Option, Some, None}
use Rattle.std.specs.List.{flat_map, range_with_len}
use Rattle.std.specs.Ordering.{is_lt, ordering_then}
use Rattle.std.specs.Cmp.Lexicographic.{slice_cmp}
use Rattle.std.specs.declared.cmp.Ordering.{Ordering}
use Rattle.std.specs.declared.cmp.Ordering.TheVariants.{Less, Equal, Greater}
use Rattle.std.proofs.lemmas.Cmp.{nat_cmp_total, tied_itself}
use Rattle.std.proofs.lemmas.List.Elements.{Contains-append_cases}
use Rattle.lists.proofs.Ascending.{IsAscending}
use Rattle.lists.proofs.Members.{Contains-cases, Contains-nil, flat_map-Contains, map-Contains}
use Rattle.union_ops.specs.Choices.{choice_before, number_order}
use Rattle.region_model.specs.Region.{Region}
use Rattle.region_model.specs.UnionCommand.{Choice, choices, choices_in}
use Rattle.region_laws.proofs.AscendingLists.{join_ascends}
use Rattle.region_laws.proofs.MosaicTold.{rising_range}

abbrev number_before : Option ℕ → Option ℕ → Bool
number_before o p = is_lt (number_order o p)

-- ---- the order of two choices

itself : (o : Option ℕ) → number_order o o ≡ Equal
itself None = refl
itself (Some n) = tied_itself nat_cmp_total n

with_same : (o : Option ℕ) (c e : Choice) → choice_before c e ≡ true → choice_before (o ∷ c) (o ∷ e) ≡ true
with_same o c e h = ap (λ (r : Ordering). is_lt (ordering_then r (slice_cmp number_order c e))) (itself o) ∙ h

with_lesser : (o p : Option ℕ) (c e : Choice) → number_before o p ≡ true → choice_before (o ∷ c) (p ∷ e) ≡ true
with_lesser o p c e h = go (number_order o p) h
  where
    go : (r : Ordering) → is_lt r ≡ true → is_lt (ordering_then r (slice_cmp number_order c e)) ≡ true
    go Less h = refl
    go Equal h = absurd (cc)
    go Greater h = absurd (cc)

-- ---- one layer

lesser_number : (m n : ℕ) → nat_lt m n ≡ true → number_before (Some m) (Some n) ≡ true
lesser_number m n h = ap (λ (b : Bool). is_lt (cond b Less (cond (m == n) Equal Greater))) h

none_last : (ns : List ℕ) → IsAscending nat_lt ns → IsAscending number_before (map Some ns ++ None ∷ [])
none_last [] h = ((λ o c. Contains-nil o c), tt)
none_last (n ∷ ns) h = (
  λ o c. elim (Contains-append_cases (map Some ns) (None ∷ []) o c) [
    | inl there ↦ (let (m, in_ns, is) = map-Contains Some ns o there in subst (λ (p : Option ℕ). number_before (Some n) p ≡ true) is (lesser_number n m (h.0 m in_ns)))
    | inr last ↦ elim (Contains-cases None [] o last) [
      | inl is ↦ subst (λ (p : Option ℕ). number_before (Some n) p ≡ true) is refl
      | inr more ↦ Contains-nil o more
    ]
  ],
  none_last ns h.1,
)

-- ---- all layers

begun_ascend : (o : Option ℕ) (cs : List Choice) → IsAscending choice_before cs → IsAscending choice_before (map (λ (c : Choice). o ∷ c) cs)
begun_ascend o [] h = tt
begun_ascend o (c ∷ cs) h = (
  λ e m. (let (f, there, is) = map-Contains (λ (c : Choice). o ∷ c) cs e m in subst (λ (g : Choice). choice_before (o ∷ c) g ≡ true) is (with_same o c f (h.0 f there))),
  begun_ascend o cs h.1,
)

each_begun : (os : List (Option ℕ)) (cs : List Choice) → IsAscending number_before os → IsAscending choice_before cs → IsAscending choice_before (flat_map (λ (o : Option ℕ). map (λ (c : Choice). o ∷ c) cs) os)
each_begun [] cs h k = tt
each_begun (o ∷ os) cs h k =
    join_ascends choice_before (map (λ (c : Choice). o ∷ c) cs) (flat_map (λ (p : Option ℕ). map (λ (c : Choice). p ∷ c) cs) os) (begun_ascend o cs k) (each_begun os cs h.1 k) (λ x y cx cy.
    let (c, in_cs, is_x) = map-Contains (λ (c : Choice). o ∷ c) cs x cx in
    let (p, in_os, begun) = flat_map-Contains (λ (p : Option ℕ). map (λ (c : Choice). p ∷ c) cs) os y cy in
    let (e, also, is_y) = map-Contains (λ (c : Choice). p ∷ c) cs y begun in
    subst (λ (f : Choice). choice_before f y ≡ true) is_x (subst (λ (f : Choice). choice_before (o ∷ c) f ≡ true) is_y (with_lesser o p c e (h.0 p in_os))))

pub choices_ascend : (regions : List (List Region)) → IsAscending choice_before (choices regions)
choices_ascend [] = ((λ c m. Contains-nil c m), tt)
choices_ascend (rs ∷ regions) = each_begun (choices_in rs) (choices regions) (none_last (range_with_len 0 (length rs)) (rising_range 0 (length rs))) (choices_ascend regions)

-- a choice has an entry for each layer
pub one_each : (regions : List (List Region)) (c : Choice) → Contains (choices regions) c → length c ≡ length regions
one_each [] c m = elim (Contains-cases [] [] c m) [ inl is ↦ sym (ap (λ (e : Choice). length e) is) | inr more ↦ Contains-nil c more ]
one_each (rs ∷ regions) c m =
    let (o, in_layer, begun) = flat_map-Contains (λ (o : Option ℕ). map (λ (e : Choice). o ∷ e) (choices regions)) (choices_in rs) c m in
    let (e, there, is) = map-Contains (λ (e : Choice). o ∷ e) (choices regions) c begun in
    subst (λ (f : Choice). length f ≡ suc (length regions)) is (ap suc (one_each regions e there))
