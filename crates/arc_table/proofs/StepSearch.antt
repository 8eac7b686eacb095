-- A search in sorted steps.
use Rattle.std.proofs.Common.{◌≡◌, inl, inr, refl, sym, ap, ◌∙◌, subst, ℕ, true, ◌&&◌, ◌++◌, ◌∷◌, ◌+◌, false, List, [], map, length, get_or, Some, None, Contains, ◌<ℤ◌, Ordering, int_cmp, arith}
use Rattle.std.specs.Prelude.{slice_get}
use Rattle.std.specs.Ordering.{ordering_then, is_lt, MatchOrdering}
use Rattle.std.specs.declared.cmp.Ordering.TheVariants.{Less, Equal, Greater}
use Rattle.std.specs.Cmp.{IsTotalOrder}
use Rattle.std.proofs.lemmas.Bool.{cases_lt, false_from_ne_true}
use Rattle.std.proofs.lemmas.Cmp.{on_total, then_total, int_ranked}
use Rattle.std.proofs.lemmas.List.{get_or_push}
use Rattle.std.proofs.lemmas.List.Sorted.{Contains-permutation, IsPermutation-sym}
use Rattle.std.proofs.lemmas.Option.{slice_get_cases, get_or_from_slice_get}
use Rattle.std.proofs.lemmas.Bool.{and_parts, and_from}
use Rattle.std.proofs.Math.ListN.{get_or-append}
use Rattle.std.proofs.lemmas.List.Elements.{Contains-append_left, Contains-append_right, Contains-append_cases}
use Rattle.lists.proofs.Members.{Contains-map, map-Contains}
use Rattle.plane_model.specs.Points.{GridPoint, Segment, same_point, is_before, reversed}
use Rattle.plane_model.specs.Arrangement.{IsBefore}
use Rattle.plane_model.proofs.PointOrder.{clash, point_is, segment_is, same_point_from, same_point_to, before_to, is_before-IsStrictOrder}
use Rattle.grid_base.specs.Order.{point_cmp}
use Rattle.grid_base.proofs.PointSearch.{point_cmp-total, equal_is}
use Rattle.arc_table.specs.Steps.{step_cmp, AreSteps, HasBoth, AreTwins}

pub step_cmp-total : IsTotalOrder step_cmp
step_cmp-total = then_total (on_total (λ (s : Segment). s.start) point_cmp-total) (on_total (λ (s : Segment). s.stop) point_cmp-total)

pub not_before : (p q : GridPoint) → is_lt (point_cmp p q) ≡ false → is_before p q ≡ false
not_before p q e = go (int_cmp p.x q.x) (int_cmp p.y q.y) (int_ranked p.x q.x (int_cmp p.x q.x) refl) (int_ranked p.y q.y (int_cmp p.y q.y) refl) e
  where
    past : IsBefore q p → is_before p q ≡ false
    past u = false_from_ne_true (is_before p q) (λ b. is_before-IsStrictOrder.irreflexive p (is_before-IsStrictOrder.trans p q p b (before_to q p u)))

    go : (a b : Ordering) → MatchOrdering a (p.x <ℤ q.x) (p.x ≡ q.x) (q.x <ℤ p.x) → MatchOrdering b (p.y <ℤ q.y) (p.y ≡ q.y) (q.y <ℤ p.y) → is_lt (ordering_then a b) ≡ false → is_before p q ≡ false
    go Less b h k e = absurd (let f : true ≡ false = e in cc)
    go Equal Less h k e = absurd (let f : true ≡ false = e in cc)
    go Equal Equal h k e = false_from_ne_true (is_before p q) (λ b. is_before-IsStrictOrder.irreflexive q (subst (λ (r : GridPoint). is_before r q ≡ true) (point_is p q h k) b))
    go Equal Greater h k e = past (inr (sym h, k))
    go Greater b h k e = past (inl h)

pub same_step_is : (s t : Segment) → step_cmp s t ≡ Equal → s ≡ t
same_step_is s t e = go (point_cmp s.start t.start) (point_cmp s.stop t.stop) refl refl e
  where
    go : (a b : Ordering) → point_cmp s.start t.start ≡ a → point_cmp s.stop t.stop ≡ b → ordering_then a b ≡ Equal → s ≡ t
    go Less b f g e = absurd cc
    go Equal Less f g e = absurd cc
    go Equal Equal f g e = segment_is s t (equal_is s.start t.start f) (equal_is s.stop t.stop g)
    go Equal Greater f g e = absurd cc
    go Greater b f g e = absurd cc

-- ---- the ends of steps

pub same_ends : (s t : Segment) → (same_point s.start t.start && same_point s.stop t.stop) ≡ true → s ≡ t
same_ends s t e =
    let p = and_parts (same_point s.start t.start) (same_point s.stop t.stop) e in
    segment_is s t (same_point_from s.start t.start p.0) (same_point_from s.stop t.stop p.1)

pub other_ends : (s t : Segment) → (same_point s.start t.start && same_point s.stop t.stop) ≡ false → s ≡ t → ⊥
other_ends s t e f =
    clash (same_point s.start t.start && same_point s.stop t.stop)
    (and_from (same_point s.start t.start) (same_point s.stop t.stop) (same_point_to s.start t.start (ap (λ (x : Segment). x.start) f)) (same_point_to s.stop t.stop (ap (λ (x : Segment). x.stop) f))) e

-- ---- both steps along each link

pub both_of : (S steps : List Segment) → AreSteps S steps → HasBoth steps
both_of S steps h s c =
    Contains-permutation (S ++ map reversed S) steps (reversed s) h.all
    (elim (Contains-append_cases S (map reversed S) s (Contains-permutation steps (S ++ map reversed S) s (IsPermutation-sym (S ++ map reversed S) steps h.all) c)) [
      | inl d ↦ Contains-append_right S (map reversed S) (reversed s) (Contains-map reversed S s d)
      | inr d ↦ (let m = map-Contains reversed S s d in Contains-append_left S (map reversed S) (reversed s) (subst (λ (k : Segment). Contains S (reversed k)) m.2 m.1))
    ])

pub contains_at : (xs : List Segment) (h : ℕ) (s : Segment) → slice_get xs h ≡ Some s → Contains xs s
contains_at xs h s e = elim (slice_get_cases xs h).1 [
  | inl r ↦ (h, r.1, get_or_from_slice_get xs h s s e)
  | inr r ↦ absurd (let f : Some s ≡ None = sym e ∙ r.1 in cc)
]

pub one_twin_more : (steps : List Segment) (twins all : List ℕ) (n t : ℕ) → length twins ≡ n → all ≡ twins ++ t ∷ [] → AreTwins steps twins n
    → ((s : Segment) → slice_get steps n ≡ Some s → slice_get steps t ≡ Some (reversed s)) → AreTwins steps all (n + 1)
one_twin_more steps twins all n t l a before last h s m e = ap (λ (xs : List ℕ). slice_get steps (get_or xs h 0)) a ∙ elim (cases_lt h n) [
  | inl k ↦ ap (slice_get steps) (get_or-append twins (t ∷ []) 0 h (omega arith)) ∙ before h s k e
  | inr k ↦ (let same : n ≡ h = omega arith in ap (slice_get steps) (get_or_push twins t 0 h (omega arith)) ∙ last s (ap (slice_get steps) same ∙ e))
]
