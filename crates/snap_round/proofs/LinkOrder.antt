-- Links sorted, with repeats removed, are ascending.
use Rattle.std.proofs.Common.{◌≡◌, refl, sym, ap, ◌∙◌, Bool, true, false, ◌&&◌, ◌||◌, List, [], ◌∷◌, Contains, Ordering}
use Rattle.std.specs.List.{dedup}
use Rattle.std.specs.List.Sorted.{IsSorted, IsStrictlySortedBy, IsPermutation}
use Rattle.std.specs.Ordering.{ordering_then, eq_by_cmp, int_eq, is_eq}
use Rattle.std.specs.declared.cmp.Ordering.TheVariants.{Less, Equal, Greater}
use Rattle.std.specs.Cmp.{IsTotalOrder, IsEquivalence}
use Rattle.std.proofs.lemmas.Cmp.{on_total, then_total, eq_by_cmp_equiv}
use Rattle.std.proofs.lemmas.List.Elements.{All-from_recursion, All-contains}
use Rattle.std.proofs.lemmas.List.Kept.{IsStrictlySortedBy-dedup, Contains-dedup, Contains-from_dedup}
use Rattle.std.proofs.lemmas.List.Sorted.{Contains-permutation, IsPermutation-sym}
use Rattle.lists.specs.Lists.{ascending}
use Rattle.lists.proofs.Ascending.{IsAscending, one_ascending, ascending-IsAscending, ascending-Contains, Contains-ascending}
use Rattle.plane_model.specs.Points.{Segment, is_before, same_point, link_before}
use Rattle.plane_model.proofs.PointOrder.{segment_is, same_point_to, link_before-IsStrictOrder}
use Rattle.grid_base.specs.Order.{point_cmp}
use Rattle.grid_base.proofs.PointSearch.{point_cmp-total, less_is, equal_is}
use Rattle.hot_pixels.proofs.SortLemmas.{both_equal, point_ties}

abbrev pub link_cmp : Segment → Segment → Ordering
link_cmp k l = ordering_then (point_cmp k.start l.start) (point_cmp k.stop l.stop)

link_cmp-total : IsTotalOrder link_cmp
link_cmp-total = then_total (on_total (λ (l : Segment). l.start) point_cmp-total) (on_total (λ (l : Segment). l.stop) point_cmp-total)

later_true : (b : Bool) → (b || true) ≡ true
later_true true = refl
later_true false = refl

link_less : (k l : Segment) → link_cmp k l ≡ Less → link_before k l ≡ true
link_less k l e = go (point_cmp k.start l.start) (point_cmp k.stop l.stop) refl refl e
  where
    go : (a b : Ordering) → point_cmp k.start l.start ≡ a → point_cmp k.stop l.stop ≡ b → ordering_then a b ≡ Less → link_before k l ≡ true
    go Less b f g h = ap (λ (t : Bool). t || (same_point k.start l.start && is_before k.stop l.stop)) (less_is k.start l.start f)
    go Equal Less f g h =
        (λ i. is_before k.start l.start || (same_point_to k.start l.start (equal_is k.start l.start f) i && less_is k.stop l.stop g i)) ∙ later_true (is_before k.start l.start)
    go Equal Equal f g h = absurd cc
    go Equal Greater f g h = absurd cc
    go Greater b f g h = absurd cc

same_link : (k l : Segment) → eq_by_cmp link_cmp k l ≡ true → k ≡ l
same_link k l e = go (point_cmp k.start l.start) (point_cmp k.stop l.stop) refl refl e
  where
    go : (a b : Ordering) → point_cmp k.start l.start ≡ a → point_cmp k.stop l.stop ≡ b → is_eq (ordering_then a b) ≡ true → k ≡ l
    go Less b f g h = absurd cc
    go Equal Less f g h = absurd cc
    go Equal Equal f g h = segment_is k l (equal_is k.start l.start f) (equal_is k.stop l.stop g)
    go Equal Greater f g h = absurd cc
    go Greater b f g h = absurd cc

links_ascend : (ls : List Segment) → IsStrictlySortedBy link_cmp ls → IsAscending link_before ls
unfolding IsStrictlySortedBy
links_ascend [] h = tt
links_ascend (x ∷ xs) h = ((λ y c. link_less x y (All-contains (λ z. link_cmp x z ≡ Less) xs y (All-from_recursion (λ z. link_cmp x z ≡ Less) xs h.0) c)), links_ascend xs h.1)

-- equal links, by the ends
abbrev pub equal_links : Segment → Segment → Bool
equal_links k l = (int_eq k.start.x l.start.x && int_eq k.start.y l.start.y) && (int_eq k.stop.x l.stop.x && int_eq k.stop.y l.stop.y)

link_ties : (k l : Segment) → equal_links k l ≡ eq_by_cmp link_cmp k l
link_ties k l = (λ i. point_ties k.start l.start i && point_ties k.stop l.stop i) ∙ sym (both_equal (point_cmp k.start l.start) (point_cmp k.stop l.stop))

links-equiv : IsEquivalence equal_links
links-equiv =
    let e = eq_by_cmp_equiv link_cmp-total in
    record {
      refl = λ x. link_ties x x ∙ e.refl x;
      symm = λ x y. link_ties x y ∙ e.symm x y ∙ sym (link_ties y x);
      congr = λ x y z h. link_ties x z ∙ e.congr x y z (sym (link_ties x y) ∙ h) ∙ sym (link_ties y z);
    }

module _ (made sorted : List Segment) (moved : IsPermutation made sorted) (in_order : IsSorted link_cmp sorted) where
  links_from : (l : Segment) → Contains (dedup equal_links sorted) l → Contains made l
  links_from l c = Contains-permutation sorted made l (IsPermutation-sym made sorted moved) (Contains-from_dedup equal_links sorted l c)

  links_to : (l : Segment) → Contains made l → Contains (dedup equal_links sorted) l
  links_to l c = Contains-dedup links-equiv (λ x y e. same_link x y (sym (link_ties x y) ∙ e)) sorted l (Contains-permutation made sorted l moved c)

  pub sorted_links_ascend : dedup equal_links sorted ≡ ascending link_before made
  sorted_links_ascend =
      one_ascending link_before link_before-IsStrictOrder (dedup equal_links sorted) (ascending link_before made)
      (links_ascend (dedup equal_links sorted) (IsStrictlySortedBy-dedup link_cmp-total link_ties sorted in_order))
      (ascending-IsAscending link_before link_before-IsStrictOrder made)
      (λ l c. Contains-ascending link_before link_before-IsStrictOrder made l (links_from l c))
      (λ l c. links_to l (ascending-Contains link_before link_before-IsStrictOrder made l c))
