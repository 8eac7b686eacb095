-- Links by their starts.
use Rattle.std.proofs.Common.{◌≡◌, inl, inr, refl, sym, ap, ◌∙◌, subst, arith, ℕ, zero, suc, ◌+◌, ◌-◌, ◌<◌, ◌≤◌, Bool, true, false, not, List, length, get_or, pos, Some, Ordering}
use Rattle.std.specs.List.Sorted.{IsSorted}
use Rattle.std.specs.Ordering.{ordering_then, is_lt}
use Rattle.std.proofs.lemmas.Bool.{cases_lt}
use Rattle.std.proofs.lemmas.List.Sorted.{sorted_far}
use Rattle.std.proofs.lemmas.List.MinMax.{ranks_by}
use Rattle.std.proofs.lemmas.List.{length-map, get_or-map}
use Rattle.std.proofs.lemmas.Option.{slice_get-get_or}
use Rattle.plane_model.specs.Points.{GridPoint, same_point}
use Rattle.plane_model.specs.Arcs.{forward}
use Rattle.plane_model.proofs.PointOrder.{clash, same_point_from, same_point_to}
use Rattle.grid_base.specs.Order.{point_cmp}
use Rattle.grid_base.proofs.PointSearch.{point_cmp-total, equal_is}
use Rattle.known_order.proofs.Orders.{first_counts, tied_from_both}
use Rattle.link_search.specs.Rows.{starts_of, start_at, starts_row, AreByStart, IsFirstFrom, IsFirstOfRow}
use Rattle.link_search.specs.declared.links.ArcLink.{ArcLink}

-- what is sorted by starts first is sorted by starts
pub by_start : (xs : List ArcLink) (then other : ArcLink → ArcLink → Ordering) → IsSorted (λ a b. ordering_then (ordering_then (point_cmp a.link.start b.link.start) (then a b)) (other a b)) xs → AreByStart xs
by_start xs then other up k d l m =
    let start : ArcLink → GridPoint = λ a. a.link.start in
    let n = length-map xs start in
    let none : ArcLink = record { link = record { start = d; stop = d }; along = forward 0 } in
    let here : k < length xs = omega arith in
    let next : k + 1 < length xs = omega arith in
    let e = get_or-map start xs k none d here in
    let f = get_or-map start xs (k + 1) none d next in
    let a = get_or xs (k + 1) none in
    let b = get_or xs k none in
    (λ i. is_lt (point_cmp (f i) (e i)))
    ∙ first_counts (point_cmp a.link.start b.link.start) (then a b) (first_counts (ordering_then (point_cmp a.link.start b.link.start) (then a b)) (other a b) (up k none l next))

pub start_is : (links : List ArcLink) (j : ℕ) (k : ArcLink) → j < length links → get_or links j k ≡ k → start_at links j ≡ k.link.start
start_is links j k l e = get_or-map (λ (a : ArcLink). a.link.start) links j k (record { x = pos 0; y = pos 0 }) l ∙ ap (λ (a : ArcLink). a.link.start) e

pub starts_row_at : (links : List ArcLink) (i : ℕ) → (i ≡ 0 → ⊥) → starts_row links i ≡ not (same_point (start_at links (i - 1)) (start_at links i))
starts_row_at links zero n = absurd (n refl)
starts_row_at links (suc i) n = ap (λ (j : ℕ). not (same_point (start_at links j) (start_at links (suc i)))) (let e : i ≡ suc i - 1 = omega arith in e)

module _ (links : List ArcLink) (up : AreByStart links) where
  many : length (starts_of links) ≡ length links
  many = length-map links (λ (l : ArcLink). l.link.start)

  never_back : (i j : ℕ) → i ≤ j → j < length links → is_lt (point_cmp (start_at links j) (start_at links i)) ≡ false
  never_back i j l m = let n = many in sorted_far (λ (p : GridPoint) (q : GridPoint). is_lt (point_cmp p q)) (ranks_by point_cmp-total (λ (p : GridPoint). p)) (starts_of links) up i j (record { x = pos 0; y = pos 0 }) l (omega arith)

  -- between two links from one vertex all links leave it
  between : (i m j : ℕ) → i ≤ m → m ≤ j → j < length links → start_at links i ≡ start_at links j → start_at links m ≡ start_at links i
  between i m j l h k e =
      equal_is (start_at links m) (start_at links i)
      (tied_from_both point_cmp point_cmp-total (start_at links m) (start_at links i) (never_back i m l (omega arith)) (subst (λ (p : GridPoint). is_lt (point_cmp p (start_at links m)) ≡ false) (sym e) (never_back m j h k)))

  -- where a row starts, no link before leaves its vertex
  none_before : (i j : ℕ) → starts_row links i ≡ true → j < i → i < length links → start_at links j ≡ start_at links i → ⊥
  none_before zero j s l h e = absurd (omega arith)
  none_before (suc i) j s l h e =
      let same : start_at links i ≡ start_at links j = between j i (suc i) (omega arith) (omega arith) h e in
      clash (same_point (start_at links i) (start_at links (suc i))) (same_point_to (start_at links i) (start_at links (suc i)) (same ∙ e)) (of_not (same_point (start_at links i) (start_at links (suc i))) s)
    where
      of_not : (b : Bool) → not b ≡ true → b ≡ false
      of_not true e = absurd (cc)
      of_not false e = refl

  -- the first of a row is the first of all that leave its vertex
  pub first_from : (i : ℕ) (l : ArcLink) → starts_row links i ≡ true → i < length links → IsFirstOfRow links i l → IsFirstFrom links (start_at links i) l
  first_from i l s h r = record {
    there = r.there;
    leaves = r.leaves;
    first = λ k c e. elim (cases_lt c.0 i) [
      | inl less ↦ absurd (none_before i c.0 s less h (start_is links c.0 k c.1 c.2 ∙ e))
      | inr more ↦ r.first c.0 k more (slice_get-get_or links c.0 k c.1 ∙ ap Some c.2) (λ m a b. between i m c.0 a b c.1 (sym (start_is links c.0 k c.1 c.2 ∙ e)))
    ];
  }

-- the row of a link starts at or before it
pub row_of : (links : List ArcLink) (j : ℕ) → (i : ℕ) × (i ≤ j) × (starts_row links i ≡ true) × (start_at links i ≡ start_at links j)
row_of links zero = (0, omega arith, refl, refl)
row_of links (suc j) = go (same_point (start_at links j) (start_at links (suc j))) refl (row_of links j)
  where
    go : (b : Bool) → same_point (start_at links j) (start_at links (suc j)) ≡ b → (i : ℕ) × (i ≤ j) × (starts_row links i ≡ true) × (start_at links i ≡ start_at links j) →
        (i : ℕ) × (i ≤ suc j) × (starts_row links i ≡ true) × (start_at links i ≡ start_at links (suc j))
    go true e r = let (i, l, s, f) = r in (i, omega arith, s, f ∙ same_point_from (start_at links j) (start_at links (suc j)) e)
    go false e r = (suc j, omega arith, ap not e, refl)
