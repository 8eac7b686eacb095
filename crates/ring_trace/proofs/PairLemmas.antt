-- Ends of edges by starts: each edge leads to one that starts where it ends.
use Rattle.std.proofs.Common.{◌≡◌, inl, inr, refl, sym, ap, ◌∙◌, subst, arith, ℕ, zero, suc, ◌+◌, ◌-◌, ◌<◌, ◌≤◌, Bool, true, false, cond, List, [], ◌∷◌, ◌++◌, length, get_or, set, slice_get, reverse, map, take, drop, nat_eq, Some, All, Contains, Ordering}
use Rattle.std.specs.List.{count_by, sum_by, range_with_len}
use Rattle.std.specs.List.Sorted.{IsSorted, IsPermutation}
use Rattle.std.specs.Ordering.{is_lt, ordering_then, nat_cmp}
use Rattle.std.specs.declared.cmp.Ordering.TheVariants.{Less, Equal, Greater}
use Rattle.std.proofs.lemmas.Bool.{cases_lt, eq-eqb, eqb-true, ne_eqb}
use Rattle.std.proofs.lemmas.Option.{get_or_from_slice_get, slice_get_within}
use Rattle.std.proofs.lemmas.List.{map_push, map_more, length_push, get_or-set_same, get_or-set_other, length-map, get_or-map, length-reverse, get_or-reverse, get_or-drop, length-drop}
use Rattle.std.proofs.lemmas.List.Elements.{All-push}
use Rattle.std.proofs.lemmas.List.FromFn.{length-range_with_len, get_or-range_with_len}
use Rattle.std.proofs.lemmas.List.Sums.{sum_by-cons, sum_by_more, sum_by-take-drop, get_or-le-sum_by}
use Rattle.std.proofs.lemmas.List.Sorted.{sum_by-IsPermutation, Contains-permutation, length_permutation}
use Rattle.known_order.proofs.Orders.{first_counts}
use Rattle.plane_model.specs.Points.{GridPoint, Path}
use Rattle.plane_model.specs.Arcs.{SignedArc, points_of}
use Rattle.arc_table.specs.Direction.{point_at}
use Rattle.arc_table.specs.Around.{start_of}
use Rattle.grid_base.specs.Order.{point_cmp}
use Rattle.face_sets.proofs.GapLemmas.{range_more}
use Rattle.ring_trace.specs.declared.pairing.Edge.{Edge}
use Rattle.ring_trace.specs.declared.pairing.EdgeEnd.{EdgeEnd}
use Rattle.ring_trace.specs.Rings.{edge_at}
use Rattle.ring_trace.specs.Pairing.{Corner, corner_cmp, same_corner, start_corner, stop_corner, end_corner, stop_of, AreBalanced, AreByStart, LeadOn}
use Rattle.ring_trace.proofs.UsedLemmas.{sum_by-map}
use Rattle.ring_trace.proofs.SortedLists.{tick, one_corners}

-- ---- where a signed arc starts

pub start_is : (arcs : List Path) (a : SignedArc) (p : GridPoint) → slice_get (points_of arcs a) 0 ≡ Some p → p ≡ start_of arcs a
start_is arcs a p h = go a.is_reversed h
  where
    go : (b : Bool) → slice_get (cond b (reverse (get_or arcs a.arc [])) (get_or arcs a.arc [])) 0 ≡ Some p →
        p ≡ (start_of arcs (record { arc = a.arc; is_reversed = b }))
    go false e = sym (get_or_from_slice_get (get_or arcs a.arc []) 0 p (point_at [] 0) e)
    go true e =
        let xs = get_or arcs a.arc [] in
        let l = slice_get_within (reverse xs) 0 p e in
        let m = length-reverse xs in
        sym (get_or_from_slice_get (reverse xs) 0 p (point_at [] 0) e) ∙ get_or-reverse xs 0 (point_at [] 0) (omega arith)
        ∙ ap (λ (k : ℕ). get_or xs k (point_at [] 0)) (let f : length xs - 1 - 0 ≡ length xs - 1 = omega arith in f)

-- ---- in order

pub both_count : (o p q : Ordering) → is_lt (ordering_then o (ordering_then p q)) ≡ false → is_lt (ordering_then o p) ≡ false
both_count Less p q e = e
both_count Equal p q e = first_counts p q e
both_count Greater p q e = refl

-- what is sorted by parts, then by points, is sorted by corners
pub by_corner : {X : Type 0} (f : X → Corner) (other : X → X → Ordering) (none : X) (xs : List X) →
    IsSorted (λ a b. ordering_then (nat_cmp (f a).part (f b).part) (ordering_then (point_cmp (f a).point (f b).point) (other a b))) xs → IsSorted corner_cmp (map f xs)
by_corner f other none xs up k d l m =
    let n = length-map xs f in
    let next : k + 1 < length xs = omega arith in
    let e = get_or-map f xs k none d (omega arith) in
    let g = get_or-map f xs (k + 1) none d next in
    let a = get_or xs (k + 1) none in
    let b = get_or xs k none in
    (λ i. is_lt (corner_cmp (g i) (e i))) ∙ both_count (nat_cmp (f a).part (f b).part) (point_cmp (f a).point (f b).point) (other a b) (up k none l next)

-- ---- each place once

range_counted : (m a n : ℕ) → count_by (nat_eq m) (range_with_len a (suc n)) ≡ tick (nat_eq m a) + count_by (nat_eq m) (range_with_len (a + 1) n)
range_counted m a n = sum_by-cons (λ (x : ℕ). tick (nat_eq m x)) a (range_with_len (a + 1) n)

range_after : (m a n : ℕ) → m < a → count_by (nat_eq m) (range_with_len a n) ≡ 0
range_after m a zero l = refl
range_after m a (suc n) l =
    let c = range_counted m a n in
    let d : tick (nat_eq m a) ≡ 0 = ap tick (ne_eqb m a (λ e. omega arith)) in
    let r = range_after m (a + 1) n (omega arith) in
    omega arith

range_once : (m a n : ℕ) → count_by (nat_eq m) (range_with_len a n) ≤ 1
range_once m a zero = omega arith
range_once m a (suc n) = go (nat_eq m a) refl (range_counted m a n) (range_once m (a + 1) n)
  where
    go : (b : Bool) → nat_eq m a ≡ b → count_by (nat_eq m) (range_with_len a (suc n)) ≡ tick (nat_eq m a) + count_by (nat_eq m) (range_with_len (a + 1) n) →
        count_by (nat_eq m) (range_with_len (a + 1) n) ≤ 1 → count_by (nat_eq m) (range_with_len a (suc n)) ≤ 1
    go true e c r =
        let s = eqb-true m a e in
        let d : tick (nat_eq m a) ≡ 1 = ap tick e in
        let z = range_after m (a + 1) n (omega arith) in
        omega arith
    go false e c r = let d : tick (nat_eq m a) ≡ 0 = ap tick e in omega arith

pub two_counted : (m : ℕ) (xs : List ℕ) (i j : ℕ) → i < j → j < length xs → get_or xs i 0 ≡ m → get_or xs j 0 ≡ m → 2 ≤ count_by (nat_eq m) xs
two_counted m xs i j l k e f =
    let g : ℕ → ℕ = λ x. tick (nat_eq m x) in
    let one : g m ≡ 1 = ap tick (eq-eqb m m refl) in
    let a : sum_by g (take (i + 1) xs) ≡ sum_by g (take i xs) + g (get_or xs i 0) = sum_by_more g xs i 0 (omega arith) in
    let at_i : g (get_or xs i 0) ≡ 1 = ap g e ∙ one in
    let all : sum_by g (take (i + 1) xs) + sum_by g (drop (i + 1) xs) ≡ sum_by g xs = sum_by-take-drop g xs (i + 1) in
    let size = length-drop (i + 1) xs in
    let b : g (get_or (drop (i + 1) xs) (j - (i + 1)) 0) ≤ sum_by g (drop (i + 1) xs) = get_or-le-sum_by g (drop (i + 1) xs) (j - (i + 1)) 0 (omega arith) in
    let at_j : g (get_or (drop (i + 1) xs) (j - (i + 1)) 0) ≡ 1 = ap g (get_or-drop (i + 1) xs (j - (i + 1)) 0 ∙ ap (λ (n : ℕ). get_or xs n 0) (let h : i + 1 + (j - (i + 1)) ≡ j = omega arith in h) ∙ f) ∙ one in
    let two : 2 ≤ sum_by g xs = omega arith in
    two

abbrev pub place_in_ends : List EdgeEnd → ℕ → ℕ
place_in_ends ends j = (get_or ends j (record { part = 0; stop = point_at [] 0; edge = 0 })).edge

module _ (count : ℕ) (ends : List EdgeEnd) (places : IsPermutation (range_with_len 0 count) (map (λ (e : EdgeEnd). e.edge) ends)) where
  pub as_many : length ends ≡ count
  as_many = sym (length-map ends (λ (e : EdgeEnd). e.edge)) ∙ length_permutation (range_with_len 0 count) (map (λ (e : EdgeEnd). e.edge) ends) places ∙ length-range_with_len 0 count

  mapped : (j : ℕ) (d : ℕ) → j < length ends → get_or (map (λ (e : EdgeEnd). e.edge) ends) j d ≡ place_in_ends ends j
  mapped j d l = get_or-map (λ (e : EdgeEnd). e.edge) ends j (record { part = 0; stop = point_at [] 0; edge = 0 }) d l

  pub not_again : (i j : ℕ) → i < j → j < length ends → place_in_ends ends i ≡ place_in_ends ends j → ⊥
  not_again i j l k e =
      let m = place_in_ends ends j in
      let size = length-map ends (λ (x : EdgeEnd). x.edge) in
      let two = two_counted m (map (λ (x : EdgeEnd). x.edge) ends) i j l (omega arith) (mapped i 0 (omega arith) ∙ e) (mapped j 0 k) in
      let once = range_once m 0 count in
      let same = sum_by-IsPermutation (λ (x : ℕ). tick (nat_eq m x)) (range_with_len 0 count) (map (λ (x : EdgeEnd). x.edge) ends) places in
      absurd (omega arith)

  pub found_end : (k : ℕ) → k < count → (j : ℕ) × (j < length ends) × (place_in_ends ends j ≡ k)
  found_end k l =
      let size = length-range_with_len 0 count in
      let c : Contains (range_with_len 0 count) k = (k, (omega arith), get_or-range_with_len 0 count k k l ∙ omega arith) in
      let (j, m, e) = Contains-permutation (range_with_len 0 count) (map (λ (x : EdgeEnd). x.edge) ends) k places c in
      let n = length-map ends (λ (x : EdgeEnd). x.edge) in
      let h : j < length ends = omega arith in
      (j, h, sym (mapped j k h) ∙ e)

  module _ (onward : List ℕ) (written : (j : ℕ) → j < length ends → get_or onward (place_in_ends ends j) 0 ≡ j) where
    pub apart : (j k : ℕ) → j < count → k < count → get_or onward j 0 ≡ get_or onward k 0 → j ≡ k
    apart j k l m e =
        let (a, la, is_a) = found_end j l in
        let (b, lb, is_b) = found_end k m in
        let same : a ≡ b = sym (written a la) ∙ ap (λ (n : ℕ). get_or onward n 0) is_a ∙ e ∙ sym (ap (λ (n : ℕ). get_or onward n 0) is_b) ∙ written b lb in
        sym is_a ∙ ap (place_in_ends ends) same ∙ is_b

    pub lead_on : (arcs : List Path) (edges : List Edge) → length edges ≡ count → AreBalanced arcs edges → AreByStart edges → IsSorted corner_cmp (map end_corner ends) →
        IsPermutation (map (stop_corner arcs) edges) (map end_corner ends) → All (λ (e : EdgeEnd). end_corner e ≡ stop_corner arcs (edge_at edges e.edge)) ends → LeadOn arcs edges onward
    lead_on arcs edges size balanced up upper moved stops k l =
        let (j, lj, is_j) = found_end k (omega arith) in
        let none : EdgeEnd = record { part = 0; stop = point_at [] 0; edge = 0 } in
        let d : Corner = record { part = 0; point = point_at [] 0 } in
        let many = as_many in
        let one : map start_corner edges ≡ map end_corner ends = one_corners (map start_corner edges) (map end_corner ends) up upper (λ v.
        sum_by-map (λ (w : Corner). tick (same_corner v w)) start_corner edges
        ∙ balanced v
        ∙ sym (sum_by-map (λ (w : Corner). tick (same_corner v w)) (stop_corner arcs) edges)
        ∙ sym (sum_by-IsPermutation (λ (w : Corner). tick (same_corner v w)) (map (stop_corner arcs) edges) (map end_corner ends) moved)) in
        ap (λ (n : ℕ). start_corner (edge_at edges n)) (ap (λ (n : ℕ). get_or onward n 0) (sym is_j) ∙ written j lj)
        ∙ sym (get_or-map start_corner edges j (edge_at [] 0) d (omega arith))
        ∙ ap (λ (xs : List Corner). get_or xs j d) one
        ∙ get_or-map end_corner ends j none d lj
        ∙ stops j none lj
        ∙ ap (λ (n : ℕ). stop_corner arcs (edge_at edges n)) is_j

-- ---- one more

pub record AreEnds (arcs : List Path) (edges : List Edge) (k : ℕ) (ends : List EdgeEnd) : Type 0 where
  pub each : length ends ≡ k
  pub there : All (λ (e : EdgeEnd). e.edge < length edges) ends
  pub places : map (λ (e : EdgeEnd). e.edge) ends ≡ range_with_len 0 k
  pub stops : All (λ (e : EdgeEnd). end_corner e ≡ stop_corner arcs (edge_at edges e.edge)) ends
  pub corners : map end_corner ends ≡ map (stop_corner arcs) (take k edges)

pub ends_more : (arcs : List Path) (edges : List Edge) (k : ℕ) (old new : List EdgeEnd) (e : EdgeEnd) → new ≡ old ++ e ∷ [] → k < length edges →
    e.part ≡ (edge_at edges k).part → e.stop ≡ stop_of arcs (edge_at edges k).arc → e.edge ≡ k → AreEnds arcs edges k old → AreEnds arcs edges (k + 1) new
ends_more arcs edges k old new e items l part stop edge h =
    let corner : end_corner e ≡ stop_corner arcs (edge_at edges k) = λ i. record { part = part i; point = stop i } in
    let size = length_push old e in
    let each = h.each in record {
      each = ap (λ (xs : List EdgeEnd). length xs) items ∙ (omega arith);
      there = subst (λ (xs : List EdgeEnd). All (λ (x : EdgeEnd). x.edge < length edges) xs) (sym items) (All-push (λ (x : EdgeEnd). x.edge < length edges) old e h.there (omega arith));
      places = ap (map (λ (x : EdgeEnd). x.edge)) items ∙ map_push (λ (x : EdgeEnd). x.edge) old e ∙ (λ i. h.places i ++ edge i ∷ []) ∙ sym (range_more k);
      stops = subst (λ (xs : List EdgeEnd). All (λ (x : EdgeEnd). end_corner x ≡ stop_corner arcs (edge_at edges x.edge)) xs) (sym items)
          (All-push (λ (x : EdgeEnd). end_corner x ≡ stop_corner arcs (edge_at edges x.edge)) old e h.stops (corner ∙ sym (ap (λ (n : ℕ). stop_corner arcs (edge_at edges n)) edge)));
      corners = ap (map end_corner) items ∙ map_push end_corner old e ∙ (λ i. h.corners i ++ corner i ∷ []) ∙ sym (map_more (stop_corner arcs) edges k (edge_at [] 0) l);
    }

pub written_more : (count : ℕ) (ends : List EdgeEnd) → IsPermutation (range_with_len 0 count) (map (λ (e : EdgeEnd). e.edge) ends) → (onward : List ℕ) (k m : ℕ) → length onward ≡ count → k < length ends → m ≡ place_in_ends ends k → m < count →
    ((j : ℕ) → j < k → get_or onward (place_in_ends ends j) 0 ≡ j) → (j : ℕ) → j < k + 1 → get_or (set onward m k) (place_in_ends ends j) 0 ≡ j
written_more count ends places onward k m size l is small h j below = elim (cases_lt j k) [
  | inl less ↦ get_or-set_other onward m (place_in_ends ends j) k 0 (λ e. not_again count ends places j k less l (e ∙ is)) ∙ h j less
  | inr more ↦ (let same : j ≡ k = omega arith in ap (λ (n : ℕ). get_or (set onward m k) n 0) (ap (place_in_ends ends) same ∙ sym is) ∙ get_or-set_same onward m k 0 (omega arith) ∙ sym same)
]
