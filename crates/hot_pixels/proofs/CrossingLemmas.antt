-- The crossings of boxes near each rectangle are all crossings.
use Rattle.std.proofs.Common.{◌≡◌, inl, inr, refl, sym, ap, ◌∙◌, subst, arith, ℕ, ◌<◌, Bool, true, false, cond, List, [], ◌∷◌, ◌++◌, length, get_or, map, Option, Some, None, Contains, ℤ, pos, ◌+ℤ◌, ◌-ℤ◌, ◌*ℤ◌, ◌≤ℤ◌, int_le}
use Rattle.std.specs.List.{slice_get}
use Rattle.std.specs.Option.{option_to_list}
use Rattle.std.proofs.lemmas.Bool.{or_left, or_right}
use Rattle.std.proofs.lemmas.List.{get_or-map, length-map, get_or_default}
use Rattle.std.proofs.lemmas.Option.{slice_get-get_or, slice_get_read, slice_get_within, get_or_from_slice_get}
use Rattle.std.proofs.lemmas.List.Elements.{All-contains, Contains-append_left, Contains-append_right, Contains-append_cases}
use Rattle.lists.proofs.Members.{Contains-head, Contains-nil, Contains-cases, Contains-flat_map, flat_map-Contains}
use Rattle.plane_algebra.proofs.Ring.{ring, ◌⊞◌, ◌⊟◌, ◌⊠◌, num, ◌≐◌}
use Rattle.plane_algebra.proofs.Order.{order, order_cases}
use Rattle.plane_algebra.proofs.Tests.{le_from, le_to, by_test, or_cases}
use Rattle.plane_model.specs.Points.{GridPoint, Segment, SameWay, IsOn, at, cross, same_point}
use Rattle.plane_model.specs.Pixel.{crossing_pixel, IsInBox}
use Rattle.plane_model.proofs.PointOrder.{same_point_from, same_point_to}
use Rattle.plane_snapping.proofs.CrossingComputed.{crossing_is_computed}
use Rattle.plane_snapping.proofs.Readings.{on_of_mean}
use Rattle.plane_snapping.proofs.PixelOf.{in_own_pixel}
use Rattle.plane_snapping.proofs.Boxes.{crossings_lie_in_both_boxes}
use Rattle.grid_base.specs.Grid.{Corners}
use Rattle.bucket_grid.specs.Rects.{RectLists, Holds, share_point, boxes_near}
use Rattle.bucket_grid.proofs.SharedPoints.{overlap_to}
use Rattle.bucket_grid.proofs.Numbers.{Contains-numbers_where}
use Rattle.grid_base.specs.Boxes.{box_of, lesser, greater}
use Rattle.hot_pixels.specs.Spots.{is_end, share_end, crossing_at, crossing_between, crossings_with, crossings_among}
use Rattle.hot_pixels.specs.Marking.{IsEndOf}
use Rattle.hot_pixels.specs.Crossing.{HasGridEnds}
use Rattle.hot_pixels.specs.Found.{IsCrossingOf, HasAllCrossings, HasCrossingsBefore, AreBucketsOver}
use Rattle.hot_pixels.proofs.Shares.{crossing_on_grid}

-- ---- a crossing has no order, and no segment crosses itself

self_cross : (s : Segment) → cross s s ≡ pos 0
self_cross s = ring 4 (λ a b c d. (b ⊟ a) ⊠ (d ⊟ c) ⊟ (d ⊟ c) ⊠ (b ⊟ a) ≐ num (pos 0)) tt s.start.x s.stop.x s.start.y s.stop.y

turned_cross : (s t : Segment) → cross t s ≡ pos 0 → cross s t ≡ pos 0
turned_cross s t e =
    let f = ring 4 (λ a b c d. a ⊠ d ⊟ b ⊠ c ≐ num (pos 0) ⊟ (c ⊠ b ⊟ d ⊠ a)) tt (s.stop.x -ℤ s.start.x) (s.stop.y -ℤ s.start.y) (t.stop.x -ℤ t.start.x) (t.stop.y -ℤ t.start.y) in
    omega order

pub not_itself : {G : Type 0} (s : Segment) (g : GridPoint) → crossing_pixel s s ≡ Some g → G
not_itself s g e = absurd (((crossing_is_computed s s g).0 e).0 (self_cross s))

pub crossing_turned : (s t : Segment) (g : GridPoint) → crossing_pixel s t ≡ Some g → crossing_pixel t s ≡ Some g
crossing_turned s t g e =
    let m = (crossing_is_computed s t g).0 e in
    (crossing_is_computed t s g).1 ((λ f. m.0 (turned_cross s t f)), (m.1.0, m.1.2, m.1.1, m.1.3))

-- a segment of no length crosses none
short_cross : (s t : Segment) → s.start ≡ s.stop → cross s t ≡ pos 0
short_cross s t e =
    let f : s.stop.x ≡ s.start.x = sym (λ i. (e i).x) in
    let g : s.stop.y ≡ s.start.y = sym (λ i. (e i).y) in
    (λ i. (f i -ℤ s.start.x) *ℤ (t.stop.y -ℤ t.start.y) -ℤ (g i -ℤ s.start.y) *ℤ (t.stop.x -ℤ t.start.x))
    ∙ ring 4 (λ a b c d. (a ⊟ a) ⊠ c ⊟ (b ⊟ b) ⊠ d ≐ num (pos 0)) tt s.start.x s.start.y (t.stop.y -ℤ t.start.y) (t.stop.x -ℤ t.start.x)

pub short_meets_none : {G : Type 0} (s t : Segment) (g : GridPoint) → s.start ≡ s.stop → crossing_pixel s t ≡ Some g → G
short_meets_none s t g e f = absurd (((crossing_is_computed s t g).0 f).0 (short_cross s t e))

-- ---- segments with a common end cross there

start_on : (s : Segment) → IsOn s (at s.start)
start_on s = on_of_mean s (at s.start) (
  pos 1,
  pos 0,
  record { weights = record { first = omega order; second = omega order; some = omega order }; across = one s.start.x s.stop.x; upward = one s.start.y s.stop.y },
)
  where
    one : (p q : ℤ) → (pos 1 +ℤ pos 0) *ℤ p ≡ pos 1 *ℤ (pos 1 *ℤ p +ℤ pos 0 *ℤ q)
    one = ring 2 (λ p q. (num (pos 1) ⊞ num (pos 0)) ⊠ p ≐ num (pos 1) ⊠ (num (pos 1) ⊠ p ⊞ num (pos 0) ⊠ q)) tt

stop_on : (s : Segment) → IsOn s (at s.stop)
stop_on s = on_of_mean s (at s.stop) (
  pos 0,
  pos 1,
  record { weights = record { first = omega order; second = omega order; some = omega order }; across = one s.start.x s.stop.x; upward = one s.start.y s.stop.y },
)
  where
    one : (p q : ℤ) → (pos 0 +ℤ pos 1) *ℤ q ≡ pos 1 *ℤ (pos 0 *ℤ p +ℤ pos 1 *ℤ q)
    one = ring 2 (λ p q. (num (pos 0) ⊞ num (pos 1)) ⊠ q ≐ num (pos 1) ⊠ (num (pos 0) ⊠ p ⊞ num (pos 1) ⊠ q)) tt

module _ (s t : Segment) (g : GridPoint) (e : crossing_pixel s t ≡ Some g) where
  at_common : (p : GridPoint) → IsOn s (at p) → IsOn t (at p) → p ≡ g
  at_common p on_s on_t =
      let f : Some p ≡ Some g = sym ((crossing_is_computed s t p).1 (((crossing_is_computed s t g).0 e).0, (at p, on_s, on_t, in_own_pixel p))) ∙ e in
      cc

  on_other : (p : GridPoint) → is_end t p ≡ true → IsOn t (at p)
  on_other p k = or_cases (same_point p t.start) (same_point p t.stop) k
      (λ f. subst (λ (q : GridPoint). IsOn t (at q)) (sym (same_point_from p t.start f)) (start_on t))
      (λ f. subst (λ (q : GridPoint). IsOn t (at q)) (sym (same_point_from p t.stop f)) (stop_on t))

  pub common_end : share_end s t ≡ true → IsEndOf s g
  common_end k = or_cases (is_end t s.start) (is_end t s.stop) k
      (λ f. inl (sym (at_common s.start (start_on s) (on_other s.start f))))
      (λ f. inr (sym (at_common s.stop (stop_on s) (on_other s.stop f))))

same_point-turned : (p q : GridPoint) → same_point p q ≡ true → same_point q p ≡ true
same_point-turned p q e = same_point_to q p (sym (same_point_from p q e))

pub share_end-turned : (s t : Segment) → share_end s t ≡ true → share_end t s ≡ true
share_end-turned s t e = or_cases (is_end t s.start) (is_end t s.stop) e
    (λ f. or_cases (same_point s.start t.start) (same_point s.start t.stop) f
    (λ k. or_left (is_end s t.start) (is_end s t.stop) (or_left (same_point t.start s.start) (same_point t.start s.stop) (same_point-turned s.start t.start k)))
    (λ k. or_right (is_end s t.start) (is_end s t.stop) (or_left (same_point t.stop s.start) (same_point t.stop s.stop) (same_point-turned s.start t.stop k))))
    (λ f. or_cases (same_point s.stop t.start) (same_point s.stop t.stop) f
    (λ k. or_left (is_end s t.start) (is_end s t.stop) (or_right (same_point t.start s.start) (same_point t.start s.stop) (same_point-turned s.stop t.start k)))
    (λ k. or_right (is_end s t.start) (is_end s t.stop) (or_right (same_point t.stop s.start) (same_point t.stop s.stop) (same_point-turned s.stop t.stop k))))

apart_turned : (s t : Segment) → share_end s t ≡ false → share_end t s ≡ false
apart_turned s t apart = by_test (share_end t s) (λ f. absurd (let k : true ≡ false = sym (share_end-turned t s f) ∙ apart in cc)) (λ f. f)

-- ---- a point in the box of a segment

in_range : (a b g : ℤ) → SameWay (g -ℤ a) (b -ℤ g) → (lesser a b ≤ℤ g) × (g ≤ℤ greater a b)
in_range a b g w = by_test (int_le a b)
    (λ e. let l = le_from a b e in let h : (a ≤ℤ g) × (g ≤ℤ b) = up l w in
    (subst (λ (z : ℤ). z ≤ℤ g) (sym (ap (λ (t : Bool). cond t a b) e)) h.0, subst (λ (z : ℤ). g ≤ℤ z) (sym (ap (λ (t : Bool). cond t b a) e)) h.1))
    (λ e. let l : b ≤ℤ a = order_cases a b (λ r. absurd (let t : true ≡ false = sym (le_to a b r) ∙ e in cc)) (λ r. omega order) in let h : (b ≤ℤ g) × (g ≤ℤ a) = down l w in
    (subst (λ (z : ℤ). z ≤ℤ g) (sym (ap (λ (t : Bool). cond t a b) e)) h.0, subst (λ (z : ℤ). g ≤ℤ z) (sym (ap (λ (t : Bool). cond t b a) e)) h.1))
  where
    up : a ≤ℤ b → SameWay (g -ℤ a) (b -ℤ g) → (a ≤ℤ g) × (g ≤ℤ b)
    up l (inl v) = let p = v.0 in let q = v.1 in (omega order, omega order)
    up l (inr v) = let p = v.0 in let q = v.1 in (omega order, omega order)

    down : b ≤ℤ a → SameWay (g -ℤ a) (b -ℤ g) → (b ≤ℤ g) × (g ≤ℤ a)
    down l (inl v) = let p = v.0 in let q = v.1 in (omega order, omega order)
    down l (inr v) = let p = v.0 in let q = v.1 in (omega order, omega order)

pub box_holds : (s : Segment) (g : GridPoint) → IsInBox s g → Holds (box_of s) g
box_holds s g b =
    let x = in_range s.start.x s.stop.x g.x b.0 in
    let y = in_range s.start.y s.stop.y g.y b.1 in
    record { left = x.0; right = x.1; lower = y.0; upper = y.1 }

shared : (a b : Corners) (g : GridPoint) → Holds a g → Holds b g → share_point a b ≡ true
shared a b g h k = overlap_to a b (record {
  left = let u = h.left in let v = k.right in omega order;
  right = let u = k.left in let v = h.right in omega order;
  lower = let u = h.lower in let v = k.upper in omega order;
  upper = let u = k.lower in let v = h.upper in omega order;
})

-- ---- what is listed crosses

-- two edges that cross in the pixel of g, and have no end in common
pub record HasPair (edges : List Segment) (i j : ℕ) (g : GridPoint) : Type 0 where
  pub s : Segment
  pub t : Segment
  pub s_at : slice_get edges i ≡ Some s
  pub t_at : slice_get edges j ≡ Some t
  pub apart : share_end s t ≡ false
  pub crosses : crossing_pixel s t ≡ Some g

pub pair_at : (edges : List Segment) (i j : ℕ) (g : GridPoint) → crossing_at edges i j ≡ Some g → HasPair edges i j g
pair_at edges i j g h = found (slice_get edges i) (slice_get edges j) refl refl h
  where
    found : (o p : Option Segment) → slice_get edges i ≡ o → slice_get edges j ≡ p → crossing_between o p ≡ Some g → HasPair edges i j g
    found None p e f h = absurd (let k : None ≡ Some g = h in cc)
    found (Some s) None e f h = absurd (let k : None ≡ Some g = h in cc)
    found (Some s) (Some t) e f h = parted (share_end s t) refl h
      where
        parted : (b : Bool) → share_end s t ≡ b → cond b None (crossing_pixel s t) ≡ Some g → HasPair edges i j g
        parted true k l = absurd (let m : None ≡ Some g = l in cc)
        parted false k l = record { s = s; t = t; s_at = e; t_at = f; apart = k; crosses = l }

pub pair_crosses : (edges : List Segment) (i j : ℕ) (s t : Segment) (g : GridPoint) → slice_get edges i ≡ Some s → slice_get edges j ≡ Some t → share_end s t ≡ false → crossing_pixel s t ≡ Some g → crossing_at edges i j ≡ Some g
pair_crosses edges i j s t g e f apart h = (λ k. crossing_between (e k) (f k)) ∙ ap (λ (b : Bool). cond b None (crossing_pixel s t)) apart ∙ h

pub pair_of : (edges : List Segment) (i j : ℕ) (s t : Segment) → i < length edges → j < length edges → s ≡ get_or edges i s → t ≡ get_or edges j t → crossing_between (Some s) (Some t) ≡ crossing_at edges i j
pair_of edges i j s t l m e f = sym (λ k. crossing_between (slice_get_read edges (length edges) i s refl l e k) (slice_get_read edges (length edges) j t refl m f k))

there : (edges : List Segment) (i : ℕ) (s : Segment) → slice_get edges i ≡ Some s → Contains edges s
there edges i s e = (i, slice_get_within edges i s e, get_or_from_slice_get edges i s s e)

pub listed_crosses : (edges : List Segment) (near : List ℕ) (g : GridPoint) → Contains (crossings_among edges near) g → IsCrossingOf edges g
listed_crosses edges [] g c = Contains-nil g c
listed_crosses edges (i ∷ rest) g c = elim (Contains-append_cases (crossings_with edges i rest) (crossings_among edges rest) g c) [
  | inl d ↦ (let m = flat_map-Contains (λ j. option_to_list (crossing_at edges i j)) rest g d in at_pair m.0 (crossing_at edges i m.0) refl m.2)
  | inr d ↦ listed_crosses edges rest g d
]
  where
    at_pair : (j : ℕ) (o : Option GridPoint) → crossing_at edges i j ≡ o → Contains (option_to_list o) g → IsCrossingOf edges g
    at_pair j None e c = Contains-nil g c
    at_pair j (Some p) e c = elim (Contains-cases p [] g c) [
      | inl f ↦ (let h = pair_at edges i j g (e ∙ ap Some f) in record { s = h.s; t = h.t; s_there = there edges i h.s h.s_at; t_there = there edges j h.t h.t_at; crosses = h.crosses })
      | inr d ↦ Contains-nil g d
    ]

-- ---- a pair is tried once, in one of its orders

in_pair : (edges : List Segment) (i j : ℕ) (near : List ℕ) (g : GridPoint) → Contains near j → crossing_at edges i j ≡ Some g → Contains (crossings_with edges i near) g
in_pair edges i j near g c e =
    Contains-flat_map (λ k. option_to_list (crossing_at edges i k)) near j g c (subst (λ (o : Option GridPoint). Contains (option_to_list o) g) (sym e) (Contains-head g []))

turned : (edges : List Segment) (i j : ℕ) (g : GridPoint) → crossing_at edges i j ≡ Some g → crossing_at edges j i ≡ Some g
turned edges i j g e =
    let p = pair_at edges i j g e in
    pair_crosses edges j i p.t p.s g p.t_at p.s_at (apart_turned p.s p.t p.apart) (crossing_turned p.s p.t g p.crosses)

same_pair : {G : Type 0} (edges : List Segment) (i : ℕ) (g : GridPoint) → crossing_at edges i i ≡ Some g → G
same_pair edges i g e =
    let p = pair_at edges i i g e in
    let f : Some p.s ≡ Some p.t = sym p.s_at ∙ p.t_at in
    let same : p.t ≡ p.s = cc in
    not_itself p.s g (subst (λ (u : Segment). crossing_pixel p.s u ≡ Some g) same p.crosses)

pub pairs_listed : (edges : List Segment) (near : List ℕ) (i j : ℕ) (g : GridPoint) → Contains near i → Contains near j → crossing_at edges i j ≡ Some g → Contains (crossings_among edges near) g
pairs_listed edges [] i j g at_i at_j e = Contains-nil i at_i
pairs_listed edges (k ∷ rest) i j g at_i at_j e = elim (Contains-cases k rest i at_i) [
  | inl is_i ↦ elim (Contains-cases k rest j at_j) [
    | inl is_j ↦ same_pair edges k g ((λ n. crossing_at edges (is_i n) (is_j n)) ∙ e)
    | inr in_j ↦ first j in_j (ap (λ (n : ℕ). crossing_at edges n j) is_i ∙ e)
  ]
  | inr in_i ↦ elim (Contains-cases k rest j at_j) [
    | inl is_j ↦ first i in_i (ap (λ (n : ℕ). crossing_at edges n i) is_j ∙ turned edges i j g e)
    | inr in_j ↦ Contains-append_right (crossings_with edges k rest) (crossings_among edges rest) g (pairs_listed edges rest i j g in_i in_j e)
  ]
]
  where
    first : (m : ℕ) → Contains rest m → crossing_at edges k m ≡ Some g → Contains (crossings_with edges k rest ++ crossings_among edges rest) g
    first m c f = Contains-append_left (crossings_with edges k rest) (crossings_among edges rest) g (in_pair edges k m rest g c f)

-- edge i is near a rectangle that holds a point of its box
pub near_rect : (edges : List Segment) (i : ℕ) (s : Segment) (rect : Corners) (g : GridPoint) → i < length edges → get_or edges i s ≡ s → Holds rect g → IsInBox s g → Contains (boxes_near (map box_of edges) rect) i
near_rect edges i s rect g l e a b =
    Contains-numbers_where (share_point rect) (map box_of edges) i (box_of s) (let n : length (map box_of edges) ≡ length edges = simp length-map in omega arith)
    (ap (share_point rect) (get_or-map box_of edges i s (box_of s) l ∙ ap box_of e) ∙ shared rect (box_of s) g a (box_holds s g b))

-- ---- what crosses is listed

module _ (edges : List Segment) (buckets : RectLists) (b : AreBucketsOver edges buckets) (old new : List GridPoint) (h : HasCrossingsBefore (length buckets.near) buckets.near edges old new) where
  abbrev boxes : List Corners
  boxes = map box_of edges

  near_listed : (place : ℕ) (rect : Corners) → place < length buckets.rects → get_or buckets.rects place rect ≡ rect → slice_get buckets.near place ≡ Some (boxes_near boxes rect)
  near_listed place rect l e =
      ap (λ (lists : List (List ℕ)). slice_get lists place) b.near
      ∙ slice_get-get_or (map (boxes_near boxes) buckets.rects) place (boxes_near boxes rect) (let n : length (map (boxes_near boxes) buckets.rects) ≡ length buckets.rects = simp length-map in omega arith)
      ∙ ap Some (get_or-map (boxes_near boxes) buckets.rects place rect (boxes_near boxes rect) l ∙ ap (boxes_near boxes) e)

  crossing_listed : (s t : Segment) (g : GridPoint) → Contains edges s → Contains edges t → share_end s t ≡ false → crossing_pixel s t ≡ Some g → Contains new g
  crossing_listed s t g (i, li, ei) (j, lj, ej) apart e =
      let in_boxes = crossings_lie_in_both_boxes s t g e in
      let on_grid = crossing_on_grid s t (All-contains HasGridEnds edges s b.on_grid (i, li, ei)) g e in
      let place = b.places g on_grid in
      let rect : Corners = get_or buckets.rects place.0 (box_of s) in
      let held = place.1.held (box_of s) in
      let near : List ℕ = boxes_near boxes rect in
      let at : slice_get buckets.near place.0 ≡ Some near = near_listed place.0 rect place.1.below (get_or_default buckets.rects place.0 rect (box_of s) place.1.below) in
      let crossing : crossing_at edges i j ≡ Some g = pair_crosses edges i j s t g (slice_get-get_or edges i s li ∙ ap Some ei) (slice_get-get_or edges j t lj ∙ ap Some ej) apart e in
      (h.holds place.0 (slice_get_within buckets.near place.0 near at) near at).all i j g (near_rect edges i s rect g li ei held in_boxes.0) (near_rect edges j t rect g lj ej held in_boxes.1) crossing

  pub all_crossings : HasAllCrossings edges old new
  all_crossings = record { adds = h.adds; all = crossing_listed }
