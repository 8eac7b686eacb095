-- Segments that meet their ends alone, and where the points are that others meet.
use Rattle.std.proofs.Common.{◌≡◌, ◌⊎◌, inl, inr, refl, sym, ap, ◌∙◌, subst, arith, ℕ, ◌+◌, ◌<◌, ◌≤◌, Bool, true, false, cond, List, [], ◌∷◌, length, get_or, map, take, filter, replicate, All, Contains, Option, Some, None, ◌++◌}
use Rattle.std.specs.List.{slice_get}
use Rattle.std.specs.Option.{option_map}
use Rattle.std.proofs.lemmas.List.{length-map, get_or-replicate, length-replicate, take_more}
use Rattle.std.proofs.lemmas.List.{take_all}
use Rattle.std.proofs.lemmas.List.Elements.{All-contains, All-weaker, All-more, Contains-append_cases, Contains-append_left, Contains-append_right}
use Rattle.std.specs.List.Sorted.{IsPermutation}
use Rattle.std.proofs.lemmas.List.Sorted.{IsPermutation-sym, Contains-permutation}
use Rattle.std.proofs.lemmas.Option.{slice_get-get_or, slice_get-map, slice_get_within, get_or_from_slice_get}
use Rattle.lists.proofs.Members.{Contains-head, Contains-later, Contains-nil, Contains-cases, Contains-filter, filter-Contains}
use Rattle.lists.proofs.Ascending.{IsStrictOrder, IsAscending, ascending-IsAscending, ascending-Contains, Contains-ascending, one_ascending}
use Rattle.plane_algebra.proofs.Tests.{by_test}
use Rattle.plane_model.specs.Points.{GridPoint, Segment, Path, same_point}
use Rattle.plane_model.specs.Pixel.{meets}
use Rattle.plane_model.specs.Hot.{is_passed_before, chain_among}
use Rattle.plane_model.proofs.PointOrder.{same_point_from, same_point_to}
use Rattle.plane_snapping.proofs.Boxes.{met_pixels_lie_in_the_box}
use Rattle.plane_snapping.proofs.MeetsComputed.{meets_is_computed}
use Rattle.plane_snapping.proofs.Passing.{meets_start, meets_stop, start_is_first, passed-IsStrictOrder}
use Rattle.grid_base.specs.Grid.{Corners}
use Rattle.bucket_grid.specs.Rects.{RectLists, Holds, IsPlaceOf, boxes_near, share_point}
use Rattle.bucket_grid.proofs.Numbers.{numbers_where_below}
use Rattle.grid_base.specs.Boxes.{box_of}
use Rattle.hot_pixels.specs.Found.{AreBucketsOver}
use Rattle.hot_pixels.specs.declared.meetings.Meeting.{Meeting}
use Rattle.hot_pixels.specs.Meetings.{AreBack, IsListed, AddsMeetings}
use Rattle.hot_pixels.specs.Marking.{IsEndOf, IsMarked, IsFound, IsSeen, KeepMarks, AreMarks, AreCrowdsMarked, MeetsEndsAlone, HasClearEdge, ends_of}
use Rattle.hot_pixels.proofs.EdgeLemmas.{alone_along}
use Rattle.hot_pixels.proofs.CrossingLemmas.{near_rect}
use Rattle.hot_pixels.proofs.MeetingLemmas.{adds_twice, none_back, no_lists}

-- ---- marks

pub kept_twice : (old mid new : List Bool) → KeepMarks old mid → KeepMarks mid new → KeepMarks old new
kept_twice old mid new h k = record { each = k.each ∙ h.each; kept = λ i m. k.kept i (h.kept i m) }

marked_at : (marks : List Bool) (i : ℕ) → i < length marks → get_or marks i false ≡ true → IsMarked marks i
marked_at marks i l e = slice_get-get_or marks i false l ∙ ap Some e

-- the first items have marks, and one more
pub marked_more : (old mid new : List Bool) (near : List ℕ) (k : ℕ) → k < length near → KeepMarks mid new → IsMarked new (get_or near k 0) →
    KeepMarks old mid × All (IsMarked mid) (take k near) → KeepMarks old new × All (IsMarked new) (take (k + 1) near)
marked_more old mid new near k l kept here h = (
  kept_twice old mid new h.0 kept,
  All-more (IsMarked new) near k 0 l (All-weaker (IsMarked mid) (IsMarked new) kept.kept (take k near) h.1) here,
)

pub all_taken : (P : ℕ → Type 0) (xs : List ℕ) (k : ℕ) → length xs ≤ k → All P (take k xs) → All P xs
all_taken P xs k l h = subst (All P) (take_all k xs l) h

-- ---- points that are found

found_later : (crowded : List Bool) (old new : List (Option ℕ)) (before after : List Meeting) (P Q : Type 0) (i : ℕ) (p : GridPoint) → (IsListed old before i p → IsListed new after i p) → (P → Q) → IsFound crowded old before P i p → IsFound crowded new after Q i p
found_later crowded old new before after P Q i p kept grows (inl f) = inl (f.0, grows f.1)
found_later crowded old new before after P Q i p kept grows (inr f) = inr (f.0, kept f.1)

module _ (edges : List Segment) (crowded : List Bool) (p : GridPoint) where
  seen_later : (old new : List (Option ℕ)) (before after : List Meeting) (a b : Bool) (i : ℕ) → AddsMeetings edges p old before new after → (a ≡ true → b ≡ true) → IsSeen edges crowded old before a p i → IsSeen edges crowded new after b p i
  seen_later old new before after a b i adds grows h = record {
    seen = λ s e m. elim (h.seen s e m) [ inl f ↦ inl f | inr f ↦ inr (found_later crowded old new before after (a ≡ true) (b ≡ true) i p (adds.kept i p) grows f) ];
  }

  pub seen_more : (old mid new : List (Option ℕ)) (before between after : List Meeting) (a b : Bool) (near : List ℕ) (k : ℕ) → k < length near → AddsMeetings edges p mid between new after → (a ≡ true → b ≡ true) → IsSeen edges crowded new after b p (get_or near k 0) →
      AddsMeetings edges p old before mid between × All (IsSeen edges crowded mid between a p) (take k near) → AddsMeetings edges p old before new after × All (IsSeen edges crowded new after b p) (take (k + 1) near)
  seen_more old mid new before between after a b near k l adds grows here h = (
    adds_twice edges p old mid new before between after h.0 adds,
    All-more (IsSeen edges crowded new after b p) near k 0 l (All-weaker (IsSeen edges crowded mid between a p) (IsSeen edges crowded new after b p) (λ j s. seen_later mid new between after a b j adds grows s) (take k near) h.1) here,
  )

-- all are crowded
pub all_inner : (edges : List Segment) (points : List GridPoint) → AreMarks points edges (replicate (length edges) true) (replicate (length edges) None) [] points
all_inner edges points = record {
  seen = λ p c i s e m. inr (inl (marked i s e, c));
  lists = no_lists edges;
  hot = λ m c. Contains-nil m c;
  inside = λ p c. c;
}
  where
    marked : (i : ℕ) (s : Segment) → slice_get edges i ≡ Some s → IsMarked (replicate (length edges) true) i
    marked i s e =
        let l = slice_get_within edges i s e in
        let n = length-replicate (length edges) true in
        marked_at (replicate (length edges) true) i (omega arith) (get_or-replicate (length edges) i true false l)

-- p at the end of a list, if it is wanted
abbrev pub with_wanted : List GridPoint → GridPoint → Bool → List GridPoint
with_wanted points p b = cond b (points ++ p ∷ []) points

module _ (edges : List Segment) (points : List GridPoint) (crowded : List Bool) (old new : List (Option ℕ)) (before after : List Meeting) (b : Bool) (inner more : List GridPoint) (k : ℕ) (p : GridPoint) (l : k < length points) (e : p ≡ get_or points k p)
    (adds : AddsMeetings edges p old before new after) (here : (i : ℕ) → IsSeen edges crowded new after b p i) (is : more ≡ with_wanted inner p b) (h : AreMarks (take k points) edges crowded old before inner) where
  next : take (k + 1) points ≡ take k points ++ p ∷ []
  next = take_more points k p l ∙ ap (λ (x : GridPoint). take k points ++ x ∷ []) (sym e)

  one_of : (q : GridPoint) → Contains (take k points) q → Contains (take (k + 1) points) q
  one_of q c = subst (λ (xs : List GridPoint). Contains xs q) (sym next) (Contains-append_left (take k points) (p ∷ []) q c)

  last_one : Contains (take (k + 1) points) p
  last_one = subst (λ (xs : List GridPoint). Contains xs p) (sym next) (Contains-append_right (take k points) (p ∷ []) p (Contains-head p []))

  still_wanted : (q : GridPoint) → Contains inner q → Contains more q
  still_wanted q c = subst (λ (xs : List GridPoint). Contains xs q) (sym is) (go b)
    where
      go : (b : Bool) → Contains (with_wanted inner p b) q
      go true = Contains-append_left inner (p ∷ []) q c
      go false = c

  wanted_now : b ≡ true → Contains more p
  wanted_now t = subst (λ (xs : List GridPoint). Contains xs p) (sym (is ∙ ap (with_wanted inner p) t)) (Contains-append_right inner (p ∷ []) p (Contains-head p []))

  wanted_is : (q : GridPoint) → Contains more q → Contains inner q ⊎ (p ≡ q)
  wanted_is q c = go b (subst (λ (xs : List GridPoint). Contains xs q) is c)
    where
      go : (b : Bool) → Contains (with_wanted inner p b) q → Contains inner q ⊎ (p ≡ q)
      go true d = elim (Contains-append_cases inner (p ∷ []) q d) [ inl m ↦ inl m | inr m ↦ elim (Contains-cases p [] q m) [ inl s ↦ inr s | inr n ↦ Contains-nil q n ] ]
      go false d = inl d

  seen_of : (q : GridPoint) (i : ℕ) (s : Segment) → Contains (take k points) q → slice_get edges i ≡ Some s → meets s q ≡ true → IsEndOf s q ⊎ IsFound crowded new after (Contains more q) i q
  seen_of q i s d f m = elim (h.seen q d i s f m) [ inl n ↦ inl n | inr n ↦ inr (found_later crowded old new before after (Contains inner q) (Contains more q) i q (adds.kept i q) (still_wanted q) n) ]

  seen_now : (i : ℕ) (s : Segment) → slice_get edges i ≡ Some s → meets s p ≡ true → IsEndOf s p ⊎ IsFound crowded new after (Contains more p) i p
  seen_now i s f m = elim ((here i).seen s f m) [ inl n ↦ inl n | inr n ↦ inr (found_later crowded new new after after (b ≡ true) (Contains more p) i p (λ g. g) wanted_now n) ]

  pub are_marks_more : AreMarks (take (k + 1) points) edges crowded new after more
  are_marks_more = record {
    seen = λ q c i s f m. elim (Contains-append_cases (take k points) (p ∷ []) q (subst (λ (xs : List GridPoint). Contains xs q) next c)) [
      | inl d ↦ seen_of q i s d f m
      | inr d ↦ elim (Contains-cases p [] q d) [
        | inl same ↦ subst (λ (x : GridPoint). IsEndOf s x ⊎ IsFound crowded new after (Contains more x) i x) same (seen_now i s f (subst (λ (x : GridPoint). meets s x ≡ true) (sym same) m))
        | inr none ↦ Contains-nil q none
      ]
    ];
    lists = adds.lists;
    hot = λ m c. elim (adds.from m c) [ inl d ↦ one_of m.point (h.hot m d) | inr d ↦ subst (Contains (take (k + 1) points)) (sym d) last_one ];
    inside = λ q c. elim (wanted_is q c) [ inl d ↦ one_of q (h.inside q d) | inr d ↦ subst (Contains (take (k + 1) points)) d last_one ];
  }

-- moved points are inner as well
pub marks_moved : (points : List GridPoint) (edges : List Segment) (crowded : List Bool) (lasts : List (Option ℕ)) (meetings : List Meeting) (inner moved : List GridPoint) → IsPermutation inner moved → AreMarks points edges crowded lasts meetings inner → AreMarks points edges crowded lasts meetings moved
marks_moved points edges crowded lasts meetings inner moved same h = record {
  seen = λ p c i s e m. elim (h.seen p c i s e m) [ inl n ↦ inl n | inr n ↦ inr (found_later crowded lasts lasts meetings meetings (Contains inner p) (Contains moved p) i p (λ g. g) (Contains-permutation inner moved p same) n) ];
  lists = h.lists;
  hot = h.hot;
  inside = λ p c. h.inside p (Contains-permutation moved inner p (IsPermutation-sym inner moved same) c);
}

-- a segment whose edge is of no crowd and has no meeting meets its ends alone
pub clear_at : (points : List GridPoint) (edges : List Segment) (crowded : List Bool) (lasts : List (Option ℕ)) (meetings : List Meeting) (inner : List GridPoint) (s : Segment) → AreMarks points edges crowded lasts meetings inner → HasClearEdge edges crowded lasts s → MeetsEndsAlone points s
clear_at points edges crowded lasts meetings inner s h at = alone_along points s at.has_edge.edge at.has_edge.along (record {
  others = λ p c m. elim (h.seen p c at.number at.has_edge.edge at.has_edge.there m) [ inl e ↦ e | inr f ↦ elim f [ inl k ↦ absurd (let n : Some false ≡ Some true = sym at.apart ∙ k.0 in cc) | inr k ↦ not_listed p k.1 ] ];
})
  where
    not_listed : (p : GridPoint) → IsListed lasts meetings at.number p → IsEndOf at.has_edge.edge p
    not_listed p k =
        let none : k.last ≡ None = (let f : Some k.last ≡ Some None = sym k.there ∙ at.alone in cc) in
        let empty : k.points ≡ [] = none_back meetings None k.points (subst (λ (o : Option ℕ). AreBack meetings o k.points) none k.back) refl in
        Contains-nil p (subst (λ (xs : List GridPoint). Contains xs p) empty k.listed)

-- ---- the spots near a point

module _ (spots : List Segment) (b : RectLists) (h : AreBucketsOver spots b) (place : ℕ) (near : List ℕ) (is : slice_get b.near place ≡ Some near) where
  abbrev boxes : List Corners
  boxes = map box_of spots

  listed : (o : Option Corners) → slice_get b.rects place ≡ o → (rect : Corners) × (slice_get b.rects place ≡ Some rect) × (near ≡ boxes_near boxes rect)
  listed (Some rect) e =
      let f : Some near ≡ Some (boxes_near boxes rect) = sym is ∙ ap (λ (lists : List (List ℕ)). slice_get lists place) h.near ∙ slice_get-map (boxes_near boxes) b.rects place ∙ ap (option_map (boxes_near boxes)) e in
      (rect, e, cc)
  listed None e =
      let f : Some near ≡ None = sym is ∙ ap (λ (lists : List (List ℕ)). slice_get lists place) h.near ∙ slice_get-map (boxes_near boxes) b.rects place ∙ ap (option_map (boxes_near boxes)) e in
      absurd cc

  pub near_there : All (λ i. i < length spots) near
  near_there =
      let found = listed (slice_get b.rects place) refl in
      let long : length boxes ≡ length spots = length-map spots box_of in
      subst (λ (n : ℕ). All (λ i. i < n) near) long (subst (All (λ i. i < length boxes)) (sym found.2) (numbers_where_below (share_point found.0) boxes))

  pub met_is_near : (p : GridPoint) → IsPlaceOf b.rects p place → (i : ℕ) (s : Segment) → slice_get spots i ≡ Some s → meets s p ≡ true → Contains near i
  met_is_near p at i s e m =
      let found = listed (slice_get b.rects place) refl in
      let same : get_or b.rects place found.0 ≡ found.0 = get_or_from_slice_get b.rects place found.0 found.0 found.1 in
      subst (λ (xs : List ℕ). Contains xs i) (sym found.2)
      (near_rect spots i s found.0 p (slice_get_within spots i s e) (get_or_from_slice_get spots i s s e) (subst (λ (a : Corners). Holds a p) same (at.held found.0))
      (met_pixels_lie_in_the_box s p ((meets_is_computed s p).0 m)))

  -- where the segments that are near are seen, all are
  pub all_seen : (p : GridPoint) → IsPlaceOf b.rects p place → (crowded : List Bool) (lasts : List (Option ℕ)) (meetings : List Meeting) (is_inner : Bool) → All (IsSeen spots crowded lasts meetings is_inner p) near → (i : ℕ) → IsSeen spots crowded lasts meetings is_inner p i
  all_seen p at crowded lasts meetings is_inner h i = record {
    seen = λ s e m. (All-contains (IsSeen spots crowded lasts meetings is_inner p) near i h (met_is_near p at i s e m)).seen s e m;
  }

  pub all_seen_in_crowd : (p : GridPoint) → IsPlaceOf b.rects p place → (crowded : List Bool) (lasts : List (Option ℕ)) (meetings : List Meeting) → AreCrowdsMarked (length b.near) b.near crowded → 64 < length near → (i : ℕ) → IsSeen spots crowded lasts meetings true p i
  all_seen_in_crowd p at crowded lasts meetings h many = all_seen p at crowded lasts meetings true
      (All-weaker (IsMarked crowded) (IsSeen spots crowded lasts meetings true p) (λ i m. record { seen = λ s e f. inr (inl (m, refl)) }) near
      (h.all place (slice_get_within b.near place near is) near is many))

-- ---- chains of the ends alone

module _ (points : List GridPoint) (s : Segment) (from : Contains points s.start) (to : Contains points s.stop) (h : MeetsEndsAlone points s) where
  strict : IsStrictOrder (is_passed_before s)
  strict = passed-IsStrictOrder s

  abbrev met : List GridPoint
  met = filter (meets s) points

  abbrev ends : Bool → Path
  ends b = cond b (s.start ∷ []) (s.start ∷ s.stop ∷ [])

  start_met : Contains met s.start
  start_met = Contains-filter (meets s) points s.start from ((meets_is_computed s s.start).1 (meets_start s))

  stop_met : Contains met s.stop
  stop_met = Contains-filter (meets s) points s.stop to ((meets_is_computed s s.stop).1 (meets_stop s))

  apart : same_point s.start s.stop ≡ false → is_passed_before s s.start s.stop ≡ true
  apart e = by_test (is_passed_before s s.start s.stop) (λ f. f)
      (λ f. by_test (is_passed_before s s.stop s.start)
      (λ g. absurd (start_is_first s s.stop (meets_stop s) g))
      (λ g. absurd (let k : true ≡ false = sym (same_point_to s.start s.stop (strict.total s.start s.stop f g)) ∙ e in cc)))

  in_order : (b : Bool) → same_point s.start s.stop ≡ b → IsAscending (is_passed_before s) (ends b)
  in_order true e = ((λ y c. Contains-nil y c), tt)
  in_order false e = (
    (λ y c. elim (Contains-cases s.stop [] y c) [ inl f ↦ subst (λ (z : GridPoint). is_passed_before s s.start z ≡ true) f (apart e) | inr d ↦ Contains-nil y d ]),
    (λ y c. Contains-nil y c, tt),
  )

  from_ends : (b : Bool) (g : GridPoint) → Contains (ends b) g → Contains met g
  from_ends true g c = elim (Contains-cases s.start [] g c) [ inl e ↦ subst (Contains met) e start_met | inr d ↦ Contains-nil g d ]
  from_ends false g c = elim (Contains-cases s.start (s.stop ∷ []) g c) [
    | inl e ↦ subst (Contains met) e start_met
    | inr d ↦ elim (Contains-cases s.stop [] g d) [ inl e ↦ subst (Contains met) e stop_met | inr k ↦ Contains-nil g k ]
  ]

  to_ends : (b : Bool) → same_point s.start s.stop ≡ b → (g : GridPoint) → Contains met g → Contains (ends b) g
  to_ends b e g c =
      let m = filter-Contains (meets s) points g c in
      at_end b e (h.others g m.0 m.1)
    where
      at_end : (b : Bool) → same_point s.start s.stop ≡ b → IsEndOf s g → Contains (ends b) g
      at_end true e (inl f) = subst (Contains (s.start ∷ [])) (sym f) (Contains-head s.start [])
      at_end true e (inr f) = subst (Contains (s.start ∷ [])) (same_point_from s.start s.stop e ∙ sym f) (Contains-head s.start [])
      at_end false e (inl f) = subst (Contains (s.start ∷ s.stop ∷ [])) (sym f) (Contains-head s.start (s.stop ∷ []))
      at_end false e (inr f) = subst (Contains (s.start ∷ s.stop ∷ [])) (sym f) (Contains-later s.start (s.stop ∷ []) s.stop (Contains-head s.stop []))

  pub clear_chain : ends_of s ≡ chain_among points s
  clear_chain = go (same_point s.start s.stop) refl
    where
      go : (b : Bool) → same_point s.start s.stop ≡ b → ends b ≡ chain_among points s
      go b e = one_ascending (is_passed_before s) strict (ends b) (chain_among points s) (in_order b e) (ascending-IsAscending (is_passed_before s) strict met)
          (λ g c. Contains-ascending (is_passed_before s) strict met g (from_ends b g c))
          (λ g c. to_ends b e g (ascending-Contains (is_passed_before s) strict met g c))
