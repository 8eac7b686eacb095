-- The listed links of arcs and those of the drawing, and what stands at the places beside them.
use Rattle.std.proofs.Common.{◌≡◌, ◌⊎◌, inl, inr, refl, sym, ap, ◌∙◌, subst, arith, ℕ, zero, suc, ◌<◌, ◌≤◌, Bool, true, false, cond, not, List, map, length, All, Contains, Option, Some, None, ℤ, pos, neg_ℤ}
use Rattle.std.specs.Prelude.{int_lt, ◌≤ℤ◌}
use Rattle.std.proofs.lemmas.Int.{ints}
use Rattle.std.proofs.lemmas.Bool.{cases_lt}
use Rattle.std.proofs.lemmas.List.Elements.{All-contains, Contains-append_left, Contains-append_right, Contains-append_cases}
use Rattle.std.proofs.lemmas.List.Sorted.{Contains-permutation, IsPermutation-sym}
use Rattle.lists.proofs.Members.{Contains-nil, Contains-map, Contains-filter_map, filter_map-Contains}
use Rattle.plane_model.specs.Points.{GridPoint, Segment, Path, at, turn, same_point, is_before, link_between, cross}
use Rattle.plane_model.specs.Drawing.{steps}
use Rattle.plane_model.specs.Arcs.{forward, backward}
use Rattle.plane_model.specs.Arrangement.{IsArrangement}
use Rattle.plane_model.specs.Parity.{is_below}
use Rattle.plane_model.specs.Below.{is_under}
use Rattle.plane_model.proofs.PointOrder.{same_point_from}
use Rattle.plane_parity.proofs.AlongLink.{decide_link}
use Rattle.plane_parity.proofs.LinkOrder.{is_under-total}
use Rattle.plane_faces.specs.Around.{opposite}
use Rattle.plane_faces.specs.Places.{Place, outside, left_of, left_side, right_side, IsPlaceOf, IsFirst}
use Rattle.plane_faces.specs.Places as plane
use Rattle.plane_faces.specs.Rings.{dart_of_step}
use Rattle.plane_faces.proofs.Order.{below_over}
use Rattle.arc_table.specs.Along.{GoAlong}
use Rattle.face_laws.specs.Faces.{IsByNumber}
use Rattle.link_search.specs.PlaceNumbers.{place_of}
use Rattle.face_walk.specs.Sectors.{place_right_of}
use Rattle.face_walk.specs.Rays.{AreLinksOf, IsFirstFrom, IsMinimum, IsRay, IsTopmostBelow, link_at, links_along, links_below, place_met}
use Rattle.link_search.specs.declared.links.ArcLink.{ArcLink}
use Rattle.face_laws.proofs.DartLemmas.{Moves, ends_differ}
use Rattle.face_laws.proofs.RoundLemmas.{turn_is, cross_swapped}
use Rattle.face_laws.proofs.StepLemmas.{IsStep, arc_of, step_on, step_moves, step_of_link}

-- the listed link k is that of the step s of arc n
pub record IsListed (arcs : List Path) (n j : ℕ) (s : Segment) (k : ArcLink) : Type 0 where
  pub step : IsStep arcs n j s
  pub link : k.link ≡ link_between s
  pub along : k.along ≡ cond (is_before s.start s.stop) (forward n) (backward n)

abbrev pub listed : ℕ → Segment → ArcLink
listed n s = record { link = link_between s; along = cond (is_before s.start s.stop) (forward n) (backward n) }

module _ (arcs : List Path) (links : List ArcLink) (all : AreLinksOf arcs links) where
  below : (m n j : ℕ) (s : Segment) → n < m → IsStep arcs n j s → Moves s → Contains (links_below arcs m) (listed n s)
  below zero n j s l h moves = absurd (omega arith)
  below (suc m) n j s l h moves = elim (cases_lt n m) [
    | inl k ↦ Contains-append_left (links_below arcs m) (links_along m (arc_of arcs m)) (listed n s) (below m n j s k h moves)
    | inr k ↦ Contains-append_right (links_below arcs m) (links_along m (arc_of arcs m)) (listed n s) (last (let e : n ≡ m = omega arith in e))
  ]
    where
      found : (b : Bool) → same_point s.start s.stop ≡ b → (k : ℕ) → cond b None (Some (listed k s)) ≡ Some (listed k s)
      found true e k = absurd (ends_differ s moves (same_point_from s.start s.stop e))
      found false e k = refl

      last : n ≡ m → Contains (links_along m (arc_of arcs m)) (listed n s)
      last e = subst (λ (k : ℕ). Contains (links_along k (arc_of arcs k)) (listed n s)) e (Contains-filter_map (link_at n) (steps (arc_of arcs n)) s (listed n s) (j, h.there, h.is) (found (same_point s.start s.stop) refl n))

  pub is_listed : (n j : ℕ) (s : Segment) → IsStep arcs n j s → Moves s → Contains links (listed n s)
  is_listed n j s h moves = Contains-permutation (links_below arcs (length arcs)) links (listed n s) all.all (below (length arcs) n j s h.arc h moves)

  from_below : (m : ℕ) → m ≤ length arcs → (k : ArcLink) → Contains (links_below arcs m) k → (n : ℕ) × (j : ℕ) × (s : Segment) × IsListed arcs n j s k
  from_below zero l k c = Contains-nil k c
  from_below (suc m) l k c = elim (Contains-append_cases (links_below arcs m) (links_along m (arc_of arcs m)) k c) [
    | inl d ↦ from_below m (omega arith) k d
    | inr d ↦ (
        let (s, (j, there, is), e) = filter_map-Contains (link_at m) (steps (arc_of arcs m)) k d in
        let step : IsStep arcs m j s = record { arc = omega arith; there = there; is = is } in
        let same = found s (same_point s.start s.stop) e in
        (m, j, s, record { step = step; link = λ i. (same i).link; along = λ i. (same i).along }))
  ]
    where
      found : (s : Segment) (b : Bool) → cond b None (Some (listed m s)) ≡ Some k → k ≡ listed m s
      found s true e = absurd (cc)
      found s false e = sym (the_same (listed m s) k e)
        where
          the_same : (x y : ArcLink) → Some x ≡ Some y → x ≡ y
          the_same x y e = ap (λ (o : Option ArcLink). elim o [ None ↦ x | Some z ↦ z ]) e

  pub of_listed : (k : ArcLink) → Contains links k → (n : ℕ) × (j : ℕ) × (s : Segment) × IsListed arcs n j s k
  of_listed k c = from_below (length arcs) (omega arith) k (Contains-permutation links (links_below arcs (length arcs)) k (IsPermutation-sym (links_below arcs (length arcs)) links all.all) c)

  -- ---- the places beside a listed link

  module _ {A : Type 0} (g : ℕ → A) (f : Place → A) (by : IsByNumber arcs g f) where
    pub left_at : (n j : ℕ) (s : Segment) → IsStep arcs n j s → f (left_of (dart_of_step s)) ≡ g (place_of (forward n))
    left_at n j s h = All-contains (λ d. f (left_of d) ≡ g (place_of (forward n))) (map dart_of_step (steps (arc_of arcs n))) (dart_of_step s) (by.left n h.arc) (Contains-map dart_of_step (steps (arc_of arcs n)) s (j, h.there, h.is))

    pub right_at : (n j : ℕ) (s : Segment) → IsStep arcs n j s → f (left_of (opposite (dart_of_step s))) ≡ g (place_of (backward n))
    right_at n j s h = All-contains (λ d. f (left_of (opposite d)) ≡ g (place_of (backward n))) (map dart_of_step (steps (arc_of arcs n))) (dart_of_step s) (by.right n h.arc) (Contains-map dart_of_step (steps (arc_of arcs n)) s (j, h.there, h.is))

    both_sides : (n j : ℕ) (s : Segment) (k : ArcLink) → IsListed arcs n j s k → (f (left_side k.link) ≡ g (place_of k.along)) × (f (right_side k.link) ≡ g (place_right_of k.along))
    both_sides n j s k h = go (is_before s.start s.stop) refl
      where
        l : f (left_of (record { link = link_between s; forward = is_before s.start s.stop })) ≡ g (place_of (forward n))
        l = left_at n j s h.step

        r : f (left_of (record { link = link_between s; forward = not (is_before s.start s.stop) })) ≡ g (place_of (backward n))
        r = right_at n j s h.step

        go : (b : Bool) → is_before s.start s.stop ≡ b → (f (left_side k.link) ≡ g (place_of k.along)) × (f (right_side k.link) ≡ g (place_right_of k.along))
        go true e =
            let along : k.along ≡ forward n = h.along ∙ ap (λ (b : Bool). cond b (forward n) (backward n)) e in
            let l' : f (left_side (link_between s)) ≡ g (place_of (forward n)) = subst (λ (b : Bool). f (left_of (record { link = link_between s; forward = b })) ≡ g (place_of (forward n))) e l in
            let r' : f (right_side (link_between s)) ≡ g (place_of (backward n)) = subst (λ (b : Bool). f (left_of (record { link = link_between s; forward = not b })) ≡ g (place_of (backward n))) e r in
            ((λ i. f (left_side (h.link i))) ∙ l' ∙ sym (λ i. g (place_of (along i))), (λ i. f (right_side (h.link i))) ∙ r' ∙ sym (λ i. g (place_right_of (along i))))
        go false e =
            let along : k.along ≡ backward n = h.along ∙ ap (λ (b : Bool). cond b (forward n) (backward n)) e in
            let l' : f (right_side (link_between s)) ≡ g (place_of (forward n)) = subst (λ (b : Bool). f (left_of (record { link = link_between s; forward = b })) ≡ g (place_of (forward n))) e l in
            let r' : f (left_side (link_between s)) ≡ g (place_of (backward n)) = subst (λ (b : Bool). f (left_of (record { link = link_between s; forward = not b })) ≡ g (place_of (backward n))) e r in
            ((λ i. f (left_side (h.link i))) ∙ r' ∙ sym (λ i. g (place_of (along i))), (λ i. f (right_side (h.link i))) ∙ l' ∙ sym (λ i. g (place_right_of (along i))))

    pub left_of_link : (k : ArcLink) → Contains links k → f (left_side k.link) ≡ g (place_of k.along)
    left_of_link k c = let (n, j, s, h) = of_listed k c in (both_sides n j s k h).0

    pub right_of_link : (k : ArcLink) → Contains links k → f (right_side k.link) ≡ g (place_right_of k.along)
    right_of_link k c = let (n, j, s, h) = of_listed k c in (both_sides n j s k h).1

  -- ---- the links of the drawing are those listed

  module _ (S : List Segment) (arr : IsArrangement S) (long : All (λ arc. 1 < length arc) arcs) (along : GoAlong S arcs) where
    pub listed_in : (k : ArcLink) → Contains links k → Contains S k.link
    listed_in k c = let (n, j, s, h) = of_listed k c in subst (Contains S) (sym h.link) (step_on arcs S arr long along n j s h.step)

    pub listing : (l : Segment) → Contains S l → (k : ArcLink) × Contains links k × (k.link ≡ l)
    listing l c = let (n, j, s, h, e) = step_of_link arcs S arr long along l c in (listed n s, is_listed n j s h (step_moves arcs S arr long along n j s h), e)

    pub minimum_to : (p : GridPoint) → IsMinimum links p → plane.IsMinimum S p
    minimum_to p m l c e = let (k, d, f) = listing l c in m k d (ap (λ (x : Segment). x.stop) f ∙ e)

    pub minimum_from : (p : GridPoint) → plane.IsMinimum S p → IsMinimum links p
    minimum_from p m k c e = m k.link (listed_in k c) e

    pub first_to : (p : GridPoint) (l : ArcLink) → IsFirstFrom links p l → IsFirst S l.link
    first_to p l first k c e =
        let (k', d, f) = listing k c in
        let turns : pos 0 ≤ℤ cross l.link k = subst (λ (x : Segment). pos 0 ≤ℤ cross l.link x) f (first.first k' d (ap (λ (x : Segment). x.start) f ∙ e ∙ first.leaves)) in
        no_turn (turn (at k.start) (at k.stop) (at l.link.stop)) (cross l.link k) (turn_is k.start k.stop l.link.stop ∙ ap (λ (q : GridPoint). cross k (record { start = q; stop = l.link.stop })) e ∙ cross_swapped l.link k) turns
      where
        no_turn : (a b : ℤ) → a ≡ neg_ℤ b → pos 0 ≤ℤ b → int_lt (pos 0) a ≡ false
        no_turn a b e h = go (int_lt (pos 0) a) refl
          where
            go : (t : Bool) → int_lt (pos 0) a ≡ t → t ≡ false
            go true f = absurd (omega (arith, ints))
            go false f = refl

    abbrev pub place_of_met : Option ArcLink → Place
    place_of_met None = outside
    place_of_met (Some l) = left_side l.link

    pub place_to : (p : GridPoint) (met : Option ArcLink) → IsTopmostBelow links p met → IsPlaceOf S (at p) (place_of_met met)
    place_to p None none = λ l c. (let (k, d, f) = listing l c in subst (λ (x : Segment). is_below (at p) x ≡ false) f (none k d))
    place_to p (Some l) top = (refl, listed_in l top.there, record { below = top.below; topmost = λ k c b. compare k c b (decide_link k l.link) })
      where
        compare : (k : Segment) → Contains S k → is_below (at p) k ≡ true → (k ≡ l.link) ⊎ (k ≡ l.link → ⊥) → (k ≡ l.link) ⊎ (is_under (at p) l.link k ≡ true)
        compare k c b (inl e) = inl e
        compare k c b (inr n) =
            let (k', d, f) = listing k c in
            let under : is_under (at p) k l.link ≡ false = subst (λ (x : Segment). is_under (at p) x l.link ≡ false) f (top.topmost k' d (ap (is_below (at p)) f ∙ b)) in
            inr (is_under-total S arr l.link k (listed_in l top.there) c (at p) (below_over S arr (at p) l.link top.below) (below_over S arr (at p) k b) (λ e. n (sym e)) under)

    -- what stands at both ends of a ray
    pub ray_starts : {A : Type 0} (g : ℕ → A) (f : Place → A) → IsByNumber arcs g f → (p : GridPoint) (ray : ℕ × ℕ) (is : IsRay links p ray) → f (right_side is.first.link) ≡ g ray.1
    ray_starts g f by p ray is = right_of_link g f by is.first is.is_first.there ∙ sym (ap g is.starts)

    pub ray_ends : {A : Type 0} (g : ℕ → A) (f : Place → A) → IsByNumber arcs g f → (p : GridPoint) (ray : ℕ × ℕ) (is : IsRay links p ray) → f (place_of_met is.met) ≡ g ray.0
    ray_ends g f by p ray is = go is.met is.is_met ∙ sym (ap g is.ends)
      where
        go : (o : Option ArcLink) → IsTopmostBelow links p o → f (place_of_met o) ≡ g (place_met o)
        go None t = by.outside_all
        go (Some l) t = left_of_link g f by l t.there
