-- A vertex inside an arc is inside just the sets that have a side of the arc.
use Rattle.std.proofs.Common.{◌≡◌, inl, inr, sym, ap, ◌∙◌, subst, arith, ℕ, zero, suc, ◌+◌, ◌-◌, ◌<◌, true, nat_eq, List, [], length, get_or, All, Contains, pos}
use Rattle.std.proofs.lemmas.Bool.{cases_lt, or_cases, or_left, or_right}
use Rattle.std.proofs.lemmas.List.{get_or_default}
use Rattle.std.proofs.lemmas.List.Elements.{All-contains}
use Rattle.lists.specs.Lists.{has}
use Rattle.lists.proofs.Members.{Contains-map}
use Rattle.plane_model.specs.Points.{GridPoint, Segment, Path}
use Rattle.plane_model.specs.Drawing.{steps}
use Rattle.plane_model.specs.Arcs.{forward, backward}
use Rattle.plane_model.specs.Arrangement.{IsArrangement, IsDistinct}
use Rattle.plane_model.specs.Rotation.{Dart, tail}
use Rattle.plane_model.specs.Sees.{SeesPoint}
use Rattle.plane_model.specs.Sides.{IsInside}
use Rattle.plane_faces.specs.Around.{opposite}
use Rattle.plane_faces.specs.Places.{Place, left_of}
use Rattle.plane_faces.specs.Rings.{dart_of_step}
use Rattle.plane_faces.proofs.Order.{place_exists}
use Rattle.arc_table.specs.Along.{GoAlong}
use Rattle.arc_table.specs.Lookup.{IsLeastAt}
use Rattle.face_walk.specs.Places.{FaceTable, IsBuiltOf, place_of}
use Rattle.face_laws.specs.Faces.{AreFreeInside, IsFaceOfPlace}
use Rattle.face_laws.proofs.ClassLemmas.{faces_are_classes}
use Rattle.face_laws.proofs.DartLemmas.{step_head, step_tail, two_there}
use Rattle.face_laws.proofs.StepLemmas.{IsStep, alone_inside, arc_of, step_at, step_between, step_moves, step_on, steps_counted, they_meet}
use Rattle.line_ops.specs.Inside as sides
use Rattle.line_ops.specs.Points.{IsNode}
use Rattle.face_sets.proofs.BoundaryLemmas.{has_Contains, Contains_has}
use Rattle.point_laws.specs.Sight.{PointsOf, InnerVerticesAreInside}
use Rattle.point_laws.proofs.Sectors.{seen_from_sectors}
use Rattle.point_laws.proofs.SeenSectors.{sectors_are_seen}

-- one step of an arc comes to p, and the next goes on from it
pub record GoesThrough (arcs : List Path) (n : ℕ) (p : GridPoint) : Type 0 where
  pub i : ℕ
  pub s : Segment
  pub t : Segment
  pub before : IsStep arcs n i s
  pub after : IsStep arcs n (i + 1) t
  pub here : t.start ≡ p

-- an arc goes through each vertex that is no node
pub goes_through : (arcs : List Path) → All (λ arc. 1 < length arc) arcs → (p : GridPoint) → (IsNode arcs p → ⊥) → (n : ℕ) → IsLeastAt arcs p n → GoesThrough arcs n p
goes_through arcs long p no_node n least = go least.on.0 least.on.1 least.on.2
  where
    arc : Path
    arc = arc_of arcs n

    origin : GridPoint
    origin = record { x = pos 0; y = pos 0 }

    none : Segment
    none = record { start = origin; stop = origin }

    longer : 1 < length (arc_of arcs n)
    longer = long n [] least.there

    go : (k : ℕ) → k < length (arc_of arcs n) → get_or (arc_of arcs n) k p ≡ p → GoesThrough arcs n p
    go zero l e = absurd (no_node (forward n, record { there = least.there; start = get_or_default (arc_of arcs n) 0 origin p l ∙ e }))
    go (suc i) l e = elim (cases_lt (suc i + 1) (length (arc_of arcs n))) [
      | inl m ↦ (
          let some = longer in
          let many = steps_counted (arc_of arcs n) (omega arith) in
          let after : IsStep arcs n (i + 1) (get_or (steps (arc_of arcs n)) (i + 1) none) = step_at arcs n (i + 1) none least.there (omega arith) in
          let next : i + 1 ≡ suc i = omega arith in
          record {
            i = i;
            s = get_or (steps (arc_of arcs n)) i none;
            t = get_or (steps (arc_of arcs n)) (i + 1) none;
            before = step_at arcs n i none least.there (omega arith);
            after = after;
            here = ap (λ (u : Segment). u.start) (step_between (arc_of arcs n) (i + 1) none p after.there) ∙ ap (λ (k : ℕ). get_or (arc_of arcs n) k p) next ∙ e;
          })
      | inr m ↦ (
          let last : length (arc_of arcs n) - 1 ≡ suc i = omega arith in
          absurd (no_node (
            backward n,
            record {
              there = least.there;
              start = ap (λ (k : ℕ). get_or (arc_of arcs n) k origin) last ∙ get_or_default (arc_of arcs n) (suc i) origin p l ∙ e;
            },
          )))
    ]

module _ (S : List Segment) (arr : IsArrangement S) (distinct : IsDistinct S) (arcs : List Path) (long : All (λ arc. 1 < length arc) arcs) (along : GoAlong S arcs) (free : AreFreeInside S arcs)
    (faces : FaceTable) (built : IsBuiltOf arcs faces) (label : Place → ℕ) (by : IsFaceOfPlace arcs faces label) (p : GridPoint) (n : ℕ) (through : GoesThrough arcs n p) where
  -- of the two darts at the vertex one has the left side of the arc on its left, and the other the right side
  on_left : label (left_of (dart_of_step through.t)) ≡ sides.left_of faces (forward n)
  on_left =
      All-contains (λ (d : Dart). label (left_of d) ≡ get_or faces.places (place_of (forward n)) 0) _ (dart_of_step through.t) (by.left n through.after.arc)
      (Contains-map dart_of_step (steps (arc_of arcs n)) through.t (through.i + 1, through.after.there, through.after.is))

  on_right : label (left_of (opposite (dart_of_step through.s))) ≡ sides.right_of faces (forward n)
  on_right =
      All-contains (λ (d : Dart). label (left_of (opposite d)) ≡ get_or faces.places (place_of (backward n)) 0) _ (dart_of_step through.s) (by.right n through.before.arc)
      (Contains-map dart_of_step (steps (arc_of arcs n)) through.s (through.i, through.before.there, through.before.is))

  starts_on : tail (dart_of_step through.t) ≡ p
  starts_on = step_tail through.t ∙ through.here

  meet : through.s.stop ≡ through.t.start
  meet = they_meet arcs n through.i through.s through.t through.before through.after

  starts_back : tail (opposite (dart_of_step through.s)) ≡ p
  starts_back = step_head through.s ∙ meet ∙ through.here

  -- a set that has the label of a sector there has a side of the arc
  side_of : (set : List ℕ) (e : Dart) → Contains S e.link → tail e ≡ p → Contains set (label (left_of e)) → sides.is_inside faces set (forward n) ≡ true
  side_of set e there at_p h =
      elim (two_there S through.s through.t meet (step_moves arcs S arr long along n through.i through.s through.before) (step_moves arcs S arr long along n (through.i + 1) through.t through.after)
      (alone_inside S arr arcs long along free n through.i through.s through.t through.before through.after) e there (at_p ∙ sym through.here)) [
        | inl f ↦ or_left (has nat_eq set (sides.left_of faces (forward n))) (has nat_eq set (sides.right_of faces (forward n)))
            (Contains_has set (sides.left_of faces (forward n)) (subst (Contains set) (ap (λ (x : Dart). label (left_of x)) f ∙ on_left) h))
        | inr f ↦ or_right (has nat_eq set (sides.left_of faces (forward n))) (has nat_eq set (sides.right_of faces (forward n)))
            (Contains_has set (sides.right_of faces (forward n)) (subst (Contains set) (ap (λ (x : Dart). label (left_of x)) f ∙ on_right) h))
      ]

  -- so has a set of which some point sees the vertex
  pub seen_side : (set : List ℕ) → IsInside S (PointsOf S label set) p → sides.is_inside faces set (forward n) ≡ true
  seen_side set h =
      let (z, sees, held) = h in
      let (off_links, placed) = held in
      let (x, here, has_label) = placed in
      let agrees = (faces_are_classes S arr arcs long along free faces built label by).agrees in
      let (e, there, at_start, same) = seen_from_sectors S arr distinct label agrees (dart_of_step through.t) (step_on arcs S arr long along n (through.i + 1) through.t through.after) z
      (subst (λ (g : GridPoint). SeesPoint S g z) (sym starts_on) sees) x here in
      side_of set e there (at_start ∙ starts_on) (subst (Contains set) same has_label)

  -- some point of a set that has the label of a sector there sees the vertex
  sector_is_seen : (set : List ℕ) (e : Dart) → Contains S e.link → tail e ≡ p → Contains set (label (left_of e)) → IsInside S (PointsOf S label set) p
  sector_is_seen set e there at_p h =
      let (z, sees, off, same) = sectors_are_seen S arr distinct e there in
      let (a, here) = place_exists S arr z in
      let agrees = (faces_are_classes S arr arcs long along free faces built label by).agrees in
      (z, subst (λ (g : GridPoint). SeesPoint S g z) at_p sees, (off, (a, here, subst (Contains set) (sym (same label agrees a here)) h)))

  -- so does some point of a set that has a side of the arc
  pub side_is_seen : (set : List ℕ) → sides.is_inside faces set (forward n) ≡ true → IsInside S (PointsOf S label set) p
  side_is_seen set e = elim (or_cases (has nat_eq set (sides.left_of faces (forward n))) (has nat_eq set (sides.right_of faces (forward n))) e) [
    | inl f ↦ sector_is_seen set (dart_of_step through.t) (step_on arcs S arr long along n (through.i + 1) through.t through.after) starts_on
        (subst (Contains set) (sym on_left) (has_Contains set (sides.left_of faces (forward n)) f))
    | inr f ↦ sector_is_seen set (opposite (dart_of_step through.s)) (step_on arcs S arr long along n through.i through.s through.before) starts_back
        (subst (Contains set) (sym on_right) (has_Contains set (sides.right_of faces (forward n)) f))
  ]

pub inner_vertices_are_inside : InnerVerticesAreInside
inner_vertices_are_inside S arr distinct arcs long along free faces built label by set p no_node n least inside is =
    let through = goes_through arcs long p no_node n least in
    let answered = is.on_arc n no_node least in (
      λ e. side_is_seen S arr distinct arcs long along free faces built label by p n through set (sym answered ∙ e),
      λ h. answered ∙ seen_side S arr distinct arcs long along free faces built label by p n through set h,
    )
