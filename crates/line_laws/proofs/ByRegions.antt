-- Lines and points cut by a region, and the regions at the two sides of arcs.
use Rattle.std.proofs.Common.{◌≡◌, inl, inr, refl, sym, ap, ◌∙◌, subst, arith, ℕ, ◌+◌, ◌<◌, Bool, true, false, not, cond, ◌||◌, nat_eq, List, [], ◌∷◌, ◌++◌, map, length, get_or, Contains}
use Rattle.std.specs.Prelude.{◌↔◌}
use Rattle.std.specs.Cmp.{both_ways}
use Rattle.std.specs.List.{AllZip, flat_map}
use Rattle.std.proofs.lemmas.Bool.{or_cases, or_left, or_right}
use Rattle.std.proofs.lemmas.List.{get_or-map, length-map, map-append}
use Rattle.std.proofs.lemmas.List.Elements.{All-contains, All-weaker}
use Rattle.std.proofs.lemmas.Simd.{map-map}
use Rattle.lists.specs.Lists.{has}
use Rattle.lists.proofs.Members.{Contains-head, Contains-later, flat_map-Contains}
use Rattle.plane_model.specs.Points.{GridPoint, RationalPoint, Segment, Path, is_before, link_between, reversed}
use Rattle.plane_model.specs.Arcs.{SignedArc, forward, joined_points}
use Rattle.plane_model.specs.Arrangement.{IsBefore}
use Rattle.plane_model.specs.Drawing.{Drawing, steps, vertices_of}
use Rattle.plane_model.specs.Rotation.{Dart}
use Rattle.plane_model.specs.Sees.{IsOffLinks}
use Rattle.plane_model.specs.Sides.{Points}
use Rattle.plane_model.specs.Snapped.{links_of, snapped}
use Rattle.plane_model.proofs.PointOrder.{before_to, clash, is_before-IsStrictOrder}
use Rattle.plane_snapping.proofs.SnappedLinks.{snapped_links_are_an_arrangement}
use Rattle.plane_faces.specs.Around.{opposite}
use Rattle.plane_faces.specs.Places.{Place}
use Rattle.plane_faces.specs.Rings.{dart_of_step, darts_of_path}
use Rattle.plane_faces.proofs.Order.{place_exists}
use Rattle.face_walk.specs.Places.{FaceTable}
use Rattle.face_sets.proofs.OwnerLemmas.{numbers_alike}
use Rattle.face_laws.specs.Faces.{SeesSide}
use Rattle.face_sets.proofs.BoundaryLemmas.{has_Contains, Contains_has}
use Rattle.line_ops.specs.Inside as sides
use Rattle.line_ops.specs.Points.{IsInsideAt}
use Rattle.line_ops.specs.Runs.{runs_where}
use Rattle.point_laws.specs.Sight.{PointsOf}
use Rattle.point_laws.proofs.Vertices.{vertices_of_a_drawing}
use Rattle.region_model.specs.Region.{Region, any_of, Has}
use Rattle.region_model.specs.Answers.{Answers, AreSides}
use Rattle.region_model.specs.LineCommands as model
use Rattle.region_model.specs.LineCommands.{clipped_path, erased_path, on_left, on_right, side_of_first}
use Rattle.line_laws.specs.Linked.{AreLinked, AreThere, points_along}
use Rattle.line_laws.specs.Lines.{AreLabelled, LeftSideIn, TestsInside, goes_inside, goes_outside, steps_of_run}
use Rattle.line_laws.specs.Regions.{AreFacesOf, HasFacesOf, IsToldOf, PathsCutByRegions, PointsCutByRegions, SetsAreHolders}
use Rattle.line_laws.proofs.LinkedArcs.{joined_long}
use Rattle.line_laws.proofs.LinkSides.{drawings_are_labelled, left_off, right_off, sides_of_arcs}
use Rattle.line_laws.proofs.PathRuns.{cut_runs, link_along}
use Rattle.line_laws.proofs.PointRuns.{path_along, path_is_along, runs_alike, runs_of_points}
use Rattle.line_laws.proofs.RunPieces.{map_alike}
use Rattle.line_laws.proofs.RunSteps.{linked_steps, runs_linked, steps_along}
use Rattle.line_laws.proofs.SourcePoints.{inside_alike, off_links}

-- ---- the points of a set are those of its region

module _ (d : Drawing) (label : Place → ℕ) (set : List ℕ) (R : Points) (follows : HasFacesOf (links_of (snapped d)) label set R) where
  abbrev S : List Segment
  S = links_of (snapped d)

  pub points_same : (z : RationalPoint) → IsOffLinks (links_of (snapped d)) z → PointsOf (links_of (snapped d)) label set z ↔ R z
  points_same z off =
      let (a, here) = place_exists S (snapped_links_are_an_arrangement d).0 z in
      off_links S label set R z off a here (λ b at_b. (λ c. (follows z off b at_b).1 c, λ r. (follows z off b at_b).0 r))

  -- so both have the same sides of links
  pub side_same : (b : Bool) (l : Segment) → ((z : RationalPoint) × SeesSide (links_of (snapped d)) b l z × PointsOf (links_of (snapped d)) label set z) ↔ ((z : RationalPoint) × SeesSide (links_of (snapped d)) b l z × R z)
  side_same true l = (
    λ h. let (z, sees, held) = h in (z, sees, (points_same z (left_off S l z sees.0 sees.1)).0 held),
    λ h. let (z, sees, held) = h in (z, sees, (points_same z (left_off S l z sees.0 sees.1)).1 held),
  )
  side_same false l = (
    λ h. let (z, sees, held) = h in (z, sees, (points_same z (right_off S l z sees.0 sees.1)).0 held),
    λ h. let (z, sees, held) = h in (z, sees, (points_same z (right_off S l z sees.0 sees.1)).1 held),
  )

  -- and what tells the sides of the region tells what is inside the set
  pub inside_told : (left right : Segment → Bool) → AreSides (links_of (snapped d)) R left right → TestsInside (links_of (snapped d)) (PointsOf (links_of (snapped d)) label set) (λ (l : Segment). left l || right l)
  inside_told left right told l c = (
    λ e. elim (or_cases (left l) (right l) e) [
      | inl i ↦ inl ((side_same true l).1 ((told.left_side l c).0 i))
      | inr i ↦ inr ((side_same false l).1 ((told.right_side l c).0 i))
    ],
    λ s. elim s [
      | inl i ↦ or_left (left l) (right l) ((told.left_side l c).1 ((side_same true l).0 i))
      | inr i ↦ or_right (left l) (right l) ((told.right_side l c).1 ((side_same false l).0 i))
    ],
  )

-- ---- the sides of a step, as the model of regions asks for them

or_flips : (a b : Bool) → (a || b) ≡ (b || a)
or_flips true true = refl
or_flips true false = refl
or_flips false true = refl
or_flips false false = refl

module _ (A : Answers) (r : Region) where
  abbrev told : Segment → Bool
  told l = A.left r l || A.right r l

  step_inside : (s : Segment) → IsBefore (link_between s).start (link_between s).stop → goes_inside (λ (l : Segment). A.left r l || A.right r l) s ≡ model.is_inside A r s
  step_inside s moves = go (is_before s.start s.stop) (is_before s.stop s.start) refl refl moves
    where
      go : (b c : Bool) → is_before s.start s.stop ≡ b → is_before s.stop s.start ≡ c → IsBefore (cond b s (reversed s)).start (cond b s (reversed s)).stop →
          told (cond b s (reversed s)) ≡ (cond b (A.left r s) (A.right r (reversed s)) || cond c (A.left r (reversed s)) (A.right r s))
      go true true e f m = absurd (is_before-IsStrictOrder.irreflexive s.start (is_before-IsStrictOrder.trans s.start s.stop s.start e f))
      go true false e f m = refl
      go false true e f m = or_flips (A.left r (reversed s)) (A.right r (reversed s))
      go false false e f m = clash (is_before s.stop s.start) (before_to s.stop s.start m) f

-- ---- paths

linked_points : (arcs : List Path) (run : List SignedArc) → AreLinked arcs run → joined_points arcs run ≡ path_along (steps_of_run arcs run)
linked_points arcs [] h = refl
linked_points arcs (a ∷ rest) h = sym (path_is_along (joined_points arcs (a ∷ rest)) (joined_long arcs a rest h))

runs_as_points : (arcs : List Path) (test : SignedArc → Bool) (named : List SignedArc) → AreLinked arcs named → points_along arcs (runs_where test named) ≡ map path_along (map (steps_of_run arcs) (runs_where test named))
runs_as_points arcs test named linked =
    map_alike (joined_points arcs) (λ (run : List SignedArc). path_along (steps_of_run arcs run)) (runs_where test named)
    (All-weaker (AreLinked arcs) (λ run. joined_points arcs run ≡ path_along (steps_of_run arcs run)) (linked_points arcs) (runs_where test named) (runs_linked arcs test named [] linked))
    ∙ sym (map-map path_along (steps_of_run arcs) (runs_where test named))

module _ (d : Drawing) (arcs : List Path) (faces : FaceTable) (label : Place → ℕ) (on : AreFacesOf d arcs faces label) (A : Answers) (set : List ℕ) (r : Region) (tell : IsToldOf d arcs label A set r) where
  labelled : AreLabelled (links_of (snapped d)) arcs faces label
  labelled = drawings_are_labelled d arcs on.table faces on.built label on.by_face

  module _ (named : List SignedArc) (there : AreThere arcs named) (linked : AreLinked arcs named) where
    abbrev path : Path
    path = joined_points arcs named

    same : (s : Segment) → Contains (steps (joined_points arcs named)) s → goes_inside (told A r) s ≡ model.is_inside A r s
    same s c =
        let along : Contains (flat_map (steps_along arcs) named) s = subst (λ (ss : List Segment). Contains ss s) (linked_steps arcs named linked) c in
        let (a, in_named, along_a) = flat_map-Contains (steps_along arcs) named s along in
        let below : a.arc < length arcs = All-contains (λ (b : SignedArc). b.arc < length arcs) named a there in_named in
        let on_link = (link_along (links_of (snapped d)) labelled.arrangement arcs labelled.long labelled.along a s below along_a).1 in
        step_inside A r s (All-contains (λ l. IsBefore l.start l.stop) (links_of (snapped d)) (link_between s) labelled.arrangement.ordered on_link)

    pub path_cut : (points_along arcs (runs_where (sides.is_inside faces set) named) ≡ clipped_path A r (joined_points arcs named))
        × (points_along arcs (runs_where (sides.is_outside faces set) named) ≡ erased_path A r (joined_points arcs named))
    path_cut =
        let cut = cut_runs (links_of (snapped d)) arcs faces label labelled set path named there (linked_steps arcs named linked) in
        let tests = inside_told d label set (Has (snapped d) arcs r) tell.follows (A.left r) (A.right r) tell.sides in (
          runs_as_points arcs (sides.is_inside faces set) named linked
              ∙ ap (λ (runs : List (List Segment)). map path_along runs) (cut.clipped (told A r) tests ∙ runs_alike (goes_inside (told A r)) (model.is_inside A r) (steps path) [] same)
              ∙ runs_of_points (model.is_inside A r) path,
          runs_as_points arcs (sides.is_outside faces set) named linked
              ∙ ap (λ (runs : List (List Segment)). map path_along runs) (cut.erased (told A r) tests ∙ runs_alike (goes_outside (told A r)) (λ (s : Segment). not (model.is_inside A r s)) (steps path) [] (λ s c. ap not (same s c)))
              ∙ runs_of_points (λ (s : Segment). not (model.is_inside A r s)) path,
        )

-- paths that are cut one by one
each_cut : (cut : List SignedArc → List (List SignedArc)) (join : List SignedArc → Path) (left : Path → List Path) (paths : List (List SignedArc)) → ((path : List SignedArc) → Contains paths path → map join (cut path) ≡ left (join path)) →
    map join (flat_map cut paths) ≡ flat_map left (map join paths)
each_cut cut join left [] h = refl
each_cut cut join left (path ∷ paths) h =
    map-append join (cut path) (flat_map cut paths) ∙ (λ i. h path (Contains-head path paths) i ++ each_cut cut join left paths (λ p c. h p (Contains-later path paths p c)) i)

pub paths_cut_by_regions : PathsCutByRegions
paths_cut_by_regions d arcs faces label on A set r tell paths there linked = (
  each_cut (runs_where (sides.is_inside faces set)) (joined_points arcs) (clipped_path A r) paths (λ path c. (one path c).0),
  each_cut (runs_where (sides.is_outside faces set)) (joined_points arcs) (erased_path A r) paths (λ path c. (one path c).1),
)
  where
    one : (path : List SignedArc) → Contains paths path →
        (points_along arcs (runs_where (sides.is_inside faces set) path) ≡ clipped_path A r (joined_points arcs path))
        × (points_along arcs (runs_where (sides.is_outside faces set) path) ≡ erased_path A r (joined_points arcs path))
    one path c = path_cut d arcs faces label on A set r tell path (All-contains (AreThere arcs) paths path there c) (All-contains (AreLinked arcs) paths path linked c)

-- ---- points

answers_are : {X : Type 0} (R : X → Bool → Type 0) (told : X → Bool) (xs : List X) (answers : List Bool) → ((x : X) → Contains xs x → (b : Bool) → R x b → b ≡ told x) → AllZip R xs answers → answers ≡ map told xs
answers_are R told [] [] one h = refl
answers_are R told [] (b ∷ answers) one h = absurd h
answers_are R told (x ∷ xs) [] one h = absurd h
answers_are R told (x ∷ xs) (b ∷ answers) one h = λ i. one x (Contains-head x xs) b h.0 i ∷ answers_are R told xs answers (λ y c. one y (Contains-later x xs y c)) h.1 i

pub points_cut_by_regions : PointsCutByRegions
points_cut_by_regions d arcs faces label on A set r follows right points vertices answers each =
    answers_are (λ p inside. IsInsideAt arcs faces p set inside) (A.inside r) points answers one each
  where
    one : (p : GridPoint) → Contains points p → (inside : Bool) → IsInsideAt arcs faces p set inside → inside ≡ A.inside r p
    one p c inside is =
        let vertex : Contains (vertices_of (snapped d)) p = All-contains (Contains (vertices_of (snapped d))) points p vertices c in
        let answered = vertices_of_a_drawing d arcs on.table.long on.table.links on.table.whole faces on.built label on.by_face set p vertex inside is in
        let alike = inside_alike (links_of (snapped d)) (PointsOf (links_of (snapped d)) label set) (Has (snapped d) arcs r) (points_same d label set (Has (snapped d) arcs r) follows) p in
        both_ways inside (A.inside r p) (λ e. (right p vertex).1 (alike.0 (answered.0 e))) (λ e. answered.1 (alike.1 ((right p vertex).0 e)))

-- ---- the two sides of arcs

-- a path begins with a step
record Begins (path : Path) : Type 0 where
  step : Segment
  some : 0 < length (steps path)
  is : get_or (steps path) 0 step ≡ step
  first : (side : Segment → Bool) → side_of_first side path ≡ side step

begins : (path : Path) → 1 < length path → Begins path
begins [] l = absurd (omega arith)
begins (p ∷ []) l = absurd (omega arith)
begins (p ∷ q ∷ rest) l = record { step = record { start = p; stop = q }; some = omega arith; is = refl; first = λ side. refl }

module _ (d : Drawing) (arcs : List Path) (faces : FaceTable) (label : Place → ℕ) (on : AreFacesOf d arcs faces label) (A : Answers) (n : ℕ) (below : n < length arcs) where
  abbrev P : Segment → Type 0
  P l = Contains (links_of (snapped d)) l

  arc_begins : Begins (get_or arcs n [])
  arc_begins = begins (get_or arcs n []) (on.table.long n [] below)

  module _ (set : List ℕ) (r : Region) (tell : IsToldOf d arcs label A set r) where
    abbrev R : Points
    R = Has (snapped d) arcs r

    abbrev s : Segment
    s = arc_begins.step

    moving : Contains (links_of (snapped d)) (link_between arc_begins.step)
    moving = (link_along (links_of (snapped d)) on.table.arrangement arcs on.table.long on.table.links (forward n) arc_begins.step below (0, arc_begins.some, arc_begins.is)).1

    -- the left and the right side of the step
    left_told : (b : Bool) → P (cond b s (reversed s)) → (cond b (A.left r s) (A.right r (reversed s)) ≡ true) ↔ ((z : RationalPoint) × SeesSide (links_of (snapped d)) b (cond b s (reversed s)) z × R z)
    left_told true c = tell.sides.left_side s c
    left_told false c = tell.sides.right_side (reversed s) c

    right_told : (b c : Bool) → is_before s.start s.stop ≡ b → is_before s.stop s.start ≡ c → IsBefore (cond b s (reversed s)).start (cond b s (reversed s)).stop → P (cond b s (reversed s)) →
        (cond c (A.left r (reversed s)) (A.right r s) ≡ true) ↔ ((z : RationalPoint) × SeesSide (links_of (snapped d)) (not b) (cond b s (reversed s)) z × R z)
    right_told true true e f m p = absurd (is_before-IsStrictOrder.irreflexive s.start (is_before-IsStrictOrder.trans s.start s.stop s.start e f))
    right_told true false e f m p = tell.sides.right_side s p
    right_told false true e f m p = tell.sides.left_side (reversed s) p
    right_told false false e f m p = clash (is_before s.stop s.start) (before_to s.stop s.start m) f

    -- what the set has beside the arc
    beside : (LeftSideIn (links_of (snapped d)) (PointsOf (links_of (snapped d)) label set) (dart_of_step s) ↔ Contains set (sides.left_of faces (forward n)))
        × (LeftSideIn (links_of (snapped d)) (PointsOf (links_of (snapped d)) label set) (opposite (dart_of_step s)) ↔ Contains set (sides.right_of faces (forward n)))
    beside =
        let many = length-map (steps (get_or arcs n [])) dart_of_step in
        let some = arc_begins.some in
        let e : Dart = dart_of_step s in
        let is : get_or (darts_of_path (get_or arcs n [])) 0 e ≡ dart_of_step s = get_or-map dart_of_step (steps (get_or arcs n [])) 0 s e some ∙ ap dart_of_step arc_begins.is in
        subst (λ (x : Dart). (LeftSideIn (links_of (snapped d)) (PointsOf (links_of (snapped d)) label set) x ↔ Contains set (sides.left_of faces (forward n))) × (LeftSideIn (links_of (snapped d)) (PointsOf (links_of (snapped d)) label set) (opposite x) ↔ Contains set (sides.right_of faces (forward n)))) is
        (sides_of_arcs (links_of (snapped d)) arcs faces label (drawings_are_labelled d arcs on.table faces on.built label on.by_face) set (forward n) below 0 e (omega arith))

    pub left_holds : has nat_eq set (sides.left_of faces (forward n)) ≡ side_of_first (on_left A r) (get_or arcs n [])
    left_holds =
        let f : ℕ = sides.left_of faces (forward n) in
        let tells = left_told (is_before s.start s.stop) moving in
        let alike = side_same d label set R tell.follows (is_before s.start s.stop) (link_between s) in
        both_ways (has nat_eq set f) (on_left A r s)
        (λ e. tells.1 (alike.0 (beside.0.1 (has_Contains set f e))))
        (λ e. Contains_has set f (beside.0.0 (alike.1 (tells.0 e))))
        ∙ sym (arc_begins.first (on_left A r))

    pub right_holds : has nat_eq set (sides.right_of faces (forward n)) ≡ side_of_first (on_right A r) (get_or arcs n [])
    right_holds =
        let f : ℕ = sides.right_of faces (forward n) in
        let moves = All-contains (λ l. IsBefore l.start l.stop) (links_of (snapped d)) (link_between s) on.table.arrangement.ordered moving in
        let tells = right_told (is_before s.start s.stop) (is_before s.stop s.start) refl refl moves moving in
        let alike = side_same d label set R tell.follows (not (is_before s.start s.stop)) (link_between s) in
        both_ways (has nat_eq set f) (on_right A r s)
        (λ e. tells.1 (alike.0 (beside.1.1 (has_Contains set f e))))
        (λ e. Contains_has set f (beside.1.0 (alike.1 (tells.0 e))))
        ∙ sym (arc_begins.first (on_right A r))

pub sets_are_holders : SetsAreHolders
sets_are_holders d arcs faces label on A sets regions many tell n below = (
  numbers_alike 0 (λ (set : List ℕ). has nat_eq set (sides.left_of faces (forward n))) (λ (r : Region). side_of_first (on_left A r) (get_or arcs n [])) sets regions [] (any_of []) many
      (λ i l. left_holds d arcs faces label on A n below (get_or sets i []) (get_or regions i (any_of [])) (tell i l)),
  numbers_alike 0 (λ (set : List ℕ). has nat_eq set (sides.right_of faces (forward n))) (λ (r : Region). side_of_first (on_right A r) (get_or arcs n [])) sets regions [] (any_of []) many
      (λ i l. right_holds d arcs faces label on A n below (get_or sets i []) (get_or regions i (any_of [])) (tell i l)),
)
