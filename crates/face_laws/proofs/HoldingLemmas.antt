-- The polygons and the boxes in the lists of a face are those that hold its points.
use Rattle.std.proofs.Common.{◌≡◌, ◌≢◌, inl, inr, refl, sym, ap, subst, ◌∙◌, arith, ℕ, ◌<◌, ◌≤◌, true, false, Some, List, [], ◌∷◌, ◌++◌, All, Contains, length, get_or, map}
use Rattle.std.proofs.Math.Logic.{∥∥₁_elim}
use Rattle.std.proofs.Math.Bool.{Bool-set}
use Rattle.std.specs.Prelude.{slice_get}
use Rattle.std.specs.List.{flat_map}
use Rattle.std.specs.List.Sorted.{IsStrictlyIncreasing}
use Rattle.std.proofs.lemmas.Bool.{cases_lt}
use Rattle.std.proofs.lemmas.List.Elements.{All-contains, Contains-append_left, Contains-append_right, Contains-get_or}
use Rattle.std.proofs.lemmas.Option.{get_or_from_slice_get, slice_get-get_or, slice_get_within}
use Rattle.plane_faces.proofs.FaceLaws.{place_beside}
use Rattle.lists.specs.Lists.{joined_up}
use Rattle.lists.proofs.Ascending.{Contains-ascending}
use Rattle.lists.proofs.Members.{Contains-cases, Contains-nil, Contains-flat_map, Contains-joined_up, Contains-map, joined_up-Contains, map-Contains}
use Rattle.plane_model.specs.Points.{GridPoint, Segment, Path, at, link_between, link_before}
use Rattle.plane_model.specs.Drawing.{Drawing, paths_of, rings_of, steps, steps_of_paths}
use Rattle.plane_model.specs.Arrangement.{IsArrangement, IsDistinct}
use Rattle.plane_model.specs.EvenList.{IsEvenListOf}
use Rattle.plane_model.specs.Joined.{IsClosed, IsClosedRun}
use Rattle.plane_model.specs.Parity.{odd, links_of_paths, rings_hold}
use Rattle.plane_model.specs.Snapped.{links_of, snapped}
use Rattle.plane_model.proofs.PointOrder.{link_before-IsStrictOrder}
use Rattle.plane_snapping.proofs.SnappedLinks.{snapped_links_are_an_arrangement}
use Rattle.plane_parity.proofs.SnappedRings.{closed_runs_are_even_lists}
use Rattle.grid_base.specs.Drawn.{HasPaths, IsRing}
use Rattle.arc_table.specs.PathArcs.{AreArcsOf, IsDrawn}
use Rattle.face_walk.specs.Crossings.{AreCrossings, IsReached, LeaveNone, outer_of}
use Rattle.face_walk.specs.Holders.{AreHeldBy, list_at, stands_oddly}
use Rattle.face_walk.specs.Places.{FaceTable, IsBuiltOf, IsFaceOver}
use Rattle.face_walk.specs.RingSteps.{AreStepsOf}
use Rattle.face_walk.specs.declared.crossings.Crossing.{Crossing}
use Rattle.face_walk.specs.declared.ring_steps.RingStep.{RingStep}
use Rattle.face_walk.proofs.OddLemmas.{stands_once, stands_there}
use Rattle.face_laws.specs.Faces.{AreFreeInside}
use Rattle.face_laws.specs.Holders.{AreHeldAt, ItemsOfADrawing}
use Rattle.face_laws.proofs.ClassLemmas.{faces_are_classes}
use Rattle.face_laws.proofs.HolderLemmas.{each_reached, items_hold_by_parity}
use Rattle.face_laws.proofs.ItemLemmas.{none_along, steps_are_along}
use Rattle.face_laws.proofs.LabelLemmas.{each_table_has_labels}
use Rattle.face_laws.proofs.PointLemmas.{face_of_point, whole_are_free}

-- ---- the list of a face that is reached rises

pub rising_at : (steps : List RingStep) (outer : ℕ) (crossings : List Crossing) (held : List (List ℕ)) → AreHeldBy steps outer crossings held → (k f : ℕ) → IsReached outer crossings k f → IsStrictlyIncreasing (list_at held f)
rising_at steps outer crossings held lists k f (inl e) = subst (λ (xs : List ℕ). IsStrictlyIncreasing xs) (sym (ap (list_at held) e ∙ lists.outer_free)) (λ i l. absurd (omega arith))
rising_at steps outer crossings held lists k f (inr r) =
    let within = slice_get_within crossings r.0 r.1 r.3 in
    subst (λ (g : ℕ). IsStrictlyIncreasing (list_at held g)) (ap (λ (c : Crossing). c.into) (get_or_from_slice_get crossings r.0 r.1 r.1 r.3) ∙ r.4) (lists.across r.0 r.1 within).rising

-- what is asked of the rings of an item
pub record IsSound (s : Drawing) (paths : List Path) : Type 0 where
  pub drawn : All (λ path. (0 < length path) × IsClosed path × IsDrawn s path) paths
  pub even : IsEvenListOf (links_of s) (links_of_paths paths)

module _ (s : Drawing) (arr : IsArrangement (links_of s)) (distinct : IsDistinct (links_of s)) (arcs : List Path) (table : AreArcsOf s arcs) (faces : FaceTable) (built : IsBuiltOf arcs faces)
    (crossings : List Crossing) (are : AreCrossings faces crossings) (closed : LeaveNone faces crossings)
    (items : List (List Path)) (sound : (i : ℕ) (paths : List Path) → slice_get items i ≡ Some paths → IsSound s paths)
    (steps : List RingStep) (of_items : AreStepsOf arcs items steps) (held : List (List ℕ)) (lists : AreHeldBy steps (outer_of faces) crossings held)
    (p : GridPoint) (f : ℕ) (over : IsFaceOver faces p f) where
  free : AreFreeInside (links_of s) arcs
  free = whole_are_free s arcs table.whole

  there_is_odd : (i : ℕ) → Contains (list_at held f) i → stands_oddly (list_at held f) i ≡ true
  there_is_odd i c =
      let (label, by) = each_table_has_labels (links_of s) arr arcs table.links faces in
      let labelling = faces_are_classes (links_of s) arr arcs table.long table.links free faces built label by in
      ∥∥₁_elim built.all_links (Bool-set (stands_oddly (list_at held f) i) true)
      (λ all.
      let (a, at_p, is_f) = face_of_point (links_of s) arr arcs table.long table.links faces all label by p f over in
      let reached = each_reached (links_of s) arr distinct arcs table.long table.links faces built.places_counted label by labelling crossings are closed a (place_beside (links_of s) (at p) a at_p) in
      stands_once (list_at held f) (rising_at steps (outer_of faces) crossings held lists (length crossings) f (subst (IsReached (outer_of faces) crossings (length crossings)) is_f reached)) i c)

  pub held_at : AreHeldAt items (list_at held f) p
  held_at i = (to, from)
    where
      by_parity : (paths : List Path) → slice_get items i ≡ Some paths → stands_oddly (list_at held f) i ≡ odd (links_of_paths paths) (at p)
      by_parity paths found =
          let ok = sound i paths found in
          items_hold_by_parity (links_of s) arr distinct arcs table.long table.links free faces built crossings are closed steps held lists i (links_of_paths paths) ok.even
          (steps_are_along (links_of s) arr arcs table.long table.links s table items steps of_items i paths found ok.drawn) p f over

      past : length items ≤ i → stands_oddly (list_at held f) i ≡ false
      past l = items_hold_by_parity (links_of s) arr distinct arcs table.long table.links free faces built crossings are closed steps held lists i []
          (closed_runs_are_even_lists (links_of s) [] (λ k d m. absurd (omega arith))) (none_along arcs items steps of_items i l) p f over

      to : Contains (list_at held f) i → (paths : List Path) × (slice_get items i ≡ Some paths) × (rings_hold (at p) paths ≡ true)
      to c = elim (cases_lt i (length items)) [
        | inl less ↦ (let found = slice_get-get_or items i [] less in (get_or items i [], found, sym (by_parity (get_or items i []) found) ∙ there_is_odd i c))
        | inr more ↦ absurd (let e : true ≡ false = sym (there_is_odd i c) ∙ past more in cc)
      ]

      from : (paths : List Path) × (slice_get items i ≡ Some paths) × (rings_hold (at p) paths ≡ true) → Contains (list_at held f) i
      from (paths, found, holds) = stands_there (list_at held f) i (by_parity paths found ∙ holds)

-- ---- the rings of a drawing

run_of : (s : Drawing) (path : Path) → Contains (paths_of s) path → IsClosed path → IsClosedRun (links_of s) path
run_of s path c closed = record {
  closed = closed;
  along_links = λ k d l.
      (let all : List Segment = map link_between (steps path) in
      let (t, there, is) = map-Contains link_between (steps path) (get_or all k d) (Contains-get_or all k d l) in
      subst (Contains (links_of s)) is (Contains-ascending link_before link_before-IsStrictOrder (map link_between (steps_of_paths (paths_of s))) (link_between t)
      (Contains-map link_between (steps_of_paths (paths_of s)) t (Contains-flat_map steps (paths_of s) path t c there))));
}

not_empty : (path : Path) → path ≢ [] → 0 < length path
not_empty [] h = absurd (h refl)
not_empty (x ∷ path) h = omega arith

sound_from : (s : Drawing) (paths : List Path) → ((path : Path) → Contains paths path → IsRing path × Contains (flat_map rings_of s.polygons ++ s.boxes) path × Contains (paths_of s) path) → IsSound s paths
sound_from s paths h = record {
  drawn = λ k d l. (let (ring, is, all) = h (get_or paths k d) (Contains-get_or paths k d l) in (not_empty (get_or paths k d) ring.is_path.not_empty, ring.closed, inr (is, ring.closed)));
  even = closed_runs_are_even_lists (links_of s) paths (λ k d l. (let (ring, is, all) = h (get_or paths k d) (Contains-get_or paths k d l) in run_of s (get_or paths k d) all ring.closed));
}

found_there : {X : Type 0} (xs : List X) (i : ℕ) (x : X) → slice_get xs i ≡ Some x → Contains xs x
found_there xs i x e = (i, slice_get_within xs i x e, get_or_from_slice_get xs i x x e)

pub polygons_sound : (s : Drawing) → HasPaths s → (i : ℕ) (paths : List Path) → slice_get (joined_up s.polygons) i ≡ Some paths → IsSound s paths
polygons_sound s has i paths found =
    let (feature, in_all, in_feature) = joined_up-Contains s.polygons paths (found_there (joined_up s.polygons) i paths found) in
    sound_from s paths (λ path c.
    let there = Contains-flat_map rings_of s.polygons feature path in_all (Contains-joined_up feature paths path in_feature c) in (
      All-contains IsRing paths path (All-contains (All IsRing) feature paths (All-contains (All (All IsRing)) s.polygons feature has.rings in_all) in_feature) c,
      Contains-append_left (flat_map rings_of s.polygons) s.boxes path there,
      Contains-append_left (flat_map rings_of s.polygons ++ joined_up s.lines) s.boxes path (Contains-append_left (flat_map rings_of s.polygons) (joined_up s.lines) path there),
    ))

pub boxes_sound : (s : Drawing) → HasPaths s → (i : ℕ) (paths : List Path) → slice_get (map (λ (path : Path). path ∷ []) s.boxes) i ≡ Some paths → IsSound s paths
boxes_sound s has i paths found =
    let (box, there, is) = map-Contains (λ (path : Path). path ∷ []) s.boxes paths (found_there (map (λ (path : Path). path ∷ []) s.boxes) i paths found) in
    subst (IsSound s) is (sound_from s (box ∷ []) (λ path c.
    let same : box ≡ path = only box path c in
    subst (λ (q : Path). IsRing q × Contains (flat_map rings_of s.polygons ++ s.boxes) q × Contains (paths_of s) q) same
    (All-contains IsRing s.boxes box has.boxes there, Contains-append_right (flat_map rings_of s.polygons) s.boxes box there, Contains-append_right (flat_map rings_of s.polygons ++ joined_up s.lines) s.boxes box there)))
  where
    only : (x y : Path) → Contains (x ∷ []) y → x ≡ y
    only x y c = elim (Contains-cases x [] y c) [ inl e ↦ e | inr d ↦ Contains-nil y d ]

pub items_of_a_drawing : ItemsOfADrawing
items_of_a_drawing d has arcs table faces built labels h p f over =
    let s = snapped_links_are_an_arrangement d in (
      held_at (snapped d) s.0 s.1 arcs table faces built h.crossings h.crossed h.all (joined_up (snapped d).polygons) (polygons_sound (snapped d) has) h.polygon_steps h.of_polygons h.polygons h.held p f over,
      held_at (snapped d) s.0 s.1 arcs table faces built h.crossings h.crossed h.all (map (λ (path : Path). path ∷ []) (snapped d).boxes) (boxes_sound (snapped d) has) h.box_steps h.of_boxes labels.boxes h.boxed p f over,
    )
