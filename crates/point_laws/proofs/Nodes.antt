-- A node is inside a set exactly if some point of the set sees it.
use Rattle.std.proofs.Common.{◌≡◌, inl, inr, sym, ap, ◌∙◌, subst, ℕ, ◌<◌, Bool, true, List, length, get_or, All, Contains}
use Rattle.std.proofs.Math.Logic.{∥∥₁_elim}
use Rattle.std.proofs.Math.Nat.{ℕ_set}
use Rattle.plane_model.specs.Points.{GridPoint, Segment, Path}
use Rattle.plane_model.specs.Arcs.{SignedArc}
use Rattle.plane_model.specs.Arrangement.{IsArrangement, IsDistinct}
use Rattle.plane_model.specs.Rotation.{Dart, tail}
use Rattle.plane_model.specs.Sees.{SeesPoint}
use Rattle.plane_model.specs.Sides.{IsInside}
use Rattle.plane_model.specs.Snapped.{links_of, snapped}
use Rattle.plane_snapping.proofs.SnappedLinks.{snapped_links_are_an_arrangement}
use Rattle.plane_faces.specs.Places.{Place, left_of}
use Rattle.plane_faces.proofs.Order.{place_exists}
use Rattle.arc_table.specs.Along.{GoAlong}
use Rattle.arc_table.specs.Around.{first_step}
use Rattle.face_walk.specs.Places.{FaceTable, IsBuiltOf}
use Rattle.face_laws.specs.Faces.{AreFreeInside, IsFaceOfPlace}
use Rattle.face_laws.proofs.ClassLemmas.{faces_are_classes}
use Rattle.face_laws.proofs.DartLemmas.{step_head, step_tail}
use Rattle.face_laws.proofs.PointLemmas.{whole_are_free}
use Rattle.face_laws.proofs.SectorRows.{dart_of, dart_on, first_sides}
use Rattle.face_laws.proofs.StepLemmas.{IsInnerDart, alone_inside, none_starts_inside, they_meet, where_it_starts}
use Rattle.line_ops.specs.Inside as sides
use Rattle.line_ops.specs.Points.{IsInsideAt, IsNode, Leaves}
use Rattle.point_laws.specs.Sight.{PointsOf, NodesAreInside, NodesAreSeen, NodesOfADrawing, SeenNodesAreInside}
use Rattle.point_laws.proofs.Sectors.{seen_from_sectors}
use Rattle.point_laws.proofs.SeenSectors.{sectors_are_seen}

module _ (S : List Segment) (arr : IsArrangement S) (distinct : IsDistinct S) (arcs : List Path) (long : All (λ arc. 1 < length arc) arcs) (along : GoAlong S arcs) (free : AreFreeInside S arcs)
    (faces : FaceTable) (built : IsBuiltOf arcs faces) (label : Place → ℕ) (by : IsFaceOfPlace arcs faces label) (p : GridPoint) where
  -- the first dart of a signed arc has the left face of the arc for its label
  face_of_first : (b : SignedArc) → b.arc < length arcs → label (left_of (dart_of S arr arcs long along b)) ≡ sides.left_of faces b
  face_of_first b there =
      ∥∥₁_elim built.all_links (ℕ_set (label (left_of (dart_of S arr arcs long along b))) (sides.left_of faces b))
      (λ all. (first_sides S arr arcs long along faces.links all (λ n. get_or faces.places n 0) label by b there).0)

  -- a dart at a node begins a signed arc, whose left face is its label
  arc_of_dart : IsNode arcs p → (e : Dart) → Contains S e.link → tail e ≡ p → (b : SignedArc) × Leaves arcs p b × (label (left_of e) ≡ sides.left_of faces b)
  arc_of_dart node e there at_p = elim (where_it_starts arcs S arr long along e there) [
    | inl r ↦ (
        let (b, first) = r in (
          b,
          record { there = first.arc; start = sym (step_tail (first_step arcs b)) ∙ ap tail (sym first.dart) ∙ at_p },
          ap (λ (x : Dart). label (left_of x)) first.dart ∙ face_of_first b first.arc,
        ))
    | inr r ↦ (
        let (n, j, s, u, inner) = r in
        let (a, leaves) = node in
        absurd (none_starts_inside S arr arcs long along n j s u inner.before inner.after (alone_inside S arr arcs long along free n j s u inner.before inner.after) a leaves.there
        (leaves.start ∙ sym at_p ∙ starts_there n j s u inner)))
  ]
    where
      starts_there : (n j : ℕ) (s u : Segment) → IsInnerDart arcs n j s u e → tail e ≡ u.start
      starts_there n j s u inner = elim inner.dart [
        | inl f ↦ ap tail f ∙ step_tail u
        | inr f ↦ ap tail f ∙ step_head s ∙ they_meet arcs n j s u inner.before inner.after
      ]

  starts_at : (a : SignedArc) → Leaves arcs p a → tail (dart_of S arr arcs long along a) ≡ p
  starts_at a leaves = step_tail (first_step arcs a) ∙ leaves.start

  seen_then_inside : IsNode arcs p → (set : List ℕ) (inside : Bool) → IsInsideAt arcs faces p set inside → IsInside S (PointsOf S label set) p → inside ≡ true
  seen_then_inside node set inside is h =
      let (z, sees, held) = h in
      let (off_links, placed) = held in
      let (x, here, has_label) = placed in
      let (a, leaves) = node in
      let agrees = (faces_are_classes S arr arcs long along free faces built label by).agrees in
      let (e, there, at_start, same) = seen_from_sectors S arr distinct label agrees (dart_of S arr arcs long along a) (dart_on S arr arcs long along a leaves.there) z
      (subst (λ (g : GridPoint). SeesPoint S g z) (sym (starts_at a leaves)) sees) x here in
      let (b, leaves_too, face) = arc_of_dart node e there (at_start ∙ starts_at a leaves) in
      (is.at_node node).1 (b, leaves_too, subst (Contains set) (same ∙ face) has_label)

  inside_then_seen : IsNode arcs p → (set : List ℕ) (inside : Bool) → IsInsideAt arcs faces p set inside → inside ≡ true → IsInside S (PointsOf S label set) p
  inside_then_seen node set inside is e =
      let (b, leaves, has_face) = (is.at_node node).0 e in
      let agrees = (faces_are_classes S arr arcs long along free faces built label by).agrees in
      let (z, sees, off_links, labelled) = sectors_are_seen S arr distinct (dart_of S arr arcs long along b) (dart_on S arr arcs long along b leaves.there) in
      let (x, here) = place_exists S arr z in (
        z,
        subst (λ (g : GridPoint). SeesPoint S g z) (starts_at b leaves) sees,
        (off_links, (x, here, subst (Contains set) (sym (labelled label agrees x here ∙ face_of_first b leaves.there)) has_face)),
      )

pub seen_nodes_are_inside : SeenNodesAreInside
seen_nodes_are_inside S arr distinct arcs long along free faces built label by set p node inside is = seen_then_inside S arr distinct arcs long along free faces built label by p node set inside is

pub nodes_are_seen : NodesAreSeen
nodes_are_seen S arr distinct arcs long along free faces built label by set p node inside is = inside_then_seen S arr distinct arcs long along free faces built label by p node set inside is

pub nodes_are_inside : NodesAreInside
nodes_are_inside S arr distinct arcs long along free faces built label by set p node inside is = (
  inside_then_seen S arr distinct arcs long along free faces built label by p node set inside is,
  seen_then_inside S arr distinct arcs long along free faces built label by p node set inside is,
)

pub nodes_of_a_drawing : NodesOfADrawing
nodes_of_a_drawing d arcs long along whole faces built label by set p node inside is =
    let s = snapped_links_are_an_arrangement d in
    nodes_are_inside (links_of (snapped d)) s.0 s.1 arcs long along (whole_are_free (snapped d) arcs whole) faces built label by set p node inside is
