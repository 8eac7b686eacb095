-- Traced polygons of a snapped drawing, and the points that they hold.
use Rattle.std.proofs.Common.{◌≡◌, sym, ap, ◌∙◌, subst, Bool, true, false, List, [], ◌∷◌, ◌++◌, map, length, get_or, nat_eq, All, AllPairs}
use Rattle.std.proofs.Math.Logic.{∥∥₁_elim}
use Rattle.std.proofs.Math.Bool.{Bool-set}
use Rattle.std.proofs.lemmas.List.Elements.{All-map}
use Rattle.lists.specs.Lists.{has}
use Rattle.plane_model.specs.Points.{RationalPoint, Segment, Path, at}
use Rattle.plane_model.specs.Arcs.{SignedArc}
use Rattle.plane_model.specs.Parity.{odd}
use Rattle.plane_model.specs.Snapped.{links_of, snapped}
use Rattle.plane_snapping.proofs.SnappedLinks.{snapped_links_are_an_arrangement}
use Rattle.plane_faces.specs.Places.{Place, IsPlaceOf}
use Rattle.plane_faces.specs.Rings.{IsPolygon, links_of_path}
use Rattle.face_walk.specs.Rays.{AreLinksOf}
use Rattle.face_laws.proofs.LabelLemmas.{each_table_has_labels}
use Rattle.face_laws.proofs.PointLemmas.{face_of_point, whole_are_free}
use Rattle.ring_trace.specs.Traced.{bounded}
use Rattle.ring_trace.specs.Turns.{MayStandBefore, round_of}
use Rattle.face_sets.proofs.BoundaryLemmas.{has_Contains, Contains_has}
use Rattle.part_laws.specs.Parts.{IsWithin, TracedPolygonsOfADrawing}
use Rattle.part_laws.proofs.TracedLaws.{all_back, nothing_before, split_map, traced_polygons_have_exteriors}

-- a point is within the rings just where f holds
module _ (arcs : List Path) (S : List Segment) (f : Place → Bool) (polygon : List (List SignedArc)) (pairs : AllPairs (MayStandBefore arcs) polygon) (h : IsPolygon S f (map (round_of arcs) polygon)) (z : RationalPoint) (a : Place) (place : IsPlaceOf S z a) where
  abbrev Outside : Path → Type 0
  Outside p = odd (links_of_path p) z ≡ false

  pub within : f a ≡ true → IsWithin arcs polygon z
  within e =
      let none = nothing_before arcs S f polygon pairs h in
      let (first, rest, is, first_is, rest_is) = split_map arcs polygon h.exterior h.after (h.are ∙ ap (λ (ps : List Path). ps ++ (h.exterior ∷ h.after)) none) in
      let (in_exterior, in_no_hole) = h.inside z a place e in
      subst (λ (ps : List (List SignedArc)). IsWithin arcs ps z) (sym is) (
        ap (λ (p : Path). odd (links_of_path p) z) first_is ∙ in_exterior,
        all_back arcs Outside rest (subst (λ (ps : List Path). All Outside ps) (ap (λ (ps : List Path). ps ++ h.after) none ∙ sym rest_is) in_no_hole),
      )

  pub without : IsWithin arcs polygon z → f a ≡ true
  without w =
      let none = nothing_before arcs S f polygon pairs h in
      let (first, rest, is, first_is, rest_is) = split_map arcs polygon h.exterior h.after (h.are ∙ ap (λ (ps : List Path). ps ++ (h.exterior ∷ h.after)) none) in
      let (in_exterior, in_no_hole) = subst (λ (ps : List (List SignedArc)). IsWithin arcs ps z) is w in
      h.held z a place (ap (λ (p : Path). odd (links_of_path p) z) (sym first_is) ∙ in_exterior)
      (subst (λ (ps : List Path). All Outside ps) (sym (ap (λ (ps : List Path). ps ++ h.after) none ∙ sym rest_is)) (All-map Outside (round_of arcs) rest in_no_hole))

pub traced_polygons_of_a_drawing : TracedPolygonsOfADrawing
traced_polygons_of_a_drawing d arcs long along whole faces built set inner parts are polygons below least simple pairs used k l =
    let s = snapped_links_are_an_arrangement d in
    let S = links_of (snapped d) in
    let (label, by) = each_table_has_labels S s.0 arcs along faces in
    let (first, polygon_is) = traced_polygons_have_exteriors S s.0 s.1 arcs long along (whole_are_free (snapped d) arcs whole) faces built label by set inner parts are polygons below least simple pairs used k l in
    let part = get_or (bounded faces.places (length arcs) parts) k [] in
    let polygon = get_or polygons k [] in
    let inside : Place → Bool = λ place. has nat_eq part (label place) in (
      first,
      λ p f over. (
        λ c.
            let e = Contains_has part f c in
            let there : AreLinksOf arcs faces.links → IsWithin arcs (first.exterior ∷ first.holes) (at p) =
            (λ all. let (a, at_p, is) = face_of_point S s.0 arcs long along faces all label by p f over in
            subst (λ (ps : List (List SignedArc)). IsWithin arcs ps (at p)) first.are (within arcs S inside polygon (pairs k [] l) polygon_is (at p) a at_p (ap (has nat_eq part) is ∙ e))) in
            subst (λ (ps : List (List SignedArc)). IsWithin arcs ps (at p)) (sym first.are) (
              ∥∥₁_elim built.all_links (Bool-set (odd (links_of_path (round_of arcs first.exterior)) (at p)) true) (λ all. (there all).0),
              λ i o m. ∥∥₁_elim built.all_links (Bool-set (odd (links_of_path (round_of arcs (get_or first.holes i o))) (at p)) false) (λ all. (there all).1 i o m),
            ),
        λ w.
            has_Contains part f (∥∥₁_elim built.all_links (Bool-set (has nat_eq part f) true) (λ all.
            let (a, at_p, is) = face_of_point S s.0 arcs long along faces all label by p f over in
            ap (has nat_eq part) (sym is) ∙ without arcs S inside polygon (pairs k [] l) polygon_is (at p) a at_p w)),
      ),
    )
