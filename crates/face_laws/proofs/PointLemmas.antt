-- The face of a point in a table is that of its place.
use Rattle.std.proofs.Common.{◌≡◌, sym, ◌∙◌, ℕ, ◌<◌, List, [], length, get_or, All, Option, Some, None}
use Rattle.std.proofs.Math.Logic.{∥∥₁_elim}
use Rattle.std.proofs.Math.Nat.{ℕ_set}
use Rattle.std.proofs.Math.Bool.{Bool-set}
use Rattle.plane_model.specs.Points.{GridPoint, Segment, Path, at}
use Rattle.plane_model.specs.Arrangement.{IsArrangement}
use Rattle.plane_model.specs.Parity.{odd, links_of_paths}
use Rattle.plane_model.specs.Drawing.{Drawing}
use Rattle.plane_model.specs.Snapped.{links_of, snapped}
use Rattle.plane_snapping.proofs.SnappedLinks.{snapped_links_are_an_arrangement}
use Rattle.plane_faces.specs.Places.{Place, IsPlaceOf}
use Rattle.arc_table.specs.WholeArcs.{IsWholeArc}
use Rattle.plane_faces.proofs.Classes as classes
use Rattle.arc_table.specs.Along.{GoAlong}
use Rattle.face_walk.specs.Places.{FaceTable, IsFaceOver}
use Rattle.face_walk.specs.Rays.{AreLinksOf, IsTopmostBelow, place_met}
use Rattle.link_search.specs.declared.links.ArcLink.{ArcLink}
use Rattle.face_laws.specs.Faces.{AreFreeInside, IsFaceOfPlace, PointsHaveOneFace, PointsOfADrawing}
use Rattle.face_laws.proofs.ClassLemmas.{faces_are_classes}
use Rattle.face_laws.proofs.DrawnLemmas.{left_of_link, place_of_met, place_to}
use Rattle.face_laws.proofs.LabelLemmas.{each_table_has_labels}

module _ (S : List Segment) (arr : IsArrangement S) (arcs : List Path) (long : All (λ arc. 1 < length arc) arcs) (along : GoAlong S arcs) (faces : FaceTable) (all : AreLinksOf arcs faces.links)
    (label : Place → ℕ) (by : IsFaceOfPlace arcs faces label) where
  pub face_of_point : (p : GridPoint) (f : ℕ) → IsFaceOver faces p f → (a : Place) × IsPlaceOf S (at p) a × (label a ≡ f)
  face_of_point p f over = (
    place_of_met arcs faces.links all S arr long along over.met,
    place_to arcs faces.links all S arr long along p over.met over.is_met,
    go over.met over.is_met ∙ sym over.face,
  )
    where
      go : (o : Option ArcLink) → IsTopmostBelow faces.links p o → label (place_of_met arcs faces.links all S arr long along o) ≡ get_or faces.places (place_met o) 0
      go None t = by.outside_all
      go (Some l) t = left_of_link arcs faces.links all (λ n. get_or faces.places n 0) label by l t.there

pub points_have_one_face : PointsHaveOneFace
points_have_one_face S arr distinct arcs long along free faces built p q f g over_p over_q =
    let (label, by) = each_table_has_labels S arr arcs along faces in
    let labelling = faces_are_classes S arr arcs long along free faces built label by in (
      λ e runs closed.
          ∥∥₁_elim built.all_links (Bool-set (odd (links_of_paths runs) (at p)) (odd (links_of_paths runs) (at q)))
          (λ all.
          let (a, at_p, is_f) = face_of_point S arr arcs long along faces all label by p f over_p in
          let (b, at_q, is_g) = face_of_point S arr arcs long along faces all label by q g over_q in
          (classes.labels_are_faces S arr distinct label labelling (at p) (at q) a b at_p at_q).0 (is_f ∙ e ∙ sym is_g) runs closed),
      λ one.
          ∥∥₁_elim built.all_links (ℕ_set f g)
          (λ all.
          let (a, at_p, is_f) = face_of_point S arr arcs long along faces all label by p f over_p in
          let (b, at_q, is_g) = face_of_point S arr arcs long along faces all label by q g over_q in
          sym is_f ∙ (classes.labels_are_faces S arr distinct label labelling (at p) (at q) a b at_p at_q).1 one ∙ is_g),
    )

-- no vertex inside a whole arc has more links than two
pub whole_are_free : (d : Drawing) (arcs : List Path) → All (IsWholeArc d) arcs → AreFreeInside (links_of d) arcs
whole_are_free d arcs whole n k l some last = let two = ((whole n [] l).inner k some last).two in (two.one, two.another, two.only)

pub points_of_a_drawing : PointsOfADrawing
points_of_a_drawing d arcs long along whole =
    let s = snapped_links_are_an_arrangement d in
    points_have_one_face (links_of (snapped d)) s.0 s.1 arcs long along (whole_are_free (snapped d) arcs whole)
