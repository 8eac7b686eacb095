-- Views of snapped drawings that are laid out.
use Rattle.std.proofs.Common.{◌≡◌, refl, sym, subst, arith, ℕ, Bool, true, List, Contains, length, get_or, nat_eq}
use Rattle.std.specs.Prelude.{◌↔◌}
use Rattle.std.specs.List.{range_with_len}
use Rattle.std.proofs.lemmas.List.Elements.{Contains-get_or}
use Rattle.std.proofs.lemmas.List.Kept.{IsStrictlyIncreasing-filter}
use Rattle.std.proofs.lemmas.Option.{get_or_from_slice_get}
use Rattle.lists.specs.Lists.{has}
use Rattle.lists.proofs.Members.{Contains-filter, filter-Contains}
use Rattle.plane_model.specs.Points.{GridPoint, Path}
use Rattle.plane_model.specs.Drawing.{Drawing, vertices_of}
use Rattle.plane_model.specs.Sides.{IsInside}
use Rattle.plane_model.specs.Snapped.{links_of, snapped}
use Rattle.plane_faces.specs.Places.{Place}
use Rattle.face_walk.specs.Crossings.{outer_of}
use Rattle.face_walk.specs.Holders.{AreHolders, HolderTable, list_at}
use Rattle.face_walk.specs.Places.{FaceTable}
use Rattle.face_sets.proofs.GapLemmas.{in_range, of_range}
use Rattle.face_laws.specs.Faces.{IsFaceOfPlace}
use Rattle.face_laws.proofs.LabelLemmas.{each_table_has_labels}
use Rattle.face_sets.specs.Sets.{IsSetOf}
use Rattle.face_sets.proofs.BoundaryLemmas.{Contains_has, has_Contains}
use Rattle.face_sets.proofs.SetLemmas.{from_ascending}
use Rattle.region_model.specs.Region.{Region, box, feature, Has}
use Rattle.region_model.specs.Answers.{Answers, AreRight}
use Rattle.region_laws.specs.Answered.{TellRegions, plane_with}
use Rattle.region_laws.specs.Followed.{HasFacesWith, IsWalked}
use Rattle.region_laws.specs.Regions.{Follows}
use Rattle.region_laws.proofs.Held.{boxes_are_followed, features_are_followed}
use Rattle.region_laws.proofs.MosaicTold.{rising_range}
use Rattle.region_laws.proofs.SetsExist.{HasSet, answers_exist, set_of, no_box, no_holder}
use Rattle.region_laws.proofs.Walked.{links_arranged}
use Rattle.line_laws.specs.Regions.{AreFacesOf}
use Rattle.line_laws.proofs.Insides.{insides_are_told}
use Rattle.run_plane.specs.LaidOut.{AreHeldFaces, held_faces}
use Rattle.layer_laws.specs.Shown.{View, IsView, FacesShow}
use Rattle.layer_laws.specs.Views.{IsViewOf, ShowEach, ViewsExist}

module _ (d : Drawing) (arcs : List Path) (faces : FaceTable) (label : Place → ℕ) (walked : IsWalked d arcs faces label) (labels : HolderTable) (held : AreHolders arcs (snapped d) faces labels) where
  -- ---- answers that are right of vertices too

  faces_of : AreFacesOf d arcs faces label
  faces_of = record { table = walked.table; built = walked.built; by_face = walked.labelled }

  inside_of : (r : Region) → (inside : GridPoint → Bool) × ((p : GridPoint) → Contains (vertices_of (snapped d)) p → (inside p ≡ true) ↔ IsInside (links_of (snapped d)) (Has (snapped d) arcs r) p)
  inside_of r =
      let h : HasSet d arcs faces label walked labels held r = set_of d arcs faces label walked labels held r in
      insides_are_told d arcs faces label faces_of h.set r h.follows

  right_answers : (A : Answers) × AreRight (plane_with d arcs) A
  right_answers = go (answers_exist d arcs faces label walked labels held (λ r. (inside_of r).0))
    where
      go : (A : Answers) × (A.inside ≡ (λ r. (inside_of r).0)) × TellRegions (plane_with d arcs) A → (A : Answers) × AreRight (plane_with d arcs) A
      go (A, same, told) = (
        A,
        record {
          sides = told.sides;
          inside = λ r p vertex. subst (λ (inside : Region → GridPoint → Bool). (inside r p ≡ true) ↔ IsInside (links_of (snapped d)) (Has (snapped d) arcs r) p) (sym same) ((inside_of r).1 p vertex);
          parts = told.parts;
          gaps = told.gaps;
        },
      )

  -- ---- what is held

  abbrev view_by : Answers → View
  view_by A = record { drawing = d; arcs = arcs; faces = faces; label = label; answers = A }

  module _ (A : Answers) (lists : List (List ℕ)) (n : ℕ) (free : Contains (list_at lists (outer_of faces)) n → ⊥) where
    abbrev has_it : ℕ → Bool
    has_it k = has nat_eq (list_at lists k) n

    held_with : HasFacesWith faces lists n (held_faces lists faces.count n)
    held_with k below = (
      λ c. has_Contains (list_at lists k) n (filter-Contains has_it (range_with_len 0 faces.count) k c).1,
      λ c. Contains-filter has_it (range_with_len 0 faces.count) k (in_range faces.count k below) (Contains_has (list_at lists k) n c),
    )

    held_inner : IsSetOf faces (held_faces lists faces.count n)
    held_inner i e l =
        let k : ℕ = get_or (held_faces lists faces.count n) i e in
        let (in_all, with_n) = filter-Contains has_it (range_with_len 0 faces.count) k (Contains-get_or (held_faces lists faces.count n) i e l) in
        record {
          there = of_range faces.count k in_all;
          not_outer = λ found. free (subst (λ (j : ℕ). Contains (list_at lists j) n) (sym (get_or_from_slice_get faces.places 0 k 0 found)) (has_Contains (list_at lists k) n with_n));
        }

    faces_show : (r : Region) → Follows (snapped d) arcs label (held_faces lists faces.count n) r → FacesShow (view_by A) (held_faces lists faces.count n) r
    faces_show r follows = record {
      rising = IsStrictlyIncreasing-filter has_it (range_with_len 0 faces.count) (from_ascending (range_with_len 0 faces.count) (rising_range 0 faces.count));
      inner = held_inner;
      follows = follows;
    }

  module _ (A : Answers) (count : ℕ) (sets : List (List ℕ)) where
    show_features : AreHeldFaces labels.holders faces.count count sets → ShowEach (view_by A) sets feature
    show_features h n below = subst (λ (set : List ℕ). FacesShow (view_by A) set (feature n)) (sym (h.held n (let each = h.each in omega (arith, each, below))))
        (faces_show A labels.holders n (no_holder d arcs faces label walked labels held n) (feature n) (features_are_followed d arcs faces label walked labels held n (held_faces labels.holders faces.count n) (held_with A labels.holders n (no_holder d arcs faces label walked labels held n))))

    show_boxes : AreHeldFaces labels.boxes faces.count count sets → ShowEach (view_by A) sets box
    show_boxes h n below = subst (λ (set : List ℕ). FacesShow (view_by A) set (box n)) (sym (h.held n (let each = h.each in omega (arith, each, below))))
        (faces_show A labels.boxes n (no_box d arcs faces label walked labels held n) (box n) (boxes_are_followed d arcs faces label walked labels held n (held_faces labels.boxes faces.count n) (held_with A labels.boxes n (no_box d arcs faces label walked labels held n))))

-- the faces of a view
pub view_faces : (v : View) → IsView v → AreFacesOf v.drawing v.arcs v.faces v.label
view_faces v view = record { table = view.walked.table; built = view.walked.built; by_face = view.walked.labelled }

pub views_exist : ViewsExist
views_exist d arcs faces boxes features laid = go (each_table_has_labels (links_of (snapped d)) (links_arranged d) arcs laid.are_arcs.links faces)
  where
    go : (label : Place → ℕ) × IsFaceOfPlace arcs faces label → (v : View) × IsViewOf d arcs faces boxes features v
    go (label, labelled) =
        let walked : IsWalked d arcs faces label = record { paths = laid.paths; table = laid.are_arcs; built = laid.are_faces; labelled = labelled } in
        let held = laid.held in
        let (A, right) = right_answers d arcs faces label walked held.labels held.are_holders in (
          record { drawing = d; arcs = arcs; faces = faces; label = label; answers = A },
          record {
            of_drawing = refl;
            of_arcs = refl;
            of_faces = refl;
            is_view = record { walked = walked; labels = held.labels; held = held.are_holders; right = right };
            of_features = show_features d arcs faces label walked held.labels held.are_holders A (length (snapped d).polygons) features held.of_features;
            of_boxes = show_boxes d arcs faces label walked held.labels held.are_holders A (length (snapped d).boxes) boxes held.of_boxes;
          },
        )
