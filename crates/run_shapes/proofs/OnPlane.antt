-- Cuts, pieces and parts of shapes that lie on the plane lie on it.
use Rattle.std.proofs.Common.{ℕ, ◌<◌, List, [], ◌∷◌, All, length, map}
use Rattle.std.specs.List.{flat_map}
use Rattle.std.proofs.lemmas.List.Elements.{All-cons, All-filter, All-map, All-nil, All-weaker}
use Rattle.plane_model.specs.Arcs.{SignedArc}
use Rattle.plane_model.specs.Points.{GridPoint}
use Rattle.region_ops.specs.Items.{IsPart, IsPiece}
use Rattle.region_ops.specs.declared.item_lists.MosaicItem.{MosaicItem}
use Rattle.region_ops.specs.declared.item_lists.PartItem.{PartItem}
use Rattle.face_sets.specs.Sets.{IsInnerFace, IsSetOf}
use Rattle.run_plane.specs.OnPlane.{AreBelow, AreOn, IsOn}
use Rattle.run_plane.specs.declared.layer.Shape.{Shape}
use Rattle.run_plane.specs.declared.layer.Shape.TheVariants as shape
use Rattle.run_plane.specs.declared.plane.Plane.{Plane}
use Rattle.run_plane.proofs.OnPlane.{all_joined, sets_are_inner, sets_on}
use Rattle.run_state.specs.FaceSets.{face_shapes, sets_in}
use Rattle.run_shapes.specs.Cleaning.{piece_shape}
use Rattle.run_shapes.specs.Cutting.{cut_faces}
use Rattle.run_shapes.specs.Exploding.{one_path, one_point, part_shape, split_paths, split_points, split_shape}
use Rattle.run_shapes.specs.declared.cutting.CutKeeps.{CutKeeps}
use Rattle.run_shapes.specs.declared.cutting.CutKeeps.TheVariants as keeps

module _ (plane : Plane) where
  -- ---- sets

  -- what a cut leaves
  cut_inner : (k : CutKeeps) (cut_set set : List ℕ) → IsSetOf plane.faces set → IsSetOf plane.faces (cut_faces k cut_set set)
  cut_inner keeps.Inside cut_set set h = All-filter _ (IsInnerFace plane.faces) set h
  cut_inner keeps.Outside cut_set set h = All-filter _ (IsInnerFace plane.faces) set h

  pub cuts_on : (k : CutKeeps) (cut_set : List ℕ) (shapes : List Shape) → AreOn plane shapes → AreOn plane (face_shapes (map (cut_faces k cut_set) (sets_in shapes)))
  cuts_on k cut_set shapes on =
      sets_on plane (map (cut_faces k cut_set) (sets_in shapes))
      (All-map (IsSetOf plane.faces) (cut_faces k cut_set) (sets_in shapes) (All-weaker (IsSetOf plane.faces) (λ (set : List ℕ). IsSetOf plane.faces (cut_faces k cut_set set)) (cut_inner k cut_set) (sets_in shapes) (sets_are_inner plane shapes on)))

  -- pieces and parts
  pub pieces_on : (items : List MosaicItem) → All (IsPiece plane.faces) items → AreOn plane (map piece_shape items)
  pieces_on items h = All-map (IsOn plane) piece_shape items (All-weaker (IsPiece plane.faces) (λ (item : MosaicItem). IsSetOf plane.faces item.set) (λ item p. p.inner) items h)

  pub parts_on : (count : ℕ) (items : List PartItem) → All (IsPart plane.faces count) items → AreOn plane (map part_shape items)
  parts_on count items h = All-map (IsOn plane) part_shape items (All-weaker (IsPart plane.faces count) (λ (item : PartItem). IsSetOf plane.faces item.set) (λ item p. p.inner) items h)

  -- ---- shapes apart

  abbrev IsThere : SignedArc → Type 0
  IsThere a = a.arc < length plane.arcs

  path_on : (path : List SignedArc) → All IsThere path → IsOn plane (one_path path)
  path_on path h = All-cons (All IsThere) path [] h (All-nil (All IsThere))

  paths_apart : (paths : List (List SignedArc)) → AreBelow (length plane.arcs) paths → AreOn plane (split_paths paths)
  paths_apart [] h = All-cons (IsOn plane) (shape.Paths []) [] h (All-nil (IsOn plane))
  paths_apart (path ∷ paths) h = All-map (IsOn plane) one_path (path ∷ paths) (All-weaker (All IsThere) (λ (p : List SignedArc). IsOn plane (one_path p)) path_on (path ∷ paths) h)

  points_apart : (points : List GridPoint) → AreOn plane (split_points points)
  points_apart [] = All-cons (IsOn plane) (shape.Points []) [] tt (All-nil (IsOn plane))
  points_apart (p ∷ points) = All-map (IsOn plane) one_point (p ∷ points) (λ i d l. tt)

  shape_apart : (s : Shape) → IsOn plane s → AreOn plane (split_shape s)
  shape_apart shape.Nothing h = All-cons (IsOn plane) shape.Nothing [] tt (All-nil (IsOn plane))
  shape_apart (shape.Faces set) h = All-cons (IsOn plane) (shape.Faces set) [] h (All-nil (IsOn plane))
  shape_apart (shape.Paths paths) h = paths_apart paths h
  shape_apart (shape.Points points) h = points_apart points

  pub apart_on : (shapes : List Shape) → AreOn plane shapes → AreOn plane (flat_map split_shape shapes)
  apart_on shapes on = all_joined (IsOn plane) split_shape shapes (All-weaker (IsOn plane) (λ (s : Shape). AreOn plane (split_shape s)) shape_apart shapes on)
