-- What a cut leaves of the features of a layer: what is in the cutting set of faces, or what is not.
use Rattle.std.specs.Prelude.{◌≡◌, ℕ, Bool, not, if◌then◌else◌, List, [], ◌∷◌, map}
use Rattle.std.specs.List.{AllZip, flat_map}
use Rattle.grid_base.specs.declared.kinds.Kind.{Kind}
use Rattle.grid_base.specs.declared.kinds.Kind.TheVariants as kinds
use Rattle.plane_model.specs.Points.{GridPoint}
use Rattle.plane_model.specs.Arcs.{SignedArc}
use Rattle.face_walk.specs.Places.{FaceTable}
use Rattle.region_ops.specs.Cut.{meet, minus}
use Rattle.line_ops.specs.Inside.{is_inside, is_outside}
use Rattle.line_ops.specs.Points.{IsInsideAt}
use Rattle.line_ops.specs.Runs.{runs_where}
use Rattle.run_state.specs.FaceSets.{sets_in, face_shapes}
use Rattle.run_state.specs.Features.{LeavesOut}
use Rattle.run_shapes.specs.declared.cutting.CutKeeps.{CutKeeps}
use Rattle.run_shapes.specs.declared.cutting.CutKeeps.TheVariants as keeps
use Rattle.run_plane.specs.declared.layer.Layer.{Layer}
use Rattle.run_plane.specs.declared.layer.Shape.{Shape}
use Rattle.run_plane.specs.declared.layer.Shape.TheVariants as shape
use Rattle.run_plane.specs.declared.plane.Plane.{Plane}

-- ---- polygons

-- of a set the faces that are in the cut set, or those that are not
abbrev pub cut_faces : CutKeeps → List ℕ → List ℕ → List ℕ
cut_faces keeps.Inside cut_set set = meet cut_set set
cut_faces keeps.Outside cut_set set = minus cut_set set

-- ---- lines

-- the arc is inside the cut set, or it is not
abbrev pub stays_along : CutKeeps → FaceTable → List ℕ → SignedArc → Bool
stays_along keeps.Inside faces cut_set a = is_inside faces cut_set a
stays_along keeps.Outside faces cut_set a = is_outside faces cut_set a

-- the maximal runs of such arcs of each path
abbrev pub cut_paths : CutKeeps → Plane → List ℕ → List (List SignedArc) → List (List SignedArc)
cut_paths k plane cut_set paths = flat_map (runs_where (stays_along k plane.faces cut_set)) paths

-- ---- points

-- the answer says whether the point is inside the cut set, or whether it is not
abbrev pub StaysAt : CutKeeps → Plane → List ℕ → GridPoint → Bool → Type 0
StaysAt keeps.Inside plane cut_set p stays = IsInsideAt plane.arcs plane.faces p cut_set stays
StaysAt keeps.Outside plane cut_set p stays = IsInsideAt plane.arcs plane.faces p cut_set (not stays)

-- those of the elements whose answer is true
abbrev pub chosen : {A : Type 0} → List A → List Bool → List A
chosen [] answers = []
chosen (x ∷ xs) [] = []
chosen (x ∷ xs) (b ∷ answers) = if b then x ∷ chosen xs answers else chosen xs answers

-- those of the points that stay
pub record ArePointsLeft (k : CutKeeps) (plane : Plane) (cut_set : List ℕ) (points left : List GridPoint) : Type 0 where
  pub answers : List Bool
  pub each : AllZip (StaysAt k plane cut_set) points answers
  pub are : left ≡ chosen points answers

-- ---- layers

-- what is left of a shape of lines or points
abbrev pub IsShapeLeft : CutKeeps → Plane → List ℕ → Shape → Shape → Type 0
IsShapeLeft k plane cut_set (shape.Points points) (shape.Points left) = ArePointsLeft k plane cut_set points left
IsShapeLeft k plane cut_set (shape.Points points) shape.Nothing = ⊥
IsShapeLeft k plane cut_set (shape.Points points) (shape.Faces set) = ⊥
IsShapeLeft k plane cut_set (shape.Points points) (shape.Paths paths) = ⊥
IsShapeLeft k plane cut_set (shape.Paths paths) left = left ≡ shape.Paths (cut_paths k plane cut_set paths)
IsShapeLeft k plane cut_set (shape.Faces set) left = left ≡ shape.Nothing
IsShapeLeft k plane cut_set shape.Nothing left = left ≡ shape.Nothing

-- what is left of the shapes of a layer of this kind
abbrev pub AreShapesLeft : Kind → CutKeeps → Plane → List ℕ → List Shape → List Shape → Type 0
AreShapesLeft kinds.Polygon k plane cut_set shapes left = left ≡ face_shapes (map (cut_faces k cut_set) (sets_in shapes))
AreShapesLeft kinds.Line k plane cut_set shapes left = AllZip (IsShapeLeft k plane cut_set) shapes left
AreShapesLeft kinds.Point k plane cut_set shapes left = AllZip (IsShapeLeft k plane cut_set) shapes left
AreShapesLeft kinds.Table k plane cut_set shapes left = AllZip (IsShapeLeft k plane cut_set) shapes left

-- the features with what is left of their shapes, without those that have no geometry then
pub record IsCut (k : CutKeeps) (plane : Plane) (cut_set : List ℕ) (layer made : Layer) : Type 0 where
  pub parts : List Shape
  pub are : AreShapesLeft layer.kind k plane cut_set layer.shapes.items parts
  pub left : LeavesOut layer parts made
