-- Sets of faces of shapes, and those that a cut is by.
use Rattle.std.specs.Prelude.{ℕ, Bool, MatchBool, nat_lt, List, [], map, slice_index_or, Result, Ok, Err}
use Rattle.std.specs.List.{flat_map}
use Rattle.lists.specs.Lists.{ascending}
use Rattle.job_terms.specs.declared.job.Origin.{Origin}
use Rattle.job_terms.specs.declared.job.Origin.TheVariants as origin
use Rattle.run_plane.specs.Shapes.{faces_in}
use Rattle.run_plane.specs.declared.layer.Layer.{Layer}
use Rattle.run_plane.specs.declared.layer.Shape.{Shape}
use Rattle.run_plane.specs.declared.layer.Shape.TheVariants as shape
use Rattle.run_state.specs.Features.{HasRows, LeavesOut, all_numbers}
use Rattle.run_state.specs.Origins.{Base, one_layer, origin_layers}
use Rattle.run_state.specs.declared.refusal.RefuseWhy.{RefuseWhy}
use Rattle.run_state.specs.declared.state.HeldLayer.{HeldLayer}

-- the faces of any of the shapes, ascending
abbrev pub any_faces : List Shape → List ℕ
any_faces shapes = ascending nat_lt (flat_map faces_in shapes)

-- those of any feature of a layer; none where there is no layer
abbrev pub layer_faces : Result Layer RefuseWhy → List ℕ
layer_faces (Ok layer) = any_faces layer.shapes.items
layer_faces (Err why) = []

-- the faces that a cut is by: those of any feature of its origin, or those in the box with this number, from 0
abbrev pub cut_set_of : Base → List HeldLayer → Origin → List ℕ
cut_set_of base layers (origin.Area n) = slice_index_or base.plane.boxes.items n []
cut_set_of base layers (origin.Layer name) = layer_faces (one_layer (origin_layers base.sources layers (origin.Layer name)))
cut_set_of base layers (origin.Source n) = layer_faces (one_layer (origin_layers base.sources layers (origin.Source n)))

-- for each shape its faces
abbrev pub sets_in : List Shape → List (List ℕ)
sets_in shapes = map faces_in shapes

-- a shape for each set
abbrev pub face_shapes : List (List ℕ) → List Shape
face_shapes sets = map shape.Faces sets

-- the features with these sets of faces; those without faces stay, or all of them go
abbrev pub HasSets : Bool → Layer → List (List ℕ) → Layer → Type 0
HasSets keeps_empty layer sets made = MatchBool keeps_empty (HasRows layer (all_numbers layer) (face_shapes sets) made) (LeavesOut layer (face_shapes sets) made)
