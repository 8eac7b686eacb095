-- What lies on a plane: sets of its faces other than the outer one, and paths along its arcs.
use Rattle.std.specs.Prelude.{ℕ, ◌<◌, ⊤, All, List, length}
use Rattle.plane_model.specs.Arcs.{SignedArc}
use Rattle.face_sets.specs.Sets.{IsSetOf}
use Rattle.run_plane.specs.declared.layer.Layer.{Layer}
use Rattle.run_plane.specs.declared.layer.Shape.{Shape}
use Rattle.run_plane.specs.declared.layer.Shape.TheVariants as shape
use Rattle.run_plane.specs.declared.plane.Plane.{Plane}

-- all arcs of the paths are among the first n
abbrev pub AreBelow : ℕ → List (List SignedArc) → Type 0
AreBelow n paths = All (All (λ (a : SignedArc). a.arc < n)) paths

-- a shape is on the plane; points are, wherever they lie
abbrev pub IsOn : Plane → Shape → Type 0
IsOn plane shape.Nothing = ⊤
IsOn plane (shape.Faces set) = IsSetOf plane.faces set
IsOn plane (shape.Paths paths) = AreBelow (length plane.arcs) paths
IsOn plane (shape.Points points) = ⊤

-- all shapes are
abbrev pub AreOn : Plane → List Shape → Type 0
AreOn plane shapes = All (IsOn plane) shapes

-- those of a layer, those of several layers, and those of several lists of layers
abbrev pub IsLayerOn : Plane → Layer → Type 0
IsLayerOn plane layer = AreOn plane layer.shapes.items

abbrev pub AreLayersOn : Plane → List Layer → Type 0
AreLayersOn plane layers = All (IsLayerOn plane) layers

abbrev pub AreAllOn : Plane → List (List Layer) → Type 0
AreAllOn plane lists = All (AreLayersOn plane) lists
