-- Laws of features: those that are taken by their numbers, and those that have a geometry.
use Rattle.std.specs.Prelude.{◌≡◌, ℕ, ◌<◌, List, All, length}
use Rattle.std.specs.List.{AllZip}
use Rattle.grid_base.specs.declared.kinds.Kind.{Kind}
use Rattle.run_plane.specs.Shapes.{is_empty}
use Rattle.run_plane.specs.declared.layer.Layer.{Layer}
use Rattle.run_plane.specs.declared.layer.Shape.{Shape}
use Rattle.run_state.specs.Features.{LeavesOut, TakesFeatures}
use Rattle.chain_model.specs.State as state
use Rattle.chain_model.specs.State.{StateLayer, is_empty_shape, take_features, without_empty}
use Rattle.layer_laws.specs.Shown.{View, IsView, LayerShows, ShapeShows, plane_of}

-- the numbers are those of features of the layer
abbrev pub AreFeatures : Layer → List ℕ → Type 0
AreFeatures layer numbers = All (λ n. n < length layer.table.rows) numbers

-- features that are taken show those that are taken of the state's layer
abbrev pub TakenFeaturesShow : Type 0
TakenFeaturesShow = (v : View) (layer : Layer) (l : StateLayer) → LayerShows v layer l → (numbers : List ℕ) → AreFeatures layer numbers → (made : Layer) → TakesFeatures layer numbers made → LayerShows v made (take_features l numbers)

-- a shape is empty exactly if the shape that it shows is
abbrev pub EmptinessShows : Type 0
EmptinessShows = (v : View) → IsView v → (k : Kind) (held : Shape) (s : state.Shape) → ShapeShows v k held s → is_empty held ≡ is_empty_shape (plane_of v) v.answers s

-- a layer with other shapes, whose empty ones are left out, shows what is left of the state's
abbrev pub LeftFeaturesShow : Type 0
LeftFeaturesShow = (v : View) → IsView v → (layer : Layer) (l : StateLayer) → LayerShows v layer l → (parts : List Shape) (shapes : List state.Shape) → length parts ≡ length layer.table.rows → AllZip (ShapeShows v layer.kind) parts shapes →
    (made : Layer) → LeavesOut layer parts made → LayerShows v made (without_empty (plane_of v) v.answers (record l { shapes = shapes }))
