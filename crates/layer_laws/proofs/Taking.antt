-- Features that are taken by their numbers.
use Rattle.std.proofs.Common.{◌≡◌, sym, ap, ◌∙◌, subst, ℕ, ◌<◌, List, length, map, All}
use Rattle.std.specs.List.{AllZip}
use Rattle.grid_base.specs.declared.kinds.Kind.{Kind}
use Rattle.json_values.specs.Table.{TableContent}
use Rattle.table_rows.specs.Rows.{take_rows}
use Rattle.run_plane.specs.Shapes.{shape_at}
use Rattle.run_plane.specs.declared.layer.Layer.{Layer}
use Rattle.run_plane.specs.declared.layer.Shape.{Shape}
use Rattle.run_plane.specs.declared.layer.Shape.TheVariants as shape
use Rattle.run_state.specs.Features.{HasRows}
use Rattle.chain_model.specs.State as state
use Rattle.chain_model.specs.State.{StateLayer}
use Rattle.layer_laws.specs.Shown.{View, LayerShows, ShapeShows}
use Rattle.layer_laws.specs.Taken.{AreFeatures, TakenFeaturesShow}
use Rattle.layer_laws.proofs.Zipped.{zip_taken}

-- other shapes in a layer of the same kind
pub shapes_in : (v : View) (layer made : Layer) (parts : List Shape) (shapes : List state.Shape) → AllZip (ShapeShows v layer.kind) parts shapes → made.kind ≡ layer.kind → made.shapes.items ≡ parts →
    AllZip (ShapeShows v made.kind) made.shapes.items shapes
shapes_in v layer made parts shapes shows kind are =
    subst (λ (k : Kind). AllZip (ShapeShows v k) made.shapes.items shapes) (sym kind) (subst (λ (held : List Shape). AllZip (ShapeShows v layer.kind) held shapes) (sym are) shows)

-- rows and shapes that are taken
pub rows_show : (v : View) (layer : Layer) (l : StateLayer) → LayerShows v layer l → (numbers : List ℕ) (parts : List Shape) (shapes : List state.Shape) → AllZip (ShapeShows v layer.kind) parts shapes →
    (made : Layer) → HasRows layer numbers parts made → LayerShows v made (record l { table = take_rows l.table numbers; shapes = shapes })
rows_show v layer l h numbers parts shapes shows made has = record {
  name = h.name ∙ sym has.name;
  kind = h.kind ∙ sym has.kind;
  table = ap (λ (t : TableContent). take_rows t numbers) h.table ∙ sym has.table;
  shapes = shapes_in v layer made parts shapes shows has.kind has.shapes;
}

-- the numbers of features are those of shapes
pub below_shapes : (layer : Layer) (numbers : List ℕ) → AreFeatures layer numbers → All (λ n. n < length layer.shapes.items) numbers
below_shapes layer numbers below = subst (λ (c : ℕ). All (λ n. n < c) numbers) (sym layer.each) below

pub taken_shapes : (v : View) (layer : Layer) (l : StateLayer) → LayerShows v layer l → (numbers : List ℕ) → AreFeatures layer numbers →
    AllZip (ShapeShows v layer.kind) (map (shape_at layer.shapes.items) numbers) (map (state.shape_at l) numbers)
taken_shapes v layer l h numbers below = zip_taken (ShapeShows v layer.kind) layer.shapes.items l.shapes h.shapes shape.Nothing state.no_shape numbers (below_shapes layer numbers below)

pub taken_features_show : TakenFeaturesShow
taken_features_show v layer l h numbers below made takes =
    rows_show v layer l h numbers (map (shape_at layer.shapes.items) numbers) (map (state.shape_at l) numbers) (taken_shapes v layer l h numbers below) made takes
