-- Laws of commands on rows and columns: what a run makes of layers shows what the state's definitions make of those
-- that they show, and they are refused alike.
use Rattle.std.specs.Prelude.{◌≡◌, ℕ, Bool, List, [], ◌∷◌, All, map, Option, Result, Ok}
use Rattle.std.specs.List.{AllZip}
use Rattle.io_core.specs.Contents.{Content}
use Rattle.expr_lang.specs.Tree.{all_assigned, tree_of}
use Rattle.expr_lang.specs.declared.assign.Assign.{Assign}
use Rattle.expr_lang.specs.declared.expr.Expr.{Expr}
use Rattle.table_terms.specs.declared.renames.Rename.{Rename}
use Rattle.join_terms.specs.declared.joins.JoinSpec.{JoinSpec}
use Rattle.table_rows.specs.Columns.{keep_fields, rename_fields}
use Rattle.table_ops.specs.Join.{join_tables}
use Rattle.table_rows.specs.Splitting.{split_rows}
use Rattle.calc_ops.specs.EachRow.{each_rows}
use Rattle.calc_ops.specs.EarlyRows.{uniq_rows}
use Rattle.calc_ops.specs.KeyOrder.{sort_rows}
use Rattle.run_plane.specs.declared.layer.Layer.{Layer}
use Rattle.run_state.specs.Stops.{table_refusal}
use Rattle.run_tables.specs.Made.{GivesTable, IsFiltered, IsMerged, One, TakesNumbers, kept_numbers, refused_layers}
use Rattle.run_tables.specs.Pieces.{IsSplit}
use Rattle.chain_model.specs.Outcome.{RefuseWhy}
use Rattle.chain_model.specs.State.{StateLayer}
use Rattle.chain_model.specs.Features.{assign_layer, filter_fields_layer, filter_layer, join_layer, merged_layers, rename_fields_layer, sort_layer, split_layer, uniq_layer}
use Rattle.layer_laws.specs.Shown.{View, IsView, LayerShows, plane_of}
use Rattle.layer_laws.specs.Reasons.{MakesAlike, RefusedAlike}

-- ---- commands on columns

abbrev pub FieldsShow : Type 0
FieldsShow = (v : View) (layer : Layer) (l : StateLayer) → LayerShows v layer l → (fields : List Content) →
    MakesAlike v (One (GivesTable (keep_fields layer.table fields) layer)) (table_refusal (keep_fields layer.table fields)) (filter_fields_layer fields l)

abbrev pub NewNamesShow : Type 0
NewNamesShow = (v : View) (layer : Layer) (l : StateLayer) → LayerShows v layer l → (pairs : List Rename) →
    MakesAlike v (One (GivesTable (rename_fields layer.table pairs) layer)) (table_refusal (rename_fields layer.table pairs)) (rename_fields_layer pairs l)

abbrev pub JoinsShow : Type 0
JoinsShow = (v : View) (layer source : Layer) (l m : StateLayer) → LayerShows v layer l → LayerShows v source m → (spec : JoinSpec) →
    MakesAlike v (One (GivesTable (join_tables layer.table source.table spec) layer)) (table_refusal (join_tables layer.table source.table spec)) (join_layer m spec l)

abbrev pub AssignedFieldsShow : Type 0
AssignedFieldsShow = (v : View) (layer : Layer) (l : StateLayer) → LayerShows v layer l → (assigns : List Assign) →
    MakesAlike v (One (GivesTable (each_rows layer.table (all_assigned assigns)) layer)) (table_refusal (each_rows layer.table (all_assigned assigns))) (assign_layer assigns l)

-- ---- commands on rows

abbrev pub SortedRowsShow : Type 0
SortedRowsShow = (v : View) (layer : Layer) (l : StateLayer) → LayerShows v layer l → (key : Expr) (descending : Bool) →
    MakesAlike v (One (TakesNumbers (sort_rows layer.table (tree_of key) descending) layer)) (table_refusal (sort_rows layer.table (tree_of key) descending)) (sort_layer key descending l)

abbrev pub EarlyRowsShow : Type 0
EarlyRowsShow = (v : View) (layer : Layer) (l : StateLayer) → LayerShows v layer l → (key : Expr) (most : ℕ) (invert : Bool) →
    MakesAlike v (One (TakesNumbers (uniq_rows layer.table (tree_of key) most invert) layer)) (table_refusal (uniq_rows layer.table (tree_of key) most invert)) (uniq_layer key most invert l)

abbrev pub FilteredRowsShow : Type 0
FilteredRowsShow = (v : View) → IsView v → (layer : Layer) (l : StateLayer) → LayerShows v layer l → (test : Option Expr) (invert remove_empty : Bool) →
    MakesAlike v (One (IsFiltered test invert remove_empty layer)) (table_refusal (kept_numbers test invert layer)) (filter_layer (plane_of v) v.answers test invert remove_empty l)

-- ---- a layer in pieces, and layers together

abbrev pub PiecesShow : Type 0
PiecesShow = (v : View) (layer : Layer) (l : StateLayer) → LayerShows v layer l → (field : Option Content) →
    MakesAlike v (IsSplit field layer) (table_refusal (split_rows layer.table field)) (split_layer field l)

-- all layers are of the kind of the first
abbrev pub AreOfOneKind : Layer → List Layer → Type 0
AreOfOneKind first layers = All (λ (layer : Layer). layer.kind ≡ first.kind) layers

-- the layers merged are put out for the first, and nothing for the others
pub record MergedShows (v : View) (made : Layer) (others : List Layer) (answer : Result (List (List StateLayer)) RefuseWhy) : Type 0 where
  pub merged : StateLayer
  pub answers : answer ≡ Ok ((merged ∷ []) ∷ map (λ (other : Layer). []) others)
  pub shows : LayerShows v made merged

abbrev pub MergedLayersShow : Type 0
MergedLayersShow = (v : View) (first : Layer) (layers : List Layer) (ls : List StateLayer) → AllZip (LayerShows v) (first ∷ layers) ls → AreOfOneKind first layers → (force : Bool) →
    ((made : Layer) → IsMerged force (first ∷ layers) made → MergedShows v made layers (merged_layers force ls)) × RefusedAlike (refused_layers force (first ∷ layers)) (merged_layers force ls)
