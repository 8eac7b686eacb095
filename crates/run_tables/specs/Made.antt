-- What commands on rows and columns make of layers.
use Rattle.std.specs.Prelude.{◌≡◌, ℕ, Bool, not, if◌then◌else◌, List, [], ◌∷◌, map, slice_get, Option, Some, None, Result, Ok}
use Rattle.std.specs.List.{flat_map}
use Rattle.json_values.specs.Table.{TableContent}
use Rattle.expr_lang.specs.Tree.{tree_of}
use Rattle.expr_lang.specs.declared.expr.Expr.{Expr}
use Rattle.table_ops.specs.Filtering.{filter_rows}
use Rattle.table_rows.specs.Merge.{merge_tables}
use Rattle.table_rows.specs.declared.fault.TableWhy.{TableWhy}
use Rattle.run_plane.specs.Shapes.{with_geometry}
use Rattle.run_plane.specs.declared.layer.Layer.{Layer}
use Rattle.run_state.specs.Features.{TakesFeatures, all_numbers}
use Rattle.run_state.specs.Stops.{table_refusal}
use Rattle.run_state.specs.declared.refusal.RefuseWhy.{RefuseWhy}
use Rattle.run_state.specs.declared.refusal.RefuseWhy.TheVariants.{NoLayer}

-- one layer, of which this holds
abbrev pub One : (Layer → Type 0) → List Layer → Type 0
One P [] = ⊥
One P (made ∷ []) = P made
One P (made ∷ other ∷ rest) = ⊥

-- with another table alone
pub record HasTable (layer : Layer) (t : TableContent) (made : Layer) : Type 0 where
  pub name : made.name ≡ layer.name
  pub kind : made.kind ≡ layer.kind
  pub table : made.table ≡ t
  pub shapes : made.shapes.items ≡ layer.shapes.items

-- with the table that a function of tables answers
pub record GivesTable (answer : Result TableContent TableWhy) (layer made : Layer) : Type 0 where
  pub given : TableContent
  pub answers : answer ≡ Ok given
  pub has : HasTable layer given made

-- with the features whose numbers a function of tables answers, in that order
pub record TakesNumbers (answer : Result (List ℕ) TableWhy) (layer made : Layer) : Type 0 where
  pub numbers : List ℕ
  pub answers : answer ≡ Ok numbers
  pub takes : TakesFeatures layer numbers made

-- the numbers of the rows for which the expression is true, or, inverted, false; without one all of them
abbrev pub kept_numbers : Option Expr → Bool → Layer → Result (List ℕ) TableWhy
kept_numbers None invert layer = Ok (all_numbers layer)
kept_numbers (Some test) invert layer = filter_rows layer.table (tree_of test) (not invert)

pub record IsFiltered (test : Option Expr) (invert remove_empty : Bool) (layer made : Layer) : Type 0 where
  pub kept : List ℕ
  pub passed : kept_numbers test invert layer ≡ Ok kept
  pub takes : TakesFeatures layer (if remove_empty then with_geometry layer.shapes.items kept else kept) made

-- all features of these layers: the tables one under another, and the shapes one after another, in a layer like the
-- first
pub record IsMerged (force : Bool) (layers : List Layer) (made : Layer) : Type 0 where
  pub first : Layer
  pub begins : slice_get layers 0 ≡ Some first
  pub name : made.name ≡ first.name
  pub kind : made.kind ≡ first.kind
  pub table : merge_tables (map (λ (layer : Layer). layer.table) layers) force ≡ Ok made.table
  pub shapes : made.shapes.items ≡ flat_map (λ (layer : Layer). layer.shapes.items) layers

-- why layers are not merged: there is none, or what their tables are refused for
abbrev pub refused_layers : Bool → List Layer → Option RefuseWhy
refused_layers force [] = Some NoLayer
refused_layers force (layer ∷ layers) = table_refusal (merge_tables (map (λ (l : Layer). l.table) (layer ∷ layers)) force)
