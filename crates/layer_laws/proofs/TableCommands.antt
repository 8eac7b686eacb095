-- Commands on rows and columns of one layer.
use Rattle.std.proofs.Common.{◌≡◌, refl, sym, ap, ◌∙◌, subst, ℕ, ◌<◌, Bool, true, false, not, List, [], ◌∷◌, length, Option, Some, None, Result, Ok, Err, if◌then◌else◌}
use Rattle.std.specs.List.{range_with_len}
use Rattle.std.proofs.lemmas.List.Elements.{All-filter}
use Rattle.json_values.specs.Table.{TableContent}
use Rattle.expr_lang.specs.Tree.{all_assigned, tree_of}
use Rattle.expr_lang.specs.declared.expr.Expr.{Expr}
use Rattle.table_terms.specs.Refusals.{on_ok}
use Rattle.table_rows.specs.Columns.{keep_fields, rename_fields}
use Rattle.table_ops.specs.Filtering.{filter_rows}
use Rattle.table_ops.specs.Join.{join_tables}
use Rattle.table_rows.specs.declared.fault.TableWhy.{TableWhy}
use Rattle.face_sets.proofs.GapLemmas.{range_below}
use Rattle.calc_ops.specs.EachRow.{each_rows}
use Rattle.calc_ops.specs.EarlyRows.{uniq_rows}
use Rattle.calc_ops.specs.KeyOrder.{sort_rows}
use Rattle.run_plane.specs.Shapes.{is_empty, shape_at, with_geometry}
use Rattle.run_plane.specs.declared.layer.Layer.{Layer}
use Rattle.run_state.specs.Features.{TakesFeatures, all_numbers}
use Rattle.run_state.specs.Stops.{table_refusal}
use Rattle.run_tables.specs.Made.{GivesTable, HasTable, IsFiltered, One, TakesNumbers}
use Rattle.run_tables.specs.Made as run
use Rattle.chain_model.specs.State.{StateLayer, take_features, without_empty}
use Rattle.chain_model.specs.Features as state
use Rattle.chain_model.specs.Features.{Outputs, in_layer, just, with_features, with_table}
use Rattle.layer_laws.specs.Shown.{View, IsView, LayerShows, plane_of}
use Rattle.layer_laws.specs.Reasons.{MakesAlike, OutputsShow, RefusedAlike}
use Rattle.layer_laws.specs.Taken.{AreFeatures}
use Rattle.layer_laws.specs.Tables.{AssignedFieldsShow, EarlyRowsShow, FieldsShow, FilteredRowsShow, JoinsShow, NewNamesShow, SortedRowsShow}
use Rattle.layer_laws.proofs.Below.{early_below, filtered_below, sorted_below}
use Rattle.layer_laws.proofs.Empty.{some_alike, without_empty_of}
use Rattle.layer_laws.proofs.Taking.{below_shapes, shapes_in, taken_features_show}

-- ---- one layer

-- what shows the one layer that an answer has
pub one_shows : (v : View) (Makes : Layer → Type 0) (answer : Outputs) → ((made : Layer) → Makes made → (l : StateLayer) × (answer ≡ just l) × LayerShows v made l) →
    (made : List Layer) → One Makes made → OutputsShow v made answer
one_shows v Makes answer shows [] none = absurd none
one_shows v Makes answer shows (made ∷ []) makes =
    let (l, is, h) = shows made makes in
    record { outputs = l ∷ []; answers = is; show = (h, tt) }
one_shows v Makes answer shows (made ∷ other ∷ rest) many = absurd many

-- the same answer of a function of tables, on both sides
pub alike_by : {T : Type 0} (v : View) (Makes : Result T TableWhy → List Layer → Type 0) (outputs : Result T TableWhy → Outputs) (answer other : Result T TableWhy) → other ≡ answer →
    MakesAlike v (Makes answer) (table_refusal answer) (outputs answer) → MakesAlike v (Makes answer) (table_refusal answer) (outputs other)
alike_by {T} v Makes outputs answer other same alike = subst (λ (r : Result T TableWhy). MakesAlike v (Makes answer) (table_refusal answer) (outputs r)) (sym same) alike

-- ---- another table

pub table_shows : (v : View) (layer : Layer) (l : StateLayer) → LayerShows v layer l → (t : TableContent) (made : Layer) → HasTable layer t made → LayerShows v made (record l { table = t })
table_shows v layer l h t made has = record {
  name = h.name ∙ sym has.name;
  kind = h.kind ∙ sym has.kind;
  table = sym has.table;
  shapes = shapes_in v layer made layer.shapes.items l.shapes h.shapes has.kind has.shapes;
}

tables_refused : (l : StateLayer) (answer : Result TableContent TableWhy) → RefusedAlike (table_refusal answer) (with_table l answer)
tables_refused l (Ok t) = (record l { table = t } ∷ [], refl)
tables_refused l (Err why) = refl

module _ (v : View) (layer : Layer) (l : StateLayer) (h : LayerShows v layer l) where
  tables_alike : (answer : Result TableContent TableWhy) → MakesAlike v (One (GivesTable answer layer)) (table_refusal answer) (with_table l answer)
  tables_alike answer = record {
    shows = one_shows v (GivesTable answer layer) (with_table l answer) (λ made gives.
        (record l { table = gives.given }, ap (with_table l) gives.answers, table_shows v layer l h gives.given made gives.has));
    refused = tables_refused l answer;
  }

  pub tables_show : (answer other : Result TableContent TableWhy) → other ≡ answer → MakesAlike v (One (GivesTable answer layer)) (table_refusal answer) (with_table l other)
  tables_show answer other same = alike_by v (λ (r : Result TableContent TableWhy). One (GivesTable r layer)) (with_table l) answer other same (tables_alike answer)

pub fields_show : FieldsShow
fields_show v layer l h fields = tables_show v layer l h (keep_fields layer.table fields) (keep_fields l.table fields) (ap (λ (t : TableContent). keep_fields t fields) h.table)

pub new_names_show : NewNamesShow
new_names_show v layer l h pairs = tables_show v layer l h (rename_fields layer.table pairs) (rename_fields l.table pairs) (ap (λ (t : TableContent). rename_fields t pairs) h.table)

pub joins_show : JoinsShow
joins_show v layer source l m h k spec = tables_show v layer l h (join_tables layer.table source.table spec) (join_tables l.table m.table spec) (λ i. join_tables (h.table i) (k.table i) spec)

pub assigned_fields_show : AssignedFieldsShow
assigned_fields_show v layer l h assigns = tables_show v layer l h (each_rows layer.table (all_assigned assigns)) (each_rows l.table (all_assigned assigns)) (ap (λ (t : TableContent). each_rows t (all_assigned assigns)) h.table)

-- ---- features in another order, or some of them

features_refused : (l : StateLayer) (answer : Result (List ℕ) TableWhy) → RefusedAlike (table_refusal answer) (with_features l answer)
features_refused l (Ok numbers) = (take_features l numbers ∷ [], refl)
features_refused l (Err why) = refl

module _ (v : View) (layer : Layer) (l : StateLayer) (h : LayerShows v layer l) where
  features_alike : (answer : Result (List ℕ) TableWhy) → ((numbers : List ℕ) → answer ≡ Ok numbers → AreFeatures layer numbers) → MakesAlike v (One (TakesNumbers answer layer)) (table_refusal answer) (with_features l answer)
  features_alike answer below = record {
    shows = one_shows v (TakesNumbers answer layer) (with_features l answer) (λ made takes.
        (take_features l takes.numbers, ap (with_features l) takes.answers, taken_features_show v layer l h takes.numbers (below takes.numbers takes.answers) made takes.takes));
    refused = features_refused l answer;
  }

  features_show : (answer other : Result (List ℕ) TableWhy) → other ≡ answer → ((numbers : List ℕ) → answer ≡ Ok numbers → AreFeatures layer numbers) →
      MakesAlike v (One (TakesNumbers answer layer)) (table_refusal answer) (with_features l other)
  features_show answer other same below = alike_by v (λ (r : Result (List ℕ) TableWhy). One (TakesNumbers r layer)) (with_features l) answer other same (features_alike answer below)

pub sorted_rows_show : SortedRowsShow
sorted_rows_show v layer l h key descending =
    features_show v layer l h (sort_rows layer.table (tree_of key) descending) (sort_rows l.table (tree_of key) descending) (ap (λ (t : TableContent). sort_rows t (tree_of key) descending) h.table)
    (sorted_below layer.table (tree_of key) descending)

pub early_rows_show : EarlyRowsShow
early_rows_show v layer l h key most invert =
    features_show v layer l h (uniq_rows layer.table (tree_of key) most invert) (uniq_rows l.table (tree_of key) most invert) (ap (λ (t : TableContent). uniq_rows t (tree_of key) most invert) h.table)
    (early_below layer.table (tree_of key) most invert)

-- ---- a filter

kept_alike : (layer : Layer) (l : StateLayer) → l.table ≡ layer.table → (test : Option Expr) (invert : Bool) → state.kept_numbers l test invert ≡ run.kept_numbers test invert layer
kept_alike layer l same None invert = ap (λ (t : TableContent). Ok (range_with_len 0 (length t.rows))) same
kept_alike layer l same (Some test) invert = ap (λ (t : TableContent). filter_rows t (tree_of test) (not invert)) same

kept_below : (layer : Layer) (test : Option Expr) (invert : Bool) (numbers : List ℕ) → run.kept_numbers test invert layer ≡ Ok numbers → AreFeatures layer numbers
kept_below layer None invert numbers e =
    let same : all_numbers layer ≡ numbers = cc in
    subst (AreFeatures layer) same (range_below (length layer.table.rows))
kept_below layer (Some test) invert numbers e = filtered_below layer.table (tree_of test) (not invert) numbers e

-- of the features that pass, all or those with a geometry
abbrev pub passed : View → StateLayer → Bool → List ℕ → StateLayer
passed v l remove_empty numbers = if remove_empty then without_empty (plane_of v) v.answers (take_features l numbers) else take_features l numbers

abbrev pub passed_of : View → StateLayer → Bool → Result (List ℕ) TableWhy → Outputs
passed_of v l remove_empty answer = on_ok (in_layer answer) (λ (numbers : List ℕ). just (passed v l remove_empty numbers))

passed_refused : (v : View) (l : StateLayer) (remove_empty : Bool) (answer : Result (List ℕ) TableWhy) → RefusedAlike (table_refusal answer) (passed_of v l remove_empty answer)
passed_refused v l remove_empty (Ok numbers) = (passed v l remove_empty numbers ∷ [], refl)
passed_refused v l remove_empty (Err why) = refl

module _ (v : View) (view : IsView v) (layer : Layer) (l : StateLayer) (h : LayerShows v layer l) where
  passed_show : (remove_empty : Bool) (numbers : List ℕ) → AreFeatures layer numbers → (made : Layer) → TakesFeatures layer (if remove_empty then with_geometry layer.shapes.items numbers else numbers) made →
      LayerShows v made (passed v l remove_empty numbers)
  passed_show false numbers below made takes = taken_features_show v layer l h numbers below made takes
  passed_show true numbers below made takes =
      let some : List ℕ = with_geometry layer.shapes.items numbers in
      let same = some_alike v view layer l h numbers (below_shapes layer numbers below) in
      let left : AreFeatures layer some = All-filter (λ (n : ℕ). not (is_empty (shape_at layer.shapes.items n))) (λ n. n < length layer.table.rows) numbers below in
      subst (LayerShows v made) (ap (take_features l) same ∙ sym (without_empty_of v l numbers)) (taken_features_show v layer l h some left made takes)

  filter_alike : (test : Option Expr) (invert remove_empty : Bool) →
      MakesAlike v (One (IsFiltered test invert remove_empty layer)) (table_refusal (run.kept_numbers test invert layer)) (passed_of v l remove_empty (run.kept_numbers test invert layer))
  filter_alike test invert remove_empty = record {
    shows = one_shows v (IsFiltered test invert remove_empty layer) (passed_of v l remove_empty (run.kept_numbers test invert layer)) (λ made filtered.
        (passed v l remove_empty filtered.kept, ap (passed_of v l remove_empty) filtered.passed, passed_show remove_empty filtered.kept (kept_below layer test invert filtered.kept filtered.passed) made filtered.takes));
    refused = passed_refused v l remove_empty (run.kept_numbers test invert layer);
  }

pub filtered_rows_show : FilteredRowsShow
filtered_rows_show v view layer l h test invert remove_empty =
    alike_by v (λ (r : Result (List ℕ) TableWhy). One (IsFiltered test invert remove_empty layer)) (passed_of v l remove_empty) (run.kept_numbers test invert layer) (state.kept_numbers l test invert) (kept_alike layer l h.table test invert)
    (filter_alike v view layer l h test invert remove_empty)
