-- Commands on the tables of layers leave them on the plane.
use Rattle.std.proofs.Common.{ℕ, ◌+◌, Bool, true, false, List, [], ◌∷◌, map, Option, Result, Ok, Err}
use Rattle.std.specs.Prelude.{if◌then◌else◌}
use Rattle.std.specs.List.{enumerate_from, flat_map}
use Rattle.json_values.specs.Table.{TableContent}
use Rattle.expr_lang.specs.Tree.{all_assigned, tree_of}
use Rattle.expr_lang.specs.declared.assign.Assign.{Assign}
use Rattle.expr_lang.specs.declared.expr.Expr.{Expr}
use Rattle.table_terms.specs.Names.{Text}
use Rattle.table_terms.specs.Refusals.{on_ok}
use Rattle.table_terms.specs.declared.renames.Rename.{Rename}
use Rattle.join_terms.specs.declared.joins.JoinSpec.{JoinSpec}
use Rattle.table_rows.specs.Columns.{keep_fields, rename_fields}
use Rattle.table_ops.specs.Join.{join_tables}
use Rattle.table_rows.specs.Merge.{merge_tables}
use Rattle.table_rows.specs.Splitting.{split_rows}
use Rattle.table_rows.specs.declared.fault.TableWhy.{TableWhy}
use Rattle.table_rows.specs.declared.split.SplitItem.{SplitItem}
use Rattle.calc_ops.specs.EachRow.{each_rows}
use Rattle.calc_ops.specs.EarlyRows.{uniq_rows}
use Rattle.calc_ops.specs.KeyOrder.{sort_rows}
use Rattle.region_model.specs.Answers.{Answers, Plane, is_nil}
use Rattle.chain_model.specs.Features.{Outputs, assign_layer, filter_fields_layer, filter_layer, in_layer, join_layer, just, kept_numbers, merged_layers, rename_fields_layer, sort_layer, split_layer, split_piece, uniq_layer, with_features, with_table}
use Rattle.chain_model.specs.State.{StateLayer, take_features, without_empty}
use Rattle.outcome_laws.proofs.Every.{Every, every_flat}
use Rattle.outcome_laws.proofs.Alike.{AreAlike}
use Rattle.outcome_laws.proofs.Shapes.{AllAreOn, AreOne, LayerIsOn, OutputsAreOn, ShapeIsOn, answered_on, nothing_on, one_of, taken_on, without_on, without_same}

module _ (P : Plane) where
  table_on : (l : StateLayer) (answer : Result TableContent TableWhy) → LayerIsOn P l → OutputsAreOn P (with_table l answer)
  table_on l answer h = answered_on P answer (λ (t : TableContent). just (record l { table = t })) (λ t. (h, tt))

  features_on : (l : StateLayer) (answer : Result (List ℕ) TableWhy) → LayerIsOn P l → OutputsAreOn P (with_features l answer)
  features_on l answer h = answered_on P answer (λ (ns : List ℕ). just (take_features l ns)) (λ ns. (taken_on P l h ns, tt))

  pub join_one : (source : StateLayer) (spec : JoinSpec) → AreOne P (join_layer source spec) (join_layer source spec)
  join_one source spec = one_of P (join_layer source spec) (λ l h. table_on l (join_tables l.table source.table spec) h)

  pub fields_one : (fields : List Text) → AreOne P (filter_fields_layer fields) (filter_fields_layer fields)
  fields_one fields = one_of P (filter_fields_layer fields) (λ l h. table_on l (keep_fields l.table fields) h)

  pub renames_one : (pairs : List Rename) → AreOne P (rename_fields_layer pairs) (rename_fields_layer pairs)
  renames_one pairs = one_of P (rename_fields_layer pairs) (λ l h. table_on l (rename_fields l.table pairs) h)

  pub assign_one : (assigns : List Assign) → AreOne P (assign_layer assigns) (assign_layer assigns)
  assign_one assigns = one_of P (assign_layer assigns) (λ l h. table_on l (each_rows l.table (all_assigned assigns)) h)

  pub sort_one : (key : Expr) (descending : Bool) → AreOne P (sort_layer key descending) (sort_layer key descending)
  sort_one key descending = one_of P (sort_layer key descending) (λ l h. features_on l (sort_rows l.table (tree_of key) descending) h)

  pub uniq_one : (key : Expr) (most : ℕ) (invert : Bool) → AreOne P (uniq_layer key most invert) (uniq_layer key most invert)
  uniq_one key most invert = one_of P (uniq_layer key most invert) (λ l h. features_on l (uniq_rows l.table (tree_of key) most invert) h)

  -- ## Layers of some rows

  pieces_on : (l : StateLayer) → LayerIsOn P l → (n : ℕ) (items : List SplitItem) → Every (LayerIsOn P) (map (split_piece l) (enumerate_from n items))
  pieces_on l h n [] = tt
  pieces_on l h n (item ∷ items) = (taken_on P l h item.rows, pieces_on l h (n + 1) items)

  pub split_one : (field : Option Text) → AreOne P (split_layer field) (split_layer field)
  split_one field = one_of P (split_layer field) (λ l h. answered_on P (split_rows l.table field) (pieces l) (λ items. go l h items (is_nil items)))
    where
      pieces : StateLayer → List SplitItem → Outputs
      pieces l items = Ok (if is_nil items then l ∷ [] else map (split_piece l) (enumerate_from 0 items))

      go : (l : StateLayer) → LayerIsOn P l → (items : List SplitItem) (b : Bool) → Every (LayerIsOn P) (if b then l ∷ [] else map (split_piece l) (enumerate_from 0 items))
      go l h items true = (h, tt)
      go l h items false = pieces_on l h 0 items

  -- ## Layers together

  pub merged_on : (force : Bool) (ls : List StateLayer) → Every (LayerIsOn P) ls → AllAreOn P (merged_layers force ls)
  merged_on force [] h = tt
  merged_on force (l ∷ ls) h = go (merge_tables (map (λ (m : StateLayer). m.table) (l ∷ ls)) force)
    where
      together : Every (ShapeIsOn P) (flat_map (λ (m : StateLayer). m.shapes) (l ∷ ls))
      together = every_flat (LayerIsOn P) (ShapeIsOn P) (λ (m : StateLayer). m.shapes) (λ m g. g) (l ∷ ls) h

      go : (answer : Result TableContent TableWhy) → AllAreOn P (on_ok (in_layer answer) (λ (t : TableContent).
          Ok ((record l { table = t; shapes = flat_map (λ (m : StateLayer). m.shapes) (l ∷ ls) } ∷ []) ∷ map (λ (m : StateLayer). []) ls)))
      go (Err why) = tt
      go (Ok t) = ((together, tt), nothing_on P ls)

-- ## Filters, that may leave out the empty features

module _ (P : Plane) (A B : Answers) (alike : AreAlike P A B) where
  abbrev filtered : (StateLayer → StateLayer) → Bool → StateLayer → List ℕ → Outputs
  filtered without remove_empty l ns = just (if remove_empty then without (take_features l ns) else take_features l ns)

  pub filter_one : (test : Option Expr) (invert remove_empty : Bool) → AreOne P (filter_layer P A test invert remove_empty) (filter_layer P B test invert remove_empty)
  filter_one test invert remove_empty = record {
    same = λ l h i. on_ok (in_layer (kept_numbers l test invert)) (filtered (without_same P A B alike i) remove_empty l);
    on = λ l h. answered_on P (kept_numbers l test invert) (filtered (without_empty P A) remove_empty l) (λ ns. (go l ns h remove_empty, tt));
  }
    where
      go : (l : StateLayer) (ns : List ℕ) → LayerIsOn P l → (b : Bool) → LayerIsOn P (if b then without_empty P A (take_features l ns) else take_features l ns)
      go l ns h true = without_on P A (take_features l ns) (taken_on P l h ns)
      go l ns h false = taken_on P l h ns
