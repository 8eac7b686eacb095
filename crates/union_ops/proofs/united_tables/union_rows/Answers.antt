use Rattle.std.proofs.Common.{◌≡◌, ◌∙◌, sym, ap, subst, ◌∷◌, ◌++◌, [], length}
use Rattle.std.proofs.lemmas.List.{map_more}
use Rattle.json_values.specs.Table.{RowValues, AreRows}
use Rattle.table_rows.specs.Merge.{all_names}
use Rattle.table_rows.proofs.Cells.{rows_long-append}
use Rattle.union_ops.specs.declared.union_lists.UnionItem.{UnionItem}
use Rattle.union_ops.specs.Choices.{IsChoiceFrom}
use Rattle.union_ops.specs.UnionTable.{union_row, IsOfTables}
use Rattle.union_ops.proofs.TableLemmas.{row_counts}
use Rattle.union_ops.proofs.united_tables.union_rows.Goals as goal

pub union_row-requires : goal.union_row-requires
union_row-requires c =
    let tables = c.args.tables.now in
    let item = c.item-item.result in
    record {
      choice = subst (IsChoiceFrom (row_counts tables)) (sym c.as_slice.ensures.all)
          (subst (IsOfTables tables) (sym c.item-item.is) (c.requires.choices c.loop-item.item-index item c.loop-item-test.true));
    }

pub loop-item-preserved : goal.loop-item-preserved
loop-item-preserved c =
    let tables = c.args.tables.now in
    let items = c.args.items.now in
    let i = c.loop-item.item-index in
    let item = c.item-item.result in
    let made = c.in_ok-union_row.ensures in
    let row = c.in_ok-union_row.field-0 in
    let width = length (all_names tables) in
    let values : UnionItem → RowValues = λ (one : UnionItem). union_row tables one.choice in
    let is : row ≡ union_row tables item.choice = made.exact ∙ ap (union_row tables) c.as_slice.ensures.all in (
      c.in_ok-push.ensures.ok ∙ (λ j. c.loop-item.invariant.0 j ++ (is ∙ ap values c.item-item.is) j ∷ []) ∙ sym (map_more values items i item c.loop-item-test.true),
      subst (AreRows width) (sym c.in_ok-push.ensures.ok) (rows_long-append width c.loop-item.rows (row ∷ []) c.loop-item.invariant.1 (made.width, tt)),
    )
