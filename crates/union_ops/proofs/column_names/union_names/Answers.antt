use Rattle.std.proofs.Common.{◌∙◌, sym, ap, subst, List, ◌++◌, take}
use Rattle.json_values.specs.Table.{TableContent}
use Rattle.table_rows.specs.Merge.{all_names}
use Rattle.table_rows.proofs.Merging.{all_names_more}
use Rattle.table_terms.specs.Names.{Text}
use Rattle.union_ops.specs.ColumnNames.{AreNewNames}
use Rattle.union_ops.proofs.column_names.union_names.Goals as goal

pub loop-table-preserved : goal.loop-table-preserved
loop-table-preserved c =
    let tables = c.args.tables.now in
    let i = c.loop-table.table-index in
    let table = c.table-item.result in
    let so_far = c.loop-table.invariant in
    let made = c.in_ok-add_names.ensures in
    record {
      same = made.same;
      tried = made.tried;
      distinct = made.distinct;
      named = subst (λ (ns : List Text). AreNewNames ns c.add_names.new.names)
          (ap (λ (ns : List Text). all_names (take i tables) ++ ns) (c.names.ensures.names ∙ ap (λ (t : TableContent). t.names) c.table-item.is) ∙ sym (all_names_more tables i table c.loop-table-test.true))
          (made.named (all_names (take i tables)) so_far.named);
    }
