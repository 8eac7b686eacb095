use Rattle.std.proofs.Common.{ap, sym, ◌∙◌}
use Rattle.table_rows.specs.Grouping.{sum_with}
use Rattle.table_rows.proofs.Cells.{cell_there, cell_missing}
use Rattle.table_rows.proofs.group_sums.sum_at.Goals as goal

pub returns-in-Some : goal.returns-in-Some
returns-in-Some c = record { exact = c.sum_with.ensures.exact ∙ ap (sum_with c.args.total c.args.n) (sym (cell_there c.args.row.now c.args.place c.in-Some.value.now c.in-Some.ensures.lookup)) }

pub returns-in-None : goal.returns-in-None
returns-in-None c = record { exact = sym (ap (sum_with c.args.total c.args.n) (cell_missing c.args.row.now c.args.place c.in-None.ensures.lookup)) }
