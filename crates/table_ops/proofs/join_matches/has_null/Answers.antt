use Rattle.std.proofs.Common.{ap, sym, ◌∙◌}
use Rattle.table_ops.specs.Join.{is_null}
use Rattle.table_rows.proofs.Cells.{cell_there, cell_missing}
use Rattle.table_ops.proofs.join_matches.has_null.Goals as goal

pub returns-in-Some : goal.returns-in-Some
returns-in-Some c = record { null = c.is_null.ensures.null ∙ ap is_null (sym (cell_there c.args.row.now c.args.place c.in-Some.value.now c.in-Some.ensures.lookup)) }

pub returns-in-None : goal.returns-in-None
returns-in-None c = record { null = sym (ap is_null (cell_missing c.args.row.now c.args.place c.in-None.ensures.lookup)) }
