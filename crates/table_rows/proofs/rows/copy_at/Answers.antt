use Rattle.std.proofs.Common.{sym}
use Rattle.json_values.specs.declared.value.Value.TheVariants.{Null}
use Rattle.table_rows.proofs.TakenRows.{missing_is_default}
use Rattle.table_rows.proofs.rows.copy_at.Goals as goal

pub returns-in-None : goal.returns-in-None
returns-in-None c = record { copied = sym (missing_is_default c.args.row.now c.args.place Null (sym c.in-None.ensures.lookup)) }
