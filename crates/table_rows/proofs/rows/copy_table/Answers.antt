use Rattle.std.proofs.Common.{length, ap, sym, subst₂, ◌∙◌}
use Rattle.json_values.specs.Table.{AreRows}
use Rattle.table_rows.proofs.rows.copy_table.Goals as goal

pub new-requires-clause-widths : goal.new-requires-clause-widths
new-requires-clause-widths c = subst₂ AreRows (sym (ap length (c.in_ok-names.ensures.copied ∙ c.names.ensures.names))) (sym c.in_ok-rows.ensures.copied) c.rows.ensures.widths
