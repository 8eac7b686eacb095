use Rattle.json_values.proofs.Tables.{seen_names, distinct_seen, rows_made}
use Rattle.json_values.proofs.table.Table.with_columns.Goals as goal

pub invariant_of-result : goal.invariant_of-result
invariant_of-result c =
    rw (c.in_ok-name_list.ensures.exact, c.in_ok-rows_of.ensures.exact) (distinct_seen c.args.names.keys c.requires.unique, rows_made (seen_names c.args.names.keys) _)
