use Rattle.std.proofs.Common.{sym, subst, ℕ, ◌∙◌, ap, map, length}
use Rattle.json_values.specs.Table.{AreRows}
use Rattle.table_rows.specs.Rows.{row_at}
use Rattle.table_rows.proofs.TakenRows.{taken_as_long}
use Rattle.table_rows.proofs.rows.take_rows.Goals as goal

pub new-requires-clause-widths : goal.new-requires-clause-widths
new-requires-clause-widths c =
    let t = c.args.t.now in
    subst (AreRows (length c.in_ok-names.names)) (sym (c.in_ok-taken.ensures.taken ∙ (λ i. map (row_at (c.rows.ensures.rows i)) (c.as_slice.ensures.all i))))
    (subst (λ (n : ℕ). AreRows n (map (row_at t.rows) c.args.rows.now)) (sym (ap length (c.in_ok-names.ensures.copied ∙ c.names.ensures.names)))
    (taken_as_long (length t.names) t.rows c.args.rows.now (subst (AreRows (length t.names)) c.rows.ensures.rows c.rows.ensures.widths) c.requires.numbers))
