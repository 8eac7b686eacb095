use Rattle.std.proofs.Common.{ℕ, Some, None, cond, get_or, sym, ◌∙◌}
use Rattle.std.specs.Option.{option_or}
use Rattle.json_values.specs.declared.value.Value.{Value}
use Rattle.table_ops.specs.Join.{matches}
use Rattle.table_terms.specs.Names.{value_at}
use Rattle.table_rows.specs.Rows.{row_at}
use Rattle.table_ops.proofs.Joining.{find_more}
use Rattle.table_ops.proofs.join_matches.first_rows.Goals as goal

pub loop-number-preserved : goal.loop-number-preserved
loop-number-preserved c = λ (v : Value).
    let rows = c.args.rows.now in
    let numbers = c.args.numbers.now in
    let i = c.loop-number.number-index in
    let p = λ (n : ℕ). matches v (value_at (row_at rows n) c.args.place) in
    c.in_ok-add_first.ensures.first v
    ∙ (λ j. option_or (c.loop-number.invariant v j) (cond (matches v (value_at (c.row_of.ensures.lent j) c.args.place)) (Some (get_or numbers i 0)) None))
    ∙ sym (find_more p numbers i 0 c.loop-number-test.true)
