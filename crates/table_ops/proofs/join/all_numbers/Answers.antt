use Rattle.std.proofs.Common.{rules, ◌++◌, ◌∷◌, [], All, ℕ, List, ◌<◌, true, length, take, ap, subst, sym, ◌∙◌, arith, length-take}
use Rattle.json_values.specs.Table.{RowValues}
use Rattle.table_ops.proofs.Joining.{all_numbers_more}
use Rattle.table_rows.proofs.Numbers.{numbers_from-below}
use Rattle.table_ops.proofs.join.all_numbers.Goals as goal

pub loop-n-preserved : goal.loop-n-preserved
loop-n-preserved c =
    let rows = c.args.rows.now in
    let less : c.loop-n.n < length rows = search rules in
    c.in_ok-push.ensures.ok ∙ ap (λ (ns : List ℕ). ns ++ c.loop-n.n ∷ []) c.loop-n.invariant ∙ sym (all_numbers_more rows c.loop-n.n less)

pub returns-clause-within : goal.returns-clause-within
returns-clause-within c =
    let rows = c.args.rows.now in
    let short = length-take {A = RowValues} c.loop-n.n rows in
    subst (All (λ k. k < length rows)) (sym c.loop-n.invariant)
    (numbers_from-below (length rows) 0 (λ (row : RowValues). true) (take c.loop-n.n rows) (omega (arith, short)))
