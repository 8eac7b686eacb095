use Rattle.std.proofs.Common.{◌∙◌, ap, ℕ, ◌+◌, ◌<◌, length, None}
use Rattle.std.proofs.lemmas.List.{get_or_default}
use Rattle.union_ops.proofs.TableLemmas.{row_goes_on, row_whole, width_more, rows_of_all}
use Rattle.union_ops.proofs.united_tables.union_row.Goals as goal

pub loop-i-preserved : goal.loop-i-preserved
loop-i-preserved c =
    let tables = c.args.tables.now in
    let choice = c.args.choice.now in
    let i = c.loop-i.i in
    let table = c.index-tables-i.result in
    let l : i < length tables = c.loop-i-test.true in
    let m : i < length choice = rows_of_all tables choice i c.requires.choice l in
    let made = c.in_ok-append_chosen.ensures in (
      row_goes_on tables choice i table _ c.loop-i.row c.append_chosen.new.out l m c.index-tables-i.is made.appended (get_or_default choice i _ None m) c.loop-i.invariant.0,
      made.width ∙ ap (λ (n : ℕ). n + length table.names) c.loop-i.invariant.1 ∙ width_more tables i table table l c.index-tables-i.is,
    )

pub returns-clause-exact : goal.returns-clause-exact
returns-clause-exact c = c.loop-i.invariant.0 ∙ row_whole c.args.tables.now c.args.choice.now c.loop-i.i c.loop-i-test.false
