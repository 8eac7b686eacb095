use Rattle.std.proofs.Common.{◌≡◌, ◌∙◌, Option, Some, ap, option_copied, subst, sym}
use Rattle.io_core.specs.Contents.{Content}
use Rattle.table_rows.specs.Refusals.{Answers}
use Rattle.table_rows.specs.Splitting.{split_rows}
use Rattle.run_tables.proofs.splitting.items_of.Goals as goal

pub returns-in-Some-clause-exact : goal.returns-in-Some-clause-exact
returns-in-Some-clause-exact c =
    let name : option_copied c.args.field ≡ Some c.as_str.result.now = ap option_copied c.in-Some.is ∙ ap Some (sym c.as_str.ensures.lent) in
    subst (λ (field : Option Content). Answers c.split_rows.result (split_rows c.args.table.now field)) (sym name) c.split_rows.ensures.exact
