use Rattle.std.proofs.Common.{◌∙◌, sym}
use Rattle.arc_table.specs.Steps.{StartsAt}
use Rattle.arc_table.proofs.Others.{same_start}
use Rattle.arc_table.proofs.half_links.goes_on.Goals as goal

pub returns-in-Some-clause-yes : goal.returns-in-Some-clause-yes
returns-in-Some-clause-yes c = λ e p here.
    let there : StartsAt c.args.steps.now c.args.h c.from-from.result = (c.at.result, c.at.ensures.exact, sym c.from-from.ensures.exact) in
    (c.in-Some.next, sym c.in-Some.ensures.exact, c.starts_from.ensures.yes e ∙ same_start c.args.steps.now c.args.h c.from-from.result p there here)
