use Rattle.std.proofs.Common.{sym}
use Rattle.link_search.proofs.RayLemmas.{upper_stays, upper_replaced}
use Rattle.link_search.proofs.search.upper_of_two.Goals as goal

pub returns-then-goes_under : goal.returns-then-goes_under
returns-then-goes_under c = record { exact = upper_stays c.args.p c.args.k c.args.l c.requires.first c.requires.second (sym c.if-goes_under.ensures.exact) }

pub returns-else-goes_under : goal.returns-else-goes_under
returns-else-goes_under c = record { exact = upper_replaced c.args.p c.args.k c.args.l c.requires.first c.requires.second (sym c.if-goes_under.ensures.exact) }
