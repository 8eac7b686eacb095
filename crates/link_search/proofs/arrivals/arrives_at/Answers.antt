use Rattle.std.proofs.Common.{refl}
use Rattle.link_search.proofs.ArrivalLemmas.{none_between}
use Rattle.link_search.proofs.arrivals.arrives_at.Goals as goal

pub returns-then-comes_before-clause-no : goal.returns-then-comes_before-clause-no
returns-then-comes_before-clause-no c = λ e. none_between c.args.points.now c.requires.sorted c.args.p c.args.guess (c.if-comes_past.ensures.within refl) (c.if-comes_before.ensures.yes refl) (c.if-comes_past.ensures.yes refl)
