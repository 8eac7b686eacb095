use Rattle.std.proofs.Common.{Option, Some, sym, subst}
use Rattle.link_search.specs.Descent.{IsUpper}
use Rattle.link_search.specs.declared.links.ArcLink.{ArcLink}
use Rattle.link_search.proofs.RayLemmas.{upper_first}
use Rattle.link_search.proofs.search.upper.Goals as goal

pub returns-in-None : goal.returns-in-None
returns-in-None c =
    let p = c.args.p in
    let l = c.args.l in
    record { exact = subst (λ (o : Option ArcLink). IsUpper p o l (Some l)) (sym c.in-None.is) (upper_first p l (sym c.if-not-is_below.ensures.exact)) }
