use Rattle.std.proofs.Common.{sym, subst, append-nil, List, Option}
use Rattle.std.specs.Option.{option_to_list}
use Rattle.link_search.specs.Topmost.{IsTopmostBelow, IsTopmostWith}
use Rattle.link_search.specs.declared.links.ArcLink.{ArcLink}
use Rattle.link_search.proofs.TopmostLemmas.{upper_is_below, upper_is_topmost}
use Rattle.face_walk.proofs.topmost.upper_some.Goals as goal

pub returns-in-Some : goal.returns-in-Some
returns-in-Some c =
    let p = c.args.p in
    let topmost = c.args.topmost in
    let l = c.in-Some.l in
    let result = c.upper.result in
    let upper = c.upper.ensures.exact in
    record {
      below = upper_is_below p topmost l result c.requires.below upper;
      exact = subst (λ (o : Option ArcLink). IsTopmostWith (option_to_list o) p topmost result) (sym c.in-Some.is) (λ links t. upper_is_topmost links p topmost l result t upper);
    }

pub returns-in-None : goal.returns-in-None
returns-in-None c = record {
  below = c.requires.below;
  exact = subst (λ (o : Option ArcLink). IsTopmostWith (option_to_list o) c.args.p c.args.topmost c.args.topmost) (sym c.in-None.is)
      (λ links t. subst (λ (xs : List ArcLink). IsTopmostBelow xs c.args.p c.args.topmost) (sym (append-nil links)) t);
}
