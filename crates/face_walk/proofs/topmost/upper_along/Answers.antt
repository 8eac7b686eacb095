use Rattle.std.proofs.Common.{◌≡◌, ◌++◌, ◌∙◌, ap, sym, subst, arith, take, append_assoc, append-nil, List, Option}
use Rattle.std.specs.Option.{option_to_list}
use Rattle.std.proofs.lemmas.List.{take_all}
use Rattle.plane_model.specs.Points.{Path}
use Rattle.face_walk.specs.Rays.{links_along}
use Rattle.link_search.specs.Topmost.{IsTopmostBelow}
use Rattle.link_search.specs.declared.links.ArcLink.{ArcLink}
use Rattle.face_walk.proofs.LinkLemmas.{no_links}
use Rattle.face_walk.proofs.topmost.upper_along.Goals as goal

pub loop-i-init : goal.loop-i-init
loop-i-init c = record {
  below = c.requires.below;
  exact = λ links t. subst (λ (xs : List ArcLink). IsTopmostBelow xs c.args.p c.args.best) (sym (ap (λ (xs : List ArcLink). links ++ xs) (no_links c.args.id c.args.points.now) ∙ append-nil links)) t;
}

pub loop-i-preserved : goal.loop-i-preserved
loop-i-preserved c =
    let id = c.args.id in
    let points : Path = c.args.points.now in
    let found : Option ArcLink = c.link_to.result in
    let before : List ArcLink = links_along id (take c.loop-i.i points) in
    let upper = c.upper_some-topmost.ensures in
    record {
      below = upper.below;
      exact = λ links t.
          subst (λ (xs : List ArcLink). IsTopmostBelow xs c.args.p c.upper_some-topmost.result) (append_assoc links before (option_to_list found) ∙ ap (λ (xs : List ArcLink). links ++ xs) (sym c.link_to.ensures.next))
          (upper.exact (links ++ before) (c.loop-i.invariant.exact links t));
    }

pub returns-clause-exact : goal.returns-clause-exact
returns-clause-exact c =
    let points : Path = c.args.points.now in
    let done = c.loop-i-test.false in
    let all : take c.loop-i.i points ≡ points = take_all c.loop-i.i points (omega arith) in
    λ links t. subst (λ (path : Path). IsTopmostBelow (links ++ links_along c.args.id path) c.args.p c.loop-i.topmost) all (c.loop-i.invariant.exact links t)
