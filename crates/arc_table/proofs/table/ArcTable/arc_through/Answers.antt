use Rattle.std.proofs.Common.{◌<◌, [], None, subst, length, List, All}
use Rattle.lists.proofs.Members.{Contains-nil}
use Rattle.plane_model.specs.Points.{Path}
use Rattle.arc_table.specs.Lookup.{AreInner, IsFirstAt}
use Rattle.arc_table.specs.declared.vertices.ArcVertex.{ArcVertex}
use Rattle.arc_table.proofs.AloneInside.{alone_from}
use Rattle.arc_table.proofs.LeastAt.{arc_at_from, there_from}
use Rattle.arc_table.proofs.table.ArcTable.arc_through.Goals as goal

pub returns-clause-exact : goal.returns-clause-exact
returns-clause-exact c =
    let inside = c.self.inside in
    let arcs = c.args.self.now in
    let p = c.args.p in
    let long : All (λ (arc : Path). 1 < length arc) arcs = subst (λ (xs : List Path). All (λ (arc : Path). 1 < length arc) xs) c.self.view_is c.self.invariant.0 in
    let inner : AreInner arcs inside.inner.items = subst (λ (xs : List Path). AreInner xs inside.inner.items) c.self.view_is c.self.invariant.3 in
    let first : IsFirstAt inside.inner.items p c.least_at.result = subst (λ (vs : List ArcVertex). IsFirstAt vs p c.least_at.result) c.deref.ensures.value c.least_at.ensures.exact in
    arc_at_from arcs p long inside.inner.items inner [] c.requires.off None c.least_at.result (λ a. Contains-nil a) first

pub returns-clause-there : goal.returns-clause-there
returns-clause-there c = there_from c.args.self.now c.args.p c.least_at.result (returns-clause-exact c)

pub returns-clause-alone : goal.returns-clause-alone
returns-clause-alone c = alone_from c.args.self.now c.args.p c.least_at.result (returns-clause-exact c)
