use Rattle.std.proofs.Common.{List, sym, subst}
use Rattle.std.specs.List.Sorted.{IsSorted}
use Rattle.plane_model.specs.Points.{Segment}
use Rattle.grid_base.specs.Order.{point_cmp}
use Rattle.arc_table.specs.Nodes.{AreTurns}
use Rattle.arc_table.specs.Steps.{AreLinks, AreSteps}
use Rattle.arc_table.proofs.Along.{are_links}
use Rattle.arc_table.proofs.arc_net.ArcNet.of.Goals as goal

pub of-requires-clause-turns : goal.of-requires-clause-turns
of-requires-clause-turns c = subst (IsSorted point_cmp) (sym c.deref.ensures.value) c.in_ok-turns.ensures.exact.sorted

pub of-requires-clause-links : goal.of-requires-clause-links
of-requires-clause-links c = subst AreLinks (sym c.links-links.ensures.exact) (are_links c.args.s.now c.links-links.ensures.snapped.arrangement)

pub returns : goal.returns
returns c = record {
  exact = record {
    turns = c.deref.result.now;
    are_turns = subst (AreTurns c.args.s.now) (sym c.deref.ensures.value) c.in_ok-turns.ensures.exact;
    links = are_links c.args.s.now c.links-links.ensures.snapped.arrangement;
    steps = subst (λ (xs : List Segment). AreSteps xs c.in_ok-net.net.steps) c.links-links.ensures.exact c.in_ok-net.ensures.steps;
    on = c.in_ok-net.ensures.on;
  };
}
