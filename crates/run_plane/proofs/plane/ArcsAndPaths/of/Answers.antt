use Rattle.std.proofs.Common.{List, subst, sym}
use Rattle.std.specs.Prelude.{All}
use Rattle.plane_model.specs.Points.{Path}
use Rattle.plane_model.specs.Drawing.{Drawing}
use Rattle.plane_model.specs.Snapped.{links_of}
use Rattle.grid_base.specs.Drawn.{HasPaths}
use Rattle.arc_table.specs.Along.{GoAlong}
use Rattle.arc_table.specs.ArcNets.{IsNetOf}
use Rattle.arc_table.specs.Direction.{IsForward}
use Rattle.arc_table.specs.Order.{AreNumbered}
use Rattle.arc_table.specs.PathArcs.{AreArcsOf}
use Rattle.arc_table.specs.WholeArcs.{IsWholeArc, StartsAtLeast}
use Rattle.run_plane.proofs.plane.ArcsAndPaths.of.Goals as goal

pub of-requires-2 : goal.of-requires-2
of-requires-2 c = record { net = subst (λ (d : Drawing). IsNetOf d c.in_ok-net.net.net) (sym c.paths.ensures.same) c.in_ok-net.ensures.exact }

pub returns : goal.returns
returns c =
    let d = c.args.snapped in
    let numbered = c.in_ok-numbered.numbered in
    let same = c.paths.ensures.same in
    let kept = c.into_paths-paths.ensures.same in
    let table = sym c.in_ok-arcs.ensures.same in
    let arcs_of : AreArcsOf d numbered = record {
      long = c.in_ok-numbered.ensures.long;
      arrangement = c.links.ensures.snapped.arrangement;
      links = subst (λ (s : Drawing). GoAlong (links_of s) numbered) same c.in_ok-numbered.ensures.links;
      whole = subst (λ (s : Drawing). All (IsWholeArc s) numbered) same c.in_ok-numbered.ensures.whole;
    } in
    record {
      paths = kept;
      kept = subst (λ (s : Drawing). HasPaths s) kept c.keeps_paths.ensures.paths;
      exact = subst (AreArcsOf d) table arcs_of;
      forward = subst (λ (arcs : List Path). All IsForward arcs) table c.in_ok-numbered.ensures.forward;
      least = subst (All (StartsAtLeast d)) table (subst (λ (s : Drawing). All (StartsAtLeast s) numbered) same c.in_ok-numbered.ensures.least);
      numbered = subst (AreNumbered d) table (subst (λ (s : Drawing). AreNumbered s numbered) same c.in_ok-numbered.ensures.numbered);
    }
