use Rattle.std.proofs.Common.{map, sym, ap, subst, ◌∙◌}
use Rattle.run_plane.specs.OnPlane.{AreOn}
use Rattle.run_borders.specs.Borders.{line_along}
use Rattle.run_borders.proofs.OnPlane.{lines_on}
use Rattle.run_borders.proofs.borders.inner_lines.Goals as goal

pub returns-clause-on : goal.returns-clause-on
returns-clause-on c =
    let plane = c.args.plane.now in
    subst (AreOn plane) (sym (c.in_ok-shapes.ensures.exact ∙ ap (map line_along) c.as_slice.ensures.all)) (lines_on plane c.in_ok-arcs.arcs c.in_ok-arcs.ensures.there)
