use Rattle.std.proofs.Common.{ℕ, ◌∙◌, All, length, map, ap, sym, subst}
use Rattle.run_plane.specs.OnPlane.{AreOn}
use Rattle.run_borders.specs.Borders.{IsAmong, border_line}
use Rattle.run_borders.proofs.OnPlane.{borders_on}
use Rattle.run_borders.proofs.borders.outlines.Goals as goal

pub ranked_lines-requires : goal.ranked_lines-requires
ranked_lines-requires c =
    let arcs = c.as_slice.result.now in
    let among = subst (All (IsAmong (length c.args.layer.now.table.rows))) (sym c.as_slice.ensures.all) c.in_ok-arcs.ensures.among in
    record { rows = subst (λ (count : ℕ). All (IsAmong count) arcs) (sym c.in_ok-listed.ensures.each) among }

pub returns-clause-on : goal.returns-clause-on
returns-clause-on c =
    let plane = c.args.plane.now in
    subst (AreOn plane) (sym (c.in_ok-ranked_lines.ensures.shapes ∙ ap (map border_line) c.as_slice.ensures.all)) (borders_on plane c.in_ok-arcs.arcs c.in_ok-arcs.ensures.there)
