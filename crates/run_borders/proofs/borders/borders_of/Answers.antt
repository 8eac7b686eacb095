use Rattle.std.proofs.Common.{◌≡◌, ap, arith, length, List}
use Rattle.std.specs.Prelude.{All}
use Rattle.std.proofs.lemmas.Result.{IfOk-weaker}
use Rattle.line_ops.specs.Sided.{sided_among}
use Rattle.line_ops.specs.declared.sides.SidedArc.{SidedArc}
use Rattle.run_borders.specs.Borders.{IsAmong}
use Rattle.run_borders.proofs.Beside.{sides_among}
use Rattle.run_borders.proofs.borders.borders_of.Goals as goal

pub returns-clause-among : goal.returns-clause-among
returns-clause-among c =
    let plane = c.args.plane.now in
    let sets = c.in_ok-sets.sets in
    let count = length c.args.layer.now.table.rows in
    let many : length sets ≡ count = omega (arith, c.in_ok-sets.ensures.count, ap length c.deref.ensures.value, c.args.layer.now.each) in
    IfOk-weaker c.sided_arcs.result (λ (arcs : List SidedArc). arcs ≡ sided_among plane.faces sets (length plane.arcs)) (All (IsAmong count))
    (λ arcs e. sides_among plane.faces sets count many (length plane.arcs) arcs e) c.sided_arcs.ensures.exact
