use Rattle.std.proofs.lemmas.Result.{IfOk-weaker}
use Rattle.run_plane.specs.OnPlane.{IsLayerOn}
use Rattle.run_state.specs.Features.{LeavesOut}
use Rattle.run_state.proofs.OnPlane.{left_on}
use Rattle.run_shapes.proofs.cutting.cut.Goals as goal

pub returns-clause-on : goal.returns-clause-on
returns-clause-on c =
    let plane = c.args.plane.now in
    let layer = c.args.layer.now in
    let shapes = c.in_ok-shapes.shapes.items in
    IfOk-weaker c.nonempty.result (LeavesOut layer shapes) (IsLayerOn plane) (λ made h. left_on plane layer shapes made h c.in_ok-shapes.ensures.on) c.nonempty.ensures.left
