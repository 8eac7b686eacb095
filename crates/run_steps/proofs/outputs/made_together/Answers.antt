use Rattle.std.proofs.lemmas.Result.{IfOk-weaker}
use Rattle.run_plane.specs.OnPlane.{IsLayerOn}
use Rattle.run_state.specs.Targets.{targets}
use Rattle.run_state.proofs.OnPlane.{all_targets_on}
use Rattle.run_tables.specs.Made.{IsMerged}
use Rattle.run_tables.proofs.OnPlane.{merged_on}
use Rattle.run_steps.proofs.outputs.made_together.Goals as goal

pub returns-in-MergeLayers-clause-on : goal.returns-in-MergeLayers-clause-on
returns-in-MergeLayers-clause-on c =
    let plane = c.args.base.now.plane.now in
    let layers = targets c.args.target.now c.args.layers.now in
    let force = c.in-MergeLayers.force in
    IfOk-weaker c.merged.result (IsMerged force layers) (IsLayerOn plane) (merged_on plane force layers (all_targets_on plane c.args.target.now c.args.layers.now c.requires.on)) c.merged.ensures.made
