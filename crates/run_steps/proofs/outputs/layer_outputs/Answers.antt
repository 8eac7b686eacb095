use Rattle.std.proofs.Common.{option_copied}
use Rattle.std.proofs.lemmas.Result.{IfOk-weaker}
use Rattle.run_plane.specs.OnPlane.{AreLayersOn}
use Rattle.run_tables.proofs.OnPlane.{split_on}
use Rattle.run_tables.specs.Pieces.{IsSplit}
use Rattle.run_steps.proofs.Counting.{makes_one}
use Rattle.run_steps.proofs.outputs.layer_outputs.Goals as goal

pub layer_made-requires-clause-one : goal.layer_made-requires-clause-one
layer_made-requires-clause-one c = makes_one c.args.action.now c.in_default.not-Split

pub returns-in-Split-clause-on : goal.returns-in-Split-clause-on
returns-in-Split-clause-on c =
    let plane = c.args.base.now.plane.now in
    let field = option_copied c.as_ref.result in
    IfOk-weaker c.split.result (λ made. IsSplit field c.args.layer.now made.items) (λ made. AreLayersOn plane made.items)
    (λ made h. split_on plane field c.args.layer.now c.requires.on made.items h) c.split.ensures.split
