use Rattle.std.proofs.Common.{Option, subst, sym}
use Rattle.io_core.specs.Contents.{Content}
use Rattle.run_plane.specs.OnPlane.{AreAllOn}
use Rattle.run_plane.specs.declared.layer.Layer.{Layer}
use Rattle.run_steps.specs.Commands.{IsTitled}
use Rattle.run_steps.proofs.OnPlane.{first_place_on, name_on}
use Rattle.run_steps.proofs.outputs.joint_output.Goals as goal

pub returns-clause-puts : goal.returns-clause-puts
returns-clause-puts c =
    let made : Layer = c.in_ok-layer.layer in
    let named : Layer = c.in_ok-layer-2.layer in
    record {
      made = made;
      titled = named;
      of_all = c.in_ok-layer.ensures.made;
      title = subst (λ (title : Option Content). IsTitled title made named) c.as_ref.ensures.value c.in_ok-layer-2.ensures.titled;
      place = c.in_ok-at_first.ensures.placed;
    }

pub returns-clause-on : goal.returns-clause-on
returns-clause-on c =
    let plane = c.args.base.now.plane.now in
    let made : Layer = c.in_ok-layer.layer in
    let named : Layer = c.in_ok-layer-2.layer in
    subst (AreAllOn plane) (sym c.in_ok-at_first.ensures.placed)
    (first_place_on plane c.args.command.now.target c.args.layers.now named (name_on plane _ made named c.in_ok-layer-2.ensures.titled c.in_ok-layer.ensures.on))
