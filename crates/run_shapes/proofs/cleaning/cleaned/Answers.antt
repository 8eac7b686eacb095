use Rattle.std.proofs.lemmas.Result.{IfOk-weaker}
use Rattle.run_plane.specs.OnPlane.{IsLayerOn}
use Rattle.run_state.specs.FaceSets.{HasSets}
use Rattle.run_state.proofs.OnPlane.{has_sets_on, sets_inner}
use Rattle.run_shapes.proofs.cleaning.cleaned.Goals as goal

pub clean_sets-requires-clause-faces : goal.clean_sets-requires-clause-faces
clean_sets-requires-clause-faces c = sets_inner c.args.plane.now c.args.layer.now.shapes.items c.deref.result.now c.in_ok-old.old c.in_ok-old.ensures.exact c.deref.ensures.value c.requires.on

pub returns-clause-on : goal.returns-clause-on
returns-clause-on c =
    let layer = c.args.layer.now in
    let sets = c.in_ok-sets.sets in
    IfOk-weaker c.with_sets.result (HasSets c.args.allow_empty layer sets) (IsLayerOn c.args.plane.now) (λ made has. has_sets_on c.args.plane.now c.args.allow_empty layer sets made has c.in_ok-sets.ensures.inner) c.with_sets.ensures.made
