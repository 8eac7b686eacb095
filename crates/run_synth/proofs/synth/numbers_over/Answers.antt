use Rattle.std.proofs.Common.{sym, subst}
use Rattle.face_sets.specs.Sets.{IsSetOf}
use Rattle.run_synth.proofs.InnerSets.{together_inner}
use Rattle.run_synth.proofs.synth.numbers_over.Goals as goal

pub twice_area-requires : goal.twice_area-requires
twice_area-requires c =
    let faces = c.args.plane.now.faces in
    record { faces = subst (IsSetOf faces) (sym c.in_ok-covered.ensures.exact) (together_inner faces c.args.sets.now c.requires.inner) }
