use Rattle.std.proofs.Common.{map, sym, ap, subst, ◌∙◌}
use Rattle.run_plane.specs.OnPlane.{AreOn}
use Rattle.run_shapes.specs.Cleaning.{piece_shape}
use Rattle.run_state.proofs.OnPlane.{sets_inner}
use Rattle.run_shapes.proofs.OnPlane.{pieces_on}
use Rattle.run_shapes.proofs.cleaning.mosaic.Goals as goal

pub mosaic_sets-requires-clause-faces : goal.mosaic_sets-requires-clause-faces
mosaic_sets-requires-clause-faces c = sets_inner c.args.plane.now c.args.layer.now.shapes.items c.deref.result.now c.in_ok-sets.sets c.in_ok-sets.ensures.exact c.deref.ensures.value c.requires.on

pub returns-clause-on : goal.returns-clause-on
returns-clause-on c =
    let plane = c.args.plane.now in
    subst (AreOn plane) (sym (c.in_ok-shapes.ensures.exact ∙ ap (map piece_shape) c.into_vec.ensures.all)) (pieces_on plane c.in_ok-items.items c.in_ok-items.ensures.inner)
