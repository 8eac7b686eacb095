use Rattle.std.proofs.Common.{length, map, ap, refl, sym, subst, ◌∙◌}
use Rattle.region_ops.specs.declared.item_lists.PartItem.{PartItem}
use Rattle.run_plane.specs.OnPlane.{AreOn}
use Rattle.run_shapes.specs.Exploding.{part_shape}
use Rattle.run_state.proofs.OnPlane.{sets_inner}
use Rattle.run_shapes.proofs.OnPlane.{parts_on}
use Rattle.run_shapes.proofs.Pieces.{features_below}
use Rattle.run_shapes.proofs.exploding.parts_of.Goals as goal

pub explode_sets-requires-clause-faces : goal.explode_sets-requires-clause-faces
explode_sets-requires-clause-faces c = sets_inner c.args.plane.now c.args.shapes.now c.args.shapes.now c.in_ok-sets.sets c.in_ok-sets.ensures.exact refl c.requires.on

pub returns-clause-on : goal.returns-clause-on
returns-clause-on c =
    let plane = c.args.plane.now in
    subst (AreOn plane) (sym (c.in_ok-shapes.ensures.exact ∙ ap (map part_shape) c.into_vec.ensures.all)) (parts_on plane (length c.in_ok-sets.sets) c.in_ok-items.items c.in_ok-items.ensures.parts)

pub returns-clause-below : goal.returns-clause-below
returns-clause-below c =
    features_below c.args.plane.now.faces (length c.in_ok-sets.sets) (length c.args.shapes.now) c.in_ok-items.items c.in_ok-numbers.numbers
    c.in_ok-items.ensures.parts c.in_ok-sets.ensures.count (c.in_ok-numbers.ensures.exact ∙ ap (map (λ (item : PartItem). item.feature)) c.as_slice.ensures.all)
