use Rattle.std.proofs.Common.{ℕ, List, not, length, ap, subst, ◌∙◌}
use Rattle.std.proofs.lemmas.Result.{IfOk-weaker}
use Rattle.calc_ops.specs.Islands.{AreWithoutIslands}
use Rattle.run_plane.specs.OnPlane.{IsLayerOn}
use Rattle.run_state.specs.FaceSets.{HasSets, sets_in}
use Rattle.run_shapes.specs.Islands.{IsMainland}
use Rattle.run_state.proofs.OnPlane.{has_sets_on, sets_inner}
use Rattle.run_shapes.proofs.islands.without_islands.Goals as goal

pub drop_islands-requires-clause-faces : goal.drop_islands-requires-clause-faces
drop_islands-requires-clause-faces c = sets_inner c.args.plane.now c.args.layer.now.shapes.items c.deref.result.now c.in_ok-old.old c.in_ok-old.ensures.exact c.deref.ensures.value c.requires.on

pub returns : goal.returns
returns c =
    let plane = c.args.plane.now in
    let layer = c.args.layer.now in
    let area = c.args.least_area in
    let links = c.args.least_links in
    let goes = c.args.remove_empty in
    let sets = c.in_ok-sets.sets in
    let before_is = c.in_ok-old.ensures.exact ∙ ap sets_in c.deref.ensures.value in
    record {
      made = IfOk-weaker c.with_sets.result (HasSets (not goes) layer sets) (IsMainland area links goes plane layer)
          (λ made has. record {
            sets = sets;
            left = subst (λ (before : List (List ℕ)). AreWithoutIslands plane.arcs plane.faces before area links (length before) sets) before_is c.in_ok-sets.ensures.exact;
            has = has;
          }) c.with_sets.ensures.made;
      on = IfOk-weaker c.with_sets.result (HasSets (not goes) layer sets) (IsLayerOn plane) (λ made has. has_sets_on plane (not goes) layer sets made has c.in_ok-sets.ensures.inner) c.with_sets.ensures.made;
    }
