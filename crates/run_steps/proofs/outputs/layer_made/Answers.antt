use Rattle.std.proofs.Common.{[], ◌∷◌, option_copied}
use Rattle.std.proofs.lemmas.Result.{IfOk-weaker}
use Rattle.run_plane.specs.OnPlane.{IsLayerOn}
use Rattle.run_state.specs.Origins.{base_of}
use Rattle.run_borders.specs.Dissolving.{IsGrouped}
use Rattle.run_borders.proofs.OnPlane.{grouped_on}
use Rattle.run_tables.proofs.OnPlane.{filtered_on, given_on, numbers_on}
use Rattle.run_tables.specs.Made.{IsFiltered}
use Rattle.run_steps.specs.Commands.{Joins, JoinsByPlace}
use Rattle.run_steps.proofs.OnPlane.{joins_on, places_join_on}
use Rattle.run_steps.proofs.outputs.layer_made.Goals as goal

pub returns-in-Dissolve-clause-on : goal.returns-in-Dissolve-clause-on
returns-in-Dissolve-clause-on c =
    let plane = c.args.base.now.plane.now in
    IfOk-weaker c.dissolved.result (IsGrouped c.in-Dissolve.spec c.args.layer.now) (IsLayerOn plane)
    (λ made h. grouped_on plane c.in-Dissolve.spec c.args.layer.now made h c.requires.on) c.dissolved.ensures.made

pub returns-in-Filter-clause-on : goal.returns-in-Filter-clause-on
returns-in-Filter-clause-on c =
    let plane = c.args.base.now.plane.now in
    let test = option_copied c.as_ref.result in
    IfOk-weaker c.filtered.result (IsFiltered test c.in-Filter.invert c.in-Filter.remove_empty c.args.layer.now) (IsLayerOn plane)
    (filtered_on plane test c.in-Filter.invert c.in-Filter.remove_empty c.args.layer.now c.requires.on) c.filtered.ensures.made

pub returns-in-FilterFields-clause-on : goal.returns-in-FilterFields-clause-on
returns-in-FilterFields-clause-on c =
    let plane = c.args.base.now.plane.now in
    IfOk-weaker c.with_fields.result _ (IsLayerOn plane) (given_on plane _ c.args.layer.now c.requires.on) c.with_fields.ensures.made

pub returns-in-RenameFields-clause-on : goal.returns-in-RenameFields-clause-on
returns-in-RenameFields-clause-on c =
    let plane = c.args.base.now.plane.now in
    IfOk-weaker c.renamed.result _ (IsLayerOn plane) (given_on plane _ c.args.layer.now c.requires.on) c.renamed.ensures.made

pub returns-in-Each-clause-on : goal.returns-in-Each-clause-on
returns-in-Each-clause-on c =
    let plane = c.args.base.now.plane.now in
    IfOk-weaker c.calculated.result _ (IsLayerOn plane) (given_on plane _ c.args.layer.now c.requires.on) c.calculated.ensures.made

pub returns-in-Sort-clause-on : goal.returns-in-Sort-clause-on
returns-in-Sort-clause-on c =
    let plane = c.args.base.now.plane.now in
    IfOk-weaker c.sorted.result _ (IsLayerOn plane) (numbers_on plane _ c.args.layer.now c.requires.on) c.sorted.ensures.made

pub returns-in-Uniq-clause-on : goal.returns-in-Uniq-clause-on
returns-in-Uniq-clause-on c =
    let plane = c.args.base.now.plane.now in
    IfOk-weaker c.unrepeated.result _ (IsLayerOn plane) (numbers_on plane _ c.args.layer.now c.requires.on) c.unrepeated.ensures.made

pub returns-in-Join-clause-on : goal.returns-in-Join-clause-on
returns-in-Join-clause-on c =
    let base = base_of c.args.base.now in
    let plane = c.args.base.now.plane.now in
    IfOk-weaker c.joined_by.result (λ made. Joins base c.args.layers.now c.in-Join.from c.in-Join.spec c.args.layer.now (made ∷ [])) (IsLayerOn plane)
    (joins_on plane base c.args.layers.now c.in-Join.from c.in-Join.spec c.args.layer.now c.requires.on) c.joined_by.ensures.joins

pub returns-in-SpatialJoin-clause-on : goal.returns-in-SpatialJoin-clause-on
returns-in-SpatialJoin-clause-on c =
    let base = base_of c.args.base.now in
    let plane = c.args.base.now.plane.now in
    IfOk-weaker c.joined_by_place.result (λ made. JoinsByPlace base c.args.layers.now c.in-SpatialJoin.from c.in-SpatialJoin.spec c.args.layer.now (made ∷ [])) (IsLayerOn plane)
    (places_join_on plane base c.args.layers.now c.in-SpatialJoin.from c.in-SpatialJoin.spec c.args.layer.now c.requires.on) c.joined_by_place.ensures.joins
