use Rattle.std.proofs.Common.{rules, ◌≡◌, ◌≤◌, ◌<◌, unsigned_abs, FitsSigned, to_z-of_z}
use Rattle.std.specs.Int.{w128}
use Rattle.grid_base.specs.Grid.{limit}
use Rattle.grid_base.proofs.Bounds.{grid_number_fits}
use Rattle.topo_io.specs.Transform.{axis_place}
use Rattle.topo_io.proofs.PlaceLemmas.{past_grid, place_is, within_grid}
use Rattle.topo_io.proofs.frame.Axis.place.Goals as goal

pub returns-then-unsigned_abs-le-GRID_LIMIT : goal.returns-then-unsigned_abs-le-GRID_LIMIT
returns-then-unsigned_abs-le-GRID_LIMIT c =
    let p = c.place_of-place.result in
    let f₁ : FitsSigned w128 p = record { sfits = c.place_of-place.type_inv } in
    let f₂ = c.ranges.number in
    let e : p ≡ axis_place c.args.self.now c.args.places c.args.number = search (rules, c.place_of-place.ensures.value, place_is c.args.self.now c.args.places c.args.number c.requires.places) in
    let within : unsigned_abs p ≤ limit = search (rules, c.if-unsigned_abs-le-GRID_LIMIT.true, c.unsigned_abs.ensures.value) in
    let f₃ = grid_number_fits p within in
    record { exact = simp to_z-of_z (within_grid p (axis_place c.args.self.now c.args.places c.args.number) e within) }

pub returns-else-unsigned_abs-le-GRID_LIMIT : goal.returns-else-unsigned_abs-le-GRID_LIMIT
returns-else-unsigned_abs-le-GRID_LIMIT c =
    let p = c.place_of-place.result in
    let f₁ : FitsSigned w128 p = record { sfits = c.place_of-place.type_inv } in
    let f₂ = c.ranges.number in
    let e : p ≡ axis_place c.args.self.now c.args.places c.args.number = search (rules, c.place_of-place.ensures.value, place_is c.args.self.now c.args.places c.args.number c.requires.places) in
    let past : limit < unsigned_abs p = search (rules, c.if-unsigned_abs-le-GRID_LIMIT.false, c.unsigned_abs.ensures.value) in
    record { exact = past_grid p (axis_place c.args.self.now c.args.places c.args.number) e past }
