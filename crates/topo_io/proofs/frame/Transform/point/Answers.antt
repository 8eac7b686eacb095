use Rattle.std.proofs.Common.{rules, ◌≡◌, Some, FitsSigned, to_z-of_z}
use Rattle.std.specs.Int.{w64}
use Rattle.numerals.specs.Numeral.{checked_grid}
use Rattle.grid_base.specs.Grid.{grid_point}
use Rattle.topo_io.specs.Transform.{axis_place}
use Rattle.topo_io.proofs.PlaceLemmas.{point_is}
use Rattle.topo_io.proofs.frame.Transform.point.Goals as goal

pub returns : goal.returns
returns c =
    let fx = c.ranges.x in
    let fy = c.ranges.y in
    let f : FitsSigned w64 c.in_ok-x.x = search rules in
    let g : FitsSigned w64 c.in_ok-y.y = search rules in
    let x : Some c.in_ok-x.x ≡ checked_grid (axis_place c.args.self.now.x c.args.places c.args.x) = simp to_z-of_z at c.in_ok-x.ensures.exact in
    let y : Some c.in_ok-y.y ≡ checked_grid (axis_place c.args.self.now.y c.args.places c.args.y) = simp to_z-of_z at c.in_ok-y.ensures.exact in
    let e : c.new.result ≡ grid_point c.in_ok-x.x c.in_ok-y.y = simp to_z-of_z at c.new.ensures.exact in
    record { exact = point_is _ _ _ _ _ x y e }
