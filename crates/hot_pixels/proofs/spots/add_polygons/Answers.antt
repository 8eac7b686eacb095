use Rattle.std.proofs.Common.{◌++◌, ◌∙◌, ap, arith}
use Rattle.std.specs.List.{flat_map}
use Rattle.hot_pixels.specs.Spots.{rings_spots}
use Rattle.hot_pixels.proofs.Appending.{appends_more, appends_all}
use Rattle.hot_pixels.proofs.spots.add_polygons.Goals as goal

pub loop-polygon-preserved : goal.loop-polygon-preserved
loop-polygon-preserved c =
    appends_more rings_spots (c.args.spots.now.items ++ flat_map rings_spots c.args.polygons.now) c.loop-polygon.spots.items c.add_rings.new.spots.items c.polygon-item.result c.args.polygons.now c.loop-polygon.polygon-index (omega arith) c.polygon-item.is c.loop-polygon.invariant
    (c.in_ok-add_rings.ensures.added ∙ ap (λ xs. c.loop-polygon.spots.items ++ rings_spots xs) c.as_slice.ensures.all)

pub returns : goal.returns
returns c = record { added = appends_all rings_spots (c.args.spots.now.items ++ flat_map rings_spots c.args.polygons.now) c.loop-polygon.spots.items c.args.polygons.now c.loop-polygon.polygon-index (omega arith) c.loop-polygon.invariant }
