use Rattle.std.proofs.Common.{◌++◌, ◌∙◌, ap, arith}
use Rattle.std.specs.List.{flat_map}
use Rattle.hot_pixels.specs.Spots.{path_spots}
use Rattle.hot_pixels.proofs.Appending.{appends_more, appends_all}
use Rattle.hot_pixels.proofs.spots.add_rings.Goals as goal

pub loop-ring-preserved : goal.loop-ring-preserved
loop-ring-preserved c =
    appends_more path_spots (c.args.spots.now.items ++ flat_map path_spots c.args.rings.now) c.loop-ring.spots.items c.add_path.new.spots.items c.ring-item.result c.args.rings.now c.loop-ring.ring-index (omega arith) c.ring-item.is c.loop-ring.invariant
    (c.in_ok-add_path.ensures.added ∙ ap (λ xs. c.loop-ring.spots.items ++ path_spots xs) c.as_slice.ensures.all)

pub returns : goal.returns
returns c = record { added = appends_all path_spots (c.args.spots.now.items ++ flat_map path_spots c.args.rings.now) c.loop-ring.spots.items c.args.rings.now c.loop-ring.ring-index (omega arith) c.loop-ring.invariant }
