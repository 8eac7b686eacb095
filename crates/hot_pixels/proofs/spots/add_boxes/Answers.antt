use Rattle.std.proofs.Common.{◌++◌, ◌∙◌, ap, arith}
use Rattle.std.specs.List.{flat_map}
use Rattle.hot_pixels.specs.Spots.{path_spots}
use Rattle.hot_pixels.proofs.Appending.{appends_found, appends_all}
use Rattle.hot_pixels.proofs.spots.add_boxes.Goals as goal

pub loop-b-preserved : goal.loop-b-preserved
loop-b-preserved c =
    appends_found path_spots (c.args.spots.now.items ++ flat_map path_spots c.args.d.now.boxes) c.loop-b.spots.items c.add_path.new.spots.items c.box_of-ring.result.now c.args.d.now.boxes c.loop-b.b c.box_of-ring.ensures.found c.loop-b.invariant
    (c.in_ok-add_path.ensures.added ∙ ap (λ xs. c.loop-b.spots.items ++ path_spots xs) c.as_slice.ensures.all)

pub returns : goal.returns
returns c = record { added = let n = c.box_count-b-end.ensures.count in appends_all path_spots (c.args.spots.now.items ++ flat_map path_spots c.args.d.now.boxes) c.loop-b.spots.items c.args.d.now.boxes c.loop-b.b (omega arith) c.loop-b.invariant }
