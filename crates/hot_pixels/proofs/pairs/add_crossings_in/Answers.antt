use Rattle.std.proofs.Common.{length, arith}
use Rattle.hot_pixels.proofs.FoundLemmas.{none_before, one_before, fewer_before}
use Rattle.hot_pixels.proofs.MarkingLemmas.{near_there}
use Rattle.hot_pixels.proofs.pairs.add_crossings_in.Goals as goal

pub near_of-requires : goal.near_of-requires
near_of-requires c = let m = c.count-place-end.ensures.exact in let n = c.count-place-end.ensures.lists in omega arith

pub add_crossings_parted-requires : goal.add_crossings_parted-requires
add_crossings_parted-requires c = near_there c.args.edges.now c.args.buckets.now c.requires c.loop-place.place c.near_of.result.now c.near_of.ensures.exact

pub loop-place-init : goal.loop-place-init
loop-place-init c = none_before c.args.buckets.now.near c.args.edges.now c.args.points.now.items

pub loop-place-preserved : goal.loop-place-preserved
loop-place-preserved c =
    one_before c.loop-place.place c.args.buckets.now.near c.args.edges.now c.args.points.now.items c.loop-place.points.items c.add_crossings_parted.new.points.items c.near_of.result.now c.near_of.ensures.exact c.loop-place.invariant
    c.in_ok-add_crossings_parted.ensures.ok

pub returns : goal.returns
returns c =
    let m = c.count-place-end.ensures.exact in
    let n = c.count-place-end.ensures.lists in
    record { ok = fewer_before (length c.args.buckets.now.near) c.loop-place.place c.args.buckets.now.near c.args.edges.now c.args.points.now.items c.loop-place.points.items (omega arith) c.loop-place.invariant }
