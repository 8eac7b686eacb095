use Rattle.std.proofs.Common.{◌++◌, ◌-◌, ◌+◌, length, take, drop, arith}
use Rattle.hot_pixels.specs.Spots.{crossings_among}
use Rattle.hot_pixels.proofs.FoundLemmas.{pairs_more, rest_is, pairs_all}
use Rattle.hot_pixels.proofs.pairs.add_crossings_among.Goals as goal

pub loop-k-preserved : goal.loop-k-preserved
loop-k-preserved c =
    let near = c.args.near.now in
    pairs_more c.args.edges.now (c.args.points.now.items ++ crossings_among c.args.edges.now near) c.loop-k.points.items c.add_crossings_with.new.points.items near (take (length near - (c.loop-k.k + 1)) (drop (c.loop-k.k + 1) near)) c.loop-k.k (omega arith) (rest_is near c.loop-k.k) c.loop-k.invariant c.in_ok-add_crossings_with.ensures.added

pub returns : goal.returns
returns c = record { added = pairs_all c.args.edges.now (c.args.points.now.items ++ crossings_among c.args.edges.now c.args.near.now) c.loop-k.points.items c.args.near.now c.loop-k.k (omega arith) c.loop-k.invariant }
