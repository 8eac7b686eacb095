use Rattle.std.proofs.Common.{get_or}
use Rattle.std.proofs.lemmas.List.{get_or_default}
use Rattle.face_walk.proofs.OddLemmas.{odd_low, odd_more}
use Rattle.face_walk.proofs.labels.odd_ones.Goals as goal

pub flip_number-requires-clause-low : goal.flip_number-requires-clause-low
flip_number-requires-clause-low c =
    let sorted = c.args.sorted.now in
    let k = c.loop-n.n-index in
    let n = get_or sorted k 0 in
    odd_low sorted c.loop-n.odd.items k n c.requires.sorted c.loop-n-test.true (get_or_default sorted k n 0 c.loop-n-test.true) c.loop-n.invariant

pub loop-n-preserved : goal.loop-n-preserved
loop-n-preserved c =
    let sorted = c.args.sorted.now in
    let k = c.loop-n.n-index in
    let n = get_or sorted k 0 in
    odd_more sorted c.loop-n.odd.items c.flip_number.new.odd.items k n c.loop-n-test.true (get_or_default sorted k n 0 c.loop-n-test.true) c.loop-n.invariant c.in_ok-flip_number.ensures.flipped
