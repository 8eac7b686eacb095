use Rattle.std.proofs.Common.{◌<◌, length, arith}
use Rattle.run_shapes.specs.Exploding.{split_shape}
use Rattle.run_shapes.proofs.Pieces.{as_many, numbers_below, numbers_more, pieces_more}
use Rattle.run_shapes.proofs.exploding.split.Goals as goal

pub loop-number-preserved : goal.loop-number-preserved
loop-number-preserved c =
    let shapes = c.args.shapes.now in
    let n = c.loop-number.number in
    let s = c.index-shapes-number.result in
    let is = c.index-shapes-number.is in
    let there : n < length shapes = omega (arith, c.loop-number-test.true, c.requires) in
    let kept = c.loop-number.invariant in
    let added = c.in_ok-added.added in
    let pushed = c.in_ok-added.ensures in
    let repeats = c.in_ok-repeat.ensures.repeated in
    record {
      numbered = numbers_more shapes n s there is c.loop-number.numbers c.repeat.new.numbers added kept.numbered pushed.count repeats;
      shown = pieces_more shapes n s there is c.loop-number.pieces.items c.push_split.new.pieces.items kept.shown pushed.pushed;
      below = numbers_below c.loop-number.numbers c.repeat.new.numbers (length shapes) n added there kept.below repeats;
      each = as_many c.loop-number.numbers c.repeat.new.numbers c.loop-number.pieces.items c.push_split.new.pieces.items (split_shape s) n added kept.each pushed.count repeats pushed.pushed;
    }
