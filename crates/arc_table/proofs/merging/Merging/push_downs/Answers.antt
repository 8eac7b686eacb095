use Rattle.std.proofs.Common.{◌+◌, ◌*◌, ◌/◌, ◌<◌, get_or, length, arith}
use Rattle.std.proofs.lemmas.List.{take_more}
use Rattle.arc_table.proofs.StepMerge.{code_down, code_there}
use Rattle.arc_table.proofs.merging.Merging.push_downs.Goals as goal

pub loop-k-preserved : goal.loop-k-preserved
loop-k-preserved c =
    let falling = c.args.falling.now in
    let k = c.loop-k.k in
    let n = get_or falling k 0 in
    let codes = c.loop-k.self.codes.items in
    let all = c.push_down.new.self.codes.items in
    let pushed = c.in_ok-push_down.ensures.pushed in
    let inside : k < length falling = omega arith in
    let next = take_more falling k 0 inside in
    record {
      there = λ links numbers before.
          let low : n < length links = numbers k 0 inside in
          let half : (2 * n + 1) / 2 < length links = omega arith in
          code_there links codes all (2 * n + 1) half pushed (c.loop-k.invariant.there links numbers before);
      along = λ links ups before. code_down links ups falling codes all k n inside next pushed (c.loop-k.invariant.along links ups before);
    }
