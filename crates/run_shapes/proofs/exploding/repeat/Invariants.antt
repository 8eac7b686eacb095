use Rattle.std.proofs.Common.{◌≡◌, ◌++◌, replicate}
use Rattle.run_shapes.proofs.exploding.repeat.Given as goal

abbrev pub invariant-loop-time : goal.invariant-loop-time
invariant-loop-time l = l.numbers ≡ l.fn.numbers ++ replicate l._time l.number
