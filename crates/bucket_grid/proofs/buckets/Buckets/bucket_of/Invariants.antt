use Rattle.bucket_grid.specs.Leading.{IsOnWay}
use Rattle.bucket_grid.proofs.buckets.Buckets.bucket_of.Given as goal

abbrev pub invariant-loop-step : goal.invariant-loop-step
invariant-loop-step l = IsOnWay l.self-inside.nodes.items l.self-inside.rects.items l.fn.p l.node l._step
