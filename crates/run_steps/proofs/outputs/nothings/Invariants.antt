use Rattle.std.proofs.Common.{◌≡◌, [], map, replicate}
use Rattle.run_steps.proofs.outputs.nothings.Given as goal

abbrev pub invariant-loop-place : goal.invariant-loop-place
invariant-loop-place l = map (λ out. out.items) l.outputs.items ≡ replicate l._place []
