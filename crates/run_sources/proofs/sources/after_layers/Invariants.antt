use Rattle.std.proofs.Common.{◌≡◌, ◌-◌, take, sum_by}
use Rattle.run_sources.specs.Budget.{position_count}
use Rattle.run_sources.proofs.sources.after_layers.Given as goal

abbrev pub invariant-loop-layer : goal.invariant-loop-layer
invariant-loop-layer l = l.left ≡ l.room - sum_by position_count (take l.layer-index l.layers)
