use Rattle.std.proofs.Common.{◌≡◌, ◌+◌, ◌-◌, ◌<◌, ◌++◌, length}
use Rattle.arc_table.specs.Numbering.{ends_along, points_along}
use Rattle.arc_table.proofs.numbering.points_along.Given as goal

abbrev pub invariant-loop-step : goal.invariant-loop-step
invariant-loop-step l = (l.at < length l.net.steps) × (length l.points.items ≡ l._step + 1) × (l.points.items ++ ends_along l.net (l.fn.way.steps - l._step) l.at ≡ points_along l.net l.fn.way)
