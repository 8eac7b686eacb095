use Rattle.std.proofs.Common.{◌≡◌, ◌<◌, ℕ, length, get_or}
use Rattle.std.specs.Prelude.{◌≢◌}
use Rattle.arc_table.specs.Numbering.{place_after}
use Rattle.arc_table.proofs.numbering.last_on.Given as goal

abbrev pub invariant-loop-step : goal.invariant-loop-step
invariant-loop-step l =
    (l.at < length l.net.steps) × (l.at ≡ place_after l.net.onward.items l._step l.first)
    × ((j : ℕ) → j < l._step → (get_or l.net.onward.items (place_after l.net.onward.items j l.first) 0 ≢ place_after l.net.onward.items j l.first)
    × (get_or l.net.onward.items (place_after l.net.onward.items j l.first) 0 ≢ l.first))
