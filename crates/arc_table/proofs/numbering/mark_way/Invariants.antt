use Rattle.std.proofs.Common.{◌≡◌, ◌+◌, ◌<◌, ℕ, false, length, get_or}
use Rattle.arc_table.specs.Numbering.{place_after, GoesOn, AddsMarks}
use Rattle.arc_table.proofs.numbering.mark_way.Given as goal

abbrev pub invariant-loop-step : goal.invariant-loop-step
invariant-loop-step l =
    (l.at < length l.net.steps) × (length l.is_numbered.items ≡ length l.net.steps) × (l.steps ≡ l._step)
    × (l.at ≡ place_after l.net.onward.items l._step l.start)
    × (get_or l.is_numbered.items l.at false ≡ false)
    × ((n : ℕ) → GoesOn l.net.onward.items n l.at → GoesOn l.net.onward.items (l._step + n) l.start)
    × AddsMarks l.net l.fn.is_numbered.items l.is_numbered.items l._step l.start
