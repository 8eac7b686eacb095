use Rattle.std.proofs.Common.{ℕ, ◌<◌, ◌≤◌, length, get_or}
use Rattle.ring_trace.specs.Keys.{arc_number}
use Rattle.ring_trace.proofs.ring_keys.least_of.Given as goal

abbrev pub invariant-loop-k : goal.invariant-loop-k
invariant-loop-k l = (l.least < length l.ring) × ((j : ℕ) → j < l.k → arc_number l.edges (get_or l.ring l.least 0) ≤ arc_number l.edges (get_or l.ring j 0))
