use Rattle.std.proofs.Common.{◌≡◌, ℕ, ◌<◌, length, get_or, All}
use Rattle.ring_trace.proofs.PairLemmas.{place_in_ends}
use Rattle.ring_trace.proofs.pairing.onward_of.Given as goal

abbrev pub invariant-loop-k : goal.invariant-loop-k
invariant-loop-k l = record {
  each : length l.onward.items ≡ length l.edges;
  there : All (λ (k : ℕ). k < length l.edges) l.onward.items;
  written : (j : ℕ) → j < l.k → get_or l.onward.items (place_in_ends l.ends.items j) 0 ≡ j;
}
