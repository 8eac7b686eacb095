use Rattle.std.proofs.Common.{◌≡◌, ◌≤◌, ◌+◌, ◌-◌, length, drop, take_while}
use Rattle.json_values.specs.Text.{is_plain}
use Rattle.json_values.proofs.printing.plain_count.Given as goal

abbrev pub invariant-loop-n : goal.invariant-loop-n
invariant-loop-n l = (l.n ≤ length l.text) × (length (take_while is_plain l.text) ≡ l.n + length (take_while is_plain (drop l.n l.text)))

abbrev pub decreases-loop-n : goal.decreases-loop-n
decreases-loop-n l = length l.text - l.n
