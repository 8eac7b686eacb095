use Rattle.std.proofs.Common.{◌≡◌, ◌++◌, length}
use Rattle.std.specs.List.{flat_map}
use Rattle.json_values.specs.Text.{escaped}
use Rattle.numerals.specs.Bytes.{Begins}
use Rattle.json_values.proofs.printing.print_escaped.Given as goal

abbrev pub invariant-loop-out : goal.invariant-loop-out
invariant-loop-out l = (l.out ++ flat_map escaped l.rest ≡ l.fn.out ++ flat_map escaped l.fn.text) × Begins l.fn.out l.out

abbrev pub decreases-loop-out : goal.decreases-loop-out
decreases-loop-out l = length l.rest
