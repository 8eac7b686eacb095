use Rattle.std.proofs.Common.{◌≡◌, drop}
use Rattle.cmd_words.specs.Calculations.{calculations_of, with_calculation}
use Rattle.cmd_words.specs.Steps.{each_step}
use Rattle.cmd_words.proofs.calculations.read_calculations.Given as goal

abbrev pub invariant-loop-item : goal.invariant-loop-item
invariant-loop-item l = calculations_of l.value ≡ each_step with_calculation l.calculations (drop l.item-index l.item-items)
