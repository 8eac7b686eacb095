use Rattle.std.proofs.Common.{◌≡◌, drop}
use Rattle.cmd_words.specs.Values.{renames_of, with_rename}
use Rattle.cmd_words.specs.Steps.{each_step}
use Rattle.cmd_words.proofs.values.read_renames.Given as goal

abbrev pub invariant-loop-item : goal.invariant-loop-item
invariant-loop-item l = renames_of l.value ≡ each_step with_rename l.renames (drop l.item-index l.item-items)
