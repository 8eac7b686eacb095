use Rattle.std.proofs.Common.{◌≡◌, ◌+◌, length}
use Rattle.cmd_words.specs.Expressions.{Refusals, AreRefusals}
use Rattle.cmd_words.specs.Words.{take_commands}
use Rattle.cmd_words.specs.Cuts.{BeginsACommand, commands_of}
use Rattle.cmd_words.proofs.reading.take_commands.Given as goal

abbrev pub invariant-loop-left : goal.invariant-loop-left
invariant-loop-left l = record {
  number : l.number + length l.left ≡ l.first + length l.words;
  begins : BeginsACommand l.left;
  commands : (refuses : Refusals) → AreRefusals refuses → take_commands refuses l.places l.initial.so_far (commands_of l.first l.words) ≡ take_commands refuses l.places l.so_far (commands_of l.number l.left);
}

abbrev pub decreases-loop-left : goal.decreases-loop-left
decreases-loop-left l = length l.left
