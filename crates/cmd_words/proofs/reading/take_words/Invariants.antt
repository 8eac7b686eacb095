use Rattle.std.proofs.Common.{◌≡◌, ◌+◌, drop}
use Rattle.cmd_words.specs.Expressions.{Refusals, AreRefusals}
use Rattle.cmd_words.specs.Seen.{form_seen}
use Rattle.cmd_words.specs.Words.{words_from, take_words}
use Rattle.cmd_words.proofs.reading.take_words.Given as goal

abbrev pub invariant-loop-word : goal.invariant-loop-word
invariant-loop-word l = record {
  number : l.number ≡ l.first + l.word-index;
  left : (refuses : Refusals) → AreRefusals refuses → take_words refuses l.places (form_seen l.form) l.initial.group (words_from l.first l.words) ≡ take_words refuses l.places (form_seen l.form) l.group (words_from l.number (drop l.word-index l.words));
}
