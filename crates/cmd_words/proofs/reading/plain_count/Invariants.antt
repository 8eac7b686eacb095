use Rattle.std.proofs.Common.{◌≡◌, ◌+◌, drop}
use Rattle.std.specs.List.{position_or_len}
use Rattle.cmd_words.specs.Texts.{is_command}
use Rattle.cmd_words.proofs.reading.plain_count.Given as goal

abbrev pub invariant-loop-word : goal.invariant-loop-word
invariant-loop-word l = (l.count ≡ l.word-index) × (position_or_len is_command l.words ≡ l.count + position_or_len is_command (drop l.word-index l.words))
