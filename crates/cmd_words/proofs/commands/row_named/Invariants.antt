use Rattle.std.proofs.Common.{◌≡◌, map, drop}
use Rattle.cmd_words.specs.Rows.{row_named}
use Rattle.cmd_words.specs.Seen.{row_seen}
use Rattle.cmd_words.proofs.commands.row_named.Given as goal

abbrev pub invariant-loop-row : goal.invariant-loop-row
invariant-loop-row l = row_named (map row_seen l.rows) l.word ≡ row_named (map row_seen (drop l.row-index l.rows)) l.word
