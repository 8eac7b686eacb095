use Rattle.std.proofs.Common.{◌≡◌, map, take}
use Rattle.std.specs.Option.{option_copied}
use Rattle.cmd_words.specs.Words.{import_source}
use Rattle.cmd_words.proofs.word_groups.sources_of.Given as goal

abbrev pub invariant-loop-file : goal.invariant-loop-file
invariant-loop-file l = l.sources ≡ map (import_source (option_copied l.fields)) (take l.file-index l.files)
