use Rattle.std.proofs.Common.{◌≡◌, [], take}
use Rattle.std.specs.Str.{bytes_eq}
use Rattle.indexmap.specs.IndexSet.{insert_all}
use Rattle.csv_io.proofs.reading.texts_of.Given as goal

abbrev pub invariant-loop-name : goal.invariant-loop-name
invariant-loop-name l = l.texts ≡ insert_all bytes_eq [] (take l.name-index l.name-items)
