use Rattle.std.proofs.Common.{◌≡◌, take}
use Rattle.std.specs.List.{IsDistinct}
use Rattle.std.specs.Str.{bytes_eq}
use Rattle.indexmap.specs.IndexSet.{insert_all}
use Rattle.table_rows.proofs.merge.add_names.Given as goal

abbrev pub invariant-loop-name : goal.invariant-loop-name
invariant-loop-name l = (l.names ≡ l.seen) × (l.seen ≡ insert_all bytes_eq l.initial.seen (take l.name-index l.name-items)) × (IsDistinct bytes_eq l.initial.seen → IsDistinct bytes_eq l.seen)
