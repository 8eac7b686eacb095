use Rattle.std.proofs.Common.{◌≡◌, take, map}
use Rattle.table_terms.specs.Names.{place_of}
use Rattle.table_rows.proofs.items.places_of.Given as goal

abbrev pub invariant-loop-field : goal.invariant-loop-field
invariant-loop-field l = l.places.items ≡ map (place_of l.names) (take l.field-index l.fields)
