use Rattle.geojson_io.proofs.ReadLemmas.{IsReadTo}
use Rattle.geojson_io.proofs.reading.items.each.Given as goal

abbrev pub invariant-loop-json : goal.invariant-loop-json
invariant-loop-json g l = IsReadTo (g.R.ReadItem.read l.places) l.items l.json-index l.initial.left l.list l.left
