use Rattle.std.proofs.Common.{◌≤◌, All}
use Rattle.json_values.specs.Lists.{fields_list}
use Rattle.geojson_io.specs.Sound.{LayerIsSound}
use Rattle.topo_io.proofs.ObjectLemmas.{AreLayersTo}
use Rattle.topo_io.proofs.reading.objects.layers_of_objects.Given as goal

abbrev pub invariant-loop-object : goal.invariant-loop-object
invariant-loop-object l = (l.before ≤ l.room.features) × All LayerIsSound l.layers × AreLayersTo l.topology l.room.features (fields_list l.objects) l.room.positions l.object l.before l.layers l.left
