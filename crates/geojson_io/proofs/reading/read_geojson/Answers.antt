use Rattle.std.proofs.Common.{rules, ◌≡◌, Ok}
use Rattle.json_values.specs.Seen.{json_value}
use Rattle.geojson_io.specs.Layers.{read_geojson}
use Rattle.geojson_io.proofs.SoundReads.{layers_sound}
use Rattle.geojson_io.proofs.reading.read_geojson.Goals as goal

pub returns-clause-sound : goal.returns-clause-sound
returns-clause-sound c =
    let layers = c.in_ok-layers_of.field-0 in
    let ok : read_geojson c.args.places c.args.name.now c.args.room.positions c.args.room.features (json_value c.args.json.now) ≡ Ok layers = search rules in
    layers_sound c.args.places c.args.name.now c.args.room.positions c.args.room.features (json_value c.args.json.now) layers ok
