use Rattle.std.proofs.Common.{◌≡◌, map, take}
use Rattle.geojson_io.specs.Texts.{key_text}
use Rattle.geojson_io.proofs.writing.properties.keys_of.Given as goal

abbrev pub invariant-loop-name : goal.invariant-loop-name
invariant-loop-name l = l.keys.items ≡ map key_text (take l.name-index l.names)
