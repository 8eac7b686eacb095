-- A refused table is refused for the reason that is told; the layer of a table has no paths.
use Rattle.std.proofs.Common.{refl, length, ◌∷◌, [], All, Err}
use Rattle.std.proofs.lemmas.List.Elements.{All-cons, All-nil, All-replicate}
use Rattle.io_core.specs.Contents.{Content}
use Rattle.json_values.specs.Table.{TableContent}
use Rattle.geojson_io.specs.Sound.{LayerIsSound, ShapeIsSound}
use Rattle.geojson_io.specs.declared.layer.Room.{Room}
use Rattle.geojson_io.specs.declared.shape.GeoShape.TheVariants.{Nothing}
use Rattle.job_terms.specs.declared.job.SourceWord.{SourceWord}
use Rattle.csv_io.specs.CsvTable.{ReadsText}
use Rattle.csv_io.specs.declared.fault.CsvFault.{CsvFault}
use Rattle.csv_io.specs.declared.fault.CsvFault.TheVariants as csv
use Rattle.run_sources.specs.Decoding.{DecodesTable, table_layer, table_stop}

pub table_refused : (room : Room) (source : SourceWord) (bytes : Content) (fault : CsvFault) → ReadsText source.string_fields room.features bytes (Err fault) → DecodesTable room source bytes (Err (table_stop fault))
table_refused room source bytes (csv.Utf8 at) h = record { fault = csv.Utf8 at; found = h; told = refl }
table_refused room source bytes csv.NoHeader h = record { fault = csv.NoHeader; found = h; told = refl }
table_refused room source bytes (csv.RepeatedName column) h = record { fault = csv.RepeatedName column; found = h; told = refl }
table_refused room source bytes (csv.TooManyRows row) h = record { fault = csv.TooManyRows row; found = h; told = refl }
table_refused room source bytes (csv.UnequalRow row) h = record { fault = csv.UnequalRow row; found = h; told = refl }
table_refused room source bytes csv.Memory h = tt

pub table_sound : (title : Content) (table : TableContent) → All LayerIsSound (table_layer title table ∷ [])
table_sound title table = All-cons LayerIsSound (table_layer title table) [] (All-replicate ShapeIsSound (length table.rows) Nothing tt) (All-nil LayerIsSound)
