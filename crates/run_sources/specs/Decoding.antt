-- What becomes of the bytes of a source: layers, or why they are refused.
use Rattle.std.specs.Prelude.{◌≡◌, ℕ, ⊤, ◌⊎◌, Bool, false, List, [], ◌∷◌, length, replicate, codes, Option, Some, None, Result, Ok, Err, MatchBool}
use Rattle.std.specs.Str.{bytes_eq}
use Rattle.json_values.specs.Json.{JsonValue, null, boolean, number, string, array, object}
use Rattle.json_values.specs.Lists.{fields_list, value_named}
use Rattle.json_values.specs.Grammar.{JsonText}
use Rattle.json_read.specs.Faults.{IsFault}
use Rattle.json_read.specs.declared.reader.Fault.TheVariants as fault
use Rattle.json_read.specs.declared.fault.JsonFault.{JsonFault}
use Rattle.json_read.specs.declared.fault.JsonFault.TheVariants as json
use Rattle.geojson_io.specs.Reads.{Fault}
use Rattle.geojson_io.specs.declared.fault.ShapeFault.{ShapeFault}
use Rattle.geojson_io.specs.declared.fault.ShapeFault.TheVariants as shape
use Rattle.geojson_io.specs.LayerContent.{LayerContent}
use Rattle.geojson_io.specs.Layers.{read_geojson}
use Rattle.geojson_io.specs.declared.layer.Room.{Room}
use Rattle.topo_io.specs.Reads.{Fault as TopologyFault}
use Rattle.topo_io.specs.Topologies.{read_topojson}
use Rattle.json_values.specs.Table.{TableContent}
use Rattle.grid_base.specs.declared.kinds.Kind.TheVariants as Kind
use Rattle.geojson_io.specs.declared.shape.GeoShape.TheVariants.{Nothing}
use Rattle.csv_io.specs.CsvTable.{ReadsText}
use Rattle.csv_io.specs.declared.fault.CsvFault.{CsvFault}
use Rattle.csv_io.specs.declared.fault.CsvFault.TheVariants as csv
use Rattle.job_terms.specs.declared.job.SourceWord.{SourceWord}
use Rattle.io_core.specs.Contents.{Content}
use Rattle.run_sources.specs.Formats.{is_csv}
use Rattle.run_sources.specs.Titles.{title_of}
use Rattle.run_sources.specs.declared.fault.InputWhy.{InputWhy}
use Rattle.run_sources.specs.declared.fault.InputWhy.TheVariants.{Syntax, Depth, Utf8, Shape, NoHeader, RepeatedName, TooManyRows, UnequalRow, Topo}
use Rattle.run_sources.specs.declared.decoding.DecodeStop.{DecodeStop}
use Rattle.run_sources.specs.declared.decoding.DecodeStop.TheVariants.{Refused, Memory}

-- a topology, after TopoJSON 1.0, section 2.1: an object whose type is Topology
abbrev pub is_topology_name : Option JsonValue → Bool
is_topology_name (Some (string name)) = bytes_eq name (codes "Topology")
is_topology_name (Some null) = false
is_topology_name (Some (boolean b)) = false
is_topology_name (Some (number n)) = false
is_topology_name (Some (array items)) = false
is_topology_name (Some (object members)) = false
is_topology_name None = false

abbrev pub is_topology : JsonValue → Bool
is_topology (object members) = is_topology_name (value_named (codes "type") (fields_list members))
is_topology null = false
is_topology (boolean b) = false
is_topology (number n) = false
is_topology (string s) = false
is_topology (array items) = false

-- ---- refusals

abbrev pub json_stop : JsonFault → DecodeStop
json_stop (json.Syntax at) = Refused (Syntax at)
json_stop (json.Depth at) = Refused (Depth at)
json_stop (json.Utf8 at) = Refused (Utf8 at)
json_stop json.Memory = Memory

-- what becomes of GeoJSON that was read
abbrev pub features_given : Result (List LayerContent) ShapeFault → Result (List LayerContent) DecodeStop
features_given (Ok layers) = Ok layers
features_given (Err (shape.Bad why feature)) = Err (Refused (Shape why feature))
features_given (Err shape.Memory) = Err Memory

abbrev pub table_stop : CsvFault → DecodeStop
table_stop (csv.Utf8 at) = Refused (Utf8 at)
table_stop csv.NoHeader = Refused NoHeader
table_stop (csv.RepeatedName column) = Refused (RepeatedName column)
table_stop (csv.TooManyRows row) = Refused (TooManyRows row)
table_stop (csv.UnequalRow row) = Refused (UnequalRow row)
table_stop csv.Memory = Memory

-- the bytes are no JSON text, for this reason
abbrev pub JsonRefuses : Content → InputWhy → Type 0
JsonRefuses bytes (Syntax at) = IsFault 64 bytes fault.Syntax at
JsonRefuses bytes (Depth at) = IsFault 64 bytes fault.Depth at
JsonRefuses bytes (Utf8 at) = IsFault 64 bytes fault.Utf8 at
JsonRefuses bytes (Shape why feature) = ⊥
JsonRefuses bytes NoHeader = ⊥
JsonRefuses bytes (RepeatedName column) = ⊥
JsonRefuses bytes (TooManyRows row) = ⊥
JsonRefuses bytes (UnequalRow row) = ⊥
JsonRefuses bytes (Topo why place) = ⊥

-- ---- a value of JSON

abbrev pub Layers : Type 0
Layers = Result (List LayerContent) InputWhy

abbrev pub or_shape_fault : Result (List LayerContent) Fault → Layers
or_shape_fault (Ok layers) = Ok layers
or_shape_fault (Err bad) = Err (Shape bad.0 bad.1)

abbrev pub or_topology_fault : Result (List LayerContent) TopologyFault → Layers
or_topology_fault (Ok layers) = Ok layers
or_topology_fault (Err bad) = Err (Topo bad.0 bad.1)

-- what becomes of a topology
abbrev pub TopologyAnswers : ℕ → Room → JsonValue → Layers → Type 0
TopologyAnswers places room value result = or_topology_fault (read_topojson places room.positions room.features value) ≡ result

-- what becomes of a value of JSON
abbrev pub ValueAnswers : ℕ → Room → Content → JsonValue → Layers → Type 0
ValueAnswers places room title value result =
    MatchBool (is_topology value) (TopologyAnswers places room value result) (or_shape_fault (read_geojson places title room.positions room.features value) ≡ result)

-- ---- bytes

-- the bytes are a JSON text, and this becomes of its value
abbrev pub TextGives : ℕ → Room → Content → Content → Layers → Type 0
TextGives places room title bytes result = (value : JsonValue) × JsonText 64 bytes value × ValueAnswers places room title value result

-- what becomes of the bytes of a JSON file with this title
abbrev pub JsonGives : ℕ → Room → Content → Content → Layers → Type 0
JsonGives places room title bytes (Ok layers) = TextGives places room title bytes (Ok layers)
JsonGives places room title bytes (Err why) = JsonRefuses bytes why ⊎ TextGives places room title bytes (Err why)

-- nothing is said of want of memory
abbrev pub GivesBy : (Layers → Type 0) → Result (List LayerContent) DecodeStop → Type 0
GivesBy P (Ok layers) = P (Ok layers)
GivesBy P (Err (Refused why)) = P (Err why)
GivesBy P (Err Memory) = ⊤

abbrev pub ValueGives : ℕ → Room → Content → JsonValue → Result (List LayerContent) DecodeStop → Type 0
ValueGives places room title value = GivesBy (ValueAnswers places room title value)

abbrev pub TopologyGives : ℕ → Room → JsonValue → Result (List LayerContent) DecodeStop → Type 0
TopologyGives places room value = GivesBy (TopologyAnswers places room value)

abbrev pub DecodesJson : ℕ → Room → Content → Content → Result (List LayerContent) DecodeStop → Type 0
DecodesJson places room title bytes = GivesBy (JsonGives places room title bytes)

-- ---- comma-separated text

-- the layer of a table: rows without geometry
abbrev pub table_layer : Content → TableContent → LayerContent
table_layer title t = record { name = title; kind = Kind.Table; table = t; shapes = replicate (length t.rows) Nothing }

-- the bytes are the text of a table, of which this is the one layer, under the title of the source
pub record IsTableText (room : Room) (source : SourceWord) (bytes : Content) (layers : List LayerContent) : Type 0 where
  pub table : TableContent
  pub read : ReadsText source.string_fields room.features bytes (Ok table)
  pub one : layers ≡ table_layer (title_of source) table ∷ []

-- the bytes are refused as comma-separated text, for this reason
pub record IsRefusedTable (room : Room) (source : SourceWord) (bytes : Content) (why : InputWhy) : Type 0 where
  pub fault : CsvFault
  pub found : ReadsText source.string_fields room.features bytes (Err fault)
  pub told : table_stop fault ≡ Refused why

abbrev pub DecodesTable : Room → SourceWord → Content → Result (List LayerContent) DecodeStop → Type 0
DecodesTable room source bytes (Ok layers) = IsTableText room source bytes layers
DecodesTable room source bytes (Err (Refused why)) = IsRefusedTable room source bytes why
DecodesTable room source bytes (Err Memory) = ⊤

-- ---- what becomes of the bytes of a source

abbrev pub Decodes : ℕ → Room → SourceWord → Content → Result (List LayerContent) DecodeStop → Type 0
Decodes places room source bytes result = MatchBool (is_csv source bytes) (DecodesTable room source bytes result) (DecodesJson places room (title_of source) bytes result)
