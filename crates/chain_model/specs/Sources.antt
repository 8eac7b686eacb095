-- The layers of the sources of a chain, or the first of them that is missing, too long or refused.
use Rattle.std.specs.Prelude.{ℕ, ◌+◌, ◌-◌, Bool, false, not, ◌||◌, ◌==◌, nat_lt, IsUtf8, List, [], ◌∷◌, map, length, sum_by, codes, take, drop, Option, Some, None, option_map, unwrap_or, MatchOption, Result, Ok, Err, MatchResult, if◌then◌else◌}
use Rattle.std.specs.Path.{rsplit_once}
use Rattle.std.specs.Str.{bytes_eq}
use Rattle.plane_model.specs.Points.{Path}
use Rattle.grid_base.specs.declared.kinds.Kind.TheVariants as kind
use Rattle.io_core.specs.Contents.{Content, FileMap}
use Rattle.json_read.specs.Faults.{IsFault}
use Rattle.json_values.specs.Grammar.{JsonText}
use Rattle.json_values.specs.Json.{JsonValue, object}
use Rattle.json_values.specs.Table.{TableContent, RowValues}
use Rattle.json_read.specs.declared.reader.Fault.TheVariants as fault
use Rattle.geojson_io.specs.Geometries.{type_of}
use Rattle.geojson_io.specs.LayerContent.{LayerContent}
use Rattle.geojson_io.specs.Layers.{read_geojson}
use Rattle.geojson_io.specs.Reads.{Fault}
use Rattle.geojson_io.specs.declared.layer.Room.{Room}
use Rattle.geojson_io.specs.declared.shape.GeoShape.{GeoShape}
use Rattle.geojson_io.specs.declared.shape.GeoShape.TheVariants as shape
use Rattle.topo_io.specs.Reads.{Fault as TopologyFault}
use Rattle.topo_io.specs.Topologies.{read_topojson}
use Rattle.csv_io.specs.CsvTable.{table_of_text}
use Rattle.csv_io.specs.CsvUtf8.{EndsUtf8At}
use Rattle.table_terms.specs.Refusals.{on_ok}
use Rattle.csv_io.specs.declared.fault.CsvFault.{CsvFault}
use Rattle.csv_io.specs.declared.fault.CsvFault.TheVariants as csv
use Rattle.cmd_words.specs.Expressions.{AreRefusals, Refusals}
use Rattle.cmd_words.specs.Texts.{ends_in}
use Rattle.job_terms.specs.declared.job.SourceWord.{SourceWord}
use Rattle.chain_model.specs.Outcome.{Outcome, missing, too_long, bad_input, InputWhy, syntax, depth, utf8, shape as in_feature, topo, no_header, repeated_name, too_many_rows, unequal_row}

-- ---- readings of texts, which grammars determine

pub record Readings : Type 0 where
  -- the value of a JSON text (RFC 8259), or where and why it is none
  pub json : Content → Result JsonValue InputWhy
  -- where bytes that are no UTF-8 text stop to begin one
  pub utf8_end : Content → Option ℕ
  -- where and why a text is no expression
  pub refusals : Refusals

abbrev pub IsJsonFault : Content → InputWhy → Type 0
IsJsonFault bytes (syntax at) = IsFault 64 bytes fault.Syntax at
IsJsonFault bytes (depth at) = IsFault 64 bytes fault.Depth at
IsJsonFault bytes (utf8 at) = IsFault 64 bytes fault.Utf8 at
IsJsonFault bytes _ = ⊥

pub record AreReadings (read : Readings) : Type 0 where
  pub json : (bytes : Content) → MatchResult (read.json bytes) (JsonText 64 bytes) (IsJsonFault bytes)
  pub utf8 : (bytes : Content) → MatchOption (read.utf8_end bytes) (IsUtf8 bytes) (EndsUtf8At bytes)
  pub expressions : AreRefusals read.refusals

-- ---- the format and the title of a source

abbrev pub is_white : ℕ → Bool
is_white b = (b == 32) || (b == 9) || (b == 10) || (b == 13)

-- the first byte after white space opens an object or an array
abbrev pub opens_json : Content → Bool
opens_json [] = false
opens_json (b ∷ rest) = if is_white b then opens_json rest else (b == 123) || (b == 91)

-- without a byte order mark at the front
abbrev pub skip_mark : Content → Content
skip_mark bytes = if bytes_eq (take 3 bytes) (0xEF ∷ 0xBB ∷ 0xBF ∷ []) then drop 3 bytes else bytes

-- standard input is JSON by its first byte, a file is comma-separated text by its name
abbrev pub is_csv : SourceWord → Content → Bool
is_csv s bytes = if s.standard then not (opens_json (skip_mark bytes)) else ends_in s.name (codes ".csv")

-- what stands after the last slash, and what stands before the last point
abbrev pub after_slash : Content → Content
after_slash name = unwrap_or (option_map (λ split. split.1) (rsplit_once 47 name)) name

abbrev pub before_point : Content → Content
before_point name = unwrap_or (option_map (λ split. split.0) (rsplit_once 46 name)) name

-- the name of a file without its folders and its ending; standard input is a layer
abbrev pub title_of : SourceWord → Content
title_of s = if s.standard then codes "layer" else before_point (after_slash s.name)

-- ---- the layers of a source's bytes

abbrev pub Layers : Type 0
Layers = Result (List LayerContent) InputWhy

-- a reader of bytes may want memory, which is no fault of them
abbrev pub csv_fault : CsvFault → InputWhy
csv_fault (csv.Utf8 at) = utf8 at
csv_fault csv.NoHeader = no_header
csv_fault (csv.RepeatedName column) = repeated_name column
csv_fault (csv.TooManyRows row) = too_many_rows row
csv_fault (csv.UnequalRow row) = unequal_row row
csv_fault csv.Memory = no_header

abbrev pub table_layers : Content → Result TableContent CsvFault → Layers
table_layers title (Err e) = Err (csv_fault e)
table_layers title (Ok t) = Ok (record { name = title; kind = kind.Table; table = t; shapes = map (λ (row : RowValues). shape.Nothing) t.rows } ∷ [])

-- comma-separated text (RFC 4180) is UTF-8
abbrev pub csv_layers : Readings → Room → SourceWord → Content → Layers
csv_layers read room s bytes = elim (read.utf8_end bytes) [ Some at ↦ Err (utf8 at) | None ↦ table_layers (title_of s) (table_of_text s.string_fields room.features bytes) ]

-- a topology (TopoJSON 1.0) is an object of that type
abbrev pub is_topology : JsonValue → Bool
is_topology (object fs) = bytes_eq (type_of fs) (codes "Topology")
is_topology _ = false

abbrev pub geojson_layers : Result (List LayerContent) Fault → Layers
geojson_layers (Ok ls) = Ok ls
geojson_layers (Err e) = Err (in_feature e.0 e.1)

abbrev pub topojson_layers : Result (List LayerContent) TopologyFault → Layers
topojson_layers (Ok ls) = Ok ls
topojson_layers (Err e) = Err (topo e.0 e.1)

abbrev pub json_layers : ℕ → Room → Content → Result JsonValue InputWhy → Layers
json_layers places room title (Err why) = Err why
json_layers places room title (Ok j) =
    if is_topology j then topojson_layers (read_topojson places room.positions room.features j) else geojson_layers (read_geojson places title room.positions room.features j)

abbrev pub decoded : Readings → ℕ → Room → SourceWord → Content → Layers
decoded read places room s bytes = if is_csv s bytes then csv_layers read room s bytes else json_layers places room (title_of s) (read.json bytes)

-- ---- what all sources of a run may have

abbrev pub byte_limit : ℕ
byte_limit = 67108864

abbrev pub whole_room : Room
whole_room = record { positions = 2000000; features = 500000 }

abbrev pub positions_along : List Path → ℕ
positions_along paths = sum_by (λ (path : Path). length path) paths

abbrev pub positions_in : GeoShape → ℕ
positions_in shape.Nothing = 0
positions_in (shape.Polygons polygons) = sum_by positions_along polygons
positions_in (shape.Lines lines) = positions_along lines
positions_in (shape.Points points) = length points

-- the room that is left after some layers: each position and each feature counts
abbrev pub room_after : Room → List LayerContent → Room
room_after room ls = record {
  positions = room.positions - sum_by (λ (l : LayerContent). sum_by positions_in l.shapes) ls;
  features = room.features - sum_by (λ (l : LayerContent). length l.shapes) ls;
}

-- ---- sources in order, which share the room

-- the bytes of a source: those of standard input, or those of its file, where there is one
abbrev pub bytes_of : FileMap → Content → SourceWord → Option Content
bytes_of files input s = if s.standard then Some input else files s.name

abbrev pub or_refused : ℕ → Layers → Result (List LayerContent) Outcome
or_refused n (Ok ls) = Ok ls
or_refused n (Err why) = Err (bad_input n why)

-- source n by its bytes, where the sources before it have `before` bytes together
abbrev pub source_layers : Readings → ℕ → ℕ → Room → ℕ → SourceWord → Option Content → Result (List LayerContent) Outcome
source_layers read places before room n s None = Err (missing n)
source_layers read places before room n s (Some bytes) =
    if nat_lt byte_limit (before + length bytes) then Err (too_long n) else or_refused n (decoded read places room s bytes)

abbrev pub length_of : Option Content → ℕ
length_of None = 0
length_of (Some bytes) = length bytes

-- the layers of each source from number n on; the first that is refused ends it
abbrev pub imported : Readings → ℕ → FileMap → Content → ℕ → Room → ℕ → List SourceWord → Result (List (List LayerContent)) Outcome
imported read places files input before room n [] = Ok []
imported read places files input before room n (s ∷ ss) =
    on_ok (source_layers read places before room n s (bytes_of files input s)) (λ (ls : List LayerContent).
    on_ok (imported read places files input (before + length_of (bytes_of files input s)) (room_after room ls) (n + 1) ss) (λ (rest : List (List LayerContent)).
    Ok (ls ∷ rest)))
