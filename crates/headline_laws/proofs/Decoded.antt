-- What becomes of the bytes of a source is what the model decodes.
use Rattle.std.proofs.Common.{◌≡◌, ℕ, Bool, true, false, cond, List, [], ◌∷◌, length, map, Option, Some, None, Result, Ok, Err, MatchBool, MatchOption, inl, inr, refl, sym, ap, ◌∙◌, subst}
use Rattle.std.specs.Prelude.{IsUtf8, MatchResult, replicate}
use Rattle.io_core.specs.Contents.{Content}
use Rattle.json_read.specs.Faults.{IsFault}
use Rattle.json_values.specs.Grammar.{JsonText}
use Rattle.json_values.specs.Json.{JsonValue}
use Rattle.json_values.specs.Table.{TableContent, RowValues}
use Rattle.json_read.specs.declared.reader.Fault.{Fault}
use Rattle.json_read.specs.declared.reader.Fault.TheVariants as json
use Rattle.json_read.proofs.Unique.{text_one}
use Rattle.grid_base.specs.declared.kinds.Kind.TheVariants as kind
use Rattle.geojson_io.specs.LayerContent.{LayerContent}
use Rattle.geojson_io.specs.Layers.{read_geojson}
use Rattle.geojson_io.specs.Reads as geo
use Rattle.geojson_io.specs.declared.layer.Room.{Room}
use Rattle.geojson_io.specs.declared.shape.GeoShape.{GeoShape}
use Rattle.geojson_io.specs.declared.shape.GeoShape.TheVariants as shape
use Rattle.topo_io.specs.Reads as topo
use Rattle.topo_io.specs.Topologies.{read_topojson}
use Rattle.csv_io.specs.CsvTable.{ReadsText, table_of_text}
use Rattle.csv_io.specs.CsvUtf8.{EndsUtf8At}
use Rattle.csv_io.specs.declared.fault.CsvFault.{CsvFault}
use Rattle.csv_io.specs.declared.fault.CsvFault.TheVariants as csv
use Rattle.job_terms.specs.declared.job.SourceWord.{SourceWord}
use Rattle.run_sources.specs.Decoding.{TextGives, JsonGives, JsonRefuses, IsTableText, IsRefusedTable, ValueAnswers, or_shape_fault, or_topology_fault}
use Rattle.run_sources.specs.Decoding as run
use Rattle.run_sources.specs.Formats as format
use Rattle.run_sources.specs.Titles as title
use Rattle.run_sources.specs.declared.fault.InputWhy.{InputWhy}
use Rattle.run_sources.specs.declared.fault.InputWhy.TheVariants as why
use Rattle.chain_model.specs.Outcome as told
use Rattle.chain_model.specs.Sources.{Readings, AreReadings, IsJsonFault, json_layers, csv_layers, table_layers, topojson_layers, geojson_layers, decoded}
use Rattle.chain_model.specs.Sources as model
use Rattle.headline_laws.specs.ToldSources.{input_as}
use Rattle.headline_laws.proofs.Formats.{csv_same, topology_same}
use Rattle.headline_laws.proofs.Unique.{fault_place, fault_kind, end_one}

abbrev pub layers_as : run.Layers → model.Layers
layers_as (Ok layers) = Ok layers
layers_as (Err why) = Err (input_as why)

-- ## Values of JSON

topology_as : (r : Result (List LayerContent) topo.Fault) → topojson_layers r ≡ layers_as (or_topology_fault r)
topology_as (Ok layers) = refl
topology_as (Err bad) = refl

shape_as : (r : Result (List LayerContent) geo.Fault) → geojson_layers r ≡ layers_as (or_shape_fault r)
shape_as (Ok layers) = refl
shape_as (Err bad) = refl

module _ (places : ℕ) (room : Room) (title : Content) where
  value_as : (v : JsonValue) (result : run.Layers) → ValueAnswers places room title v result → json_layers places room title (Ok v) ≡ layers_as result
  value_as v result h = ap (λ (b : Bool). cond b (topojson_layers topology) (geojson_layers shapes)) (sym (topology_same v)) ∙ go (run.is_topology v) h
    where
      topology : Result (List LayerContent) topo.Fault
      topology = read_topojson places room.positions room.features v

      shapes : Result (List LayerContent) geo.Fault
      shapes = read_geojson places title room.positions room.features v

      go : (b : Bool) → MatchBool b (or_topology_fault topology ≡ result) (or_shape_fault shapes ≡ result) → cond b (topojson_layers topology) (geojson_layers shapes) ≡ layers_as result
      go true e = topology_as topology ∙ ap layers_as e
      go false e = shape_as shapes ∙ ap layers_as e

  -- ## Texts

  abbrev fault_of : Fault → ℕ → told.InputWhy
  fault_of json.Syntax at = told.syntax at
  fault_of json.Depth at = told.depth at
  fault_of json.Utf8 at = told.utf8 at

  -- a fault of the bytes, by the name that the model gives it
  record HasFault (bytes : Content) (named : told.InputWhy) : Type 0 where
    kind : Fault
    at : ℕ
    is : IsFault 64 bytes kind at
    name : named ≡ fault_of kind at

  named_fault : (bytes : Content) (why : told.InputWhy) → IsJsonFault bytes why → HasFault bytes why
  named_fault bytes (told.syntax at) h = record { kind = json.Syntax; at = at; is = h; name = refl }
  named_fault bytes (told.depth at) h = record { kind = json.Depth; at = at; is = h; name = refl }
  named_fault bytes (told.utf8 at) h = record { kind = json.Utf8; at = at; is = h; name = refl }
  named_fault bytes (told.shape why feature) h = absurd h
  named_fault bytes (told.topo why place) h = absurd h
  named_fault bytes told.no_header h = absurd h
  named_fault bytes (told.repeated_name column) h = absurd h
  named_fault bytes (told.too_many_rows row) h = absurd h
  named_fault bytes (told.unequal_row row) h = absurd h

  refused_fault : (bytes : Content) (w : InputWhy) → JsonRefuses bytes w → HasFault bytes (input_as w)
  refused_fault bytes (why.Syntax at) h = record { kind = json.Syntax; at = at; is = h; name = refl }
  refused_fault bytes (why.Depth at) h = record { kind = json.Depth; at = at; is = h; name = refl }
  refused_fault bytes (why.Utf8 at) h = record { kind = json.Utf8; at = at; is = h; name = refl }
  refused_fault bytes (why.Shape w feature) h = absurd h
  refused_fault bytes (why.Topo w place) h = absurd h
  refused_fault bytes why.NoHeader h = absurd h
  refused_fault bytes (why.RepeatedName column) h = absurd h
  refused_fault bytes (why.TooManyRows row) h = absurd h
  refused_fault bytes (why.UnequalRow row) h = absurd h

  faults_one : (bytes : Content) (a b : told.InputWhy) → HasFault bytes a → HasFault bytes b → a ≡ b
  faults_one bytes a b p q =
      let place : p.at ≡ q.at = fault_place 64 bytes p.kind q.kind p.at q.at p.is q.is in
      let kind : p.kind ≡ q.kind = fault_kind 64 bytes p.kind q.kind p.at q.at p.is q.is in
      p.name ∙ ap (fault_of p.kind) place ∙ ap (λ (k : Fault). fault_of k q.at) kind ∙ sym q.name

  text_as : (bytes : Content) (r : Result JsonValue told.InputWhy) → MatchResult r (JsonText 64 bytes) (IsJsonFault bytes) → (result : run.Layers) → TextGives places room title bytes result → json_layers places room title r ≡ layers_as result
  text_as bytes (Ok v) text result g = value_as v result (subst (λ (w : JsonValue). ValueAnswers places room title w result) (text_one 64 bytes g.0 v g.1 text) g.2)
  text_as bytes (Err w) fault result g = absurd ((named_fault bytes w fault).is.refused g.0 g.1)

  refused_as : (bytes : Content) (r : Result JsonValue told.InputWhy) → MatchResult r (JsonText 64 bytes) (IsJsonFault bytes) → (w : InputWhy) → JsonRefuses bytes w → json_layers places room title r ≡ Err (input_as w)
  refused_as bytes (Ok v) text w h = absurd ((refused_fault bytes w h).is.refused v text)
  refused_as bytes (Err v) fault w h = ap Err (faults_one bytes v (input_as w) (named_fault bytes v fault) (refused_fault bytes w h))

  json_as : (bytes : Content) (r : Result JsonValue told.InputWhy) → MatchResult r (JsonText 64 bytes) (IsJsonFault bytes) → (result : run.Layers) → JsonGives places room title bytes result → json_layers places room title r ≡ layers_as result
  json_as bytes r reads (Ok layers) g = text_as bytes r reads (Ok layers) g
  json_as bytes r reads (Err w) (inl h) = refused_as bytes r reads w h
  json_as bytes r reads (Err w) (inr g) = text_as bytes r reads (Err w) g

-- ## Tables

nothings : (rows : List RowValues) → map (λ (row : RowValues). shape.Nothing) rows ≡ replicate (length rows) shape.Nothing
nothings [] = refl
nothings (row ∷ rows) = ap (λ (xs : List GeoShape). shape.Nothing ∷ xs) (nothings rows)

table_as : (s : SourceWord) (t : TableContent) → table_layers (model.title_of s) (Ok t) ≡ Ok (run.table_layer (title.title_of s) t ∷ [])
table_as s t = ap (λ (shapes : List GeoShape). Ok (record { name = model.title_of s; kind = kind.Table; table = t; shapes = shapes } ∷ [])) (nothings t.rows)

module _ (read : Readings) (right : AreReadings read) (room : Room) (s : SourceWord) (bytes : Content) where
  abbrev after : Option ℕ → Result TableContent CsvFault → model.Layers
  after o r = elim o [ Some at ↦ Err (told.utf8 at) | None ↦ table_layers (model.title_of s) r ]

  -- a UTF-8 text is read as records
  of_records : (o : Option ℕ) → MatchOption o (IsUtf8 bytes) (EndsUtf8At bytes) → IsUtf8 bytes → (r r' : Result TableContent CsvFault) → r ≡ r' → after o r ≡ table_layers (model.title_of s) r'
  of_records None h utf8 r r' e = ap (table_layers (model.title_of s)) e
  of_records (Some at) h utf8 r r' e = absurd (h.0 utf8)

  of_bytes : (o : Option ℕ) → MatchOption o (IsUtf8 bytes) (EndsUtf8At bytes) → (at : ℕ) → EndsUtf8At bytes at → (r : Result TableContent CsvFault) → after o r ≡ Err (told.utf8 at)
  of_bytes None h at ends r = absurd (ends.0 h)
  of_bytes (Some n) h at ends r = ap (λ (k : ℕ). Err (told.utf8 k)) (end_one bytes n at h ends)

  abbrev records : Result TableContent CsvFault
  records = table_of_text s.string_fields room.features bytes

  accepted_table : (layers : List LayerContent) → IsTableText room s bytes layers → csv_layers read room s bytes ≡ Ok layers
  accepted_table layers t =
      of_records (read.utf8_end bytes) (right.utf8 bytes) t.read.0 records (Ok t.table) t.read.1 ∙ table_as s t.table ∙ ap Ok (sym t.one)

  refused_table : (w : InputWhy) → IsRefusedTable room s bytes w → csv_layers read room s bytes ≡ Err (input_as w)
  refused_table w t = go t.fault refl t.found
    where
      -- records are refused for this fault
      records_refused : (f : CsvFault) (named : InputWhy) → IsUtf8 bytes → records ≡ Err f → named ≡ w → model.csv_fault f ≡ input_as named → csv_layers read room s bytes ≡ Err (input_as w)
      records_refused f named utf8 e n m = of_records (read.utf8_end bytes) (right.utf8 bytes) utf8 records (Err f) e ∙ ap Err (m ∙ ap input_as n)

      go : (f : CsvFault) → t.fault ≡ f → ReadsText s.string_fields room.features bytes (Err f) → csv_layers read room s bytes ≡ Err (input_as w)
      go (csv.Utf8 at) e r = (let p = sym (ap run.table_stop e) ∙ t.told in let n : why.Utf8 at ≡ w = cc in of_bytes (read.utf8_end bytes) (right.utf8 bytes) at r records ∙ ap (λ (x : InputWhy). Err (input_as x)) n)
      go csv.NoHeader e r = (let p = sym (ap run.table_stop e) ∙ t.told in records_refused csv.NoHeader why.NoHeader r.0 r.1 (cc) refl)
      go (csv.RepeatedName column) e r = (let p = sym (ap run.table_stop e) ∙ t.told in records_refused (csv.RepeatedName column) (why.RepeatedName column) r.0 r.1 (cc) refl)
      go (csv.TooManyRows row) e r = (let p = sym (ap run.table_stop e) ∙ t.told in records_refused (csv.TooManyRows row) (why.TooManyRows row) r.0 r.1 (cc) refl)
      go (csv.UnequalRow row) e r = (let p = sym (ap run.table_stop e) ∙ t.told in records_refused (csv.UnequalRow row) (why.UnequalRow row) r.0 r.1 (cc) refl)
      go csv.Memory e r = (let p = sym (ap run.table_stop e) ∙ t.told in absurd (cc))

-- ## Bytes

module _ (read : Readings) (right : AreReadings read) (places : ℕ) (room : Room) (s : SourceWord) (bytes : Content) where
  by_format : (P Q : Type 0) (result : model.Layers) → MatchBool (format.is_csv s bytes) P Q → (P → csv_layers read room s bytes ≡ result) → (Q → json_layers places room (model.title_of s) (read.json bytes) ≡ result) → decoded read places room s bytes ≡ result
  by_format P Q result h table json = ap (λ (b : Bool). cond b (csv_layers read room s bytes) (json_layers places room (model.title_of s) (read.json bytes))) (sym (csv_same s bytes)) ∙ go (format.is_csv s bytes) h
    where
      go : (b : Bool) → MatchBool b P Q → cond b (csv_layers read room s bytes) (json_layers places room (model.title_of s) (read.json bytes)) ≡ result
      go true p = table p
      go false q = json q

  pub accepted_bytes : (layers : List LayerContent) → MatchBool (format.is_csv s bytes) (IsTableText room s bytes layers) (JsonGives places room (title.title_of s) bytes (Ok layers)) → decoded read places room s bytes ≡ Ok layers
  accepted_bytes layers h = by_format (IsTableText room s bytes layers) (JsonGives places room (title.title_of s) bytes (Ok layers)) (Ok layers) h
      (accepted_table read right room s bytes layers) (json_as places room (title.title_of s) bytes (read.json bytes) (right.json bytes) (Ok layers))

  pub refused_bytes : (w : InputWhy) → MatchBool (format.is_csv s bytes) (IsRefusedTable room s bytes w) (JsonGives places room (title.title_of s) bytes (Err w)) → decoded read places room s bytes ≡ Err (input_as w)
  refused_bytes w h = by_format (IsRefusedTable room s bytes w) (JsonGives places room (title.title_of s) bytes (Err w)) (Err (input_as w)) h
      (refused_table read right room s bytes w) (json_as places room (title.title_of s) bytes (read.json bytes) (right.json bytes) (Err w))
