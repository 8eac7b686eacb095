-- The drawing of what is read has closed rings.
use Rattle.std.proofs.Common.{◌≡◌, refl, ℕ, ◌+◌, Bool, true, false, List, [], ◌∷◌, map, length, get_or, All, Option, Some, None, Result, Ok, Err}
use Rattle.std.specs.Prelude.{nat_lt, if◌then◌else◌}
use Rattle.std.specs.List.{flat_map}
use Rattle.std.proofs.lemmas.List.Elements.{All-append, All-cons, All-head, All-map, All-nil, All-tail, All-weaker}
use Rattle.lists.specs.Lists.{joined_up}
use Rattle.plane_model.specs.Points.{Path}
use Rattle.plane_model.specs.Drawing.{Polygon, rings_of}
use Rattle.plane_model.specs.Joined.{IsClosed}
use Rattle.plane_model.specs.SnappedRings.{HasClosedRings}
use Rattle.grid_base.specs.Drawn.{outline, without_repeats}
use Rattle.grid_base.specs.Grid.{Corners}
use Rattle.grid_base.specs.declared.kinds.Kind.{Kind}
use Rattle.grid_base.specs.declared.kinds.Kind.TheVariants as kind
use Rattle.grid_base.proofs.RepeatLemmas.{is_ring}
use Rattle.io_core.specs.Contents.{Content, FileMap}
use Rattle.json_values.specs.Json.{JsonValue}
use Rattle.json_values.specs.Table.{RowValues, TableContent}
use Rattle.geojson_io.specs.LayerContent.{LayerContent}
use Rattle.geojson_io.specs.Layers.{read_geojson, same_kind}
use Rattle.geojson_io.specs.Sound.{IsRing, LayerIsSound, ShapeIsSound}
use Rattle.geojson_io.specs.declared.layer.Room.{Room}
use Rattle.geojson_io.specs.declared.shape.GeoShape.{GeoShape}
use Rattle.geojson_io.specs.declared.shape.GeoShape.TheVariants as shape
use Rattle.geojson_io.proofs.SoundReads.{layers_sound}
use Rattle.topo_io.specs.Topologies.{read_topojson}
use Rattle.csv_io.specs.CsvTable.{table_of_text}
use Rattle.csv_io.specs.declared.fault.CsvFault.{CsvFault}
use Rattle.table_terms.specs.Refusals.{on_ok}
use Rattle.job_terms.specs.declared.job.SourceWord.{SourceWord}
use Rattle.synth_model.specs.Cells.{cell, cells}
use Rattle.chain_model.specs.Beginning.{drawing_of, polygons_of, shapes_of}
use Rattle.chain_model.specs.Outcome.{InputWhy, Outcome, too_long, utf8}
use Rattle.chain_model.specs.Sources.{Layers, Readings, byte_limit, bytes_of, csv_layers, decoded, geojson_layers, imported, is_csv, is_topology, json_layers, length_of, or_refused, room_after, source_layers, table_layers, title_of, topojson_layers}
use Rattle.outcome_laws.proofs.StitchedRings.{stitched_sound}

-- ## The layers of a source

abbrev AreSound : {E : Type 0} → Result (List LayerContent) E → Type 0
AreSound (Ok ls) = All LayerIsSound ls
AreSound (Err e) = Unit {0}

table_sound : (title : Content) (r : Result TableContent CsvFault) → AreSound (table_layers title r)
table_sound title (Err e) = tt
table_sound title (Ok t) = All-cons LayerIsSound _ [] (All-map ShapeIsSound (λ (row : RowValues). shape.Nothing) t.rows (λ i d l. tt)) (All-nil LayerIsSound)

csv_sound : (read : Readings) (room : Room) (s : SourceWord) (bytes : Content) → AreSound (csv_layers read room s bytes)
csv_sound read room s bytes = go (read.utf8_end bytes)
  where
    go : (o : Option ℕ) → AreSound (elim o [ Some at ↦ Err (utf8 at) | None ↦ table_layers (title_of s) (table_of_text s.string_fields room.features bytes) ])
    go (Some at) = tt
    go None = table_sound (title_of s) (table_of_text s.string_fields room.features bytes)

json_sound : (places : ℕ) (room : Room) (title : Content) (r : Result JsonValue InputWhy) → AreSound (json_layers places room title r)
json_sound places room title (Err why) = tt
json_sound places room title (Ok j) = go (is_topology j)
  where
    by_topology : (r : _) → read_topojson places room.positions room.features j ≡ r → AreSound (topojson_layers r)
    by_topology (Ok ls) e = stitched_sound places room.positions room.features j ls e
    by_topology (Err e) f = tt

    by_geojson : (r : _) → read_geojson places title room.positions room.features j ≡ r → AreSound (geojson_layers r)
    by_geojson (Ok ls) e = layers_sound places title room.positions room.features j ls e
    by_geojson (Err e) f = tt

    go : (b : Bool) → AreSound (if b then topojson_layers (read_topojson places room.positions room.features j) else geojson_layers (read_geojson places title room.positions room.features j))
    go true = by_topology (read_topojson places room.positions room.features j) refl
    go false = by_geojson (read_geojson places title room.positions room.features j) refl

decoded_sound : (read : Readings) (places : ℕ) (room : Room) (s : SourceWord) (bytes : Content) → AreSound (decoded read places room s bytes)
decoded_sound read places room s bytes = go (is_csv s bytes)
  where
    go : (b : Bool) → AreSound (if b then csv_layers read room s bytes else json_layers places room (title_of s) (read.json bytes))
    go true = csv_sound read room s bytes
    go false = json_sound places room (title_of s) (read.json bytes)

source_sound : (read : Readings) (places before : ℕ) (room : Room) (n : ℕ) (s : SourceWord) (o : Option Content) → AreSound (source_layers read places before room n s o)
source_sound read places before room n s None = tt
source_sound read places before room n s (Some bytes) = go (nat_lt byte_limit (before + length bytes)) (decoded read places room s bytes) (decoded_sound read places room s bytes)
  where
    go : (b : Bool) (r : Layers) → AreSound r → AreSound (if b then Err (too_long n) else or_refused n r)
    go true r h = tt
    go false (Ok ls) h = h
    go false (Err why) h = tt

-- ## All sources

abbrev pub AllAreSound : Result (List (List LayerContent)) Outcome → Type 0
AllAreSound (Ok given) = All (All LayerIsSound) given
AllAreSound (Err o) = Unit {0}

put_before : (ls : List LayerContent) → All LayerIsSound ls → (r : Result (List (List LayerContent)) Outcome) → AllAreSound r → AllAreSound (on_ok r (λ (rest : List (List LayerContent)). Ok (ls ∷ rest)))
put_before ls h (Err o) g = tt
put_before ls h (Ok rest) g = All-cons (All LayerIsSound) ls rest h g

followed : (later : List LayerContent → Result (List (List LayerContent)) Outcome) → ((ls : List LayerContent) → AllAreSound (later ls)) → (r : Result (List LayerContent) Outcome) → AreSound r →
    AllAreSound (on_ok r (λ (ls : List LayerContent). on_ok (later ls) (λ (rest : List (List LayerContent)). Ok (ls ∷ rest))))
followed later g (Err o) h = tt
followed later g (Ok ls) h = put_before ls h (later ls) (g ls)

pub sources_sound : (read : Readings) (places : ℕ) (files : FileMap) (input : Content) (before : ℕ) (room : Room) (n : ℕ) (ss : List SourceWord) → AllAreSound (imported read places files input before room n ss)
sources_sound read places files input before room n [] = All-nil (All LayerIsSound)
sources_sound read places files input before room n (s ∷ ss) =
    followed (λ ls. imported read places files input (before + length_of (bytes_of files input s)) (room_after room ls) (n + 1) ss)
    (λ ls. sources_sound read places files input (before + length_of (bytes_of files input s)) (room_after room ls) (n + 1) ss)
    (source_layers read places before room n s (bytes_of files input s)) (source_sound read places before room n s (bytes_of files input s))

-- ## Their drawing

joined_all : {A : Type 0} (P : A → Type 0) (xss : List (List A)) → All (All P) xss → All P (joined_up xss)
joined_all P [] h = All-nil P
joined_all P (xs ∷ xss) h = All-append P xs (joined_up xss) (All-head (All P) xs xss h) (joined_all P xss (All-tail (All P) xs xss h))

flat_all : {A B : Type 0} (P : A → Type 0) (Q : B → Type 0) (f : A → List B) → ((x : A) → P x → All Q (f x)) → (xs : List A) → All P xs → All Q (flat_map f xs)
flat_all P Q f k [] h = All-nil Q
flat_all P Q f k (x ∷ xs) h = All-append Q (f x) (flat_map f xs) (k x (All-head P x xs h)) (flat_all P Q f k xs (All-tail P x xs h))

closes : (path : Path) → IsClosed path → IsClosed (without_repeats path)
closes [] h = tt
closes (p ∷ rest) h = (is_ring (p ∷ rest) (λ e. cc) h).closed

polygon_closed : (polygon : Polygon) → All IsRing polygon → All IsClosed (map without_repeats polygon)
polygon_closed polygon h = All-map IsClosed without_repeats polygon (All-weaker IsRing (λ (path : Path). IsClosed (without_repeats path)) (λ path ring. closes path ring.1) polygon h)

shape_closed : (s : GeoShape) → ShapeIsSound s → All IsClosed (rings_of (polygons_of s))
shape_closed shape.Nothing h = All-nil IsClosed
shape_closed (shape.Lines ls) h = All-nil IsClosed
shape_closed (shape.Points ps) h = All-nil IsClosed
shape_closed (shape.Polygons ps) h = joined_all IsClosed (map (map without_repeats) ps) (All-map (All IsClosed) (map without_repeats) ps (All-weaker (All IsRing) (λ (polygon : Polygon). All IsClosed (map without_repeats polygon)) polygon_closed ps h))

shapes_sound : (k : Kind) (ls : List LayerContent) → All LayerIsSound ls → All ShapeIsSound (shapes_of k ls)
shapes_sound k ls h = flat_all LayerIsSound ShapeIsSound (λ (l : LayerContent). if same_kind l.kind k then l.shapes else []) (λ l g. go (same_kind l.kind k) l g) ls h
  where
    go : (b : Bool) (l : LayerContent) → LayerIsSound l → All ShapeIsSound (if b then l.shapes else [])
    go true l g = g
    go false l g = All-nil ShapeIsSound

rings_closed : (ss : List GeoShape) → All ShapeIsSound ss → All IsClosed (flat_map rings_of (map polygons_of ss))
rings_closed [] h = All-nil IsClosed
rings_closed (s ∷ ss) h = All-append IsClosed (rings_of (polygons_of s)) (flat_map rings_of (map polygons_of ss)) (shape_closed s (All-head ShapeIsSound s ss h)) (rings_closed ss (All-tail ShapeIsSound s ss h))

box_closed : (box : Corners) → IsClosed (without_repeats (outline box))
box_closed box = closes (outline box) refl

pub drawing_closed : (given : List (List LayerContent)) (boxes : List Corners) → All (All LayerIsSound) given → HasClosedRings (drawing_of (joined_up given) boxes)
drawing_closed given boxes h =
    All-append IsClosed (flat_map rings_of (map polygons_of (shapes_of kind.Polygon (joined_up given)))) (map (λ (box : Corners). without_repeats (outline box)) boxes)
    (rings_closed (shapes_of kind.Polygon (joined_up given)) (shapes_sound kind.Polygon (joined_up given) (joined_all LayerIsSound given h)))
    (All-map IsClosed (λ (box : Corners). without_repeats (outline box)) boxes (λ i d l. box_closed (get_or boxes i d)))

-- ## Cells

pub cells_closed : (seed n : ℕ) → HasClosedRings (cells seed n)
cells_closed seed n = All-append IsClosed (flat_map rings_of (cells seed n).polygons) [] (go _) (All-nil IsClosed)
  where
    go : (cs : List ℕ) → All IsClosed (flat_map rings_of (map (cell seed n) cs))
    go [] = All-nil IsClosed
    go (c ∷ cs) = All-cons IsClosed _ _ refl (go cs)
