-- Whatever a value is read as is sound: its rings have points and are closed, and its lines have points.
use Rattle.std.proofs.Common.{◌≡◌, ℕ, ◌==◌, Bool, true, false, List, [], ◌∷◌, length, All, Option, Some, None, Result, Ok, Err, codes, refl}
use Rattle.std.specs.Prelude.{IfOk, ⊤, nat_lt, if◌then◌else◌}
use Rattle.std.specs.List.{enumerate_from}
use Rattle.std.specs.Str.{bytes_eq}
use Rattle.std.proofs.lemmas.Result.{IfOk-at_ok}
use Rattle.std.proofs.lemmas.List.Elements.{All-cons, All-nil, All-filter}
use Rattle.json_values.specs.Json.{JsonValue, FieldList, null, boolean, number, string, array, object}
use Rattle.json_values.specs.Lists.{fields_list, value_named}
use Rattle.json_values.specs.Table.{NamedValues}
use Rattle.plane_model.specs.Points.{GridPoint, Path}
use Rattle.plane_model.specs.Drawing.{Polygon}
use Rattle.geojson_io.specs.LayerContent.{LayerContent}
use Rattle.geojson_io.specs.Reads.{Reads, Fault, on_ok, gives, fails, each, ◌>>=◌}
use Rattle.geojson_io.specs.Positions.{position, positions, items_of, line_of, line, is_closed, ring_of, ring, rings}
use Rattle.geojson_io.specs.Geometries.{geo_type_of, some_points, some_lines, some_polygons, one_unless_empty, one, several, has_rings, with_rings, one_polygon, several_polygons, shape_of, type_of, shape_typed, geometry_of_fields, geometry}
use Rattle.geojson_io.specs.Features.{properties, or_null, feature_of_fields, feature, member_of, in_feature, numbered, top_members, features_among, features_of}
use Rattle.geojson_io.specs.Layers.{layers_of, read_geojson}
use Rattle.geojson_io.specs.Sound.{HasPoints, IsRing, ShapeIsSound, FeatureIsSound, LayerIsSound}
use Rattle.geojson_io.specs.declared.fault.ShapeWhy.{ShapeWhy}
use Rattle.geojson_io.specs.declared.fault.ShapeWhy.TheVariants.{NotGeo, Collection, LineShort, RingShort, RingOpen, TooManyFeatures}
use Rattle.geojson_io.specs.declared.shape.GeoShape.{GeoShape}
use Rattle.geojson_io.specs.declared.reading.types.Member.{Member}
use Rattle.geojson_io.specs.declared.reading.types.Member.TheVariants as member
use Rattle.geojson_io.specs.declared.reading.types.GeoType.{GeoType}
use Rattle.geojson_io.specs.declared.reading.types.GeoType.TheVariants as type
use Rattle.geojson_io.specs.declared.reading.features.Feature.{Feature}
use Rattle.geojson_io.proofs.SoundLemmas.{has_first, ends_at_start, sound_points, sound_lines, sound_polygons, sound_layers}

-- ## Readings

-- all that is read has P
abbrev pub Gives : {E A : Type 0} → (A → Type 0) → Reads E A → Type 0
Gives {E} {A} P read = (room : ℕ) → IfOk (read room) (λ (p : A × ℕ). P p.0)

anything : {E A : Type 0} (read : Reads E A) → Gives (λ (v : A). ⊤) read
anything {E} {A} read room = go (read room)
  where
    go : (r : Result (A × ℕ) E) → IfOk r (λ (p : A × ℕ). ⊤)
    go (Ok p) = tt
    go (Err e) = tt

pub next : {E A B : Type 0} (P : A → Type 0) (Q : B → Type 0) (read : Reads E A) (f : A → Reads E B) → Gives P read → ((v : A) → P v → Gives Q (f v)) → Gives Q (read >>= f)
next {E} {A} {B} P Q read f h k room = go (read room) (h room)
  where
    go : (r : Result (A × ℕ) E) → IfOk r (λ (p : A × ℕ). P p.0) → IfOk (on_ok r (λ (p : A × ℕ). f p.0 p.1)) (λ (q : B × ℕ). Q q.0)
    go (Ok p) g = k p.0 g p.1
    go (Err e) g = tt

-- whatever comes first
pub after : {E A B : Type 0} (Q : B → Type 0) (read : Reads E A) (f : A → Reads E B) → ((v : A) → Gives Q (f v)) → Gives Q (read >>= f)
after {E} {A} Q read f h = next (λ (v : A). ⊤) Q read f (anything read) (λ v u. h v)

pub given_each : {E A X : Type 0} (P : A → Type 0) (read : X → Reads E A) → ((x : X) → Gives P (read x)) → (xs : List X) → Gives (All P) (each read xs)
given_each P read h [] = λ room. All-nil P
given_each {E} {A} P read h (x ∷ xs) =
    next P (All P) (read x) (λ (v : A). each read xs >>= (λ (vs : List A). gives (v ∷ vs))) (h x)
    (λ v p. next (All P) (All P) (each read xs) (λ (vs : List A). gives (v ∷ vs)) (given_each P read h xs) (λ vs ps room. All-cons P v vs p ps))

pub either : {E A : Type 0} (P : A → Type 0) (b : Bool) (r s : Reads E A) → Gives P r → Gives P s → Gives P (if b then r else s)
either P true r s h k = h
either P false r s h k = k

-- ## Lines and rings

line_given : (path : Path) → Gives HasPoints (line_of path)
line_given [] = λ room. tt
line_given (p ∷ rest) = either HasPoints (nat_lt (length (p ∷ rest)) 2) (fails LineShort) (gives (p ∷ rest)) (λ room. tt) (λ room. has_first p rest)

ring_given : (path : Path) → Gives IsRing (ring_of path)
ring_given [] = λ room. tt
ring_given (p ∷ rest) =
    either IsRing (nat_lt (length (p ∷ rest)) 4) (fails RingShort) (if is_closed (p ∷ rest) then gives (p ∷ rest) else fails RingOpen) (λ room. tt) (go (is_closed (p ∷ rest)) refl)
  where
    go : (b : Bool) → is_closed (p ∷ rest) ≡ b → Gives IsRing (if b then gives (p ∷ rest) else fails RingOpen)
    go true e room = (has_first p rest, ends_at_start (p ∷ rest) e)
    go false e room = tt

line_sound : (places : ℕ) (j : JsonValue) → Gives HasPoints (line places j)
line_sound places j = after HasPoints (positions places j) line_of line_given

ring_sound : (places : ℕ) (j : JsonValue) → Gives IsRing (ring places j)
ring_sound places j = after IsRing (positions places j) ring_of ring_given

rings_sound : (places : ℕ) (j : JsonValue) → Gives (All IsRing) (rings places j)
rings_sound places j = after (All IsRing) (items_of j) (each (ring places)) (given_each IsRing (ring places) (ring_sound places))

-- ## Geometries

one_given : {A : Type 0} (P : A → Type 0) (read : JsonValue → Reads ShapeWhy A) → ((j : JsonValue) → Gives P (read j)) → (j : JsonValue) → Gives (All P) (one read j)
one_given {A} P read h j = after (All P) (items_of j) (one_unless_empty read j) go
  where
    go : (vs : List JsonValue) → Gives (All P) (one_unless_empty read j vs)
    go [] = λ room. All-nil P
    go (v ∷ vs) = next P (All P) (read j) (λ (x : A). gives (x ∷ [])) (h j) (λ x p room. All-cons P x [] p (All-nil P))

several_given : {A : Type 0} (P : A → Type 0) (read : JsonValue → Reads ShapeWhy A) → ((j : JsonValue) → Gives P (read j)) → (j : JsonValue) → Gives (All P) (several read j)
several_given P read h j = after (All P) (items_of j) (each read) (given_each P read h)

kept_given : (ps : List Polygon) → All (All IsRing) ps → Gives (All (All IsRing)) (with_rings ps)
kept_given ps h room = All-filter has_rings (All IsRing) ps h

one_polygon_sound : (places : ℕ) (j : JsonValue) → Gives (All (All IsRing)) (one_polygon places j)
one_polygon_sound places j = next (All (All IsRing)) (All (All IsRing)) (one (rings places) j) with_rings (one_given (All IsRing) (rings places) (rings_sound places) j) kept_given

several_polygons_sound : (places : ℕ) (j : JsonValue) → Gives (All (All IsRing)) (several_polygons places j)
several_polygons_sound places j = next (All (All IsRing)) (All (All IsRing)) (several (rings places) j) with_rings (several_given (All IsRing) (rings places) (rings_sound places) j) kept_given

points_given : (read : Reads ShapeWhy (List GridPoint)) → Gives ShapeIsSound (read >>= (λ (ps : List GridPoint). gives (some_points ps)))
points_given read = after ShapeIsSound read (λ (ps : List GridPoint). gives (some_points ps)) (λ ps room. sound_points ps)

lines_given : (read : Reads ShapeWhy (List Path)) → Gives (All HasPoints) read → Gives ShapeIsSound (read >>= (λ (ps : List Path). gives (some_lines ps)))
lines_given read h = next (All HasPoints) ShapeIsSound read (λ (ps : List Path). gives (some_lines ps)) h (λ ps p room. sound_lines ps p)

polygons_given : (read : Reads ShapeWhy (List Polygon)) → Gives (All (All IsRing)) read → Gives ShapeIsSound (read >>= (λ (ps : List Polygon). gives (some_polygons ps)))
polygons_given read h = next (All (All IsRing)) ShapeIsSound read (λ (ps : List Polygon). gives (some_polygons ps)) h (λ ps p room. sound_polygons ps p)

shape_sound : (places : ℕ) (t : GeoType) (j : JsonValue) → Gives ShapeIsSound (shape_of places t j)
shape_sound places type.Point j = points_given (one (position places) j)
shape_sound places type.MultiPoint j = points_given (several (position places) j)
shape_sound places type.LineString j = lines_given (one (line places) j) (one_given HasPoints (line places) (line_sound places) j)
shape_sound places type.MultiLineString j = lines_given (several (line places) j) (several_given HasPoints (line places) (line_sound places) j)
shape_sound places type.Polygon j = polygons_given (one_polygon places j) (one_polygon_sound places j)
shape_sound places type.MultiPolygon j = polygons_given (several_polygons places j) (several_polygons_sound places j)

typed_sound : (places : ℕ) (t : Option GeoType) (j : Option JsonValue) → Gives ShapeIsSound (shape_typed places t j)
typed_sound places None j = λ room. tt
typed_sound places (Some t) None = λ room. tt
typed_sound places (Some t) (Some j) = shape_sound places t j

fields_sound : (places : ℕ) (fs : FieldList) → Gives ShapeIsSound (geometry_of_fields places fs)
fields_sound places fs =
    either ShapeIsSound (bytes_eq (type_of fs) (codes "GeometryCollection")) (fails Collection) (shape_typed places (geo_type_of (type_of fs)) (value_named (codes "coordinates") (fields_list fs)))
    (λ room. tt) (typed_sound places (geo_type_of (type_of fs)) (value_named (codes "coordinates") (fields_list fs)))

geometry_sound : (places : ℕ) (j : JsonValue) → Gives ShapeIsSound (geometry places j)
geometry_sound places null = λ room. tt
geometry_sound places (object fs) = fields_sound places fs
geometry_sound places (boolean b) = λ room. tt
geometry_sound places (number s) = λ room. tt
geometry_sound places (string s) = λ room. tt
geometry_sound places (array vs) = λ room. tt

-- ## Features

with_properties_sound : (places : ℕ) (fs : FieldList) → Gives FeatureIsSound (feature_of_fields places fs)
with_properties_sound places fs =
    let named : Option JsonValue = value_named (codes "properties") (fields_list fs) in
    let shape : JsonValue = or_null (value_named (codes "geometry") (fields_list fs)) in
    next ShapeIsSound FeatureIsSound (geometry places shape) (λ (g : GeoShape). properties named >>= (λ (ps : NamedValues). gives (record { shape = g; fields = ps }))) (geometry_sound places shape)
    (λ g h. after FeatureIsSound (properties named) (λ (ps : NamedValues). gives (record { shape = g; fields = ps })) (λ ps room. h))

feature_sound : (places : ℕ) (j : JsonValue) → Gives FeatureIsSound (feature places j)
feature_sound places (object fs) = either FeatureIsSound (bytes_eq (type_of fs) (codes "Feature")) (feature_of_fields places fs) (fails NotGeo) (with_properties_sound places fs) (λ room. tt)
feature_sound places null = λ room. tt
feature_sound places (boolean b) = λ room. tt
feature_sound places (number s) = λ room. tt
feature_sound places (string s) = λ room. tt
feature_sound places (array vs) = λ room. tt

member_sound : (kind : Member) (places : ℕ) (j : JsonValue) → Gives FeatureIsSound (member_of kind places j)
member_sound member.Feature places j = feature_sound places j
member_sound member.Geometry places j = next ShapeIsSound FeatureIsSound (geometry places j) (λ (g : GeoShape). gives (record { shape = g; fields = [] })) (geometry_sound places j) (λ g h room. h)

numbered_sound : (kind : Member) (places limit : ℕ) (p : ℕ × JsonValue) → Gives FeatureIsSound (numbered kind places limit p)
numbered_sound kind places limit p room = go (p.0 == limit) (member_of kind places p.1 room) (member_sound kind places p.1 room)
  where
    go : (b : Bool) (r : Result (Feature × ℕ) ShapeWhy) → IfOk r (λ (q : Feature × ℕ). FeatureIsSound q.0)
        → IfOk (if b then Err (TooManyFeatures, p.0) else in_feature p.0 r) (λ (q : Feature × ℕ). FeatureIsSound q.0)
    go true r h = tt
    go false (Ok q) h = h
    go false (Err e) h = tt

among_sound : (places limit : ℕ) (o : Option (Member × List JsonValue)) → Gives (All FeatureIsSound) (features_among places limit o)
among_sound places limit None = λ room. tt
among_sound places limit (Some p) = given_each FeatureIsSound (numbered p.0 places limit) (numbered_sound p.0 places limit) (enumerate_from 0 p.1)

-- ## A whole value

read_sound : (places : ℕ) (name : List ℕ) (room limit : ℕ) (j : JsonValue) → IfOk (read_geojson places name room limit j) (λ (layers : List LayerContent). All LayerIsSound layers)
read_sound places name room limit j = go (features_of places limit j room) (among_sound places limit (top_members j) room)
  where
    go : (r : Result (List Feature × ℕ) Fault) → IfOk r (λ (p : List Feature × ℕ). All FeatureIsSound p.0)
        → IfOk (on_ok r (λ (p : List Feature × ℕ). let layers : List LayerContent = layers_of name p.0 in Ok layers)) (λ (layers : List LayerContent). All LayerIsSound layers)
    go (Ok p) h = sound_layers name p.0 h
    go (Err e) h = tt

-- the layers of a value are sound
pub layers_sound : (places : ℕ) (name : List ℕ) (room limit : ℕ) (j : JsonValue) (layers : List LayerContent) → read_geojson places name room limit j ≡ Ok layers → All LayerIsSound layers
layers_sound places name room limit j layers e = IfOk-at_ok (λ (ls : List LayerContent). All LayerIsSound ls) e (read_sound places name room limit j)
