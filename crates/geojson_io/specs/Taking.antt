-- A collection of features that is read feature by feature.
use Rattle.std.specs.Prelude.{ℕ, ◌≡◌, ◌≤◌, ⊤, Bool, true, false, List, ◌++◌, length, codes, All, None, Result, Ok, Err, IfOk, MatchOption, MatchResult, ◌⊎◌}
use Rattle.std.specs.Str.{bytes_eq}
use Rattle.json_values.specs.Grammar.{JsonText}
use Rattle.json_values.specs.Json.{JsonValue, FieldList, null, boolean, number, string, array, object}
use Rattle.json_values.specs.Lists.{fields_list, value_named}
use Rattle.json_values.specs.Seen.{json_value}
use Rattle.json_read.specs.Taking.{IsReadOtherwise}
use Rattle.geojson_io.specs.Features.{members}
use Rattle.geojson_io.specs.Geometries.{type_of}
use Rattle.geojson_io.specs.LayerContent.{LayerContent}
use Rattle.geojson_io.specs.Layers.{layers_of, read_geojson}
use Rattle.geojson_io.specs.Reads.{Fault, IsFault}
use Rattle.geojson_io.specs.Sound.{LayerIsSound}
use Rattle.geojson_io.specs.declared.fault.ShapeFault.{ShapeFault}
use Rattle.geojson_io.specs.declared.fault.ShapeFault.TheVariants as shape
use Rattle.geojson_io.specs.declared.reading.features.Feature.{Feature}
use Rattle.geojson_io.specs.declared.reading.types.Member.TheVariants as member
use Rattle.geojson_io.specs.declared.reading.taking.FeatureTaker.{FeatureTaker}
use Rattle.geojson_io.specs.declared.reading.taking.Parsed.{Parsed}
use Rattle.geojson_io.specs.declared.reading.taking.Parsed.TheVariants as parsed

-- the features of these values, as what takes them reads them from its first state on
abbrev pub features_from : FeatureTaker → List JsonValue → Result (List Feature × ℕ) Fault
features_from first vs = members member.Feature first.places first.limit vs first.left

-- these values were read, and each is a feature
pub record HasRead (first now : FeatureTaker) (vs : List JsonValue) : Type 0 where
  pub number : now.number ≡ length vs
  pub within : now.number ≤ first.limit
  pub features : features_from first vs ≡ Ok (now.features.items, now.left)

-- what took these values, from its first state on: their features, or the first fault of them and whatever follows
pub record HasTaken (first now : FeatureTaker) (vs : List JsonValue) : Type 0 where
  pub places : now.places ≡ first.places
  pub limit : now.limit ≡ first.limit
  pub read : MatchOption now.fault (HasRead first now vs) (λ fault. (more : List JsonValue) → IsFault (features_from first (vs ++ more)) fault)

-- the layers of what was taken, or its fault; or memory ran out
abbrev pub AreLayersOf : FeatureTaker → List ℕ → Result (List LayerContent) ShapeFault → Type 0
AreLayersOf t name result =
    MatchOption t.fault (MatchResult result (λ layers. layers ≡ layers_of name t.features.items) (λ fault. fault ≡ shape.Memory)) (λ fault. result ≡ Err fault)

-- a FeatureCollection, after RFC 7946, section 3.3
abbrev pub is_collection : JsonValue → Bool
is_collection (object fields) = bytes_eq (type_of fields) (codes "FeatureCollection")
is_collection null = false
is_collection (boolean b) = false
is_collection (number n) = false
is_collection (string s) = false
is_collection (array items) = false

-- the layers of a value, or its first fault
abbrev pub IsReadOf : ℕ → List ℕ → ℕ → ℕ → JsonValue → Result (List LayerContent) ShapeFault → Type 0
IsReadOf places name positions features v result =
    MatchResult result (λ layers. read_geojson places name positions features v ≡ Ok layers) (IsFault (read_geojson places name positions features v))

-- the bytes are a FeatureCollection, and this is read of it
pub record IsCollectionText (places : ℕ) (name : List ℕ) (positions features : ℕ) (bytes : List ℕ) (result : Result (List LayerContent) ShapeFault) : Type 0 where
  pub value : JsonValue
  pub text : JsonText 64 bytes value
  pub collection : is_collection value ≡ true
  pub read : IsReadOf places name positions features value result

abbrev pub IsParsed : ℕ → List ℕ → ℕ → ℕ → List ℕ → Parsed → Type 0
IsParsed places name positions features bytes (parsed.Features result) = IsCollectionText places name positions features bytes result
IsParsed places name positions features bytes (parsed.Value json) = JsonText 64 bytes (json_value json)

-- the bytes have this value
abbrev pub IsValueOf : List ℕ → Parsed → Type 0
IsValueOf bytes (parsed.Features result) = ⊥
IsValueOf bytes (parsed.Value json) = JsonText 64 bytes (json_value json)

-- no features can be taken of the bytes: they are read otherwise, or are an object without features or of another type
abbrev pub HaveNoFeatures : List ℕ → Type 0
HaveNoFeatures bytes =
    IsReadOtherwise 64 (codes "features") bytes ⊎ ((fields : FieldList) × JsonText 64 bytes (object fields) × ((value_named (codes "features") (fields_list fields) ≡ None) ⊎ (is_collection (object fields) ≡ false)))

abbrev pub IsWholeOnlyOf : List ℕ → Parsed → Type 0
IsWholeOnlyOf bytes (parsed.Features result) = ⊤
IsWholeOnlyOf bytes (parsed.Value json) = HaveNoFeatures bytes

abbrev pub ParsedIsSound : Parsed → Type 0
ParsedIsSound (parsed.Features result) = IfOk result (λ layers. All LayerIsSound layers)
ParsedIsSound (parsed.Value json) = ⊤
