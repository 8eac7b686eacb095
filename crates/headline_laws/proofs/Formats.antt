-- The format and the title of a source are those of the model.
use Rattle.std.proofs.Common.{◌≡◌, ◌==◌, ◌&&◌, ◌||◌, Bool, true, false, not, cond, [], ◌∷◌, codes, Option, Some, None, refl, ap, ◌∙◌}
use Rattle.json_values.specs.Json.{JsonValue, null, boolean, number, string, array, object}
use Rattle.json_values.specs.Lists.{fields_list, value_named}
use Rattle.io_core.specs.Contents.{Content}
use Rattle.geojson_io.specs.Geometries.{text_of}
use Rattle.std.specs.Str.{bytes_eq}
use Rattle.job_terms.specs.declared.job.SourceWord.{SourceWord}
use Rattle.run_sources.specs.Decoding as run
use Rattle.run_sources.specs.Formats as format
use Rattle.chain_model.specs.Sources as model

opens_same : (bytes : Content) → format.opens_json bytes ≡ model.opens_json bytes
opens_same [] = refl
opens_same (b ∷ rest) = ap (λ (x : Bool). cond (format.is_white b) x ((b == 123) || (b == 91))) (opens_same rest)

skip_same : (bytes : Content) → format.skip_mark bytes ≡ model.skip_mark bytes
skip_same [] = refl
skip_same (a ∷ []) = go (a == 0xEF)
  where
    go : (x : Bool) → a ∷ [] ≡ cond (x && false) [] (a ∷ [])
    go true = refl
    go false = refl
skip_same (a ∷ b ∷ []) = go (a == 0xEF) (b == 0xBB)
  where
    go : (x y : Bool) → a ∷ b ∷ [] ≡ cond (x && (y && false)) [] (a ∷ b ∷ [])
    go true true = refl
    go true false = refl
    go false y = refl
skip_same (a ∷ b ∷ c ∷ rest) = go (a == 0xEF) (b == 0xBB) (c == 0xBF)
  where
    go : (x y z : Bool) → cond ((x && y) && z) rest (a ∷ b ∷ c ∷ rest) ≡ cond (x && (y && (z && true))) rest (a ∷ b ∷ c ∷ rest)
    go true true true = refl
    go true true false = refl
    go true false z = refl
    go false y z = refl

pub csv_same : (s : SourceWord) (bytes : Content) → format.is_csv s bytes ≡ model.is_csv s bytes
csv_same s bytes = ap (λ (x : Bool). cond s.standard (not x) (format.ends_in_csv s.name)) (ap format.opens_json (skip_same bytes) ∙ opens_same (model.skip_mark bytes))

pub topology_same : (v : JsonValue) → run.is_topology v ≡ model.is_topology v
topology_same (object members) = named (value_named (codes "type") (fields_list members))
  where
    named : (o : Option JsonValue) → run.is_topology_name o ≡ bytes_eq (text_of o) (codes "Topology")
    named None = refl
    named (Some (string name)) = refl
    named (Some null) = refl
    named (Some (boolean b)) = refl
    named (Some (number n)) = refl
    named (Some (array items)) = refl
    named (Some (object fs)) = refl
topology_same null = refl
topology_same (boolean b) = refl
topology_same (number n) = refl
topology_same (string s) = refl
topology_same (array items) = refl
