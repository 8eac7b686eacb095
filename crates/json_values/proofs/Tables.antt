-- What maps and sets of names show as lists of names and values.
use Rattle.std.proofs.Common.{ℕ, ◌≡◌, ◌++◌, List, [], ◌∷◌, Bool, true, false, ◌||◌, refl, ap, ◌∙◌, sym, map, length, cond, get_or, ◌<◌, arith}
use Rattle.std.proofs.lemmas.List.{length-map, map-append, get_or-map}
use Rattle.std.proofs.lemmas.Map.Keys.{IsDistinct-from_apart, apart_from_distinct}
use Rattle.std.specs.String.{string_bytes, string_eq}
use Rattle.std.specs.List.{list_any, IsDistinct}
use Rattle.std.specs.Str.{bytes_eq}
use Rattle.std.proofs.Common.{Global, String}
use Rattle.indexmap.specs.IndexSet.{insert_key}
use Rattle.json_values.specs.Table.{NamedValues, value_or_null, add_name, AreRows, AreDistinctNames}

abbrev pub Name : Type 0
Name = String Global

abbrev pub seen_names : List Name → List (List ℕ)
seen_names ks = map (string_bytes {Z = Global}) ks

-- a set shows whether it has a name, and a new name
pub list_any-seen : (name : List ℕ) (ks : List Name) → list_any (bytes_eq name) (seen_names ks) ≡ list_any (λ (k : Name). bytes_eq name (string_bytes k)) ks
list_any-seen name [] = refl
list_any-seen name (k ∷ ks) = ap (λ (b : Bool). bytes_eq name (string_bytes k) || b) (list_any-seen name ks)

add_by : (b : Bool) (ks : List Name) (k : Name) → seen_names (cond b ks (ks ++ k ∷ [])) ≡ cond b (seen_names ks) (seen_names ks ++ string_bytes k ∷ [])
add_by true ks k = refl
add_by false ks k = map-append (string_bytes {Z = Global}) ks (k ∷ [])

pub seen_names-insert_key : (ks : List Name) (k : Name) → seen_names (insert_key string_eq ks k) ≡ add_name (seen_names ks) (string_bytes k)
seen_names-insert_key ks k =
    add_by (list_any (string_eq k) ks) ks k
    ∙ ap (λ (b : Bool). cond b (seen_names ks) (seen_names ks ++ string_bytes k ∷ [])) (sym (list_any-seen (string_bytes k) ks))

pub add_name-there : (names : List (List ℕ)) (name : List ℕ) → list_any (bytes_eq name) names ≡ true → names ≡ add_name names name
add_name-there names name e = sym (ap (λ (b : Bool). cond b names (names ++ name ∷ [])) e)

-- names of a set are distinct
pub distinct_seen : (ks : List Name) → IsDistinct string_eq ks → AreDistinctNames (seen_names ks)
distinct_seen ks h = IsDistinct-from_apart bytes_eq (seen_names ks) (λ i j d l m. apart ks h i j d l m)
  where
    apart : (ks : List Name) → IsDistinct string_eq ks → (i j : ℕ) (d : List ℕ) → i < j → j < length (seen_names ks) → bytes_eq (get_or (seen_names ks) i d) (get_or (seen_names ks) j d) ≡ false
    apart [] h i j d l m = absurd (omega arith)
    apart (k ∷ ks) h i j d l m =
        let n : length (seen_names (k ∷ ks)) ≡ length (k ∷ ks) = length-map (k ∷ ks) (string_bytes {Z = Global}) in
        rw (get_or-map (string_bytes {Z = Global}) (k ∷ ks) i k d (omega arith), get_or-map (string_bytes {Z = Global}) (k ∷ ks) j k d (omega arith)) (apart_from_distinct string_eq (k ∷ ks) i j k h l (omega arith))

-- rows made for names are as long as the names
pub rows_made : (names : List (List ℕ)) (fields : List NamedValues) → AreRows (length names) (map (λ (fs : NamedValues). map (λ (name : List ℕ). value_or_null name fs) names) fields)
rows_made names [] = tt
rows_made names (fs ∷ rest) = (length-map names (λ (name : List ℕ). value_or_null name fs), rows_made names rest)
