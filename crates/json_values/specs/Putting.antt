-- Where a field is put.
use Rattle.std.specs.Prelude.{ℕ, ◌≡◌, ◌<◌, ◌++◌, List, [], ◌∷◌, length, slice_set, slice_get, ◌⊎◌}
use Rattle.json_values.specs.Lists.{put, value_named, field_names}
use Rattle.json_values.specs.Seen.{json_value, members_seen}
use Rattle.json_values.specs.declared.json.Json.{Json}
use Rattle.std.specs.Option.{option_map}
use Rattle.json_values.specs.Json.{JsonValue, FieldList}

-- a field of this name goes last
abbrev pub PutsLast : List (List ℕ × JsonValue) → List ℕ → Type 0
PutsLast fs name = (v : JsonValue) → put fs name v ≡ fs ++ (name, v) ∷ []

-- a field of this name goes to the place i
abbrev pub PutsAt : List (List ℕ × JsonValue) → List ℕ → ℕ → Type 0
PutsAt fs name i = (i < length fs) × ((v : JsonValue) → put fs name v ≡ slice_set fs i (name, v))

-- the first field of this name stands at the place i
abbrev pub HasValueAt : List (List ℕ × Json) → List ℕ → ℕ → Type 0
HasValueAt fs name i = value_named name (members_seen fs) ≡ option_map (λ f. json_value f.1) (slice_get fs i)

-- an index of the names of fields, or none
abbrev pub IsIndex : List (List ℕ) → FieldList → Type 0
IsIndex names fields = (names ≡ []) ⊎ (names ≡ field_names fields)
