-- Values that are read straight from a text, without a `Json` of them.
use Rattle.std.specs.Prelude.{ℕ, ℤ, ◌≡◌, List, [], ◌∷◌, Some, Result, MatchResult, ◌⊎◌}
use Rattle.json_values.specs.Json.{JsonValue, ItemList, FieldList, number, array, object, item}
use Rattle.json_values.specs.Lists.{items_list, fields_list, put}
use Rattle.json_read.specs.Machine.{in_object, first_name, next_name, value}
use Rattle.numerals.specs.Numeral.{grid_of_text}
use Rattle.json_read.specs.Reading.{NameText, Passes, PassesAt, ObjectText, inside, past}
use Rattle.json_values.specs.Seen.{json_value}
use Rattle.json_read.specs.Taking.{HasValue, TakesAll, TakesOne, ValueBreaks}
use Rattle.json_values.specs.declared.json.Json.{Json}
use Rattle.json_read.specs.declared.reader.Reader.{Reader}
use Rattle.json_read.specs.declared.reader.Stop.{Stop}

-- a value of which Q speaks was read, with white space around it
abbrev pub HasReadAt : ℕ → (JsonValue → Type 0) → List ℕ → List ℕ → Type 0
HasReadAt d Q old new = (j : Json) × HasValue d j old new × Q (json_value j)

abbrev pub HasRead : ℕ → (JsonValue → Type 0) → Reader → Reader → Type 0
HasRead d Q old new = HasReadAt d Q old.rest.now new.rest.now

-- a number with this grid number
abbrev pub IsGridNumber : ℕ → ℤ → JsonValue → Type 0
IsGridNumber places g v = (s : List ℕ) × (v ≡ number s) × (grid_of_text places s ≡ Some g)

-- an array that begins with two numbers, with these grid numbers
abbrev pub BeginsWithPair : ℕ → ℤ → ℤ → JsonValue → Type 0
BeginsWithPair places x y v =
    (s t : List ℕ) × (rest : ItemList) × (v ≡ array (item (number s) (item (number t) rest))) × (grid_of_text places s ≡ Some x) × (grid_of_text places t ≡ Some y)

-- an array ends here, or after one more item
abbrev pub EndsSoon : ℕ → List ℕ → List ℕ → Type 0
EndsSoon d old new =
    (old ≡ 93 ∷ new) ⊎ ((j : Json) × (mid last : List ℕ) × (old ≡ 44 ∷ mid) × HasValue d j mid last × (last ≡ 93 ∷ new))

-- an array, of which the items were taken
abbrev pub IsTakenArray : (List JsonValue → Type 0) → (List JsonValue → Type 0) → JsonValue → Type 0
IsTakenArray P Q v = (items : ItemList) × (v ≡ array items) × TakesAll P Q (items_list items)

-- what took some members, of which P speaks before and Q afterwards, takes one more
abbrev pub PutsOne : (List (List ℕ × JsonValue) → Type 0) → (List (List ℕ × JsonValue) → Type 0) → List ℕ → JsonValue → Type 0
PutsOne P Q name v = (fs : List (List ℕ × JsonValue)) → P fs → Q (put fs name v)

-- the next member was read and taken
abbrev pub HasTakenMember : ℕ → (List (List ℕ × JsonValue) → Type 0) → (List (List ℕ × JsonValue) → Type 0) → List ℕ → List ℕ → Type 0
HasTakenMember d P Q old new =
    (name mid : List ℕ) × Passes (NameText name) next_name value old mid × HasReadAt d (PutsOne P Q name) mid new

-- an object, of which the members were taken
abbrev pub IsTakenObject : (List (List ℕ × JsonValue) → Type 0) → (List (List ℕ × JsonValue) → Type 0) → JsonValue → Type 0
IsTakenObject P Q v = (fields : FieldList) × (v ≡ object fields) × (P [] → Q (fields_list fields))

-- the same, of what stands after the brace
abbrev pub HasTakenMembers : ℕ → (List (List ℕ × JsonValue) → Type 0) → (List (List ℕ × JsonValue) → Type 0) → List ℕ → List ℕ → Type 0
HasTakenMembers d P Q old new =
    (fields : FieldList) × PassesAt (ObjectText d fields) (inside in_object d first_name) (past d) old new × (P [] → Q (fields_list fields))

-- the next item of an array was read and taken
abbrev pub TakesItem : {T : Type 0} → ℕ → (List JsonValue → Type 0) → (List JsonValue → Type 0) → Result T Stop → List ℕ → List ℕ → Type 0
TakesItem d P Q result old new = MatchResult result (λ _. HasReadAt d (TakesOne P Q) old new) (λ e. ValueBreaks d e old new)
