-- Objects that are read with the items of one array taken one by one.
use Rattle.std.specs.Prelude.{ℕ, ◌≡◌, ◌-◌, List, [], ◌∷◌, ◌++◌, Bool, true, false, Option, Some, None, is_some, Result, MatchResult, MatchBool, IfSome, ◌⊎◌}
use Rattle.std.specs.Str.{bytes_eq}
use Rattle.numerals.specs.Bytes.{is_white, NextFails, drop_while}
use Rattle.json_values.specs.Grammar.{JsonText, Mark}
use Rattle.json_values.specs.Json.{JsonValue, ItemList, FieldList, array, object}
use Rattle.json_values.specs.Lists.{items_list, fields_list, put, value_named}
use Rattle.json_read.specs.Machine.{start, in_array, in_object, first_value, first_name, value, after}
use Rattle.json_read.specs.Reading.{AtFault, Reads, Passes, MembersSoFar, NameText, PassesAt, BreaksAt, outside, inside, past, ShowsPadded, ArrayText, ObjectText, FaultsAt}
use Rattle.numerals.specs.Bytes.{NextIsNot}
use Rattle.json_values.specs.Seen.{json_value}
use Rattle.json_values.specs.declared.json.Json.{Json}
use Rattle.json_read.specs.declared.reader.Stop.{Stop}
use Rattle.json_read.specs.declared.reader.taking.Taking.{Taking}
use Rattle.json_read.specs.declared.reader.taking.TakenObject.{TakenObject}

-- what took some values, of which P speaks before and Q afterwards, takes one more, or these after them
abbrev pub TakesOne : (List JsonValue → Type 0) → (List JsonValue → Type 0) → JsonValue → Type 0
TakesOne P Q v = (vs : List JsonValue) → P vs → Q (vs ++ v ∷ [])

abbrev pub TakesAll : (List JsonValue → Type 0) → (List JsonValue → Type 0) → List JsonValue → Type 0
TakesAll P Q ws = (vs : List JsonValue) → P vs → Q (vs ++ ws)

-- the field of this name is an array, of which the items were taken
abbrev pub TookNamed : (List JsonValue → Type 0) → (List JsonValue → Type 0) → List ℕ → FieldList → Type 0
TookNamed P Q name whole = (items : ItemList) × (value_named name (fields_list whole) ≡ Some (array items)) × TakesAll P Q (items_list items)

-- These are the fields of an object: all of them where nothing was taken, since none has this name; else all but the
-- array of this name, of which the items were taken.
pub record AreFieldsOf (P Q : List JsonValue → Type 0) (name : List ℕ) (fields : FieldList) (is_taken : Bool) (whole : FieldList) : Type 0 where
  pub others : (other : List ℕ) → bytes_eq other name ≡ false → value_named other (fields_list whole) ≡ value_named other (fields_list fields)
  pub taken : MatchBool is_taken (TookNamed P Q name whole) ((whole ≡ fields) × TakesAll P Q [])
  pub absent : is_taken ≡ false → value_named name (fields_list fields) ≡ None

-- the bytes are an object with these fields, of which the items of the array with this name may have been taken
abbrev pub IsTakenText : ℕ → (List JsonValue → Type 0) → (List JsonValue → Type 0) → List ℕ → FieldList → Bool → List ℕ → Type 0
IsTakenText d P Q name fields is_taken bytes = (whole : FieldList) × JsonText d bytes (object whole) × AreFieldsOf P Q name fields is_taken whole

-- after its brace an object has members, and then one of this name that is no array, or whose name stands among them
abbrev pub HasOtherMember : ℕ → List ℕ → List ℕ → Type 0
HasOtherMember d name bytes =
    (fields : FieldList) × (named rest : List ℕ) × Reads (MembersSoFar d fields) bytes named × Reads (NameText name) named rest × ((is_some (value_named name (fields_list fields)) ≡ true) ⊎ NextIsNot 91 (drop_while is_white rest))

-- after a byte order mark, if there is one, the bytes begin no object, or one with such a member
abbrev pub IsReadOtherwise : ℕ → List ℕ → List ℕ → Type 0
IsReadOtherwise d name bytes =
    (unmarked : List ℕ) × Passes Mark start value bytes unmarked × (NextIsNot 123 (drop_while is_white unmarked) ⊎ ((inner : List ℕ) × (drop_while is_white unmarked ≡ 123 ∷ inner) × HasOtherMember (d - 1) name inner))

-- ## Parts of a text

-- an array was read after its bracket, and its items were taken
abbrev pub HasTakenArray : ℕ → (List JsonValue → Type 0) → (List JsonValue → Type 0) → List ℕ → List ℕ → Type 0
HasTakenArray d P Q old new = (items : ItemList) × PassesAt (ArrayText d items) (inside in_array d first_value) (past d) old new × TakesAll P Q (items_list items)

abbrev pub TakesArray : {T : Type 0} → ℕ → (List JsonValue → Type 0) → (List JsonValue → Type 0) → Result T Stop → List ℕ → List ℕ → Type 0
TakesArray d P Q result old new =
    MatchResult result (λ _. HasTakenArray d P Q old new) (AtFault (λ f. BreaksAt (λ t. (items : ItemList) × ArrayText d items t) (inside in_array d first_value) f old new))

-- a member of another name was put to the fields
pub record PutsOther (P Q : List JsonValue → Type 0) (wanted name : List ℕ) (v : JsonValue) (a b : Taking) : Type 0 where
  pub is_other : bytes_eq name wanted ≡ false
  pub fields : fields_list b.fields ≡ put (fields_list a.fields) name v
  pub same : b.is_taken ≡ a.is_taken
  pub none : TakesAll P Q []

-- the items of an array were taken, the first ones
pub record TakesFirst (P Q : List JsonValue → Type 0) (v : JsonValue) (a b : Taking) : Type 0 where
  pub items : ItemList
  pub is_array : v ≡ array items
  pub first : a.is_taken ≡ false
  pub is_taken : b.is_taken ≡ true
  pub fields : b.fields ≡ a.fields
  pub all : TakesAll P Q (items_list items)

-- a value was read, with white space around it
pub record HasValue (d : ℕ) (j : Json) (old new : List ℕ) : Type 0 where
  pub passes : PassesAt (ShowsPadded d j) (outside d value) (outside d after) old new
  pub trimmed : NextFails is_white new

abbrev pub HasFirstArray : ℕ → (List JsonValue → Type 0) → (List JsonValue → Type 0) → Taking → Taking → List ℕ → List ℕ → Type 0
HasFirstArray d P Q a b old new = (j : Json) × HasValue d j old new × TakesFirst P Q (json_value j) a b

abbrev pub HasMember : ℕ → (List JsonValue → Type 0) → (List JsonValue → Type 0) → List ℕ → List ℕ → Taking → Taking → List ℕ → List ℕ → Type 0
HasMember d P Q wanted name a b old new =
    (j : Json) × HasValue d j old new × (PutsOther P Q wanted name (json_value j) a b ⊎ ((bytes_eq name wanted ≡ true) × TakesFirst P Q (json_value j) a b))

-- what was read begins some value, and the machine has its fault there
abbrev pub ValueBreaks : ℕ → Stop → List ℕ → List ℕ → Type 0
ValueBreaks d e old new = AtFault (λ f. BreaksAt (λ t. (j : Json) × ShowsPadded d j t) (outside d value) f old new) e

-- the array of the wanted name was read before, or none begins here
abbrev pub IsNoFirstArray : Taking → List ℕ → Type 0
IsNoFirstArray a old = (a.is_taken ≡ true) ⊎ NextIsNot 91 (drop_while is_white old)

abbrev pub TakesValue : ℕ → (List JsonValue → Type 0) → (List JsonValue → Type 0) → Taking → Taking → Result Bool Stop → List ℕ → List ℕ → Type 0
TakesValue d P Q a b result old new =
    MatchResult result (λ is_read. is_read ≡ true → HasFirstArray d P Q a b old new) (λ e. ValueBreaks d e old new)

abbrev pub TakesMember : ℕ → (List JsonValue → Type 0) → (List JsonValue → Type 0) → List ℕ → List ℕ → Taking → Taking → Result Bool Stop → List ℕ → List ℕ → Type 0
TakesMember d P Q wanted name a b result old new =
    MatchResult result (λ is_read. is_read ≡ true → HasMember d P Q wanted name a b old new) (λ e. ValueBreaks d e old new)

-- the object was read after its brace
abbrev pub HasTakenFields : ℕ → (List JsonValue → Type 0) → (List JsonValue → Type 0) → List ℕ → FieldList → Bool → List ℕ → List ℕ → Type 0
HasTakenFields d P Q wanted fields is_taken old new =
    (whole : FieldList) × PassesAt (ObjectText d whole) (inside in_object d first_name) (past d) old new × AreFieldsOf P Q wanted fields is_taken whole

abbrev pub HasTakenObject : ℕ → (List JsonValue → Type 0) → (List JsonValue → Type 0) → List ℕ → TakenObject → List ℕ → List ℕ → Type 0
HasTakenObject d P Q wanted o old new = HasTakenFields d P Q wanted o.fields o.is_taken old new

abbrev pub ObjectBreaks : ℕ → Stop → List ℕ → List ℕ → Type 0
ObjectBreaks d e old new = AtFault (λ f. BreaksAt (λ t. (fields : FieldList) × ObjectText d fields t) (inside in_object d first_name) f old new) e

abbrev pub TakesMembers : ℕ → (List JsonValue → Type 0) → (List JsonValue → Type 0) → List ℕ → Taking → Result Bool Stop → List ℕ → List ℕ → Type 0
TakesMembers d P Q wanted a result old new =
    MatchResult result (λ is_read. is_read ≡ true → HasTakenFields d P Q wanted a.fields a.is_taken old new) (λ e. ObjectBreaks d e old new)

abbrev pub TakesObject : ℕ → (List JsonValue → Type 0) → (List JsonValue → Type 0) → List ℕ → Result (Option TakenObject) Stop → List ℕ → List ℕ → Type 0
TakesObject d P Q wanted result old new =
    MatchResult result (λ found. IfSome found (λ o. HasTakenObject d P Q wanted o old new)) (λ e. ObjectBreaks d e old new)

abbrev pub TakesText : ℕ → (List JsonValue → Type 0) → (List JsonValue → Type 0) → List ℕ → Result (Option TakenObject) Stop → List ℕ → List ℕ → Type 0
TakesText d P Q wanted result old new =
    MatchResult result (λ found. IfSome found (λ o. IsTakenText d P Q wanted o.fields o.is_taken old)) (AtFault (λ f. FaultsAt d f old new))
