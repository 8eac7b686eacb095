-- What a reader has read of the bytes that it had, and what it met.
use Rattle.std.specs.Prelude.{ℕ, suc, ◌≡◌, ◌+◌, ◌<◌, nat_le, nat_lt, ◌&&◌, List, [], ◌∷◌, ◌++◌, Bool, true, Option, Result, MatchResult, length, IsTrue, ◌⊎◌}
use Rattle.json_read.specs.declared.reader.Fault.{Fault}
use Rattle.json_read.specs.declared.reader.Stop.{Stop}
use Rattle.json_read.specs.declared.reader.Stop.TheVariants as stop
use Rattle.json_read.specs.Machine.{Place, Open, Outcome, run, fault, start, after}
use Rattle.json_values.specs.Seen.{json_value}
use Rattle.json_values.specs.Json.{JsonValue, ItemList, FieldList, array, object}
use Rattle.json_values.specs.declared.json.Json.{Json}
use Rattle.std.specs.Char.{digit_value}
use Rattle.std.specs.Str.{encode_utf8_all}
use Rattle.json_values.specs.Grammar.{Chars, Spells, joined, Denotes, Members, Padded, White, Quoted, JsonText}
use Rattle.numerals.specs.Numbers.{SomeDigits, Number}
use Rattle.json_values.specs.Lists.{fields_list, merged}
use Rattle.numerals.specs.Bytes.{is_digit, is_hex, NextFails, NextIsNot}
use Rattle.json_read.specs.declared.reader.Fault.TheVariants.{Syntax, Utf8}

-- a text with R was read
abbrev pub Reads : (List ℕ → Type 0) → List ℕ → List ℕ → Type 0
Reads R old new = (text : List ℕ) × (old ≡ text ++ new) × R text

-- what was read begins some text with R
abbrev pub BreaksOff : (List ℕ → Type 0) → List ℕ → List ℕ → Type 0
BreaksOff R old new = (text more : List ℕ) × (old ≡ text ++ new) × R (text ++ more)

-- the machine goes from the place p to the place q over what was read, whatever is open
abbrev pub Runs : Place → Place → List ℕ → List ℕ → Type 0
Runs p q old new = (deepest : ℕ) (k : List Open) → run deepest p k old ≡ run deepest q k new

-- the machine has the fault f there
abbrev pub Fails : Place → Fault → List ℕ → List ℕ → Type 0
Fails p f old new = (deepest : ℕ) (k : List Open) → run deepest p k old ≡ fault f new

-- a text with R was read from the place p to the place q
pub record Passes (R : List ℕ → Type 0) (p q : Place) (old new : List ℕ) : Type 0 where
  pub reads : Reads R old new
  pub runs : Runs p q old new

-- a text with R breaks off at a fault, unless memory ran out
pub record Breaks (R : List ℕ → Type 0) (p : Place) (f : Fault) (old new : List ℕ) : Type 0 where
  pub begins : BreaksOff R old new
  pub fails : Fails p f old new

abbrev pub AtFault : (Fault → Type 0) → Stop → Type 0
AtFault P stop.Memory = Unit {0}
AtFault P (stop.Fault f) = P f

-- Either a text with R of the value was read, and the machine goes from the place p to the place q over
-- it; or what was read begins such a text, and the machine has its fault there.
abbrev pub Part : {T : Type 0} → (T → List ℕ → Type 0) → Place → Place → Result T Stop → List ℕ → List ℕ → Type 0
Part {T} R p q result old new =
    MatchResult result (λ x. Passes (R x) p q old new) (AtFault (λ f. Breaks (λ t. (x : T) × R x t) p f old new))

-- one or more digits were read, all that there are; or there is none
abbrev pub ReadsDigits : {T : Type 0} → Result T Stop → List ℕ → List ℕ → Type 0
ReadsDigits result old new =
    MatchResult result (λ _. Reads SomeDigits old new × NextFails is_digit new) (AtFault (λ f. (f ≡ Syntax) × (new ≡ old) × NextFails is_digit old))

-- a numeral and its text
abbrev pub NumeralOf : List ℕ → List ℕ → Type 0
NumeralOf t s = Number s × (s ≡ t)

-- a number may begin here
abbrev pub NumberBegins : List ℕ → Type 0
NumberBegins bytes = (b : ℕ) × (bs : List ℕ) × (bytes ≡ b ∷ bs) × ((b ≡ 45) ⊎ (is_digit b ≡ true))

-- a part of a string stands for the unit u, whatever follows it
abbrev pub StandsFor : ℕ → List ℕ → Type 0
StandsFor u part = (0 < length part) × ((rest us : List ℕ) → Chars rest us → Chars (part ++ rest) (u ∷ us))

-- what stands after a backslash, and after `\u`
abbrev pub StandsEscaped : ℕ → List ℕ → Type 0
StandsEscaped u part = StandsFor u (92 ∷ part)

abbrev pub StandsInHex : ℕ → List ℕ → Type 0
StandsInHex u part = StandsFor u (92 ∷ 117 ∷ part)

-- a string after its first quote, and the UTF-8 text that it denotes
abbrev pub ClosesAs : List ℕ → List ℕ → Type 0
ClosesAs bytes text = (inner : List ℕ) × (text ≡ inner ++ 34 ∷ []) × Spells inner bytes

-- the bytes so far, and those of the units to come, after a half of a surrogate pair or none
abbrev pub joined_onto : List ℕ → Option ℕ → List ℕ → List ℕ
joined_onto bytes half us = bytes ++ encode_utf8_all (joined half us)

-- one hexadecimal digit was read, and its value; or there is none
abbrev pub ReadsHexDigit : Result ℕ Stop → List ℕ → List ℕ → Type 0
ReadsHexDigit result old new =
    MatchResult result (λ v. (b : ℕ) × (old ≡ b ∷ new) × IsTrue (is_hex b) × (v ≡ digit_value b)) (AtFault (λ f. (f ≡ Syntax) × (new ≡ old) × NextFails is_hex old))

-- from low up to high, high not included
abbrev pub is_between : ℕ → ℕ → ℕ → Bool
is_between low high b = nat_le low b && nat_lt b high

-- one more byte of a character was read, and its six bits; or there is none
abbrev pub ReadsFollowing : ℕ → ℕ → Result ℕ Stop → List ℕ → List ℕ → Type 0
ReadsFollowing low high result old new =
    MatchResult result (λ v. (b : ℕ) × (old ≡ b ∷ new) × IsTrue (is_between low high b) × (v + 128 ≡ b)) (AtFault (λ f. (f ≡ Utf8) × (new ≡ old) × NextFails (is_between low high) old))

-- ## Inside arrays and objects

-- a place in a text, and what is open there, for each list of what is open around it
pub record Spot : Type 0 where
  pub deepest : ℕ
  pub place : Place
  pub open_there : List Open

abbrev pub run_at : Spot → List ℕ → Outcome
run_at s bytes = run s.deepest s.place s.open_there bytes

-- with d more levels allowed
abbrev pub outside : ℕ → Place → List Open → Spot
outside d p k = record { deepest = length k + d; place = p; open_there = k }

-- in one more array or object, and after it
abbrev pub inside : Open → ℕ → Place → List Open → Spot
inside o d p k = outside d p (o ∷ k)

abbrev pub past : ℕ → List Open → Spot
past d k = record { deepest = suc (length k) + d; place = after; open_there = k }

-- a text with R was read between two spots, whatever is open around them
pub record PassesAt (R : List ℕ → Type 0) (from to : List Open → Spot) (old new : List ℕ) : Type 0 where
  pub reads : Reads R old new
  pub runs : (k : List Open) → run_at (from k) old ≡ run_at (to k) new

-- a text with R breaks off at the fault f
pub record BreaksAt (R : List ℕ → Type 0) (from : List Open → Spot) (f : Fault) (old new : List ℕ) : Type 0 where
  pub begins : BreaksOff R old new
  pub fails : (k : List Open) → run_at (from k) old ≡ fault f new

abbrev pub PartAt : {T : Type 0} → (T → List ℕ → Type 0) → (List Open → Spot) → (List Open → Spot) → Result T Stop → List ℕ → List ℕ → Type 0
PartAt {T} R from to result old new =
    MatchResult result (λ x. PassesAt (R x) from to old new) (AtFault (λ f. BreaksAt (λ t. (x : T) × R x t) from f old new))

-- the same where the value is put to a place that is lent
abbrev pub PartInto : {T U : Type 0} → (T → List ℕ → Type 0) → (List Open → Spot) → (List Open → Spot) → T → Result U Stop → List ℕ → List ℕ → Type 0
PartInto {T} R from to x result old new =
    MatchResult result (λ _. PassesAt (R x) from to old new) (AtFault (λ f. BreaksAt (λ t. (x : T) × R x t) from f old new))

-- what stands after `[` or `{`, and its value
abbrev pub ArrayText : ℕ → ItemList → List ℕ → Type 0
ArrayText d items t = Denotes (suc d) (91 ∷ t) (array items)

abbrev pub ObjectText : ℕ → FieldList → List ℕ → Type 0
ObjectText d fields t = Denotes (suc d) (123 ∷ t) (object fields)

-- an object goes on with text, after members that were merged to fields
abbrev pub MembersSoFar : ℕ → FieldList → List ℕ → Type 0
MembersSoFar d fields text =
    (rest : List ℕ) (ms : List (List ℕ × JsonValue)) → Members d rest ms → (all : List (List ℕ × JsonValue)) × (Members d (text ++ rest) all × (merged [] all ≡ merged (fields_list fields) ms))

-- the value of a Json
abbrev pub Shows : ℕ → Json → List ℕ → Type 0
Shows d json t = Denotes d t (json_value json)

abbrev pub ShowsPadded : ℕ → Json → List ℕ → Type 0
ShowsPadded d json t = Padded d t (json_value json)

-- a name and its colon
abbrev pub NameText : List ℕ → List ℕ → Type 0
NameText name t = (w : List ℕ) × (n : List ℕ) × (w' : List ℕ) × (t ≡ w ++ (n ++ (w' ++ 58 ∷ []))) × White w × Quoted n name × White w'

-- the byte b was read, or stands not there
abbrev pub ReadsByte : {T : Type 0} → ℕ → Result T Stop → List ℕ → List ℕ → Type 0
ReadsByte b result old new =
    MatchResult result (λ _. old ≡ b ∷ new) (AtFault (λ f. (f ≡ Syntax) × (new ≡ old) × NextIsNot b old))

-- All bytes are a text with at most d levels, or there is a fault: what was read begins such a text, and
-- the machine has its fault there.
pub record FaultsAt (d : ℕ) (f : Fault) (old new : List ℕ) : Type 0 where
  pub begins : BreaksOff (λ t. (v : JsonValue) × JsonText d t v) old new
  pub fails : run d start [] old ≡ fault f new

abbrev pub ReadsText : ℕ → Result Json Stop → List ℕ → List ℕ → Type 0
ReadsText d result old new = MatchResult result (λ j. JsonText d old (json_value j)) (AtFault (λ f. FaultsAt d f old new))
