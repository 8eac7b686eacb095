-- Values that are read straight from a text.
use Rattle.std.proofs.Common.{ℕ, ℤ, suc, ◌≡◌, List, [], ◌∷◌, refl, ap, ◌∙◌, sym, subst, take, drop, take-append-drop, Bool, true, Option, Some, None, is_some, Result, Ok, Err, IfOk, IsTrue, codes, ◌++◌, inl, inr}
use Rattle.json_read.specs.AsciiStrings.{ClosesAsAscii}
use Rattle.numerals.specs.Bytes.{is_white}
use Rattle.json_values.specs.Json.{JsonValue, ItemList, FieldList, no_items, item, no_fields, fields_of, null, number, string}
use Rattle.json_values.specs.Lists.{fields_list, put}
use Rattle.json_values.specs.Grammar.{is_null}
use Rattle.json_read.specs.Machine.{run, in_array, in_object, in_word, is_value, first_value, first_name, next_name, value, after}
use Rattle.numerals.specs.Numeral.{Numeral, grid_at, grid_of_text, numeral_of, IsNumeral}
use Rattle.numerals.specs.Plain.{IsGridFront, is_numeric}
use Rattle.numerals.specs.Numbers.{Number}
use Rattle.json_read.specs.Reading.{MembersSoFar, NameText, NumeralOf, Passes, PassesAt, ArrayText, ObjectText, Shows, inside, outside, past}
use Rattle.numerals.specs.Bytes.{NextFails, NextIsNot, drop_while}
use Rattle.json_values.specs.Seen.{json_value}
use Rattle.json_read.specs.Straight.{HasReadAt, HasTakenMember, HasTakenMembers, BeginsWithPair, EndsSoon, IsGridNumber, IsTakenArray, IsTakenObject, PutsOne}
use Rattle.json_read.specs.Taking.{HasTakenArray, HasValue, TakesOne}
use Rattle.json_values.specs.declared.json.Json.{Json}
use Rattle.json_values.specs.declared.json.Json.TheVariants as json
use Rattle.json_read.proofs.AcceptsNumbers.{number_runs}
use Rattle.numerals.proofs.NumbersAreNumerals.{numeral_is_number}
use Rattle.json_read.proofs.Arrays.{ItemsSoFar, array_init, array_more, array_ends}
use Rattle.json_read.proofs.AsciiStrings.{ascii_passes}
use Rattle.json_read.proofs.Objects.{object_empty, object_init, object_more, object_ends}
use Rattle.json_values.proofs.Seen.{Member, fields_list-fields_of}
use Rattle.json_read.proofs.Taking.{ItemsTaken, items_more, items_end}
use Rattle.json_read.proofs.Values.{held_value, number_value, padded_passes, string_value, word_value}
use Rattle.json_read.proofs.Whiles.{next_fails_after}

-- a value with white space around it
value_around : (d : ℕ) (j : Json) (old m1 m2 new : List ℕ) → m1 ≡ drop_while is_white old → PassesAt (Shows d j) (outside d value) (outside d after) m1 m2 → new ≡ drop_while is_white m2 → HasValue d j old new
value_around d j old m1 m2 new w a u = record { passes = padded_passes d j old m1 m2 new w a u; trimmed = next_fails_after is_white m2 new u }

-- ## Words, texts and numbers

pub null_read : (d : ℕ) (old m1 m2 new : List ℕ) → m1 ≡ drop_while is_white old → Passes (λ t. t ≡ 110 ∷ codes "ull") (in_word (110 ∷ codes "ull")) after m1 m2 → new ≡ drop_while is_white m2 → HasReadAt d (λ v. v ≡ null) old new
null_read d old m1 m2 new w a u =
    let begins : (bs : List ℕ) × (m1 ≡ 110 ∷ bs) = (codes "ull" ++ m2, a.reads.1 ∙ ap (λ (t : List ℕ). t ++ m2) a.reads.2) in
    (json.Null, value_around d json.Null old m1 m2 new w (word_value d 110 (codes "ull") json.Null m1 m2 begins (λ n k. refl) refl is_null a) u, refl)

pub text_read : (d : ℕ) (s old m1 m2 m3 new : List ℕ) → m1 ≡ drop_while is_white old → m1 ≡ 34 ∷ m2 → ClosesAsAscii s m2 m3 → new ≡ drop_while is_white m3 → HasReadAt d (λ v. v ≡ string s) old new
text_read d s old m1 m2 m3 new w e h u = (json.Text s, value_around d (json.Text s) old m1 m3 new w (string_value d s m1 m2 m3 e (ascii_passes is_value s m2 m3 h)) u, refl)

pub number_read : (d places : ℕ) (g : ℤ) (s old m1 m2 new : List ℕ) → m1 ≡ drop_while is_white old → Passes (NumeralOf s) value after m1 m2 → new ≡ drop_while is_white m2 → grid_of_text places s ≡ Some g → HasReadAt d (IsGridNumber places g) old new
number_read d places g s old m1 m2 new w n u e = (json.Num s, value_around d (json.Num s) old m1 m2 new w (number_value d s m1 m2 n) u, (s, refl, e))

-- a number that a numeral is, and what ends it
front_passes : (n : ℕ) (old : List ℕ) → IsNumeral (take n old) → NextFails is_numeric (drop n old) → Passes (NumeralOf (take n old)) value after old (drop n old)
front_passes n old h ends =
    let number : Number (take n old) = numeral_is_number (take n old) h in
    record { reads = (take n old, sym (take-append-drop n old), (number, refl)); runs = λ d k. ap (run d value k) (sym (take-append-drop n old)) ∙ number_runs (drop n old) number ends d k }

grid_is_numeral : (places : ℕ) (g : ℤ) (s : List ℕ) → grid_of_text places s ≡ Some g → IsNumeral s
unfolding grid_of_text
grid_is_numeral places g s e = go (numeral_of s) refl
  where
    go : (v : Option Numeral) → numeral_of s ≡ v → IsNumeral s
    go None n = absurd (let t : None ≡ Some g = sym (ap (grid_at places) n) ∙ e in cc)
    go (Some v) n = subst (λ (o : Option Numeral). IsTrue (is_some o)) (sym n) refl

pub front_read : (d places n : ℕ) (g : ℤ) (old m1 m2 new : List ℕ) → m1 ≡ drop_while is_white old → IsGridFront places m1 g n → m2 ≡ drop n m1 → new ≡ drop_while is_white m2 → HasReadAt d (IsGridNumber places g) old new
front_read d places n g old m1 m2 new w h back u =
    number_read d places g (take n m1) old m1 (drop n m1) new w (front_passes n m1 (grid_is_numeral places g (take n m1) h.0) h.1) (u ∙ ap (λ (xs : List ℕ). drop_while is_white xs) back) h.0

-- ## Arrays

array_shown : (d inner : ℕ) (items : ItemList) (old m1 new : List ℕ) → suc inner ≡ d → old ≡ 91 ∷ m1 → PassesAt (ArrayText inner items) (inside in_array inner first_value) (past inner) m1 new → PassesAt (Shows d (json.List items)) (outside d value) (outside d after) old new
array_shown d inner items old m1 new up e a = held_value in_array first_value 91 d inner (ArrayText inner items) (json.List items) old m1 new up e (λ n l. refl) (λ s h. h) a

pub taken_array : (d inner : ℕ) (P Q : List JsonValue → Type 0) (old m1 m2 m3 new : List ℕ) → suc inner ≡ d → m1 ≡ drop_while is_white old → m1 ≡ 91 ∷ m2 → HasTakenArray inner P Q m2 m3 → new ≡ drop_while is_white m3 → HasReadAt d (IsTakenArray P Q) old new
taken_array d inner P Q old m1 m2 m3 new up w e h u = (json.List h.0, value_around d (json.List h.0) old m1 m3 new w (array_shown d inner h.0 m1 m2 m3 up e h.1) u, (h.0, refl, h.2))

-- after its first two items an array ends, or with a third one
soon_ended : (d : ℕ) (a b : JsonValue) (j : Json) (old m1 m2 new : List ℕ) → PassesAt (ItemsSoFar d (item a no_items)) (inside in_array d first_value) (inside in_array d value) old m1 → HasValue d j m1 m2 → json_value j ≡ b → EndsSoon d m2 new
    → (rest : ItemList) × PassesAt (ArrayText d (item a (item b rest))) (inside in_array d first_value) (past d) old new
soon_ended d a b j old m1 m2 new one h is (inl e) = (no_items, array_ends d (item a no_items) (item a (item b no_items)) j old m1 m2 new one h.passes (ap (λ (z : JsonValue). a ∷ z ∷ []) (sym is)) e)
soon_ended d a b j old m1 m2 new one h is (inr t) =
    let both : ItemList = item a (item b no_items) in
    let all : ItemList = item a (item b (item (json_value t.0) no_items)) in
    let two : PassesAt (ItemsSoFar d both) (inside in_array d first_value) (inside in_array d value) old t.1 = array_more d (item a no_items) both j old m1 m2 m2 t.1 one h.passes (ap (λ (z : JsonValue). a ∷ z ∷ []) (sym is)) refl t.3 in
    (item (json_value t.0) no_items, array_ends d both all t.0 old t.1 t.2 new two t.4.passes refl t.5)

pub pair_read : (d inner places : ℕ) (x y : ℤ) (old m1 m2 m3 m4 m5 m6 m7 m8 new : List ℕ)
    → suc inner ≡ d → m1 ≡ drop_while is_white old → m1 ≡ 91 ∷ m2 → m3 ≡ drop_while is_white m2 → m4 ≡ m3 → NextIsNot 93 m4
    → HasReadAt inner (IsGridNumber places x) m4 m5 → m5 ≡ 44 ∷ m6 → HasReadAt inner (IsGridNumber places y) m6 m7 → EndsSoon inner m7 m8 → new ≡ drop_while is_white m8 → HasReadAt d (BeginsWithPair places x y) old new
pair_read d inner places x y old m1 m2 m3 m4 m5 m6 m7 m8 new up w b v s n h c k e u =
    let first : ItemList = item (number h.2.0) no_items in
    let one : PassesAt (ItemsSoFar inner first) (inside in_array inner first_value) (inside in_array inner value) m2 m6 = array_more inner no_items first h.0 m2 m4 m5 m5 m6 (array_init inner no_items m2 m3 m4 refl v s n) h.1.passes (ap (λ (z : JsonValue). z ∷ []) (sym h.2.1)) refl c in
    let ended : (rest : ItemList) × PassesAt (ArrayText inner (item (number h.2.0) (item (number k.2.0) rest))) (inside in_array inner first_value) (past inner) m2 m8 = soon_ended inner (number h.2.0) (number k.2.0) k.0 m2 m6 m7 m8 one k.1 k.2.1 e in
    let all : ItemList = item (number h.2.0) (item (number k.2.0) ended.0) in
    (json.List all, value_around d (json.List all) old m1 m8 new w (array_shown d inner all m1 m2 m8 up b ended.1) u, (h.2.0, k.2.0, ended.0, refl, h.2.2, k.2.2))

-- an item that was read and taken, and what follows it
pub item_more : (d : ℕ) (P M Q : List JsonValue → Type 0) (old m1 m2 m3 new : List ℕ) → ItemsTaken d P M old m1 → HasReadAt d (TakesOne M Q) m1 m2 → m3 ≡ m2 → m3 ≡ 44 ∷ new → ItemsTaken d P Q old new
item_more d P M Q old m1 m2 m3 new h v s c = items_more d P M Q v.0 old m1 m2 m3 new h v.1.passes v.2 s c

pub item_end : (d : ℕ) (P M Q : List JsonValue → Type 0) (old m1 m2 new : List ℕ) → ItemsTaken d P M old m1 → HasReadAt d (TakesOne M Q) m1 m2 → m2 ≡ 93 ∷ new → HasTakenArray d P Q old new
item_end d P M Q old m1 m2 new h v c = items_end d P M Q v.0 old m1 m2 new h v.1.passes v.2 c

-- ## Objects

-- a name by the text that was lent of it
pub name_lent : (name lent old new : List ℕ) → lent ≡ name → Passes (NameText name) next_name value old new → Passes (NameText lent) next_name value old new
name_lent name lent old new e h = subst (λ (n : List ℕ). Passes (NameText n) next_name value old new) (sym e) h

-- a member, by its name and by what was taken of its value
pub member_taken : {T E : Type 0} (d : ℕ) (P Q : T → List Member → Type 0) (name old mid new : List ℕ) (result : Result Bool E) → Passes (NameText name) next_name value old mid
    → IfOk result (λ is_taken. is_taken ≡ true → (first : T) → HasReadAt d (PutsOne (P first) (Q first) name) mid new)
    → IfOk result (λ is_taken. is_taken ≡ true → (first : T) → HasTakenMember d (P first) (Q first) old new)
member_taken d P Q name old mid new (Ok is_taken) n h = λ e first. (name, mid, n, h e first)
member_taken d P Q name old mid new (Err e) n h = tt

abbrev pub MembersTaken : ℕ → (List Member → Type 0) → (List Member → Type 0) → List ℕ → List ℕ → Type 0
MembersTaken d P Q old new = (fields : FieldList) × PassesAt (MembersSoFar d fields) (inside in_object d first_name) (inside in_object d next_name) old new × (P [] → Q (fields_list fields))

pub members_none : (d : ℕ) (P : List Member → Type 0) (old m1 new : List ℕ) → m1 ≡ drop_while is_white old → m1 ≡ 125 ∷ new → HasTakenMembers d P P old new
members_none d P old m1 new w e = (no_fields, object_empty d no_fields old m1 new refl w e, λ p. p)

pub members_init : (d : ℕ) (P : List Member → Type 0) (old m1 new : List ℕ) → m1 ≡ drop_while is_white old → new ≡ m1 → NextIsNot 125 new → MembersTaken d P P old new
members_init d P old m1 new w s n = (no_fields, object_init d no_fields old m1 new refl w s n, λ p. p)

abbrev later : FieldList → List ℕ → Json → FieldList
later fields name j = fields_of (put (fields_list fields) name (json_value j))

is_put : (fields : FieldList) (name : List ℕ) (j : Json) → fields_list (later fields name j) ≡ put (fields_list fields) name (json_value j)
is_put fields name j = fields_list-fields_of (put (fields_list fields) name (json_value j))

takes_put : (P M Q : List Member → Type 0) (fields : FieldList) (name : List ℕ) (j : Json) → (P [] → M (fields_list fields)) → PutsOne M Q name (json_value j) → P [] → Q (fields_list (later fields name j))
takes_put P M Q fields name j all one p = subst Q (sym (is_put fields name j)) (one (fields_list fields) (all p))

pub members_more : (d : ℕ) (P M Q : List Member → Type 0) (name old m1 m2 m3 m4 new : List ℕ) → MembersTaken d P M old m1 → Passes (NameText name) next_name value m1 m2 → HasReadAt d (PutsOne M Q name) m2 m3 → m4 ≡ m3 → m4 ≡ 44 ∷ new → MembersTaken d P Q old new
members_more d P M Q name old m1 m2 m3 m4 new h n v s c =
    (later h.0 name v.0, object_more d h.0 (later h.0 name v.0) name v.0 old m1 m2 m3 m4 new h.1 n v.1.passes (is_put h.0 name v.0) s c, takes_put P M Q h.0 name v.0 h.2 v.2)

pub members_end : (d : ℕ) (P M Q : List Member → Type 0) (name old m1 m2 m3 new : List ℕ) → MembersTaken d P M old m1 → Passes (NameText name) next_name value m1 m2 → HasReadAt d (PutsOne M Q name) m2 m3 → m3 ≡ 125 ∷ new → HasTakenMembers d P Q old new
members_end d P M Q name old m1 m2 m3 new h n v c =
    (later h.0 name v.0, object_ends d h.0 (later h.0 name v.0) name v.0 old m1 m2 m3 new h.1 n v.1.passes (is_put h.0 name v.0) c, takes_put P M Q h.0 name v.0 h.2 v.2)

object_shown : (d inner : ℕ) (fields : FieldList) (old m1 new : List ℕ) → suc inner ≡ d → old ≡ 123 ∷ m1 → PassesAt (ObjectText inner fields) (inside in_object inner first_name) (past inner) m1 new → PassesAt (Shows d (json.Object fields)) (outside d value) (outside d after) old new
object_shown d inner fields old m1 new up e a = held_value in_object first_name 123 d inner (ObjectText inner fields) (json.Object fields) old m1 new up e (λ n l. refl) (λ s h. h) a

pub taken_object : (d inner : ℕ) (P Q : List Member → Type 0) (old m1 m2 m3 new : List ℕ) → suc inner ≡ d → m1 ≡ drop_while is_white old → m1 ≡ 123 ∷ m2 → HasTakenMembers inner P Q m2 m3 → new ≡ drop_while is_white m3 → HasReadAt d (IsTakenObject P Q) old new
taken_object d inner P Q old m1 m2 m3 new up w e h u = (json.Object h.0, value_around d (json.Object h.0) old m1 m3 new w (object_shown d inner h.0 m1 m2 m3 up e h.1) u, (h.0, refl, h.2))
