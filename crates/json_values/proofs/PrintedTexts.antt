-- The text that is printed of a proper value is in the grammar and denotes that value.
use Rattle.std.proofs.Common.{ℕ, suc, ◌≡◌, ◌≢◌, ◌+◌, ◌*◌, ◌/◌, ◌%◌, ◌^◌, ◌<◌, ◌≤◌, List, [], ◌∷◌, ◌++◌, Bool, true, false, cond, ◌&&◌, ◌||◌, ◌==◌, refl, ap, ◌∙◌, sym, subst, arith, lit<, ℤ, is_some, Option, Some, None, append-nil, append_assoc, true≢false, ne_eqb, ◌⊎◌, inl, inr}
use Rattle.std.specs.Prelude.{unsigned_abs, nat_lt}
use Rattle.std.proofs.lemmas.Bool.{cases_lt, cases_eq, cond-true, cond-false}
use Rattle.std.proofs.lemmas.Bool.Decides.{nat_tests}
use Rattle.std.proofs.lemmas.Grind.{flat_map-append}
use Rattle.std.proofs.Math.Utf8.{encode, scalars, scalar, low_scalar}
use Rattle.std.proofs.Math.Nat.{mod-lt}
use Rattle.std.proofs.lemmas.Nat.{div-add-mod'}
use Rattle.std.specs.Char.{digit_value}
use Rattle.std.specs.List.{flat_map, list_any, IsDistinct}
use Rattle.std.specs.Str.{IsUtf8, bytes_eq, encode_utf8_all}
use Rattle.numerals.specs.Bytes.{is_hex}
use Rattle.json_values.specs.Json.{JsonValue, ItemList, FieldList, null, boolean, number, string, array, object, no_items, item, no_fields, field}
use Rattle.json_values.specs.Lists.{items_list, fields_list, put, merged, HaveDistinctNames}
use Rattle.json_values.specs.Grammar.{no_white, Chars, no_chars, plain, escape, unicode, stands_plain, four_hex, is_high, mended, joined, Quoted, quoted, Denotes, is_null, is_true, is_false, is_number, is_string, no_elements, elements, no_members, members, Elements, last_element, element, Members, last_member, member, Padded, padded, no_mark, JsonText, text}
use Rattle.numerals.specs.Numbers.{Number}
use Rattle.numerals.specs.Decimal.{checked, checked_where, decimal_of_text}
use Rattle.numerals.specs.Units.{units_at}
use Rattle.numerals.specs.Numeral.{Numeral, numeral_of, IsNumeral}
use Rattle.json_values.proofs.NumberTexts.{number_some, number_none}
use Rattle.numerals.proofs.RoundTrip.{reads_back}
use Rattle.numerals.proofs.NumbersAreNumerals.{numeral_is_number}
use Rattle.json_values.proofs.Putting.{names}
use Rattle.json_values.proofs.Seen.{Member}
use Rattle.json_values.proofs.Indexing.{new_name, absent_last}
use Rattle.std.proofs.lemmas.List.{map-append}
use Rattle.std.proofs.lemmas.Option.{none-some, same_Some}
use Rattle.json_values.specs.Text.{escaped, hex_digit, is_plain, string_text, number_text, json_text, items_text, fields_text}
use Rattle.json_values.specs.Proper.{IsProper, AreProper, AreProperFields, respelled, respelled_items, respelled_fields}

-- ## Strings

abbrev pub AllHigh : List ℕ → Type 0
AllHigh [] = Unit {0}
AllHigh (b ∷ bs) = (128 ≤ b) × AllHigh bs

escaped_high : (b : ℕ) → 128 ≤ b → escaped b ≡ b ∷ []
escaped_high b l = grind (arith, nat_tests)

pub high_stay : (bs : List ℕ) → AllHigh bs → flat_map escaped bs ≡ bs
high_stay [] h = refl
high_stay (b ∷ bs) h = ap (λ (l : List ℕ). l ++ flat_map escaped bs) (escaped_high b h.0) ∙ ap (λ (l : List ℕ). b ∷ l) (high_stay bs h.1)

encode_low : (c : ℕ) → c < 128 → encode c ≡ c ∷ []
unfolding encode
encode_low c l = cond-true (nat_lt c 128) _ _ (lt c 128 l)
  where
    lt : (a b : ℕ) → a < b → nat_lt a b ≡ true
    lt a b l = grind (arith, nat_tests)

lower : (a b : ℕ) → a < b → nat_lt a b ≡ true
lower a b l = grind (arith, nat_tests)

not_lower : (a b : ℕ) → b ≤ a → nat_lt a b ≡ false
not_lower a b l = grind (arith, nat_tests)

high_bytes : (c : ℕ) → 128 ≤ c → AllHigh (encode c)
unfolding encode
high_bytes c l = go (cases_lt c 2048) (cases_lt c 65536)
  where
    low : nat_lt c 128 ≡ false
    low = not_lower c 128 l

    go : (c < 2048) ⊎ (2048 ≤ c) → (c < 65536) ⊎ (65536 ≤ c) → AllHigh (encode c)
    go (inl a) b = subst (λ (bs : List ℕ). AllHigh bs) (sym (cond-false (nat_lt c 128) _ _ (not_lower c 128 l) ∙ cond-true (nat_lt c 2048) _ _ (lower c 2048 a))) (omega arith, (omega arith, tt))
    go (inr a) (inl b) = subst (λ (bs : List ℕ). AllHigh bs) (sym (cond-false (nat_lt c 128) _ _ (not_lower c 128 l) ∙ cond-false (nat_lt c 2048) _ _ (not_lower c 2048 a) ∙ cond-true (nat_lt c 65536) _ _ (lower c 65536 b))) (omega arith, (omega arith, (omega arith, tt)))
    go (inr a) (inr b) = subst (λ (bs : List ℕ). AllHigh bs) (sym (cond-false (nat_lt c 128) _ _ (not_lower c 128 l) ∙ cond-false (nat_lt c 2048) _ _ (not_lower c 2048 a) ∙ cond-false (nat_lt c 65536) _ _ (not_lower c 65536 b))) (omega arith, (omega arith, (omega arith, (omega arith, tt))))

plain_byte : (b : ℕ) → is_plain b ≡ true → escaped b ≡ b ∷ []
plain_byte b e = grind (arith, nat_tests)

hex_value : (n : ℕ) → n < 16 → digit_value (hex_digit n) ≡ n
hex_value n l = grind (arith, nat_tests)

hex_is : (n : ℕ) → n < 16 → is_hex (hex_digit n) ≡ true
hex_is n l = ap (λ (d : ℕ). nat_lt d 16) (hex_value n l) ∙ lower n 16 l

not_quoted : (c : ℕ) → c < 32 → ((c == 34) || (c == 92)) ≡ false
not_quoted c l = grind (arith, nat_tests)

control : (c : ℕ) → c < 32 → c ≢ 8 → c ≢ 9 → c ≢ 10 → c ≢ 12 → c ≢ 13 → escaped c ≡ 92 ∷ 117 ∷ 48 ∷ 48 ∷ hex_digit (c / 16) ∷ hex_digit (c % 16) ∷ []
control c l a b d e f =
    cond-false ((c == 34) || (c == 92)) _ _ (not_quoted c l) ∙ cond-false (c == 8) _ _ (ne_eqb c 8 a) ∙ cond-false (c == 9) _ _ (ne_eqb c 9 b) ∙ cond-false (c == 10) _ _ (ne_eqb c 10 d)
    ∙ cond-false (c == 12) _ _ (ne_eqb c 12 e) ∙ cond-false (c == 13) _ _ (ne_eqb c 13 f) ∙ cond-true (nat_lt c 32) _ _ (lower c 32 l)

abbrev Here : List ℕ → List ℕ → ℕ → Type 0
Here t us c = Chars (escaped c ++ t) (c ∷ us)

at_control : (c : ℕ) (t us : List ℕ) → c < 32 → c ≢ 8 → c ≢ 9 → c ≢ 10 → c ≢ 12 → c ≢ 13 → Chars t us → Here t us c
at_control c t us l a b d e f h =
    let x : ℕ = c / 16 in
    let y : ℕ = c % 16 in
    let parts : c / 16 * 16 + c % 16 ≡ c = div-add-mod' c 16 in
    let low : c % 16 < 16 = mod-lt c (lit< tt) in
    let high : c / 16 < 16 = omega (arith, parts, l) in
    let value : four_hex 48 48 (hex_digit (c / 16)) (hex_digit (c % 16)) ≡ c = ap (λ (n : ℕ). (0 + n) * 16 + digit_value (hex_digit (c % 16))) (hex_value (c / 16) high) ∙ ap (λ (n : ℕ). (0 + c / 16) * 16 + n) (hex_value (c % 16) low) ∙ omega (arith, parts) in
    subst (λ (bs : List ℕ). Chars (bs ++ t) (c ∷ us)) (sym (control c l a b d e f))
    (subst (λ (n : ℕ). Chars (92 ∷ 117 ∷ 48 ∷ 48 ∷ hex_digit (c / 16) ∷ hex_digit (c % 16) ∷ t) (n ∷ us)) value (unicode {a = 48} {b = 48} {c = hex_digit (c / 16)} {d = hex_digit (c % 16)} refl refl (hex_is (c / 16) high) (hex_is (c % 16) low) h))

plain_test : (c : ℕ) → 32 ≤ c → c ≢ 34 → c ≢ 92 → is_plain c ≡ true
plain_test c l a b = grind (arith, nat_tests)

plain_stands : (c : ℕ) → 32 ≤ c → c ≢ 34 → c ≢ 92 → stands_plain c ≡ true
plain_stands c l a b = grind (arith, nat_tests)

low_is_scalar : (c : ℕ) → c < 128 → scalar c ≡ true
low_is_scalar c l = low_scalar c (omega arith)

at_plain : (c : ℕ) (t us : List ℕ) → c < 128 → 32 ≤ c → c ≢ 34 → c ≢ 92 → Chars t us → Here t us c
at_plain c t us u l a b h =
    subst (λ (bs : List ℕ). Chars (bs ++ t) (c ∷ us)) (encode_low c u ∙ sym (plain_byte c (plain_test c l a b))) (plain {c = c} (low_is_scalar c u) (plain_stands c l a b) h)

at_code : (c k : ℕ) (t us : List ℕ) → c ≡ k → Here t us k → Here t us c
at_code c k t us e h = subst (λ (n : ℕ). Here t us n) (sym e) h

ascii_char : (c : ℕ) (t us : List ℕ) → c < 128 → Chars t us → Here t us c
ascii_char c t us u h = go (cases_lt c 32)
  where
    printable : 32 ≤ c → (c ≡ 34) ⊎ (c ≢ 34) → (c ≡ 92) ⊎ (c ≢ 92) → Here t us c
    printable l (inl a) b = at_code c 34 t us a (escape {e = 34} refl h)
    printable l (inr a) (inl b) = at_code c 92 t us b (escape {e = 92} refl h)
    printable l (inr a) (inr b) = at_plain c t us u l a b h

    below : c < 32 → (c ≡ 8) ⊎ (c ≢ 8) → (c ≡ 9) ⊎ (c ≢ 9) → (c ≡ 10) ⊎ (c ≢ 10) → (c ≡ 12) ⊎ (c ≢ 12) → (c ≡ 13) ⊎ (c ≢ 13) → Here t us c
    below l (inl a) b d e f = at_code c 8 t us a (escape {e = 98} refl h)
    below l (inr a) (inl b) d e f = at_code c 9 t us b (escape {e = 116} refl h)
    below l (inr a) (inr b) (inl d) e f = at_code c 10 t us d (escape {e = 110} refl h)
    below l (inr a) (inr b) (inr d) (inl e) f = at_code c 12 t us e (escape {e = 102} refl h)
    below l (inr a) (inr b) (inr d) (inr e) (inl f) = at_code c 13 t us f (escape {e = 114} refl h)
    below l (inr a) (inr b) (inr d) (inr e) (inr f) = at_control c t us l a b d e f h

    go : (c < 32) ⊎ (32 ≤ c) → Here t us c
    go (inl l) = below l (cases_eq c 8) (cases_eq c 9) (cases_eq c 10) (cases_eq c 12) (cases_eq c 13)
    go (inr l) = printable l (cases_eq c 34) (cases_eq c 92)

plain_from_128 : (c : ℕ) → 128 ≤ c → stands_plain c ≡ true
plain_from_128 c l = grind (arith, nat_tests)

both : (a b : Bool) → (a && b) ≡ true → (a ≡ true) × (b ≡ true)
both true b e = (refl, e)
both false b e = absurd (true≢false (sym e))

chars_of : (cs : List ℕ) → scalars cs ≡ true → Chars (flat_map escaped (encode_utf8_all cs)) cs
chars_of [] s = no_chars
chars_of (c ∷ cs) s = go (cases_lt c 128) (chars_of cs (both (scalar c) (scalars cs) s).1)
  where
    go : (c < 128) ⊎ (128 ≤ c) → Chars (flat_map escaped (encode_utf8_all cs)) cs → Chars (flat_map escaped (encode c ++ encode_utf8_all cs)) (c ∷ cs)
    go (inl l) h =
        subst (λ (bs : List ℕ). Chars bs (c ∷ cs)) (sym (flat_map-append escaped (encode c) (encode_utf8_all cs) ∙ ap (λ (bs : List ℕ). flat_map escaped bs ++ flat_map escaped (encode_utf8_all cs)) (encode_low c l) ∙ ap (λ (bs : List ℕ). bs ++ flat_map escaped (encode_utf8_all cs)) (append-nil (escaped c)))) (ascii_char c (flat_map escaped (encode_utf8_all cs)) cs l h)
    go (inr l) h =
        subst (λ (bs : List ℕ). Chars bs (c ∷ cs)) (sym (flat_map-append escaped (encode c) (encode_utf8_all cs) ∙ ap (λ (bs : List ℕ). bs ++ flat_map escaped (encode_utf8_all cs)) (high_stay (encode c) (high_bytes c l)))) (plain {c = c} (both (scalar c) (scalars cs) s).0 (plain_from_128 c l) h)

no_half : (c : ℕ) → scalar c ≡ true → is_high c ≡ false
no_half c s = grind (arith, nat_tests)

joined_scalars : (cs : List ℕ) → scalars cs ≡ true → joined None cs ≡ cs
joined_scalars [] s = refl
joined_scalars (c ∷ cs) s =
    let h = both (scalar c) (scalars cs) s in
    ap (λ (b : Bool). (elim b as (λ _. List ℕ) [ true ↦ joined (Some c) cs | false ↦ mended c ∷ joined None cs ])) (no_half c h.0)
    ∙ ap (λ (b : Bool). cond b c 0xFFFD ∷ joined None cs) h.0 ∙ ap (λ (l : List ℕ). c ∷ l) (joined_scalars cs h.1)

quoted_text : (s : List ℕ) → IsUtf8 s → Quoted (string_text s) s
quoted_text s h =
    subst (λ (t : List ℕ). Quoted (string_text t) t) h.1.1 (quoted (h.0, chars_of h.0 h.1.0, ap encode_utf8_all (sym (joined_scalars h.0 h.1.0))))

-- ## Numbers

pub some_numeral : (t : List ℕ) (u : ℤ) → decimal_of_text t ≡ Some u → IsNumeral t
unfolding decimal_of_text
some_numeral t u e = go (numeral_of t) e
  where
    go : (o : Option Numeral) → checked_where (units_at 18 o) ≡ Some u → is_some o ≡ true
    go None e = absurd (none-some u e)
    go (Some v) e = refl

checked_small : (z u : ℤ) → checked z ≡ Some u → unsigned_abs u < 10 ^ 36
checked_small z u e = go (nat_lt (unsigned_abs z) (10 ^ 36)) refl
  where
    go : (b : Bool) → nat_lt (unsigned_abs z) (10 ^ 36) ≡ b → unsigned_abs u < 10 ^ 36
    go true t =
        let same : z ≡ u = same_Some z u (sym (ap (λ (b : Bool). cond b (Some z) None) t) ∙ e) in
        subst (λ (x : ℤ). unsigned_abs x < 10 ^ 36) same (below (unsigned_abs z) t)
      where
        below : (n : ℕ) → nat_lt n (10 ^ 36) ≡ true → n < 10 ^ 36
        below n t = grind (arith, nat_tests)
    go false t = absurd (none-some u (sym (ap (λ (b : Bool). cond b (Some z) None) t) ∙ e))

pub decimal_small : (t : List ℕ) (u : ℤ) → decimal_of_text t ≡ Some u → unsigned_abs u < 10 ^ 36
unfolding decimal_of_text
decimal_small t u e = go (units_at 18 (numeral_of t)) e
  where
    go : (o : Option ℤ) → checked_where o ≡ Some u → unsigned_abs u < 10 ^ 36
    go None e = absurd (none-some u e)
    go (Some z) e = checked_small z u e

-- the printed text of a number is one of the same value
pub number_kept : (s : List ℕ) → decimal_of_text (number_text s) ≡ decimal_of_text s
number_kept s = go (decimal_of_text s) refl
  where
    go : (o : Option ℤ) → decimal_of_text s ≡ o → decimal_of_text (number_text s) ≡ decimal_of_text s
    go None e = ap decimal_of_text (number_none s e)
    go (Some u) e = ap decimal_of_text (number_some s u e) ∙ reads_back u (decimal_small s u e) ∙ sym e

number_printed : (s : List ℕ) → Number s → Number (number_text s)
number_printed s h = go (decimal_of_text s) refl
  where
    go : (o : Option ℤ) → decimal_of_text s ≡ o → Number (number_text s)
    go None e = subst (λ (t : List ℕ). Number t) (sym (number_none s e)) h
    go (Some u) e = numeral_is_number (number_text s) (some_numeral (number_text s) u (number_kept s ∙ e))

-- ## Objects

merged_new : (ns ms : List Member) → HaveDistinctNames (ns ++ ms) → merged ns ms ≡ ns ++ ms
merged_new ns [] h = sym (append-nil ns)
merged_new ns (m ∷ ms) h =
    let split : names (ns ++ m ∷ ms) ≡ names ns ++ m.0 ∷ names ms = map-append (λ (f : Member). f.0) ns (m ∷ ms) in
    let new : list_any (bytes_eq m.0) (names ns) ≡ false = new_name (names ns) (names ms) m.0 (subst (λ (l : List (List ℕ)). IsDistinct bytes_eq l) split h) in
    let last : put ns m.0 m.1 ≡ ns ++ m ∷ [] = absent_last m.0 ns new m.1 in
    let joined : (ns ++ m ∷ []) ++ ms ≡ ns ++ m ∷ ms = append_assoc ns (m ∷ []) ms in
    ap (λ (l : List Member). merged l ms) last ∙ merged_new (ns ++ m ∷ []) ms (subst (λ (l : List Member). HaveDistinctNames l) (sym joined) h) ∙ joined

names_kept : (fs : FieldList) → names (fields_list (respelled_fields fs)) ≡ names (fields_list fs)
names_kept no_fields = refl
names_kept (field name v fs) = ap (λ (l : List (List ℕ)). name ∷ l) (names_kept fs)

distinct_kept : (fs : FieldList) → HaveDistinctNames (fields_list fs) → HaveDistinctNames (fields_list (respelled_fields fs))
distinct_kept fs h = subst (λ (l : List (List ℕ)). IsDistinct bytes_eq l) (sym (names_kept fs)) h

-- ## Values

pub pad : (d : ℕ) (t : List ℕ) (v : JsonValue) → Denotes d t v → Padded d t v
pad d t v h = subst (λ (l : List ℕ). Padded d l v) (append-nil t) (padded no_white h no_white)

-- a member without white space
one_member : (d : ℕ) (name t : List ℕ) (v : JsonValue) → IsUtf8 name → Denotes d t v → Members d (string_text name ++ 58 ∷ t) ((name, v) ∷ [])
one_member d name t v u h = last_member no_white (quoted_text name u) no_white (pad d t v h)

more_members : (d : ℕ) (name t rest : List ℕ) (v : JsonValue) (ms : List Member) → IsUtf8 name → Denotes d t v → Members d rest ms → Members d ((string_text name ++ 58 ∷ t) ++ 44 ∷ rest) ((name, v) ∷ ms)
more_members d name t rest v ms u h r =
    subst (λ (l : List ℕ). Members d l ((name, v) ∷ ms)) (sym (append_assoc (string_text name) (58 ∷ t) (44 ∷ rest))) (member no_white (quoted_text name u) no_white (pad d t v h) r)

-- the items of an array, or the fields of an object, where there is one
abbrev ItemsDenote : ℕ → ItemList → Type 0
ItemsDenote d no_items = Unit {0}
ItemsDenote d (item v vs) = Elements d (items_text true (item v vs)) (items_list (respelled_items (item v vs)))

abbrev FieldsDenote : ℕ → FieldList → Type 0
FieldsDenote d no_fields = Unit {0}
FieldsDenote d (field name v fs) = Members d (fields_text true (field name v fs)) (fields_list (respelled_fields (field name v fs)))

items_from : (d : ℕ) (v : JsonValue) (vs : ItemList) → Denotes d (json_text v) (respelled v) → ItemsDenote d vs → ItemsDenote d (item v vs)
items_from d v no_items h r = subst (λ (l : List ℕ). Elements d l (respelled v ∷ [])) (sym (append-nil (json_text v))) (last_element (pad d (json_text v) (respelled v) h))
items_from d v (item w ws) h r = element (pad d (json_text v) (respelled v) h) r

fields_from : (d : ℕ) (name : List ℕ) (v : JsonValue) (fs : FieldList) → IsUtf8 name → Denotes d (json_text v) (respelled v) → FieldsDenote d fs → FieldsDenote d (field name v fs)
fields_from d name v no_fields u h r = subst (λ (l : List ℕ). Members d l ((name, respelled v) ∷ [])) (sym (append-nil (string_text name ++ 58 ∷ json_text v))) (one_member d name (json_text v) (respelled v) u h)
fields_from d name v (field n w fs) u h r = more_members d name (json_text v) (fields_text true (field n w fs)) (respelled v) (fields_list (respelled_fields (field n w fs))) u h r

array_from : (d e : ℕ) (js : ItemList) → d ≡ suc e → ItemsDenote e js → Denotes d (json_text (array js)) (respelled (array js))
array_from d e no_items q h = subst (λ (n : ℕ). Denotes n (91 ∷ 93 ∷ []) (array no_items)) (sym q) (no_elements no_white)
array_from d e (item v vs) q h = subst (λ (n : ℕ). Denotes n (json_text (array (item v vs))) (respelled (array (item v vs)))) (sym q) (elements h)

object_from : (d e : ℕ) (fs : FieldList) → d ≡ suc e → HaveDistinctNames (fields_list fs) → FieldsDenote e fs → Denotes d (json_text (object fs)) (respelled (object fs))
object_from d e no_fields q n h = subst (λ (n : ℕ). Denotes n (123 ∷ 125 ∷ []) (object no_fields)) (sym q) (no_members no_white)
object_from d e (field name v fs) q n h =
    subst (λ (n : ℕ). Denotes n (json_text (object (field name v fs))) (respelled (object (field name v fs)))) (sym q)
    (members h (sym (merged_new [] (fields_list (respelled_fields (field name v fs))) (distinct_kept (field name v fs) n))))

mutual
  denotes : (d : ℕ) (v : JsonValue) → IsProper d v → Denotes d (json_text v) (respelled v)
  denotes d null p = is_null
  denotes d (boolean true) p = is_true
  denotes d (boolean false) p = is_false
  denotes d (number s) p = is_number (number_printed s p)
  denotes d (string s) p = is_string (quoted_text s p)
  denotes d (array js) p = array_from d p.0 js p.1 (denotes_items p.0 js p.2)
  denotes d (object fs) p = object_from d p.0 fs p.1 p.2 (denotes_fields p.0 fs p.3)

  denotes_items : (d : ℕ) (js : ItemList) → AreProper d js → ItemsDenote d js
  denotes_items d no_items p = tt
  denotes_items d (item v vs) p = items_from d v vs (denotes d v p.0) (denotes_items d vs p.1)

  denotes_fields : (d : ℕ) (fs : FieldList) → AreProperFields d fs → FieldsDenote d fs
  denotes_fields d no_fields p = tt
  denotes_fields d (field name v fs) p = fields_from d name v fs p.0 (denotes d v p.1) (denotes_fields d fs p.2)

pub printed_text_denotes : (d : ℕ) (v : JsonValue) → IsProper d v → JsonText d (json_text v) (respelled v)
printed_text_denotes d v p = text no_mark (pad d (json_text v) (respelled v) (denotes d v p))
