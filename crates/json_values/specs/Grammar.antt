-- The grammar of JSON texts (RFC 8259), and the value that each text denotes.
use Rattle.std.specs.Prelude.{ℕ, suc, ◌+◌, ◌-◌, ◌*◌, ◌≡◌, ◌≤◌, List, [], ◌∷◌, ◌++◌, Bool, true, false, Option, Some, None, IsTrue, codes, length, take, ◌==◌, nat_lt, nat_le, ◌&&◌, if◌then◌else◌}
use Rattle.std.specs.Char.{digit_value, encode_utf8, IsScalar}
use Rattle.std.specs.Str.{encode_utf8_all}
use lib.Utf8.{scalar}
use Rattle.numerals.specs.Bytes.{is_white, is_hex}
use Rattle.numerals.specs.Numbers.{Number}
use Rattle.json_values.specs.Json.{JsonValue, ItemList, FieldList, null, boolean, number, string, array, object, no_items, no_fields}
use Rattle.json_values.specs.Lists.{items_list, fields_list, merged}

-- ws
pub data White : List ℕ → Type 0 where
  no_white : White []
  white : {b : ℕ} {w : List ℕ} → IsTrue (is_white b) → White w → White (b ∷ w)

-- ## Strings

-- what a letter after a backslash stands for
abbrev pub short_escape : ℕ → Option ℕ
short_escape e =
    if e == 34 then Some 34
    else (if e == 92 then Some 92
    else (if e == 47 then Some 47
    else (if e == 98 then Some 8
    else (if e == 102 then Some 12
    else (if e == 110 then Some 10
    else (if e == 114 then Some 13
    else (if e == 116 then Some 9
    else None)))))))

-- what stands unescaped: all from U+0020 on but the quote and the backslash
abbrev pub stands_plain : ℕ → Bool
stands_plain c = nat_le 32 c && (if c == 34 then false else (if c == 92 then false else true))

-- the number of four hexadecimal digits
abbrev pub four_hex : ℕ → ℕ → ℕ → ℕ → ℕ
four_hex a b c d = ((digit_value a * 16 + digit_value b) * 16 + digit_value c) * 16 + digit_value d

-- what stands between the quotes, and its characters and code units, one after another
pub data Chars : List ℕ → List ℕ → Type 0 where
  no_chars : Chars [] []
  plain : {c : ℕ} {text us : List ℕ} → IsScalar c → IsTrue (stands_plain c) → Chars text us → Chars (encode_utf8 c ++ text) (c ∷ us)
  escape : {e c : ℕ} {text us : List ℕ} → short_escape e ≡ Some c → Chars text us → Chars (92 ∷ e ∷ text) (c ∷ us)
  unicode : {a b c d : ℕ} {text us : List ℕ} → IsTrue (is_hex a) → IsTrue (is_hex b) → IsTrue (is_hex c) → IsTrue (is_hex d) → Chars text us → Chars (92 ∷ 117 ∷ a ∷ b ∷ c ∷ d ∷ text) (four_hex a b c d ∷ us)

abbrev pub is_high : ℕ → Bool
is_high u = nat_le 0xD800 u && nat_lt u 0xDC00

abbrev pub is_low : ℕ → Bool
is_low u = nat_le 0xDC00 u && nat_lt u 0xE000

-- the character of a surrogate pair
abbrev pub pair : ℕ → ℕ → ℕ
pair h l = 0x10000 + (h - 0xD800) * 0x400 + (l - 0xDC00)

-- a surrogate that is no part of a pair is read as U+FFFD
abbrev pub mended : ℕ → ℕ
mended u = if scalar u then u else 0xFFFD

-- the characters of the units us, where after `Some h` a high surrogate h waits for its other half
abbrev pub joined : Option ℕ → List ℕ → List ℕ
joined None [] = []
joined (Some h) [] = 0xFFFD ∷ []
joined None (u ∷ us) = elim (is_high u) [ true ↦ joined (Some u) us | false ↦ mended u ∷ joined None us ]
joined (Some h) (u ∷ us) = elim (is_low u) [ true ↦ pair h u ∷ joined None us | false ↦ 0xFFFD ∷ elim (is_high u) [ true ↦ joined (Some u) us | false ↦ mended u ∷ joined None us ] ]

-- what stands between the quotes, and the UTF-8 text that it denotes
abbrev pub Spells : List ℕ → List ℕ → Type 0
Spells inner bytes = (us : List ℕ) × Chars inner us × (bytes ≡ encode_utf8_all (joined None us))

-- string = quotation-mark *char quotation-mark
pub data Quoted : List ℕ → List ℕ → Type 0 where
  quoted : {inner bytes : List ℕ} → Spells inner bytes → Quoted (34 ∷ (inner ++ 34 ∷ [])) bytes

-- ## Values

-- A text and the value that it denotes, with at most d arrays and objects in one another.
mutual
  pub data Denotes : ℕ → List ℕ → JsonValue → Type 0 where
    is_null : {d : ℕ} → Denotes d (codes "null") null
    is_true : {d : ℕ} → Denotes d (codes "true") (boolean true)
    is_false : {d : ℕ} → Denotes d (codes "false") (boolean false)
    is_number : {d : ℕ} {t : List ℕ} → Number t → Denotes d t (number t)
    is_string : {d : ℕ} {t bytes : List ℕ} → Quoted t bytes → Denotes d t (string bytes)
    no_elements : {d : ℕ} {w : List ℕ} → White w → Denotes (suc d) (91 ∷ (w ++ 93 ∷ [])) (array no_items)
    elements : {d : ℕ} {t : List ℕ} {js : ItemList} → Elements d t (items_list js) → Denotes (suc d) (91 ∷ (t ++ 93 ∷ [])) (array js)
    no_members : {d : ℕ} {w : List ℕ} → White w → Denotes (suc d) (123 ∷ (w ++ 125 ∷ [])) (object no_fields)
    members : {d : ℕ} {t : List ℕ} {ms : List (List ℕ × JsonValue)} {fs : FieldList} → Members d t ms → fields_list fs ≡ merged [] ms → Denotes (suc d) (123 ∷ (t ++ 125 ∷ [])) (object fs)

  -- value *( value-separator value )
  pub data Elements : ℕ → List ℕ → List JsonValue → Type 0 where
    last_element : {d : ℕ} {t : List ℕ} {v : JsonValue} → Padded d t v → Elements d t (v ∷ [])
    element : {d : ℕ} {t rest : List ℕ} {v : JsonValue} {vs : List JsonValue} → Padded d t v → Elements d rest vs → Elements d (t ++ (44 ∷ rest)) (v ∷ vs)

  -- member *( value-separator member ), where member = string name-separator value
  pub data Members : ℕ → List ℕ → List (List ℕ × JsonValue) → Type 0 where
    last_member : {d : ℕ} {w n w' t name : List ℕ} {v : JsonValue} → White w → Quoted n name → White w' → Padded d t v → Members d (w ++ (n ++ (w' ++ (58 ∷ t)))) ((name, v) ∷ [])
    member : {d : ℕ} {w n w' t name rest : List ℕ} {v : JsonValue} {ms : List (List ℕ × JsonValue)} → White w → Quoted n name → White w' → Padded d t v → Members d rest ms → Members d (w ++ (n ++ (w' ++ (58 ∷ (t ++ (44 ∷ rest)))))) ((name, v) ∷ ms)

  -- ws value ws
  pub data Padded : ℕ → List ℕ → JsonValue → Type 0 where
    padded : {d : ℕ} {w t w' : List ℕ} {v : JsonValue} → White w → Denotes d t v → White w' → Padded d (w ++ (t ++ w')) v

-- a byte order mark, or nothing
pub data Mark : List ℕ → Type 0 where
  no_mark : Mark []
  mark : Mark (0xEF ∷ 0xBB ∷ 0xBF ∷ [])

-- JSON-text = ws value ws, after an optional byte order mark
pub data JsonText : ℕ → List ℕ → JsonValue → Type 0 where
  text : {d : ℕ} {m t : List ℕ} {v : JsonValue} → Mark m → Padded d t v → JsonText d (m ++ t) v

-- ## Places of faults

-- a prefix of some accepted text
abbrev pub Viable : ℕ → List ℕ → Type 0
Viable d p = (z : List ℕ) × (v : JsonValue) × JsonText d (p ++ z) v

-- the first n bytes are the longest prefix that is also a prefix of some accepted text
pub record LongestViable (d : ℕ) (bytes : List ℕ) (n : ℕ) : Type 0 where
  pub within : n ≤ length bytes
  pub viable : Viable d (take n bytes)
  pub longest : (m : ℕ) → m ≤ length bytes → Viable d (take m bytes) → m ≤ n
