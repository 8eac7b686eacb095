-- What is left of a JSON text from each place of the machine on.
use Rattle.std.proofs.Common.{ℕ, zero, suc, ◌≡◌, ◌-◌, ◌++◌, List, [], ◌∷◌, Bool, true, false, cond, Some, None, IsTrue, refl, ap, sym, subst, length, append_assoc, ◌⊎◌, inl, inr, eqb}
use Rattle.std.proofs.lemmas.Bool.{eqb-true}
use Rattle.numerals.specs.Bytes.{is_white, is_hex}
use Rattle.json_values.specs.Grammar.{White, white, Chars, Quoted, Denotes, Elements, last_element, element, Members, last_member, member, padded, Mark}
use Rattle.numerals.specs.Numbers.{Digits, SomeDigits, Sign, Whole, Fraction, Exponent}
use Rattle.json_values.specs.Json.{JsonValue}
use Rattle.json_read.specs.Machine.{Place, Open, Role, Moves, in_array, in_object, is_value, is_name, start, in_mark, value, first_value, first_name, next_name, colon, after, in_word, after_minus, after_zero, in_whole, after_point, in_fraction, after_mantissa, after_letter, after_sign, in_exponent, in_string, in_escape, in_hex, in_character}
use Rattle.json_read.specs.Reading.{is_between}

-- a text with R, and then what has S
abbrev pub Then : (List ℕ → Type 0) → (List ℕ → Type 0) → List ℕ → Type 0
Then R S s = (t : List ℕ) × (rest : List ℕ) × (s ≡ t ++ rest) × R t × S rest

pub then_none : (R S : List ℕ → Type 0) {s : List ℕ} → R [] → S s → Then R S s
then_none R S {s} r h = ([], s, refl, r, h)

pub then_more : (Q R S : List ℕ → Type 0) (b : ℕ) {s : List ℕ} → ((t : List ℕ) → Q t → R (b ∷ t)) → Then Q S s → Then R S (b ∷ s)
then_more Q R S b f h = (b ∷ h.0, h.1, ap (λ (z : List ℕ). b ∷ z) h.2, f h.0 h.3, h.4)

-- the byte b, and then what has S
abbrev pub Byte : ℕ → (List ℕ → Type 0) → List ℕ → Type 0
Byte b S s = (rest : List ℕ) × (s ≡ b ∷ rest) × S rest

-- ## After a value

-- what stands after a value, by what is open there
pub data After (d : ℕ) : List Open → List ℕ → Type 0 where
  at_last : {s : List ℕ} → White s → After d [] s
  shuts_array : {k : List Open} {w rest s : List ℕ} → White w → After d k rest → s ≡ w ++ (93 ∷ rest) → After d (in_array ∷ k) s
  next_element : {k : List Open} {w t rest s : List ℕ} {vs : List JsonValue} → White w → Elements (d - suc (length k)) t vs → After d k rest → s ≡ w ++ (44 ∷ (t ++ (93 ∷ rest))) → After d (in_array ∷ k) s
  shuts_object : {k : List Open} {w rest s : List ℕ} → White w → After d k rest → s ≡ w ++ (125 ∷ rest) → After d (in_object ∷ k) s
  next_member : {k : List Open} {w t rest s : List ℕ} {ms : List (List ℕ × JsonValue)} → White w → Members (d - suc (length k)) t ms → After d k rest → s ≡ w ++ (44 ∷ (t ++ (125 ∷ rest))) → After d (in_object ∷ k) s

pub after_white : {d : ℕ} {k : List Open} {s : List ℕ} (b : ℕ) → IsTrue (is_white b) → After d k s → After d k (b ∷ s)
after_white b i (at_last h) = at_last (white i h)
after_white b i (shuts_array h a e) = shuts_array (white i h) a (ap (λ (z : List ℕ). b ∷ z) e)
after_white b i (next_element h es a e) = next_element (white i h) es a (ap (λ (z : List ℕ). b ∷ z) e)
after_white b i (shuts_object h a e) = shuts_object (white i h) a (ap (λ (z : List ℕ). b ∷ z) e)
after_white b i (next_member h ms a e) = next_member (white i h) ms a (ap (λ (z : List ℕ). b ∷ z) e)

-- ## Before a value

abbrev pub Value : ℕ → List Open → List ℕ → Type 0
Value d k = Then (λ t. (v : JsonValue) × Denotes (d - length k) t v) (After d k)

abbrev pub AtValue : ℕ → List Open → List ℕ → Type 0
AtValue d k = Then White (Value d k)

abbrev pub AtColon : ℕ → List Open → List ℕ → Type 0
AtColon d k = Then White (Byte 58 (AtValue d k))

abbrev pub Name : ℕ → List Open → List ℕ → Type 0
Name d k = Then (λ t. (name : List ℕ) × Quoted t name) (AtColon d k)

abbrev pub AtName : ℕ → List Open → List ℕ → Type 0
AtName d k = Then White (Name d k)

-- the array or object ends at once
abbrev pub Shuts : Open → ℕ → ℕ → List Open → List ℕ → Type 0
Shuts o c d k s = (l : List Open) × (k ≡ o ∷ l) × Then White (Byte c (After d l)) s

pub elements_of : (d : ℕ) (k : List Open) (s : List ℕ) → AtValue d (in_array ∷ k) s → Then (λ t. (vs : List JsonValue) × Elements (d - suc (length k)) t vs) (Byte 93 (After d k)) s
elements_of d k s (w, s1, e1, h, (t, s2, e2, (v, den), a)) = go a
  where
    go : After d (in_array ∷ k) s2 → Then (λ t. (vs : List JsonValue) × Elements (d - suc (length k)) t vs) (Byte 93 (After d k)) s
    go (shuts_array {w = w'} {rest = rest} h' a e3) =
        (w ++ (t ++ w'), 93 ∷ rest, rw (e1, e2, e3) (simp append_assoc), (v ∷ [], last_element (padded h den h')), (rest, refl, a))
    go (next_element {w = w'} {t = more} {rest = rest} {vs = vs} h' es a e3) =
        ((w ++ (t ++ w')) ++ (44 ∷ more), 93 ∷ rest, rw (e1, e2, e3) (simp append_assoc), (v ∷ vs, element (padded h den h') es), (rest, refl, a))

pub members_of : (d : ℕ) (k : List Open) (s : List ℕ) → AtName d (in_object ∷ k) s → Then (λ t. (ms : List (List ℕ × JsonValue)) × Members (d - suc (length k)) t ms) (Byte 125 (After d k)) s
members_of d k s (w, s1, e1, h, (n, s2, e2, (name, q), (w', s3, e3, h', (s4, e4, (u, s5, e5, g, (t, s6, e6, (v, den), a)))))) = go a
  where
    go : After d (in_object ∷ k) s6 → Then (λ t. (ms : List (List ℕ × JsonValue)) × Members (d - suc (length k)) t ms) (Byte 125 (After d k)) s
    go (shuts_object {w = u'} {rest = rest} g' a e7) =
        (w ++ (n ++ (w' ++ (58 ∷ (u ++ (t ++ u'))))), 125 ∷ rest, rw (e1, e2, e3, e4, e5, e6, e7) (simp append_assoc), ((name, v) ∷ [], last_member h q h' (padded g den g')), (rest, refl, a))
    go (next_member {w = u'} {t = more} {rest = rest} {ms = ms} g' es a e7) =
        (w ++ (n ++ (w' ++ (58 ∷ ((u ++ (t ++ u')) ++ (44 ∷ more))))), 125 ∷ rest, rw (e1, e2, e3, e4, e5, e6, e7) (simp append_assoc), ((name, v) ∷ ms, member h q h' (padded g den g') es), (rest, refl, a))

-- ## Numbers

abbrev pub FromPoint : List ℕ → Type 0
FromPoint t = (f : List ℕ) × (e : List ℕ) × (t ≡ f ++ e) × Fraction f × Exponent e

abbrev pub FromWhole : List ℕ → Type 0
FromWhole t = (w : List ℕ) × (more : List ℕ) × (t ≡ w ++ more) × Whole w × FromPoint more

abbrev pub InWhole : List ℕ → Type 0
InWhole t = (ds : List ℕ) × (more : List ℕ) × (t ≡ ds ++ more) × Digits ds × FromPoint more

abbrev pub AfterPoint : List ℕ → Type 0
AfterPoint t = (ds : List ℕ) × (e : List ℕ) × (t ≡ ds ++ e) × SomeDigits ds × Exponent e

abbrev pub InFraction : List ℕ → Type 0
InFraction t = (ds : List ℕ) × (e : List ℕ) × (t ≡ ds ++ e) × Digits ds × Exponent e

abbrev pub AfterLetter : List ℕ → Type 0
AfterLetter t = (g : List ℕ) × (ds : List ℕ) × (t ≡ g ++ ds) × Sign g × SomeDigits ds

-- ## Strings

abbrev pub Closed : ℕ → Role → List Open → List ℕ → Type 0
Closed d is_value k = After d k
Closed d is_name k = AtColon d k

-- after a part of a string, the rest of its characters and its quote
abbrev pub Past : List ℕ → ℕ → Role → List Open → List ℕ → Type 0
Past part d r k = Then (λ t. (us : List ℕ) × Chars (part ++ t) us) (Byte 34 (Closed d r k))

abbrev pub Hexes : ℕ → (List ℕ → Type 0) → List ℕ → Type 0
Hexes zero S s = S s
Hexes (suc n) S s = (h : ℕ) × (rest : List ℕ) × (s ≡ h ∷ rest) × IsTrue (is_hex h) × Hexes n S rest

abbrev pub Follows : ℕ → (List ℕ → Type 0) → List ℕ → Type 0
Follows zero S s = S s
Follows (suc n) S s = (b : ℕ) × (rest : List ℕ) × (s ≡ b ∷ rest) × IsTrue (is_between 128 192 b) × Follows n S rest

abbrev pub Second : ℕ → ℕ → ℕ → (List ℕ → Type 0) → List ℕ → Type 0
Second low high n S s = (b : ℕ) × (rest : List ℕ) × (s ≡ b ∷ rest) × IsTrue (is_between low high b) × Follows n S rest

-- ## All places

abbrev pub Stands : ℕ → Place → List Open → List ℕ → Type 0
Stands d start k = Then Mark (AtValue d k)
Stands d (in_mark cs) k = Then (λ t. t ≡ cs) (AtValue d k)
Stands d value k = AtValue d k
Stands d first_value k = λ s. AtValue d k s ⊎ Shuts in_array 93 d k s
Stands d first_name k = λ s. AtName d k s ⊎ Shuts in_object 125 d k s
Stands d next_name k = AtName d k
Stands d colon k = AtColon d k
Stands d after k = After d k
Stands d (in_word cs) k = Then (λ t. t ≡ cs) (After d k)
Stands d after_minus k = Then FromWhole (After d k)
Stands d after_zero k = Then FromPoint (After d k)
Stands d in_whole k = Then InWhole (After d k)
Stands d after_point k = Then AfterPoint (After d k)
Stands d in_fraction k = Then InFraction (After d k)
Stands d after_mantissa k = Then Exponent (After d k)
Stands d after_letter k = Then AfterLetter (After d k)
Stands d after_sign k = Then SomeDigits (After d k)
Stands d in_exponent k = Then Digits (After d k)
Stands d (in_string r) k = Past [] d r k
Stands d (in_escape r) k = Past (92 ∷ []) d r k
Stands d (in_hex r n) k = Hexes (suc n) (Past [] d r k)
Stands d (in_character r low high n) k = Second low high n (Past [] d r k)

-- what stands after a move
abbrev pub Later : ℕ → List ℕ → Moves → Type 0
Later d s None = ⊥
Later d s (Some m) = Stands d m.0 m.1 s

-- ## Tests

pub split : (L : Moves → Type 0) (t : Bool) (x y : Moves) → L (cond t x y) → ((t ≡ true) × L x) ⊎ ((t ≡ false) × L y)
split L true x y h = inl (refl, h)
split L false x y h = inr (refl, h)

pub at_byte : (P : ℕ → Type 0) (b c : ℕ) → eqb b c ≡ true → P c → P b
at_byte P b c e h = subst P (sym (eqb-true b c e)) h
