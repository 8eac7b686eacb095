-- Where a text may be cut: after what the reader of tokens passes.
use Rattle.std.specs.Prelude.{encode_utf8, nat_eq}
use Rattle.std.proofs.Common.{ℕ, ◌≡◌, ◌+◌, ◌<◌, Bool, true, false, List, [], ◌∷◌, ◌++◌, length, get_or, drop, Option, Some, None, MatchOption, cond, refl, ap, ◌∙◌, sym, subst, arith, ◌==◌, ◌&&◌, ◌||◌, append_assoc}
use Rattle.std.specs.Str.{IsUtf8, IsCharBoundary}
use Rattle.std.specs.List.{starts_with}
use Rattle.std.proofs.lemmas.Str.{char_from_byte, encode_ascii, IsCharBoundary-after_ascii}
use Rattle.std.proofs.lemmas.Slice.Eq.{starts_is}
use Rattle.std.proofs.lemmas.Bool.{eqb-true}
use Rattle.std.proofs.lemmas.Bool.Decides.{Decides-eqb}
use Rattle.expr_lang.specs.declared.token.Symbol.{Symbol}
use Rattle.numerals.specs.Bytes.{is_digit, drop_while}
use Rattle.numerals.specs.Numeral.{skip_sign}
use Rattle.expr_lang.specs.Tokens.{Text, begins_with_digit, skip_whole, skip_fraction, skip_exponent, after_number, three_bytes, two_bytes, one_byte, other_byte}

-- ---- one ASCII character

-- a text that begins with an ASCII byte begins with it as a character
pub ascii_next : (b c : ℕ) (bs rest : Text) → b ∷ bs ≡ encode_utf8 c ++ rest → b < 128 → encode_utf8 c ≡ b ∷ []
ascii_next b c bs rest e h =
    let same : c ≡ b = char_from_byte (b ∷ bs) rest c e h (omega arith) in
    ap encode_utf8 same ∙ encode_ascii b h

pub passes_ascii : (r : Option ℕ) (old new : Text) → (b : ℕ) × (bs : List ℕ) × (old ≡ b ∷ bs) × (b < 128) → MatchOption r ((old ≡ []) × (new ≡ [])) (λ (c : ℕ). old ≡ encode_utf8 c ++ new) → (b : ℕ) × (old ≡ b ∷ new)
passes_ascii None old new s h = absurd (let e : s.0 ∷ s.1 ≡ [] = sym s.2 ∙ h.0 in cc)
passes_ascii (Some c) old new s h =
    (s.0, h ∙ ap (λ (z : Text). z ++ new) (ascii_next s.0 c s.1 new (sym s.2 ∙ h) s.3))

-- ---- what stands in front of what is left

abbrev pub Front : Text → Text → Type 0
Front s rest = (front : List ℕ) × (s ≡ front ++ rest)

front_self : (s : Text) → Front s s
front_self s = ([], refl)

front_cons : (b : ℕ) (s rest : Text) → Front s rest → Front (b ∷ s) rest
front_cons b s rest h = (b ∷ h.0, ap (λ (z : Text). b ∷ z) h.1)

front_then : (s t rest : Text) → Front s t → Front t rest → Front s rest
front_then s t rest h g = (h.0 ++ g.0, h.1 ∙ ap (λ (z : Text). h.0 ++ z) g.1 ∙ sym (append_assoc h.0 g.0 rest))

front_cond : (t : Bool) (s x y : Text) → Front s x → Front s y → Front s (cond t x y)
front_cond true s x y h g = h
front_cond false s x y h g = g

pub drop_while_front : (test : ℕ → Bool) (s : Text) → Front s (drop_while test s)
drop_while_front test [] = front_self []
drop_while_front test (b ∷ rest) =
    elim (test b) as (λ t. Front (b ∷ rest) (elim t [ true ↦ drop_while test rest | false ↦ b ∷ rest ])) [ true ↦ front_cons b rest _ (drop_while_front test rest) | false ↦ front_self (b ∷ rest) ]

whole_front : (s : Text) → Front s (skip_whole s)
whole_front [] = front_self []
whole_front (b ∷ rest) = front_cond (b == 48) (b ∷ rest) rest _ (front_cons b rest rest (front_self rest)) (drop_while_front is_digit (b ∷ rest))

fraction_front : (s : Text) → Front s (skip_fraction s)
fraction_front [] = front_self []
fraction_front (b ∷ rest) =
    front_cond ((b == 46) && begins_with_digit rest) (b ∷ rest) _ (b ∷ rest) (front_cons b rest _ (drop_while_front is_digit rest)) (front_self (b ∷ rest))

sign_front : (s : Text) → Front s (skip_sign s)
sign_front [] = front_self []
sign_front (b ∷ rest) = front_cond ((b == 45) || (b == 43)) (b ∷ rest) rest (b ∷ rest) (front_cons b rest rest (front_self rest)) (front_self (b ∷ rest))

exponent_front : (s : Text) → Front s (skip_exponent s)
exponent_front [] = front_self []
exponent_front (b ∷ rest) =
    front_cond (((b == 101) || (b == 69)) && begins_with_digit (skip_sign rest)) (b ∷ rest) _ (b ∷ rest) (front_cons b rest _ (front_then rest (skip_sign rest) _ (sign_front rest) (drop_while_front is_digit (skip_sign rest)))) (front_self (b ∷ rest))

pub number_front : (s : Text) → Front s (after_number s)
number_front s = front_then s (skip_whole s) _ (whole_front s) (front_then (skip_whole s) (skip_fraction (skip_whole s)) _ (fraction_front (skip_whole s)) (exponent_front (skip_fraction (skip_whole s))))

-- ---- symbols are ASCII

-- the byte at k is there, and ASCII
abbrev AsciiAt : Text → ℕ → Type 0
AsciiAt s k = (k < length s) × (get_or s k 0 < 128)

two_more : (s : Text) (p q : ℕ) → s ≡ p ∷ (q ∷ drop 2 s) → q < 128 → AsciiAt s 1
two_more s p q e h = subst (λ (z : Text). AsciiAt z 1) (sym e) (omega arith, h)

three_more : (s : Text) (p q r : ℕ) → s ≡ p ∷ (q ∷ (r ∷ drop 3 s)) → r < 128 → AsciiAt s 2
three_more s p q r e h = subst (λ (z : Text). AsciiAt z 2) (sym e) (omega arith, h)

two_of : (s : Text) (p q : ℕ) (x y : Symbol) (r : Option Symbol) → q < 128 → (r ≡ Some y → AsciiAt s 1) → cond (starts_with nat_eq s (p ∷ (q ∷ []))) (Some x) r ≡ Some y → AsciiAt s 1
two_of s p q x y r h g = go (starts_with nat_eq s (p ∷ (q ∷ []))) refl
  where
    go : (t : Bool) → starts_with nat_eq s (p ∷ (q ∷ [])) ≡ t → cond t (Some x) r ≡ Some y → AsciiAt s 1
    go true e k = two_more s p q ((starts_is Decides-eqb s (p ∷ (q ∷ [])) _ refl).0 e) h
    go false e k = g k

three_of : (s : Text) (p q u : ℕ) (x y : Symbol) (r : Option Symbol) → u < 128 → (r ≡ Some y → AsciiAt s 2) → cond (starts_with nat_eq s (p ∷ (q ∷ (u ∷ [])))) (Some x) r ≡ Some y → AsciiAt s 2
three_of s p q u x y r h g = go (starts_with nat_eq s (p ∷ (q ∷ (u ∷ [])))) refl
  where
    go : (t : Bool) → starts_with nat_eq s (p ∷ (q ∷ (u ∷ []))) ≡ t → cond t (Some x) r ≡ Some y → AsciiAt s 2
    go true e k = three_more s p q u ((starts_is Decides-eqb s (p ∷ (q ∷ (u ∷ []))) _ refl).0 e) h
    go false e k = g k

none_of : (s : Text) (k : ℕ) (y : Symbol) → None ≡ Some y → AsciiAt s k
none_of s k y e = absurd (cc)

three_ascii : (s : Text) (y : Symbol) → three_bytes s ≡ Some y → AsciiAt s 2
three_ascii s y = three_of s 61 61 61 _ y _ (omega arith) (three_of s 33 61 61 _ y _ (omega arith) (none_of s 2 y))

two_ascii : (s : Text) (y : Symbol) → two_bytes s ≡ Some y → AsciiAt s 1
two_ascii s y =
    two_of s 61 61 _ y _ (omega arith) (two_of s 33 61 _ y _ (omega arith) (two_of s 60 61 _ y _ (omega arith) (two_of s 62 61 _ y _ (omega arith) (
    two_of s 38 38 _ y _ (omega arith) (two_of s 124 124 _ y _ (omega arith) (two_of s 42 42 _ y _ (omega arith) (two_of s 61 62 _ y _ (omega arith) (
    two_of s 43 43 _ y _ (omega arith) (two_of s 45 45 _ y _ (omega arith) (two_of s 60 60 _ y _ (omega arith) (two_of s 62 62 _ y _ (omega arith) (
    two_of s 63 46 _ y _ (omega arith) (none_of s 1 y)))))))))))))

one_of : (b k : ℕ) (x y : Symbol) (r : Option Symbol) → k < 128 → (r ≡ Some y → b < 128) → cond (b == k) (Some x) r ≡ Some y → b < 128
one_of b k x y r h g = go (b == k) refl
  where
    go : (t : Bool) → (b == k) ≡ t → cond t (Some x) r ≡ Some y → b < 128
    go true e f = let same : b ≡ k = eqb-true b k e in omega arith
    go false e f = g f

equal_ascii : (b k : ℕ) → k < 128 → (b == k) ≡ true → b < 128
equal_ascii b k h e = let same : b ≡ k = eqb-true b k e in omega arith

or_ascii : (b : ℕ) (x y : Bool) → (x ≡ true → b < 128) → (y ≡ true → b < 128) → (x || y) ≡ true → b < 128
or_ascii b true y h g e = h refl
or_ascii b false y h g e = g e

-- a test of bytes that answers Other
other_of : (b : ℕ) (t : Bool) (x y : Symbol) → (t ≡ true → b < 128) → cond t (Some x) None ≡ Some y → b < 128
other_of b true x y h e = h refl
other_of b false x y h e = absurd (cc)

other_ascii : (b : ℕ) (y : Symbol) → other_byte b ≡ Some y → b < 128
other_ascii b y =
    other_of b _ _ y (or_ascii b _ _ (or_ascii b _ _ (or_ascii b _ _ (or_ascii b _ _ (or_ascii b _ _ (or_ascii b _ _ (or_ascii b _ _ (or_ascii b _ _
    (equal_ascii b 47 (omega arith)) (equal_ascii b 37 (omega arith))) (equal_ascii b 38 (omega arith))) (equal_ascii b 124 (omega arith)))
    (equal_ascii b 94 (omega arith))) (equal_ascii b 126 (omega arith)))
    (equal_ascii b 123 (omega arith))) (equal_ascii b 125 (omega arith))) (equal_ascii b 44 (omega arith)))

one_ascii : (b : ℕ) (y : Symbol) → one_byte b ≡ Some y → b < 128
one_ascii b y =
    one_of b 63 _ y _ (omega arith) (one_of b 58 _ y _ (omega arith) (one_of b 60 _ y _ (omega arith) (one_of b 62 _ y _ (omega arith) (
    one_of b 43 _ y _ (omega arith) (one_of b 45 _ y _ (omega arith) (one_of b 42 _ y _ (omega arith) (one_of b 33 _ y _ (omega arith) (
    one_of b 40 _ y _ (omega arith) (one_of b 41 _ y _ (omega arith) (one_of b 91 _ y _ (omega arith) (one_of b 93 _ y _ (omega arith) (
    one_of b 46 _ y _ (omega arith) (one_of b 61 _ y _ (omega arith) (one_of b 59 _ y _ (omega arith) (other_ascii b y)))))))))))))))

past_ascii : (s : Text) (k : ℕ) → IsUtf8 s → AsciiAt s k → IsCharBoundary s (k + 1)
past_ascii s k u h = IsCharBoundary-after_ascii s k u h.0 h.1

pub after_three : (s : Text) (y : Symbol) → IsUtf8 s → three_bytes s ≡ Some y → IsCharBoundary s 3
after_three s y u e = past_ascii s 2 u (three_ascii s y e)

pub after_two : (s : Text) (y : Symbol) → IsUtf8 s → two_bytes s ≡ Some y → IsCharBoundary s 2
after_two s y u e = past_ascii s 1 u (two_ascii s y e)

pub after_one : (s bs : Text) (b : ℕ) (y : Symbol) → IsUtf8 s → s ≡ b ∷ bs → one_byte b ≡ Some y → IsCharBoundary s 1
after_one s bs b y u e h = past_ascii s 0 u (subst (λ (z : Text). AsciiAt z 0) (sym e) (omega arith, one_ascii b y h))
