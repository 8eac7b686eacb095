-- A text in quotes, read by characters and told by bytes.
use Rattle.std.specs.Prelude.{encode_utf8}
use Rattle.std.proofs.Common.{ℕ, suc, ◌≡◌, ◌<◌, ◌≤◌, Bool, true, false, [], ◌∷◌, ◌++◌, length, get_or, Option, Some, None, inl, inr, cond, refl, ap, ◌∙◌, sym, subst, arith, ◌==◌, append_assoc, length-append, append-nil}
use Rattle.std.proofs.lemmas.Str.{encode_ascii, length-encode, len_utf8_bounds, inside_one, char_from_byte}
use Rattle.std.proofs.lemmas.Bool.{ne_eqb, eqb-true, or_cases, cases_lt}
use Rattle.std.proofs.lemmas.Bool.Decides.{nat_tests}
use Rattle.expr_lang.specs.Tokens.{Text}
use Rattle.expr_lang.specs.Reading.{known_content}
use Rattle.expr_lang.specs.Tokens.{Lexed, is_quote, escape_of, with_byte, text_at, escape_at}

-- a byte that stands for itself in a text after the quote q
record Plain (q b : ℕ) : Type 0 where
  pub no_quote : b ≡ q → ⊥
  pub no_end : b ≡ 10 → ⊥
  pub no_escape : b ≡ 92 → ⊥

cond_false : {A : Type 0} (t : Bool) (x y : A) → t ≡ false → cond t x y ≡ y
cond_false t x y e = rw e

plain_step : (q : ℕ) (content : Option Text) (b : ℕ) (rest : Text) → Plain q b → text_at q content (b ∷ rest) ≡ text_at q (with_byte content b) rest
plain_step q content b rest h =
    cond_false (b == q) _ _ (ne_eqb b q h.no_quote) ∙ cond_false (b == 10) _ _ (ne_eqb b 10 h.no_end) ∙ cond_false (b == 92) _ _ (ne_eqb b 92 h.no_escape)

with_bytes : Option Text → Text → Option Text
with_bytes content [] = content
with_bytes content (b ∷ bs) = with_bytes (with_byte content b) bs

over_bytes : (q : ℕ) (content : Option Text) (bs rest : Text) → ((k : ℕ) → k < length bs → Plain q (get_or bs k 0)) → text_at q content (bs ++ rest) ≡ text_at q (with_bytes content bs) rest
unfolding with_bytes
over_bytes q content [] rest h = refl
over_bytes q content (b ∷ bs) rest h =
    plain_step q content b (bs ++ rest) (h 0 (omega arith)) ∙ over_bytes q (with_byte content b) bs rest (λ k l. h (suc k) (omega arith))

with_none : (bs : Text) → with_bytes None bs ≡ None
unfolding with_bytes
with_none [] = refl
with_none (b ∷ bs) = with_none bs

with_known : (other : Bool) (s bs : Text) → with_bytes (known_content other s) bs ≡ known_content other (s ++ bs)
unfolding with_bytes
with_known true s bs = with_none bs
with_known false s [] = ap Some (sym (append-nil s))
with_known false s (b ∷ bs) = with_known false (s ++ b ∷ []) bs ∙ ap Some (append_assoc s (b ∷ []) bs)

-- ---- characters

quote_ascii : (q : ℕ) → is_quote q ≡ true → q < 128
quote_ascii q h = elim (or_cases (q == 34) (q == 39) h) as (λ _. q < 128) [ inl e ↦ (let x : q ≡ 34 = eqb-true q 34 e in omega arith) | inr e ↦ (let x : q ≡ 39 = eqb-true q 39 e in omega arith) ]

quote_no_escape : (q : ℕ) → is_quote q ≡ true → q ≡ 92 → ⊥
quote_no_escape q h g = elim (or_cases (q == 34) (q == 39) h) as (λ _. ⊥) [ inl e ↦ (let x : q ≡ 34 = eqb-true q 34 e in omega arith) | inr e ↦ (let x : q ≡ 39 = eqb-true q 39 e in omega arith) ]

-- an ASCII byte in a character's bytes is the character
byte_inside : (c k : ℕ) → k < length (encode_utf8 c) → get_or (encode_utf8 c) k 0 < 128 → c ≡ get_or (encode_utf8 c) k 0
byte_inside c k l h = inside_one c [] (encode_utf8 c) k (sym (append-nil (encode_utf8 c))) l h

plain_bytes : (q c : ℕ) → is_quote q ≡ true → (c ≡ q → ⊥) → (c ≡ 10 → ⊥) → (c ≡ 92 → ⊥) → (k : ℕ) → k < length (encode_utf8 c) → Plain q (get_or (encode_utf8 c) k 0)
plain_bytes q c s h g f k l =
    let small : q < 128 = quote_ascii q s in
    record {
      no_quote = λ e. h (byte_inside c k l (omega arith) ∙ e);
      no_end = λ e. g (byte_inside c k l (omega arith) ∙ e);
      no_escape = λ e. f (byte_inside c k l (omega arith) ∙ e);
    }

-- over a character that stands for itself
pub over_plain : (q c : ℕ) (other : Bool) (s old new : Text) → is_quote q ≡ true → (c ≡ q → ⊥) → (c ≡ 10 → ⊥) → (c ≡ 92 → ⊥) → old ≡ encode_utf8 c ++ new → text_at q (known_content other (s ++ encode_utf8 c)) new ≡ text_at q (known_content other s) old
over_plain q c other s old new i h g f e =
    sym (ap (text_at q (known_content other s)) e ∙ over_bytes q (known_content other s) (encode_utf8 c) new (plain_bytes q c i h g f) ∙ ap (λ (z : Option Text). text_at q z new) (with_known other s (encode_utf8 c)))

pub shorter : (c : ℕ) (old new : Text) → old ≡ encode_utf8 c ++ new → length new < length old
shorter c old new e =
    let one : 1 ≤ length (encode_utf8 c) = subst (λ (n : ℕ). 1 ≤ n) (sym (length-encode c)) (len_utf8_bounds c).0 in
    subst (λ (z : Text). length new < length z) (sym e) (omega (arith, length-append (encode_utf8 c) new))

-- ---- escapes

-- an escape after its backslash
to_escape : (q : ℕ) (content : Option Text) (old mid : Text) → is_quote q ≡ true → old ≡ encode_utf8 92 ++ mid → text_at q content old ≡ escape_at q content mid
to_escape q content old mid i e =
    ap (text_at q content) (e ∙ ap (λ (z : Text). z ++ mid) (encode_ascii 92 (omega arith)))
    ∙ cond_false (92 == q) _ _ (ne_eqb 92 q (λ g. quote_no_escape q i (sym g)))

known_escape : (c x : ℕ) → escape_of c ≡ Some x → (c < 128) × (x < 128)
known_escape c x e = grind (arith, nat_tests)

no_escape : (b : ℕ) → 128 ≤ b → escape_of b ≡ None
no_escape b h = grind (arith, nat_tests)

with_one : (other : Bool) (s : Text) (x : ℕ) → with_byte (known_content other s) x ≡ known_content other (s ++ x ∷ [])
with_one true s x = refl
with_one false s x = refl

-- what escape_at does at a byte other than a line feed
by_escape : ℕ → Option Text → Text → Option ℕ → Lexed
by_escape q content rest (Some e) = text_at q (with_byte content e) rest
by_escape q content rest None = text_at q None rest

escape_step : (q b : ℕ) (content : Option Text) (rest : Text) (r : Option ℕ) → (b ≡ 10 → ⊥) → escape_of b ≡ r → escape_at q content (b ∷ rest) ≡ by_escape q content rest r
unfolding by_escape
escape_step q b content rest (Some e) h g = cond_false (b == 10) _ _ (ne_eqb b 10 h) ∙ (rw g)
escape_step q b content rest None h g = cond_false (b == 10) _ _ (ne_eqb b 10 h) ∙ (rw g)

pub over_escape : (q c x : ℕ) (other : Bool) (s old mid new : Text) → is_quote q ≡ true → escape_of c ≡ Some x → old ≡ encode_utf8 92 ++ mid → mid ≡ encode_utf8 c ++ new → text_at q (known_content other (s ++ encode_utf8 x)) new ≡ text_at q (known_content other s) old
unfolding by_escape
over_escape q c x other s old mid new i h e g =
    let small : (c < 128) × (x < 128) = known_escape c x h in
    let line : c ≡ 10 → ⊥ = λ k. (let no : escape_of 10 ≡ Some x = ap escape_of (sym k) ∙ h in cc) in
    sym (to_escape q (known_content other s) old mid i e
    ∙ ap (escape_at q (known_content other s)) (g ∙ ap (λ (z : Text). z ++ new) (encode_ascii c small.0))
    ∙ escape_step q c (known_content other s) new (Some x) line h
    ∙ ap (λ (z : Option Text). text_at q z new) (with_one other s x ∙ ap (λ (z : Text). known_content other (s ++ z)) (sym (encode_ascii x small.1))))

-- the first byte of a character, and its other bytes, none of which is ASCII
not_inside : (c b : ℕ) (bs : Text) → encode_utf8 c ≡ b ∷ bs → (k : ℕ) → k < length bs → get_or bs k 0 < 128 → ⊥
not_inside c b bs e k l h =
    let same : c ≡ get_or bs k 0 = inside_one c [] (b ∷ bs) (suc k) (sym (ap (λ (z : Text). z ++ []) e ∙ append-nil (b ∷ bs))) (subst (λ (z : Text). suc k < length z) (sym e) (omega arith)) h in
    let one : b ∷ bs ≡ c ∷ [] = sym e ∙ encode_ascii c (omega arith) in
    omega (arith, ap length one)

first_byte : (c : ℕ) (bytes : Text) → encode_utf8 c ≡ bytes → (b : ℕ) × (bs : Text) × (bytes ≡ b ∷ bs) × ((k : ℕ) → k < length bs → 128 ≤ get_or bs k 0)
first_byte c [] e = absurd (omega (arith, length-encode c, (len_utf8_bounds c).0, ap length e))
first_byte c (b ∷ bs) e =
    (b, bs, refl, λ k l. elim (cases_lt (get_or bs k 0) 128) as (λ _. 128 ≤ get_or bs k 0) [ inl h ↦ absurd (not_inside c b bs e k l h) | inr h ↦ h ])

unknown_first : (c b : ℕ) (bs : Text) → encode_utf8 c ≡ b ∷ bs → (c ≡ 10 → ⊥) → escape_of c ≡ None → (b ≡ 10 → ⊥) × (escape_of b ≡ None)
unknown_first c b bs e h g = elim (cases_lt b 128) as (λ _. (b ≡ 10 → ⊥) × (escape_of b ≡ None)) [
  | inl l ↦ (let same : c ≡ b = char_from_byte (b ∷ bs) [] c (sym (append-nil (encode_utf8 c) ∙ e)) l (omega arith) in (λ k. h (same ∙ k), ap escape_of (sym same) ∙ g))
  | inr l ↦ (λ k. omega arith, no_escape b l)
]

pub over_unknown : (q c : ℕ) (other : Bool) (s old mid new : Text) → is_quote q ≡ true → (c ≡ 10 → ⊥) → escape_of c ≡ None → old ≡ encode_utf8 92 ++ mid → mid ≡ encode_utf8 c ++ new → text_at q (known_content true s) new ≡ text_at q (known_content other s) old
unfolding by_escape
over_unknown q c other s old mid new i l h e g =
    let f = first_byte c (encode_utf8 c) refl in
    let b = f.0 in
    let bs = f.1 in
    let small : q < 128 = quote_ascii q i in
    let first = unknown_first c b bs f.2 l h in
    let plain : (k : ℕ) → k < length bs → Plain q (get_or bs k 0) = λ k m. (let high : 128 ≤ get_or bs k 0 = f.3 k m in record { no_quote = λ (z : get_or bs k 0 ≡ q). omega arith; no_end = λ (z : get_or bs k 0 ≡ 10). omega arith; no_escape = λ (z : get_or bs k 0 ≡ 92). omega arith }) in
    sym (to_escape q (known_content other s) old mid i e
    ∙ ap (escape_at q (known_content other s)) (g ∙ ap (λ (z : Text). z ++ new) f.2)
    ∙ escape_step q b (known_content other s) (bs ++ new) None first.0 first.1
    ∙ over_bytes q None bs new plain
    ∙ ap (λ (z : Option Text). text_at q z new) (with_none bs))

-- ---- ends
