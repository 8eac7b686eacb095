-- The tokens of a text, one after another.
use Rattle.std.proofs.Common.{ℕ, zero, suc, ◌≡◌, ◌-◌, ◌<◌, ◌≤◌, Bool, true, false, [], ◌∷◌, ◌++◌, length, Option, Some, None, cond, refl, ap, ◌∙◌, sym, subst, arith, append_assoc, length-drop, ◌==◌, ◌&&◌, ◌||◌, append-nil}
use Rattle.expr_lang.specs.declared.token.Token.{Token}
use Rattle.expr_lang.specs.declared.token.Token.TheVariants as token
use Rattle.expr_lang.specs.declared.token.Symbol.{Symbol}
use Rattle.expr_lang.specs.Grammar.{Toks}
use Rattle.numerals.specs.Bytes.{is_white, is_digit, drop_while}
use Rattle.numerals.specs.Numeral.{skip_sign}
use Rattle.expr_lang.specs.Tokens.{Text, Lexed, begins_with_digit, skip_whole, skip_fraction, skip_exponent, after_number, text_at, escape_at, is_quote, escape_of, with_byte, content_token, is_name_start, is_name_byte, symbol_or, symbol_at, three_bytes, two_bytes, one_byte, token_at, tokens_from, tokens_of}

-- no white space comes next
abbrev pub StartsToken : Text → Type 0
StartsToken [] = Unit {0}
StartsToken (b ∷ rest) = is_white b ≡ false

-- ---- white space

drop_step : (test : ℕ → Bool) (b : ℕ) (bs : Text) (t : Bool) → test b ≡ t → drop_while test (b ∷ bs) ≡ cond t (drop_while test bs) (b ∷ bs)
drop_step test b bs true e = rw (e, drop_while)
drop_step test b bs false e = rw (e, drop_while)

pub starts_token : (s : Text) → StartsToken (drop_while is_white s)
starts_token [] = tt
starts_token (b ∷ bs) = go (is_white b) refl (starts_token bs)
  where
    go : (t : Bool) → is_white b ≡ t → StartsToken (drop_while is_white bs) → StartsToken (drop_while is_white (b ∷ bs))
    go true e h = subst StartsToken (sym (drop_step is_white b bs true e)) h
    go false e h = subst StartsToken (sym (drop_step is_white b bs false e)) e

from_step : (n all b : ℕ) (rest : Text) (t : Bool) → is_white b ≡ t → tokens_from (suc n) all (b ∷ rest) ≡ cond t (tokens_from n all rest) ((all - length (b ∷ rest), (token_at b rest).0) ∷ tokens_from n all (token_at b rest).1)
unfolding tokens_from
from_step n all b rest t e = ap (λ (t : Bool). cond t (tokens_from n all rest) ((all - length (b ∷ rest), (token_at b rest).0) ∷ tokens_from n all (token_at b rest).1)) e

-- over white space
pub over_white : (n all : ℕ) (s : Text) → length s ≤ n → (m : ℕ) × (length (drop_while is_white s) ≤ m) × (tokens_from n all s ≡ tokens_from m all (drop_while is_white s))
over_white n all [] h = (n, h, refl)
over_white zero all (b ∷ bs) h = absurd (omega arith)
over_white (suc n) all (b ∷ bs) h = go (is_white b) refl (over_white n all bs (omega arith))
  where
    go : (t : Bool) → is_white b ≡ t → (m : ℕ) × (length (drop_while is_white bs) ≤ m) × (tokens_from n all bs ≡ tokens_from m all (drop_while is_white bs))
        → (m : ℕ) × (length (drop_while is_white (b ∷ bs)) ≤ m) × (tokens_from (suc n) all (b ∷ bs) ≡ tokens_from m all (drop_while is_white (b ∷ bs)))
    go true e r = (r.0, subst (λ (z : Text). length z ≤ r.0) (sym (drop_step is_white b bs true e)) r.1, from_step n all b bs true e ∙ r.2 ∙ ap (tokens_from r.0 all) (sym (drop_step is_white b bs true e)))
    go false e r = (suc n, subst (λ (z : Text). length z ≤ suc n) (sym (drop_step is_white b bs false e)) h, ap (tokens_from (suc n) all) (sym (drop_step is_white b bs false e)))

pub drop_while-shorter : (test : ℕ → Bool) (s : Text) → length (drop_while test s) ≤ length s
drop_while-shorter test [] = omega arith
drop_while-shorter test (b ∷ bs) = go (test b) refl (drop_while-shorter test bs)
  where
    go : (t : Bool) → test b ≡ t → length (drop_while test bs) ≤ length bs → length (drop_while test (b ∷ bs)) ≤ length (b ∷ bs)
    go true e h = subst (λ (z : Text). length z ≤ length (b ∷ bs)) (sym (drop_step test b bs true e)) (omega arith)
    go false e h = subst (λ (z : Text). length z ≤ length (b ∷ bs)) (sym (drop_step test b bs false e)) (omega arith)

-- ---- each token takes a byte at least

cond_le : (t : Bool) (x y : Text) (n : ℕ) → length x ≤ n → length y ≤ n → length (cond t x y) ≤ n
cond_le true x y n h g = h
cond_le false x y n h g = g

after_le : (t : Bool) (x y : Lexed) (n : ℕ) → (t ≡ true → length x.1 ≤ n) → (t ≡ false → length y.1 ≤ n) → length (cond t x y).1 ≤ n
after_le true x y n h g = h refl
after_le false x y n h g = g refl

fraction_le : (s : Text) → length (skip_fraction s) ≤ length s
fraction_le [] = omega arith
fraction_le (b ∷ rest) =
    let shorter : length (drop_while is_digit rest) ≤ length rest = drop_while-shorter is_digit rest in
    cond_le ((b == 46) && begins_with_digit rest) (drop_while is_digit rest) (b ∷ rest) (length (b ∷ rest)) (omega arith) (omega arith)

sign_le : (s : Text) → length (skip_sign s) ≤ length s
sign_le [] = omega arith
sign_le (b ∷ rest) = cond_le ((b == 45) || (b == 43)) rest (b ∷ rest) (length (b ∷ rest)) (omega arith) (omega arith)

exponent_le : (s : Text) → length (skip_exponent s) ≤ length s
exponent_le [] = omega arith
exponent_le (b ∷ rest) =
    let shorter : length (drop_while is_digit (skip_sign rest)) ≤ length (skip_sign rest) = drop_while-shorter is_digit (skip_sign rest) in
    let shorter_still : length (skip_sign rest) ≤ length rest = sign_le rest in
    cond_le (((b == 101) || (b == 69)) && begins_with_digit (skip_sign rest)) (drop_while is_digit (skip_sign rest)) (b ∷ rest) (length (b ∷ rest)) (omega arith) (omega arith)

whole_le : (b : ℕ) (rest : Text) → is_digit b ≡ true → length (skip_whole (b ∷ rest)) ≤ length rest
whole_le b rest e = cond_le (b == 48) rest (drop_while is_digit (b ∷ rest)) (length rest) (omega arith) (subst (λ (z : Text). length z ≤ length rest) (sym (drop_step is_digit b rest true e)) (drop_while-shorter is_digit rest))

number_le : (b : ℕ) (rest : Text) → is_digit b ≡ true → length (after_number (b ∷ rest)) ≤ length rest
number_le b rest e =
    let x : length (skip_whole (b ∷ rest)) ≤ length rest = whole_le b rest e in
    let y : length (skip_fraction (skip_whole (b ∷ rest))) ≤ length (skip_whole (b ∷ rest)) = fraction_le (skip_whole (b ∷ rest)) in
    let z : length (skip_exponent (skip_fraction (skip_whole (b ∷ rest)))) ≤ length (skip_fraction (skip_whole (b ∷ rest))) = exponent_le (skip_fraction (skip_whole (b ∷ rest))) in
    omega arith

name_byte : (b : ℕ) → is_name_start b ≡ true → is_name_byte b ≡ true
name_byte b e = rw e

word_le : (b : ℕ) (rest : Text) → is_name_start b ≡ true → length (drop_while is_name_byte (b ∷ rest)) ≤ length rest
word_le b rest e = subst (λ (z : Text). length z ≤ length rest) (sym (drop_step is_name_byte b rest true (name_byte b e))) (drop_while-shorter is_name_byte rest)

escape_le : (x : Option ℕ) (f : ℕ → Lexed) (y : Lexed) (n : ℕ) → ((e : ℕ) → length (f e).1 ≤ n) → length y.1 ≤ n → length (elim x as (λ _. Lexed) [ Some e ↦ f e | None ↦ y ]).1 ≤ n
escape_le (Some e) f y n h g = h e
escape_le None f y n h g = g

more_le : (m n : ℕ) → m ≤ n → m ≤ suc n
more_le m n h = omega arith

mutual
  text_le : (q : ℕ) (content : Option Text) (s : Text) → length (text_at q content s).1 ≤ length s
  text_le q content [] = omega arith
  text_le q content (b ∷ rest) =
      after_le (b == q) (content_token content, rest) _ (length (b ∷ rest)) (λ _. omega arith) (λ _.
      after_le (b == 10) (token.Stray, []) _ (length (b ∷ rest)) (λ _. omega arith) (λ _.
      after_le (b == 92) (escape_at q content rest) (text_at q (with_byte content b) rest) (length (b ∷ rest)) (λ _. more_le _ _ (escapes_le q content rest)) (λ _. more_le _ _ (text_le q (with_byte content b) rest))))

  escapes_le : (q : ℕ) (content : Option Text) (s : Text) → length (escape_at q content s).1 ≤ length s
  escapes_le q content [] = omega arith
  escapes_le q content (b ∷ rest) =
      after_le (b == 10) (token.Stray, []) _ (length (b ∷ rest)) (λ _. omega arith) (λ _.
      escape_le (escape_of b) (λ e. text_at q (with_byte content e) rest) (text_at q None rest) (length (b ∷ rest)) (λ e. more_le _ _ (text_le q (with_byte content e) rest)) (more_le _ _ (text_le q None rest)))

symbol_le : (b : ℕ) (rest : Text) (n : ℕ) (x : Option Symbol) (y : Lexed) → length y.1 ≤ length rest → length (symbol_or (b ∷ rest) (suc n) x y).1 ≤ length rest
symbol_le b rest n None y h = h
symbol_le b rest n (Some x) y h = omega (arith, length-drop n rest)

pub token_le : (b : ℕ) (rest : Text) → length (token_at b rest).1 ≤ length rest
token_le b rest =
    after_le (is_digit b) _ _ (length rest) (λ e. number_le b rest e) (λ _.
    after_le (is_quote b) _ _ (length rest) (λ _. text_le b (Some []) rest) (λ _.
    after_le (is_name_start b) _ (symbol_at b rest) (length rest) (λ e. word_le b rest e) (λ _.
    symbol_le b rest 2 (three_bytes (b ∷ rest)) _ (symbol_le b rest 1 (two_bytes (b ∷ rest)) _ (symbol_le b rest 0 (one_byte b) (token.Stray, []) (omega arith))))))

-- ---- one token

pub over_token : (n all b : ℕ) (s rest new : Text) (t : Token) → s ≡ b ∷ rest → length s ≤ n → StartsToken s → (t, new) ≡ token_at b rest
    → (m : ℕ) × (length new ≤ m) × (tokens_from n all s ≡ (all - length s, t) ∷ tokens_from m all new)
over_token n all b s rest new t e h w k = go n (subst (λ (z : Text). length z ≤ n) e h)
  where
    white : is_white b ≡ false
    white = subst StartsToken e w

    go : (n : ℕ) → length (b ∷ rest) ≤ n → (m : ℕ) × (length new ≤ m) × (tokens_from n all s ≡ (all - length s, t) ∷ tokens_from m all new)
    go zero h = absurd (omega arith)
    go (suc n) h =
        let shorter : length new ≤ length rest = subst (λ (x : Lexed). length x.1 ≤ length rest) (sym k) (token_le b rest) in (
          n,
          omega arith,
          ap (tokens_from (suc n) all) e ∙ from_step n all b rest false white
              ∙ ap (λ (x : Lexed). (all - length (b ∷ rest), x.0) ∷ tokens_from n all x.1) (sym k)
              ∙ ap (λ (z : Text). (all - length z, t) ∷ tokens_from n all new) (sym e),
        )

pub token_shorter : (b : ℕ) (s rest new : Text) (t : Token) → s ≡ b ∷ rest → (t, new) ≡ token_at b rest → length new < length s
token_shorter b s rest new t e k =
    let shorter : length new ≤ length rest = subst (λ (x : Lexed). length x.1 ≤ length rest) (sym k) (token_le b rest) in
    subst (λ (z : Text). length new < length z) (sym e) (omega arith)

-- ---- all tokens

-- these tokens of the text were found, and then these bytes are left
pub record Scanned (text : Text) (items : Toks) (rest : Text) : Type 0 where
  pub so_far : (n : ℕ) × (length rest ≤ n) × (tokens_of text ≡ items ++ tokens_from n (length text) rest)
  pub left : length rest ≤ length text
  pub starts : StartsToken rest

pub scan_first : (text rest : Text) (items : Toks) → items ≡ [] → rest ≡ drop_while is_white text → Scanned text items rest
scan_first text rest items e h =
    subst (λ (items : Toks). Scanned text items rest) (sym e) (subst (λ (rest : Text). Scanned text [] rest) (sym h)
    (record {
      so_far = over_white (length text) (length text) text (omega arith);
      left = drop_while-shorter is_white text;
      starts = starts_token text;
    }))

pub scan_next : (text : Text) (items more : Toks) (b : ℕ) (s mid new : Text) (t : Token) → Scanned text items s → (bs : Text) × (s ≡ b ∷ bs) → ((bs : Text) → s ≡ b ∷ bs → (t, mid) ≡ token_at b bs) → new ≡ drop_while is_white mid → more ≡ items ++ (length text - length s, t) ∷ [] → Scanned text more new
scan_next text items more b s mid new t h first k e m =
    subst (λ (more : Toks). Scanned text more new) (sym m) (subst (λ (new : Text). Scanned text (items ++ (length text - length s, t) ∷ []) new) (sym e) (go (over_token h.so_far.0 (length text) b s first.0 mid t first.1 h.so_far.1 h.starts (k first.0 first.1))))
  where
    go : (m : ℕ) × (length mid ≤ m) × (tokens_from h.so_far.0 (length text) s ≡ (length text - length s, t) ∷ tokens_from m (length text) mid) → Scanned text (items ++ (length text - length s, t) ∷ []) (drop_while is_white mid)
    go r =
        let w : (m : ℕ) × (length (drop_while is_white mid) ≤ m) × (tokens_from r.0 (length text) mid ≡ tokens_from m (length text) (drop_while is_white mid)) = over_white r.0 (length text) mid r.1 in
        let shorter : length mid < length s = token_shorter b s first.0 mid t first.1 (k first.0 first.1) in
        let over : length (drop_while is_white mid) ≤ length mid = drop_while-shorter is_white mid in
        let before : length s ≤ length text = h.left in
        record {
          so_far = (w.0, w.1, h.so_far.2 ∙ ap (λ (z : Toks). items ++ z) (r.2 ∙ ap (λ (z : Toks). (length text - length s, t) ∷ z) w.2) ∙ sym (append_assoc items ((length text - length s, t) ∷ []) (tokens_from w.0 (length text) (drop_while is_white mid))));
          left = omega arith;
          starts = starts_token mid;
        }

pub scan_smaller : (b : ℕ) (s mid new : Text) (t : Token) → (bs : Text) × (s ≡ b ∷ bs) → ((bs : Text) → s ≡ b ∷ bs → (t, mid) ≡ token_at b bs) → new ≡ drop_while is_white mid → length new < length s
scan_smaller b s mid new t first k e =
    let shorter : length mid < length s = token_shorter b s first.0 mid t first.1 (k first.0 first.1) in
    let over : length (drop_while is_white mid) ≤ length mid = drop_while-shorter is_white mid in
    subst (λ (z : Text). length z < length s) (sym e) (omega arith)

from_none : (n all : ℕ) → tokens_from n all [] ≡ []
unfolding tokens_from
from_none zero all = refl
from_none (suc n) all = refl

pub scan_ends : (text : Text) (items : Toks) (rest : Text) → Scanned text items rest → rest ≡ [] → items ≡ tokens_of text
scan_ends text items rest h e = sym (h.so_far.2 ∙ ap (λ (z : Text). items ++ tokens_from h.so_far.0 (length text) z) e ∙ ap (λ (z : Toks). items ++ z) (from_none h.so_far.0 (length text)) ∙ append-nil items)
