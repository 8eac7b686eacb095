-- A string of ASCII without escapes, read at once.
use Rattle.std.proofs.Common.{ℕ, zero, ◌≡◌, ◌+◌, ◌++◌, ◌<◌, ◌&&◌, List, [], ◌∷◌, Bool, true, false, None, Some, cond, refl, ap, ◌∙◌, sym, subst, take, drop, take-append-drop, arith, append_assoc, suc}
use Rattle.std.specs.List.{prefix_len, list_all}
use Rattle.std.specs.Str.{IsUtf8, IsAscii, encode_utf8_all}
use Rattle.std.proofs.lemmas.Bool.Decides.{nat_tests}
use Rattle.std.proofs.lemmas.Bool.{and_parts}
use Rattle.std.proofs.lemmas.Str.{IsUtf8-from_ascii, encodes-IsAscii}
use Rattle.json_values.specs.Grammar.{Chars, no_chars, stands_plain, is_high, mended, joined}
use Rattle.json_read.specs.Machine.{Role, in_string, closed, run}
use Rattle.json_read.specs.Reading.{Passes, ClosesAs}
use Rattle.json_read.specs.AsciiStrings.{AllAlone, ClosesAsAscii, stands_alone}
use Rattle.json_read.proofs.Characters.{stands_ascii}
use Rattle.json_read.proofs.AcceptsStrings.{chars_run}
use Rattle.json_read.proofs.Runs.{moves}

-- ## Such bytes

below : (b : ℕ) → stands_alone b ≡ true → b < 128
below b h = grind (arith, nat_tests)

first_alone : (b : ℕ) (bs : List ℕ) → AllAlone (b ∷ bs) → (stands_alone b ≡ true) × AllAlone bs
first_alone b bs h = and_parts (stands_alone b) (list_all stands_alone bs) h

alone_ascii : (bs : List ℕ) → AllAlone bs → IsAscii bs
alone_ascii [] h i = omega arith
alone_ascii (b ∷ bs) h zero = below b (first_alone b bs h).0
alone_ascii (b ∷ bs) h (suc i) = alone_ascii bs (first_alone b bs h).1 i

pub alone_utf8 : (bs : List ℕ) → AllAlone bs → IsUtf8 bs
alone_utf8 bs h = IsUtf8-from_ascii bs (alone_ascii bs h)

pub front_alone : (xs : List ℕ) → AllAlone (take (prefix_len stands_alone xs) xs)
front_alone [] = refl
front_alone (b ∷ bs) = go (stands_alone b) refl (front_alone bs)
  where
    go : (t : Bool) → stands_alone b ≡ t → AllAlone (take (prefix_len stands_alone bs) bs) → AllAlone (take (cond (stands_alone b) (1 + prefix_len stands_alone bs) 0) (b ∷ bs))
    go true e h =
        let k : ℕ = prefix_len stands_alone bs in
        let one_more : 1 + k ≡ suc k = omega arith in
        subst (λ (n : ℕ). AllAlone (take n (b ∷ bs))) (sym (ap (λ (t : Bool). cond t (1 + k) 0) e ∙ one_more)) (ap (λ (t : Bool). t && list_all stands_alone (take k bs)) e ∙ h)
    go false e h = subst (λ (n : ℕ). AllAlone (take n (b ∷ bs))) (sym (ap (λ (t : Bool). cond t (1 + prefix_len stands_alone bs) 0) e)) refl

-- ## What they are in a string

alone_chars : (bs : List ℕ) → AllAlone bs → Chars bs bs
alone_chars [] h = no_chars
alone_chars (b ∷ bs) h =
    let f : (stands_alone b ≡ true) × AllAlone bs = first_alone b bs h in
    (stands_ascii b (below b f.0) (and_parts (stands_plain b) _ f.0).0).1 bs bs (alone_chars bs f.1)

no_half : (b : ℕ) → stands_alone b ≡ true → is_high b ≡ false
no_half b h = grind (arith, nat_tests)

not_mended : (b : ℕ) → stands_alone b ≡ true → mended b ≡ b
not_mended b h = grind (arith, nat_tests)

alone_joined : (bs : List ℕ) → AllAlone bs → joined None bs ≡ bs
alone_joined [] h = refl
alone_joined (b ∷ bs) h =
    let f : (stands_alone b ≡ true) × AllAlone bs = first_alone b bs h in
    ap (λ (t : Bool). (elim t as (λ _. List ℕ) [ true ↦ joined (Some b) bs | false ↦ mended b ∷ joined None bs ])) (no_half b f.0)
    ∙ ap (λ (c : ℕ). c ∷ joined None bs) (not_mended b f.0) ∙ ap (λ (l : List ℕ). b ∷ l) (alone_joined bs f.1)

pub ascii_passes : (r : Role) (text old new : List ℕ) → ClosesAsAscii text old new → Passes (ClosesAs text) (in_string r) (closed r) old new
ascii_passes r text old new h =
    let chars : Chars text text = alone_chars text h.1 in
    record {
      reads = (text ++ 34 ∷ [], h.0 ∙ sym (append_assoc text (34 ∷ []) new), (text, refl, (text, chars, sym (ap encode_utf8_all (alone_joined text h.1) ∙ encodes-IsAscii text (alone_ascii text h.1)))));
      runs = λ d k. ap (run d (in_string r) k) h.0 ∙ chars_run r (34 ∷ new) chars d k ∙ moves d (in_string r) k 34 new (closed r) k refl;
    }

-- the front of the bytes and the quote after it
pub front_closes : (n : ℕ) (old front rest new text : List ℕ) → n ≡ prefix_len stands_alone old → front ≡ take n old → rest ≡ drop n old → rest ≡ 34 ∷ new → text ≡ front → ClosesAsAscii text old new
front_closes n old front rest new text c f r q t =
    let is : text ≡ take n old = t ∙ f in
    (sym (take-append-drop n old) ∙ ap (λ (l : List ℕ). l ++ drop n old) (sym is) ∙ ap (λ (l : List ℕ). text ++ l) (sym r ∙ q), subst AllAlone (sym (is ∙ ap (λ (k : ℕ). take k old) c)) (front_alone old))

pub alone_at : (n : ℕ) (old front : List ℕ) → n ≡ prefix_len stands_alone old → front ≡ take n old → AllAlone front
alone_at n old front c f = subst AllAlone (sym (f ∙ ap (λ (k : ℕ). take k old) c)) (front_alone old)

pub ascii_part : (r : Role) (text copy old new : List ℕ) → copy ≡ text → ClosesAsAscii text old new → Passes (ClosesAs copy) (in_string r) (closed r) old new
ascii_part r text copy old new e h = subst (λ (t : List ℕ). Passes (ClosesAs t) (in_string r) (closed r) old new) (sym e) (ascii_passes r text old new h)
