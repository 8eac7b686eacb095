-- A text denotes one value.
use Rattle.std.proofs.Common.{ℕ, suc, Some, None, Option, ◌≡◌, ◌+◌, ◌++◌, ◌<◌, ◌≤◌, List, [], ◌∷◌, true, false, IsTrue, refl, ap, ◌∙◌, sym, subst, length, length-append, arith, append_assoc, append-nil, get_or, eqb, ◌⊎◌, inl, inr, ⊎_elim, codes, cond}
use Rattle.std.proofs.lemmas.Bool.{cond-false}
use Rattle.std.proofs.lemmas.Bool.Decides.{nat_tests}
use Rattle.std.proofs.lemmas.Str.{encode_same, char_from_byte, length-encode, len_utf8_bounds}
use Rattle.std.specs.Str.{encode_utf8_all}
use lib.Utf8.{encode}
use Rattle.numerals.specs.Bytes.{is_white, is_digit, NextFails, drop_while}
use Rattle.json_values.specs.Grammar.{White, no_white, white, Chars, no_chars, plain, escape, unicode, short_escape, stands_plain, four_hex, joined, Quoted, quoted, Denotes, is_null, is_true, is_false, is_number, is_string, no_elements, elements, no_members, members, Elements, last_element, element, Members, last_member, member, Padded, padded, Mark, no_mark, mark, JsonText, text}
use Rattle.numerals.specs.Numbers.{Digits, no_digits, digit, SomeDigits, some_digits, Whole, zero_alone, from_one, Fraction, no_fraction, fraction, Exponent, no_exponent, exponent, Number, numeral}
use Rattle.json_values.specs.Lists.{items_list, fields_list, merged}
use Rattle.json_read.specs.Machine.{run, fault, value, after}
use Rattle.numerals.specs.Bytes.{NextIsNot}
use Rattle.json_values.specs.Json.{JsonValue, ItemList, FieldList, number, string, array, object, no_items, item, items_of, no_fields, field, fields_of}
use Rattle.json_read.specs.declared.reader.Fault.TheVariants.{Syntax}
use Rattle.json_read.proofs.Accepts.{denotes_runs, denotes_first, FirstByte, padded_unmarked}
use Rattle.json_read.proofs.AcceptsNumbers.{Ends, white_ends, number_first}
use Rattle.json_read.proofs.Depths.{fault_shorter}
use Rattle.json_read.proofs.Parts.{heads_same}
use Rattle.json_read.proofs.Runs.{stops, white_runs}
use Rattle.json_read.proofs.Whiles.{white_before, drop_while_fails}

-- ## Lists

tails_same : (x y : ℕ) (xs ys : List ℕ) → x ∷ xs ≡ y ∷ ys → xs ≡ ys
tails_same x y xs ys e = cc

-- one of two fronts goes on
abbrev GoesOn : List ℕ → List ℕ → List ℕ → List ℕ → Type 0
GoesOn t r u s = (x : List ℕ) × (u ≡ t ++ x) × (r ≡ x ++ s)

fronts : (t r u s : List ℕ) → t ++ r ≡ u ++ s → GoesOn t r u s ⊎ GoesOn u s t r
fronts [] r u s e = inl (u, refl, e)
fronts (a ∷ t) r [] s e = inr (a ∷ t, refl, sym e)
fronts (a ∷ t) r (b ∷ u) s e =
    let h : a ≡ b = heads_same a b (t ++ r) (u ++ s) e in
    ⊎_elim (λ g. inl (g.0, ap (λ (c : ℕ). c ∷ u) (sym h) ∙ ap (λ (z : List ℕ). a ∷ z) g.1, g.2)) (λ g. inr (g.0, ap (λ (c : ℕ). c ∷ t) h ∙ ap (λ (z : List ℕ). b ∷ z) g.1, g.2)) (fronts t r u s (tails_same a b (t ++ r) (u ++ s) e))

lasts : (xs ys : List ℕ) (x y : ℕ) → xs ++ x ∷ [] ≡ ys ++ y ∷ [] → (xs ≡ ys) × (x ≡ y)
lasts [] [] x y e = (refl, heads_same x y [] [] e)
lasts [] (b ∷ ys) x y e = absurd (let n : length (x ∷ []) ≡ length (b ∷ (ys ++ y ∷ [])) = ap length e in omega (arith, length-append ys (y ∷ [])))
lasts (a ∷ xs) [] x y e = absurd (let n : length (a ∷ (xs ++ x ∷ [])) ≡ length (y ∷ []) = ap length e in omega (arith, length-append xs (x ∷ [])))
lasts (a ∷ xs) (b ∷ ys) x y e =
    let r : (xs ≡ ys) × (x ≡ y) = lasts xs ys x y (tails_same a b (xs ++ x ∷ []) (ys ++ y ∷ []) e) in
    let h : a ≡ b = heads_same a b (xs ++ x ∷ []) (ys ++ y ∷ []) e in
    (ap (λ (c : ℕ). c ∷ xs) h ∙ ap (λ (z : List ℕ). b ∷ z) r.0, r.1)

-- ## White space

white_same : (w u x y : List ℕ) → White w → White u → NextFails is_white x → NextFails is_white y → w ++ x ≡ u ++ y → x ≡ y
white_same w u x y no_white no_white f g e = e
white_same w u x y no_white (white {b = b} {w = v} h i) f g e = absurd (let n : is_white b ≡ false = subst (NextFails is_white) e f in let c : true ≡ false = sym h ∙ n in cc)
white_same w u x y (white {b = b} {w = v} h i) no_white f g e = absurd (let n : is_white b ≡ false = subst (NextFails is_white) (sym e) g in let c : true ≡ false = sym h ∙ n in cc)
white_same w u x y (white {b = a} {w = v} h i) (white {b = b} {w = z} j k) f g e = white_same v z x y i k f g (tails_same a b (v ++ x) (z ++ y) e)

-- ## The last byte of a value is not white

abbrev Solid : List ℕ → Type 0
Solid t = (s : List ℕ) × (b : ℕ) × (t ≡ s ++ b ∷ []) × (is_white b ≡ false)

solid_after : (x t : List ℕ) → Solid t → Solid (x ++ t)
solid_after x t h = (x ++ h.0, h.1, ap (λ (z : List ℕ). x ++ z) h.2 ∙ sym (append_assoc x h.0 (h.1 ∷ [])), h.3)

digits_solid : (b : ℕ) {ds : List ℕ} → is_digit b ≡ true → Digits ds → Solid (b ∷ ds)
digits_solid b i no_digits = ([], b, refl, grind (arith, nat_tests))
digits_solid b i (digit {b = c} {ds = es} j t) = solid_after (b ∷ []) (c ∷ es) (digits_solid c j t)

some_solid : {ds : List ℕ} → SomeDigits ds → Solid ds
some_solid (some_digits {b = b} i t) = digits_solid b i t

whole_solid : {w : List ℕ} → Whole w → Solid w
whole_solid zero_alone = ([], 48, refl, refl)
whole_solid (from_one {b = b} i t) = digits_solid b (grind (arith, nat_tests)) t

fraction_solid : {w f : List ℕ} → Solid w → Fraction f → Solid (w ++ f)
fraction_solid {w} h no_fraction = subst Solid (sym (append-nil w)) h
fraction_solid {w} h (fraction {ds = ds} t) = solid_after w (46 ∷ ds) (solid_after (46 ∷ []) ds (some_solid t))

exponent_solid : {w e : List ℕ} → Solid w → Exponent e → Solid (w ++ e)
exponent_solid {w} h no_exponent = subst Solid (sym (append-nil w)) h
exponent_solid {w} h (exponent {e = e} {s = s} {ds = ds} l g t) = solid_after w (e ∷ (s ++ ds)) (solid_after (e ∷ []) (s ++ ds) (solid_after s ds (some_solid t)))

number_solid : {t : List ℕ} → Number t → Solid t
number_solid (numeral {m = m} {w = w} {f = f} {e = e} hm hw hf he) =
    solid_after m (w ++ (f ++ e)) (subst Solid (append_assoc w f e) (exponent_solid (fraction_solid (whole_solid hw) hf) he))

solid : {d : ℕ} {t : List ℕ} {v : JsonValue} → Denotes d t v → Solid t
solid is_null = (codes "nul", 108, refl, refl)
solid is_true = (codes "tru", 101, refl, refl)
solid is_false = (codes "fals", 101, refl, refl)
solid (is_number h) = number_solid h
solid (is_string (quoted {inner = inner} h)) = (34 ∷ inner, 34, refl, refl)
solid (no_elements {w = w} h) = (91 ∷ w, 93, refl, refl)
solid (elements {t = t} h) = (91 ∷ t, 93, refl, refl)
solid (no_members {w = w} h) = (123 ∷ w, 125, refl, refl)
solid (members {t = t} h e) = (123 ∷ t, 125, refl, refl)

-- ## Where a value ends

white_last : (b : ℕ) {w : List ℕ} → is_white b ≡ true → White w → (s : List ℕ) × (c : ℕ) × (b ∷ w ≡ s ++ c ∷ []) × (is_white c ≡ true)
white_last b i no_white = ([], b, refl, i)
white_last b i (white {b = c} {w = u} j t) =
    let r : (s : List ℕ) × (x : ℕ) × (c ∷ u ≡ s ++ x ∷ []) × (is_white x ≡ true) = white_last c j t in
    (b ∷ r.0, r.1, ap (λ (z : List ℕ). b ∷ z) r.2, r.3)

no_white_end : (t u w : List ℕ) → Solid u → u ≡ t ++ w → White w → w ≡ []
no_white_end t u w s e no_white = refl
no_white_end t u w s e (white {b = b} {w = v} i h) =
    let r : (x : List ℕ) × (c : ℕ) × (b ∷ v ≡ x ++ c ∷ []) × (is_white c ≡ true) = white_last b i h in
    let two : s.0 ++ s.1 ∷ [] ≡ (t ++ r.0) ++ r.1 ∷ [] = sym s.2 ∙ e ∙ ap (λ (z : List ℕ). t ++ z) r.2 ∙ sym (append_assoc t r.0 (r.1 ∷ [])) in
    let same : s.1 ≡ r.1 = (lasts s.0 (t ++ r.0) s.1 r.1 two).1 in
    absurd (let c : true ≡ false = sym r.3 ∙ ap is_white (sym same) ∙ s.3 in cc)

no_more : {d e : ℕ} {t u : List ℕ} {v w : JsonValue} (r s x : List ℕ) → Denotes d t v → Denotes e u w → Ends r → Ends s → u ≡ t ++ x → r ≡ x ++ s → x ≡ []
no_more {d} {e} {t} {u} r s x h g end_r end_s is rest =
    let n : ℕ = d + e in
    let ends : run n after [] (x ++ s) ≡ run n after [] s =
    ap (run n after []) (sym rest) ∙ sym (denotes_runs h n [] r (omega arith) end_r) ∙ ap (run n value []) (ap (λ (z : List ℕ). t ++ z) rest ∙ sym (append_assoc t x s) ∙ ap (λ (z : List ℕ). z ++ s) (sym is)) ∙ denotes_runs g n [] s (omega arith) end_s in
    let w : (w : List ℕ) × White w × (x ≡ w ++ drop_while is_white x) = white_before x in
    go n w.0 (drop_while is_white x) w.1 w.2 (drop_while_fails is_white x) ends
  where
    go : (n : ℕ) (w y : List ℕ) → White w → x ≡ w ++ y → NextFails is_white y → run n after [] (x ++ s) ≡ run n after [] s → x ≡ []
    go n w [] a q f e = (let only : x ≡ w = q ∙ append-nil w in only ∙ no_white_end t u w (solid g) (is ∙ ap (λ (z : List ℕ). t ++ z) only) a)
    go n w (b ∷ y) a q f e =
        (let stop : run n after [] s ≡ fault Syntax (b ∷ (y ++ s)) = sym e ∙ ap (λ (z : List ℕ). run n after [] (z ++ s)) q ∙ ap (run n after []) (append_assoc w (b ∷ y) s) ∙ white_runs n after [] (b ∷ (y ++ s)) refl a ∙ stops n after [] b (y ++ s) (cond-false (is_white b) _ _ f) in
        let short : length (b ∷ (y ++ s)) ≤ length s = fault_shorter n after [] s (b ∷ (y ++ s)) Syntax stop in
        absurd (omega (arith, length-append y s)))

same_text : {d e : ℕ} {t u : List ℕ} {v w : JsonValue} (r s : List ℕ) → Denotes d t v → Denotes e u w → Ends r → Ends s → t ++ r ≡ u ++ s → (t ≡ u) × (r ≡ s)
same_text {t = t} {u = u} r s h g a b e =
    ⊎_elim (λ o. let n : o.0 ≡ [] = no_more r s o.0 h g a b o.1 o.2 in (sym (o.1 ∙ ap (λ (z : List ℕ). t ++ z) n ∙ append-nil t), o.2 ∙ ap (λ (z : List ℕ). z ++ s) n)) (λ o. let n : o.0 ≡ [] = no_more s r o.0 g h b a o.1 o.2 in (o.1 ∙ ap (λ (z : List ℕ). u ++ z) n ∙ append-nil u, sym (o.2 ∙ ap (λ (z : List ℕ). z ++ r) n))) (fronts t r u s e)

-- ## Strings

encode_first : (c : ℕ) (front rest : List ℕ) (b : ℕ) → b < 128 → encode c ++ front ≡ b ∷ rest → c ≡ b
encode_first c front rest b l e =
    let h : get_or (b ∷ rest) 0 0 < 128 = l in
    char_from_byte (b ∷ rest) front c (sym e) h (omega arith)

plain_not_backslash : (c : ℕ) (front rest : List ℕ) → IsTrue (stands_plain c) → encode c ++ front ≡ 92 ∷ rest → ⊥
plain_not_backslash c front rest p e =
    let is : c ≡ 92 = encode_first c front rest 92 (omega arith) e in
    (let n : stands_plain 92 ≡ true = subst (λ (x : ℕ). stands_plain x ≡ true) is p in let f : stands_plain 92 ≡ false = refl in cc)

encode_not_nil : (c : ℕ) (front : List ℕ) → encode c ++ front ≡ [] → ⊥
encode_not_nil c front e = omega (arith, ap length e, length-append (encode c) front, length-encode c, len_utf8_bounds c)

escape_not_unicode : (x c : ℕ) → x ≡ 117 → short_escape x ≡ Some c → ⊥
escape_not_unicode x c e s = (let n : None ≡ Some c = subst (λ (y : ℕ). short_escape y ≡ Some c) e s in cc)

some_same : (a b : ℕ) (o : Option ℕ) → o ≡ Some a → o ≡ Some b → a ≡ b
some_same a b o e f = (let s : Some a ≡ Some b = sym e ∙ f in cc)

chars_same : {text us : List ℕ} → Chars text us → (other vs : List ℕ) → Chars other vs → text ≡ other → us ≡ vs
chars_same no_chars other vs no_chars e = refl
chars_same no_chars other vs (plain {c = c} {text = t} s p h) e = absurd (encode_not_nil c t (sym e))
chars_same no_chars other vs (escape s h) e = cc
chars_same no_chars other vs (unicode a b c d h) e = cc
chars_same (plain {c = c} {text = t} s p h) other vs no_chars e = absurd (encode_not_nil c t e)
chars_same (plain {c = c} {text = t} {us = us} s p h) other vs (plain {c = x} {text = u} {us = ws} q r g) e =
    let both : (c ≡ x) × (t ≡ u) = encode_same c x t u e in
    ap (λ (y : ℕ). y ∷ us) both.0 ∙ ap (λ (z : List ℕ). x ∷ z) (chars_same h u ws g both.1)
chars_same (plain {c = c} {text = t} s p h) other vs (escape {e = x} {text = u} q g) e = absurd (plain_not_backslash c t (x ∷ u) p e)
chars_same (plain {c = c} {text = t} s p h) other vs (unicode {a = a} {b = b} {c = x} {d = d} {text = u} ha hb hc hd g) e = absurd (plain_not_backslash c t (117 ∷ a ∷ b ∷ x ∷ d ∷ u) p e)
chars_same (escape s h) other vs no_chars e = cc
chars_same (escape {e = x} {text = u} q g) other vs (plain {c = c} {text = t} s p h) e = absurd (plain_not_backslash c t (x ∷ u) p (sym e))
chars_same (escape {e = a} {c = c} {text = t} {us = us} s h) other vs (escape {e = b} {c = x} {text = u} {us = ws} q g) e =
    let one : a ∷ t ≡ b ∷ u = tails_same 92 92 (a ∷ t) (b ∷ u) e in
    let first : a ≡ b = heads_same a b t u one in
    let c_is : c ≡ x = some_same c x (short_escape b) (subst (λ (y : ℕ). short_escape y ≡ Some c) first s) q in
    ap (λ (y : ℕ). y ∷ us) c_is ∙ ap (λ (z : List ℕ). x ∷ z) (chars_same h u ws g (tails_same a b t u one))
chars_same (escape {e = a} {c = c} {text = t} s h) other vs (unicode {a = a1} {b = b1} {c = c1} {d = d1} {text = u} ha hb hc hd g) e =
    absurd (escape_not_unicode a c (heads_same a 117 t (a1 ∷ b1 ∷ c1 ∷ d1 ∷ u) (tails_same 92 92 (a ∷ t) (117 ∷ a1 ∷ b1 ∷ c1 ∷ d1 ∷ u) e)) s)
chars_same (unicode a b c d h) other vs no_chars e = cc
chars_same (unicode {a = a} {b = b} {c = x} {d = d} {text = u} ha hb hc hd g) other vs (plain {c = c} {text = t} s p h) e = absurd (plain_not_backslash c t (117 ∷ a ∷ b ∷ x ∷ d ∷ u) p (sym e))
chars_same (unicode {a = a1} {b = b1} {c = c1} {d = d1} {text = u} ha hb hc hd g) other vs (escape {e = a} {c = c} {text = t} s h) e =
    absurd (escape_not_unicode a c (sym (heads_same 117 a (a1 ∷ b1 ∷ c1 ∷ d1 ∷ u) t (tails_same 92 92 (117 ∷ a1 ∷ b1 ∷ c1 ∷ d1 ∷ u) (a ∷ t) e))) s)
chars_same (unicode {a = a} {b = b} {c = c} {d = d} {text = t} {us = us} ha hb hc hd h) other vs (unicode {a = i} {b = j} {c = k} {d = l} {text = u} {us = ws} hi hj hk hl g) e =
    let e1 : 117 ∷ a ∷ b ∷ c ∷ d ∷ t ≡ 117 ∷ i ∷ j ∷ k ∷ l ∷ u = tails_same 92 92 _ _ e in
    let e2 : a ∷ b ∷ c ∷ d ∷ t ≡ i ∷ j ∷ k ∷ l ∷ u = tails_same 117 117 _ _ e1 in
    let e3 : b ∷ c ∷ d ∷ t ≡ j ∷ k ∷ l ∷ u = tails_same a i _ _ e2 in
    let e4 : c ∷ d ∷ t ≡ k ∷ l ∷ u = tails_same b j _ _ e3 in
    let e5 : d ∷ t ≡ l ∷ u = tails_same c k _ _ e4 in
    let all : us ≡ ws = chars_same h u ws g (tails_same d l t u e5) in
    let first : four_hex a b c d ≡ four_hex i j k l = rw (heads_same a i _ _ e2, heads_same b j _ _ e3, heads_same c k _ _ e4, heads_same d l t u e5) in
    ap (λ (y : ℕ). y ∷ us) first ∙ ap (λ (z : List ℕ). four_hex i j k l ∷ z) all

quoted_same : {t bytes u other : List ℕ} → Quoted t bytes → Quoted u other → t ≡ u → bytes ≡ other
quoted_same (quoted {inner = i} h) (quoted {inner = j} g) e =
    let inner : i ≡ j = (lasts i j 34 34 (tails_same 34 34 (i ++ 34 ∷ []) (j ++ 34 ∷ []) e)).0 in
    let us : h.0 ≡ g.0 = chars_same h.1 j g.0 g.1 inner in
    h.2 ∙ ap (λ (z : List ℕ). encode_utf8_all (joined None z)) us ∙ sym g.2

-- ## Values

-- what a value is, by its first byte
abbrev kind : {d : ℕ} {t : List ℕ} {v : JsonValue} → Denotes d t v → ℕ
kind is_null = 0
kind is_true = 1
kind is_false = 2
kind (is_number h) = 3
kind (is_string h) = 4
kind (no_elements h) = 5
kind (elements h) = 5
kind (no_members h) = 6
kind (members h e) = 6

abbrev kind_of_byte : ℕ → ℕ
kind_of_byte b = cond (eqb b 110) 0 (cond (eqb b 116) 1 (cond (eqb b 102) 2 (cond (eqb b 34) 4 (cond (eqb b 91) 5 (cond (eqb b 123) 6 3)))))

number_kind : (b : ℕ) → (b ≡ 45) ⊎ (is_digit b ≡ true) → kind_of_byte b ≡ 3
number_kind b (inl e) = subst (λ (x : ℕ). kind_of_byte x ≡ 3) (sym e) refl
number_kind b (inr e) = grind (arith, nat_tests)

abbrev first_byte : List ℕ → ℕ
first_byte t = get_or t 0 0

kind_is : {d : ℕ} {t : List ℕ} {v : JsonValue} (h : Denotes d t v) → kind h ≡ kind_of_byte (first_byte t)
kind_is is_null = refl
kind_is is_true = refl
kind_is is_false = refl
kind_is (is_number {t = t} n) = let f : (b : ℕ) × (bs : List ℕ) × (t ≡ b ∷ bs) × ((b ≡ 45) ⊎ (is_digit b ≡ true)) = number_first n in sym (ap (λ (z : List ℕ). kind_of_byte (first_byte z)) f.2 ∙ number_kind f.0 f.3)
kind_is (is_string (quoted h)) = refl
kind_is (no_elements h) = refl
kind_is (elements h) = refl
kind_is (no_members h) = refl
kind_is (members h e) = refl

pub kinds_same : {d e : ℕ} {t u : List ℕ} {v w : JsonValue} (h : Denotes d t v) (g : Denotes e u w) → t ≡ u → kind h ≡ kind g
kinds_same h g e = kind_is h ∙ ap (λ (z : List ℕ). kind_of_byte (first_byte z)) e ∙ sym (kind_is g)

items_back : (js : ItemList) → items_of (items_list js) ≡ js
items_back no_items = refl
items_back (item v js) = ap (λ (is : ItemList). item v is) (items_back js)

items_inj : (js is : ItemList) → items_list js ≡ items_list is → js ≡ is
items_inj js is e = sym (items_back js) ∙ ap items_of e ∙ items_back is

fields_back : (fs : FieldList) → fields_of (fields_list fs) ≡ fs
fields_back no_fields = refl
fields_back (field name v fs) = ap (λ (gs : FieldList). field name v gs) (fields_back fs)

fields_inj : (fs gs : FieldList) → fields_list fs ≡ fields_list gs → fs ≡ gs
fields_inj fs gs e = sym (fields_back fs) ∙ ap fields_of e ∙ fields_back gs

-- a value begins with no white space
solid_first : {d : ℕ} {t : List ℕ} {v : JsonValue} (z : List ℕ) → Denotes d t v → NextFails is_white (t ++ z)
unfolding FirstByte
solid_first z h = let f : FirstByte _ = denotes_first h in subst (NextFails is_white) (sym (ap (λ (y : List ℕ). y ++ z) f.2)) f.3

quoted_first : {n name : List ℕ} (z : List ℕ) → Quoted n name → NextFails is_white (n ++ z)
quoted_first z (quoted h) = refl

not_empty : {d : ℕ} {t : List ℕ} {v : JsonValue} (z : List ℕ) → Denotes d t v → [] ≡ t ++ z → ⊥
unfolding FirstByte
not_empty z h e = let f : FirstByte _ = denotes_first h in (let n : length (f.0 ∷ (f.1 ++ z)) ≡ 0 = sym (ap length (e ∙ ap (λ (y : List ℕ). y ++ z) f.2)) in omega arith)

-- white space is no element and no member
no_white_padded : {d : ℕ} {t : List ℕ} {v : JsonValue} (w z : List ℕ) → White w → Padded d t v → w ≡ t ++ z → ⊥
no_white_padded w z a (padded {w = u} {t = t} {w' = x} b h c) e =
    not_empty (x ++ z) h (white_same w u [] (t ++ (x ++ z)) a b tt (solid_first (x ++ z) h) (append-nil w ∙ e ∙ append_assoc u (t ++ x) z ∙ ap (λ (y : List ℕ). u ++ y) (append_assoc t x z)))

no_white_elements : {d : ℕ} {t : List ℕ} {vs : List JsonValue} (w : List ℕ) → White w → Elements d t vs → w ≡ t → ⊥
no_white_elements w a (last_element {t = t} p) e = no_white_padded w [] a p (e ∙ sym (append-nil t))
no_white_elements w a (element {rest = rest} p es) e = no_white_padded w (44 ∷ rest) a p e

no_white_name : (w u n name z : List ℕ) → White w → White u → Quoted n name → w ≡ u ++ (n ++ z) → ⊥
no_white_name w u n name z a b q e = go q (white_same w u [] (n ++ z) a b tt (quoted_first z q) (append-nil w ∙ e))
  where
    go : {m : List ℕ} → Quoted m name → [] ≡ m ++ z → ⊥
    go (quoted {inner = i} h) f = (let n : 0 ≡ length (34 ∷ ((i ++ 34 ∷ []) ++ z)) = ap length f in omega arith)

no_white_members : {d : ℕ} {t : List ℕ} {ms : List (List ℕ × JsonValue)} (w : List ℕ) → White w → Members d t ms → w ≡ t → ⊥
no_white_members w a (last_member {w = u} {n = n} {w' = x} {t = t} {name = name} b q c p) e = no_white_name w u n name (x ++ (58 ∷ t)) a b q e
no_white_members w a (member {w = u} {n = n} {w' = x} {t = t} {name = name} {rest = rest} b q c p ms) e = no_white_name w u n name (x ++ (58 ∷ (t ++ (44 ∷ rest)))) a b q e

-- two members begin with one name
heads : {n name m other : List ℕ} (w w' u u' y z : List ℕ) → White w → Quoted n name → White w' → White u → Quoted m other → White u' → w ++ (n ++ (w' ++ (58 ∷ y))) ≡ u ++ (m ++ (u' ++ (58 ∷ z))) → (name ≡ other) × (y ≡ z)
heads {n} {name} {m} {other} w w' u u' y z a q b c p d e =
    let one : n ++ (w' ++ (58 ∷ y)) ≡ m ++ (u' ++ (58 ∷ z)) = white_same w u (n ++ (w' ++ (58 ∷ y))) (m ++ (u' ++ (58 ∷ z))) a c (quoted_first (w' ++ (58 ∷ y)) q) (quoted_first (u' ++ (58 ∷ z)) p) e in
    let two : (n ≡ m) × (w' ++ (58 ∷ y) ≡ u' ++ (58 ∷ z)) = same_text (w' ++ (58 ∷ y)) (u' ++ (58 ∷ z)) (is_string {d = 0} q) (is_string {d = 0} p) (white_ends (58 ∷ y) b refl) (white_ends (58 ∷ z) d refl) one in
    (quoted_same q p two.0, tails_same 58 58 y z (white_same w' u' (58 ∷ y) (58 ∷ z) b d refl refl two.1))

brackets : (o c : ℕ) (t u : List ℕ) → o ∷ (t ++ c ∷ []) ≡ o ∷ (u ++ c ∷ []) → t ≡ u
brackets o c t u e = (lasts t u c c (tails_same o o (t ++ c ∷ []) (u ++ c ∷ []) e)).0

mutual
  value_same : {d : ℕ} {t : List ℕ} {v : JsonValue} → Denotes d t v → (e : ℕ) (u : List ℕ) (w : JsonValue) → Denotes e u w → t ≡ u → v ≡ w
  value_same is_null e u w is_null q = refl
  value_same is_null e u w g q = absurd (let k : 0 ≡ kind g = kinds_same (is_null {d = 0}) g q in omega arith)
  value_same is_true e u w is_true q = refl
  value_same is_true e u w g q = absurd (let k : 1 ≡ kind g = kinds_same (is_true {d = 0}) g q in omega arith)
  value_same is_false e u w is_false q = refl
  value_same is_false e u w g q = absurd (let k : 2 ≡ kind g = kinds_same (is_false {d = 0}) g q in omega arith)
  value_same (is_number h) e u w (is_number i) q = ap number q
  value_same (is_number h) e u w g q = absurd (let k : 3 ≡ kind g = kinds_same (is_number {d = 0} h) g q in omega arith)
  value_same (is_string h) e u w (is_string i) q = ap string (quoted_same h i q)
  value_same (is_string h) e u w g q = absurd (let k : 4 ≡ kind g = kinds_same (is_string {d = 0} h) g q in omega arith)
  value_same (no_elements h) e u w (no_elements i) q = refl
  value_same (no_elements {w = x} h) e u w (elements {t = t} i) q = absurd (no_white_elements x h i (brackets 91 93 x t q))
  value_same (no_elements h) e u w g q = absurd (let k : 5 ≡ kind g = kinds_same (no_elements {d = 0} h) g q in omega arith)
  value_same (elements {t = t} i) e u w (no_elements {w = x} h) q = absurd (no_white_elements x h i (sym (brackets 91 93 t x q)))
  value_same (elements {t = t} {js = js} i) e u w (elements {d = f} {t = x} {js = ks} j) q = ap array (items_inj js ks (elements_same i f x (items_list ks) j (brackets 91 93 t x q)))
  value_same (elements h) e u w g q = absurd (let k : 5 ≡ kind g = kinds_same (elements h) g q in omega arith)
  value_same (no_members h) e u w (no_members i) q = refl
  value_same (no_members {w = x} h) e u w (members {t = t} i m) q = absurd (no_white_members x h i (brackets 123 125 x t q))
  value_same (no_members h) e u w g q = absurd (let k : 6 ≡ kind g = kinds_same (no_members {d = 0} h) g q in omega arith)
  value_same (members {t = t} i m) e u w (no_members {w = x} h) q = absurd (no_white_members x h i (sym (brackets 123 125 t x q)))
  value_same (members {t = t} {ms = ms} {fs = fs} i m) e u w (members {d = f} {t = x} {ms = ns} {fs = gs} j n) q =
      ap object (fields_inj fs gs (m ∙ ap (merged []) (members_same i f x ns j (brackets 123 125 t x q)) ∙ sym n))
  value_same (members h m) e u w g q = absurd (let k : 6 ≡ kind g = kinds_same (members h m) g q in omega arith)

  elements_same : {d : ℕ} {t : List ℕ} {vs : List JsonValue} → Elements d t vs → (e : ℕ) (u : List ℕ) (ws : List JsonValue) → Elements e u ws → t ≡ u → vs ≡ ws
  elements_same (last_element {t = t} p) e u ws (last_element {v = w} q) s =
      ap (λ (x : JsonValue). x ∷ []) (padded_same p e u w q [] [] tt tt tt tt (ap (λ (z : List ℕ). z ++ []) s)).0
  elements_same (last_element {t = t} p) e u ws (element {t = y} {rest = rest} {v = w} q es) s =
      absurd (let n : [] ≡ 44 ∷ rest = (padded_same p e y w q [] (44 ∷ rest) tt refl tt refl (append-nil t ∙ s)).1 in let l : 0 ≡ suc (length rest) = ap length n in omega arith)
  elements_same (element {t = t} {rest = rest} p es) e u ws (last_element {t = y} {v = w} q) s =
      absurd (let n : 44 ∷ rest ≡ [] = (padded_same p e y w q (44 ∷ rest) [] refl tt refl tt (s ∙ sym (append-nil y))).1 in let l : suc (length rest) ≡ 0 = ap length n in omega arith)
  elements_same (element {t = t} {rest = rest} {vs = vs} p es) e u ws (element {t = y} {rest = more} {v = w} {vs = xs} q fs) s =
      let b : _ × (44 ∷ rest ≡ 44 ∷ more) = padded_same p e y w q (44 ∷ rest) (44 ∷ more) refl refl refl refl s in
      ap (λ (x : JsonValue). x ∷ vs) b.0 ∙ ap (λ (z : List JsonValue). w ∷ z) (elements_same es e more xs fs (tails_same 44 44 rest more b.1))

  members_same : {d : ℕ} {t : List ℕ} {ms : List (List ℕ × JsonValue)} → Members d t ms → (e : ℕ) (u : List ℕ) (ns : List (List ℕ × JsonValue)) → Members e u ns → t ≡ u → ms ≡ ns
  members_same (last_member {w = w} {w' = w'} {t = t} {name = name} {v = v} a q b p) e u ns (last_member {w = x} {w' = x'} {t = y} {name = other} {v = z} c r d s) h =
      let one : (name ≡ other) × (t ≡ y) = heads w w' x x' t y a q b c r d h in
      ap (λ (m : List ℕ). (m, v) ∷ []) one.0 ∙ ap (λ (k : JsonValue). (other, k) ∷ []) (padded_same p e y z s [] [] tt tt tt tt (ap (λ (k : List ℕ). k ++ []) one.1)).0
  members_same (last_member {w = w} {w' = w'} {t = t} {name = name} {v = v} a q b p) e u ns (member {w = x} {w' = x'} {t = y} {name = other} {rest = rest} {v = z} c r d s more) h =
      let one : (name ≡ other) × (t ≡ y ++ (44 ∷ rest)) = heads w w' x x' t (y ++ (44 ∷ rest)) a q b c r d h in
      absurd (let n : [] ≡ 44 ∷ rest = (padded_same p e y z s [] (44 ∷ rest) tt refl tt refl (append-nil t ∙ one.1)).1 in let l : 0 ≡ suc (length rest) = ap length n in omega arith)
  members_same (member {w = w} {w' = w'} {t = t} {name = name} {rest = rest} {v = v} a q b p more) e u ns (last_member {w = x} {w' = x'} {t = y} {name = other} {v = z} c r d s) h =
      let one : (name ≡ other) × (t ++ (44 ∷ rest) ≡ y) = heads w w' x x' (t ++ (44 ∷ rest)) y a q b c r d h in
      absurd (let n : 44 ∷ rest ≡ [] = (padded_same p e y z s (44 ∷ rest) [] refl tt refl tt (one.1 ∙ sym (append-nil y))).1 in let l : suc (length rest) ≡ 0 = ap length n in omega arith)
  members_same (member {w = w} {w' = w'} {t = t} {name = name} {rest = rest} {v = v} {ms = ms} a q b p more) e u ns (member {w = x} {w' = x'} {t = y} {name = other} {rest = later} {v = z} {ms = ks} c r d s on) h =
      let one : (name ≡ other) × (t ++ (44 ∷ rest) ≡ y ++ (44 ∷ later)) = heads w w' x x' (t ++ (44 ∷ rest)) (y ++ (44 ∷ later)) a q b c r d h in
      let two : (v ≡ z) × (44 ∷ rest ≡ 44 ∷ later) = padded_same p e y z s (44 ∷ rest) (44 ∷ later) refl refl refl refl one.1 in
      ap (λ (m : List ℕ). (m, v) ∷ ms) one.0 ∙ ap (λ (k : JsonValue). (other, k) ∷ ms) two.0 ∙ ap (λ (k : List (List ℕ × JsonValue)). (other, z) ∷ k) (members_same more e later ks on (tails_same 44 44 rest later two.1))

  padded_same : {d : ℕ} {t : List ℕ} {v : JsonValue} → Padded d t v → (e : ℕ) (u : List ℕ) (w : JsonValue) → Padded e u w → (r s : List ℕ) → Ends r → Ends s → NextFails is_white r → NextFails is_white s → t ++ r ≡ u ++ s → (v ≡ w) × (r ≡ s)
  padded_same (padded {w = x} {t = t} {w' = x'} a h b) e u w (padded {w = y} {t = k} {w' = y'} c g i) r s end_r end_s nr ns q =
      let one : t ++ (x' ++ r) ≡ k ++ (y' ++ s) =
      white_same x y (t ++ (x' ++ r)) (k ++ (y' ++ s)) a c (solid_first (x' ++ r) h) (solid_first (y' ++ s) g) (sym (append_assoc x (t ++ x') r ∙ ap (λ (z : List ℕ). x ++ z) (append_assoc t x' r)) ∙ q ∙ append_assoc y (k ++ y') s ∙ ap (λ (z : List ℕ). y ++ z) (append_assoc k y' s)) in
      let two : (t ≡ k) × (x' ++ r ≡ y' ++ s) = same_text (x' ++ r) (y' ++ s) h g (white_ends r b end_r) (white_ends s i end_s) one in
      (value_same h e k w g two.0, white_same x' y' r s b i nr ns two.1)

marks_same : (m n p q : List ℕ) → Mark m → Mark n → NextIsNot 0xEF p → NextIsNot 0xEF q → m ++ p ≡ n ++ q → p ≡ q
marks_same m n p q no_mark no_mark a b e = e
marks_same m n p q no_mark mark a b e = absurd (a (0xBB ∷ 0xBF ∷ q) e)
marks_same m n p q mark no_mark a b e = absurd (b (0xBB ∷ 0xBF ∷ p) (sym e))
marks_same m n p q mark mark a b e = tails_same 0xBF 0xBF p q (tails_same 0xBB 0xBB (0xBF ∷ p) (0xBF ∷ q) (tails_same 0xEF 0xEF (0xBB ∷ 0xBF ∷ p) (0xBB ∷ 0xBF ∷ q) e))

texts_same : (d : ℕ) (t u : List ℕ) (v w : JsonValue) → JsonText d t v → JsonText d u w → t ≡ u → v ≡ w
texts_same d t u v w (text {m = m} {t = p} a h) (text {m = n} {t = q} b g) e =
    let s : p ≡ q = marks_same m n p q a b (padded_unmarked h) (padded_unmarked g) e in
    (padded_same h d q w g [] [] tt tt tt tt (ap (λ (z : List ℕ). z ++ []) s)).0

pub text_one : (d : ℕ) (t : List ℕ) (v w : JsonValue) → JsonText d t v → JsonText d t w → v ≡ w
text_one d t v w h g = texts_same d t t v w h g refl
