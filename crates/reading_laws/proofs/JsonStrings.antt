-- Strings, one byte more.
use Rattle.std.proofs.Common.{ℕ, zero, suc, ◌*◌, append_assoc, ◌≡◌, ◌+◌, ◌-◌, ◌++◌, ◌<◌, ◌≤◌, List, [], ◌∷◌, false, Option, Some, None, IsTrue, refl, ap, ◌∙◌, sym, subst, arith, ⊎_elim, eqb, ltb, leb}
use Rattle.std.proofs.lemmas.Bool.{cases_lt, ltb-true, ltb-false, lt-ltb, le-ltb, le-leb, cond-true, cond-false, and_from}
use Rattle.numerals.specs.Bytes.{is_hex}
use Rattle.json_values.specs.Grammar.{Chars, no_chars, escape, unicode, short_escape, stands_plain, four_hex}
use Rattle.json_read.specs.Machine.{Open, Role, is_value, is_name, closed, string_step, leads, leads_by, second_bounds, further_bytes, hex_follows, follows, escape_step, step, in_escape, in_hex, in_character}
use Rattle.json_read.specs.Reading.{StandsFor, is_between}
use Rattle.json_read.proofs.Characters.{stands_ascii}
use Rattle.json_read.proofs.Utf8.{Bounds, bounds_tell, two_stands, three_stands, four_stands, between}
use Rattle.reading_laws.proofs.JsonRests.{then_none, then_more, Byte, Closed, Past, Hexes, Follows, Second, Stands, Later, split, at_byte}

module _ (d : ℕ) (r : Role) (k : List Open) where
  abbrev Inner : List ℕ → Type 0
  Inner = Past [] d r k

  -- a part that stands for a character, in front of what is left
  part_then : (u : ℕ) (part s : List ℕ) → StandsFor u part → Inner s → Inner (part ++ s)
  part_then u part s h (t, rest, e, (us, c), b) = (part ++ t, rest, rw e (simp append_assoc), (u ∷ us, h.1 t us c), b)

  back_128 : (low high b : ℕ) → 128 ≤ low → IsTrue (is_between low high b) → b - 128 + 128 ≡ b
  back_128 low high b l is = let i : (low ≤ b) × (b < high) = between low high b is in omega (arith, l, i.0)

  two_back : (b low high : ℕ) (s : List ℕ) → Bounds b low high → b < 224 → Second low high 0 Inner s → Inner (b ∷ s)
  two_back b low high s g l (x, rest, e, is, h) =
      subst (λ (z : List ℕ). Inner (b ∷ z)) (sym e) (part_then ((b - 192) * 64 + (x - 128)) (b ∷ x ∷ []) rest (two_stands b low high x (x - 128) g l is (back_128 low high x g.low_up is)) h)

  three_back : (b low high : ℕ) (s : List ℕ) → Bounds b low high → 224 ≤ b → b < 240 → Second low high 1 Inner s → Inner (b ∷ s)
  three_back b low high s g f l (x, s1, e, is, (y, rest, e1, is1, h)) =
      subst (λ (z : List ℕ). Inner (b ∷ z)) (sym (e ∙ ap (λ (z : List ℕ). x ∷ z) e1)) (part_then (((b - 224) * 64 + (x - 128)) * 64 + (y - 128)) (b ∷ x ∷ y ∷ []) rest
      (three_stands b low high x (x - 128) y (y - 128) g f l is (back_128 low high x g.low_up is) is1 (back_128 128 192 y (omega arith) is1)) h)

  four_back : (b low high : ℕ) (s : List ℕ) → Bounds b low high → 240 ≤ b → Second low high 2 Inner s → Inner (b ∷ s)
  four_back b low high s g f (x, s1, e, is, (y, s2, e1, is1, (z, rest, e2, is2, h))) =
      subst (λ (v : List ℕ). Inner (b ∷ v)) (sym (e ∙ ap (λ (v : List ℕ). x ∷ v) (e1 ∙ ap (λ (v : List ℕ). y ∷ v) e2))) (part_then ((((b - 240) * 64 + (x - 128)) * 64 + (y - 128)) * 64 + (z - 128)) (b ∷ x ∷ y ∷ z ∷ []) rest
      (four_stands b low high x (x - 128) y (y - 128) z (z - 128) g f is (back_128 low high x g.low_up is) is1 (back_128 128 192 y (omega arith) is1) is2 (back_128 128 192 z (omega arith) is2)) h)

  character_back : (b low high : ℕ) (s : List ℕ) → Bounds b low high → Second low high (further_bytes b) Inner s → Inner (b ∷ s)
  character_back b low high s g h = ⊎_elim
      (λ l. two_back b low high s g l (subst (λ (n : ℕ). Second low high n Inner s) (cond-true (ltb b 224) _ _ (lt-ltb b 224 l)) h))
      (λ f. ⊎_elim
      (λ l. three_back b low high s g f l (subst (λ (n : ℕ). Second low high n Inner s) (cond-false (ltb b 224) _ _ (le-ltb b 224 f) ∙ cond-true (ltb b 240) _ _ (lt-ltb b 240 l)) h))
      (λ f'. four_back b low high s g f' (subst (λ (n : ℕ). Second low high n Inner s) (cond-false (ltb b 224) _ _ (le-ltb b 224 f) ∙ cond-false (ltb b 240) _ _ (le-ltb b 240 f')) h))
      (cases_lt b 240))
      (cases_lt b 224)

  leads_back : (b : ℕ) (s : List ℕ) → Later d s (leads r k b) → Inner (b ∷ s)
  leads_back b s h = go (second_bounds b) refl h
    where
      go : (o : Option (ℕ × ℕ)) → second_bounds b ≡ o → Later d s (leads_by r k (further_bytes b) o) → Inner (b ∷ s)
      go None e h = absurd h
      go (Some (low, high)) e h = character_back b low high s (bounds_tell b low high e) h

  closes : (s : List ℕ) → Closed d r k s → Inner (34 ∷ s)
  closes s h = then_none (λ t. (us : List ℕ) × Chars t us) (Byte 34 (Closed d r k)) ([], no_chars) (s, refl, h)

  alone : (b : ℕ) → eqb b 34 ≡ false → eqb b 92 ≡ false → ltb b 32 ≡ false → IsTrue (stands_plain b)
  alone b q s c = and_from (leb 32 b) _ (le-leb 32 b (ltb-false b 32 c)) (cond-false (eqb b 34) _ _ q ∙ cond-false (eqb b 92) _ _ s)

  pub string_back : (b : ℕ) (s : List ℕ) → Later d s (string_step r k b) → Inner (b ∷ s)
  string_back b s h = ⊎_elim
      (λ p. at_byte (λ (x : ℕ). Inner (x ∷ s)) b 34 p.0 (closes s (shut r p.1)))
      (λ p. ⊎_elim
      (λ q. at_byte (λ (x : ℕ). Inner (x ∷ s)) b 92 q.0 (then_more (λ t. (us : List ℕ) × Chars (92 ∷ t) us) (λ t. (us : List ℕ) × Chars t us) (Byte 34 (Closed d r k)) 92 (λ t c. c) q.1))
      (λ q. ⊎_elim
      (λ c. absurd (c.1))
      (λ c. ⊎_elim
      (λ a. part_then b (b ∷ []) s (stands_ascii b (ltb-true b 128 a.0) (alone b p.0 q.0 c.0)) a.1)
      (λ a. leads_back b s a.1)
      (split (Later d s) (ltb b 128) _ _ c.1))
      (split (Later d s) (ltb b 32) _ _ q.1))
      (split (Later d s) (eqb b 92) _ _ p.1))
      (split (Later d s) (eqb b 34) _ _ h)
    where
      shut : (role : Role) → Stands d (closed role) k s → Closed d role k s
      shut is_value h = h
      shut is_name h = h

  -- ## Escapes

  abbrev Escaped : List ℕ → Type 0
  Escaped = Past (92 ∷ []) d r k

  hexes_back : (s : List ℕ) → Hexes 4 Inner s → Escaped (117 ∷ s)
  hexes_back s (a, s1, e1, ha, (b, s2, e2, hb, (c, s3, e3, hc, (x, s4, e4, hx, (t, rest, e, (us, cs), q))))) =
      (117 ∷ a ∷ b ∷ c ∷ x ∷ t, rest, rw (e1, e2, e3, e4, e) refl, (four_hex a b c x ∷ us, unicode ha hb hc hx cs), q)

  short_back : (b : ℕ) (s : List ℕ) → Later d s (escape_step r k (short_escape b)) → Escaped (b ∷ s)
  short_back b s h = go (short_escape b) refl h
    where
      go : (o : Option ℕ) → short_escape b ≡ o → Later d s (escape_step r k o) → Escaped (b ∷ s)
      go None e h = absurd h
      go (Some c) e (t, rest, f, (us, cs), q) = (b ∷ t, rest, ap (λ (z : List ℕ). b ∷ z) f, (c ∷ us, escape e cs), q)

  pub escape_back : (b : ℕ) (s : List ℕ) → Later d s (step d (in_escape r) k b) → Escaped (b ∷ s)
  escape_back b s h = ⊎_elim
      (λ p. at_byte (λ (x : ℕ). Escaped (x ∷ s)) b 117 p.0 (hexes_back s p.1))
      (λ p. short_back b s p.1)
      (split (Later d s) (eqb b 117) _ _ h)

  pub hex_back : (n b : ℕ) (s : List ℕ) → Later d s (step d (in_hex r n) k b) → Hexes (suc n) Inner (b ∷ s)
  hex_back n b s h = ⊎_elim (λ p. (b, s, refl, p.0, more n p.1)) (λ p. absurd (p.1)) (split (Later d s) (is_hex b) _ _ h)
    where
      more : (m : ℕ) → Stands d (hex_follows r m) k s → Hexes m Inner s
      more zero h = h
      more (suc m) h = h

  pub second_back : (low high n b : ℕ) (s : List ℕ) → Later d s (step d (in_character r low high n) k b) → Second low high n Inner (b ∷ s)
  second_back low high n b s h = ⊎_elim (λ p. (b, s, refl, p.0, more n p.1)) (λ p. absurd (p.1)) (split (Later d s) (is_between low high b) _ _ h)
    where
      more : (m : ℕ) → Stands d (follows r m) k s → Follows m Inner s
      more zero h = h
      more (suc m) (b, rest, e, is, h) = (b, rest, e, is, h)
