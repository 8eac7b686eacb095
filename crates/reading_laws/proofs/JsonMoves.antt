-- What the machine accepts is a text.
use Rattle.std.proofs.Common.{ℕ, suc, ◌≡◌, ◌-◌, ◌++◌, ◌<◌, List, [], ◌∷◌, true, false, Some, None, IsTrue, refl, ap, ◌∙◌, sym, subst, length, arith, append_assoc, codes, inl, inr, ⊎_elim, eqb, ltb}
use Rattle.std.proofs.lemmas.Bool.{ltb-true, eqb-true}
use Rattle.numerals.specs.Bytes.{is_white}
use Rattle.json_values.specs.Grammar.{White, no_white, white, quoted, Denotes, is_null, is_true, is_false, is_number, is_string, no_elements, elements, no_members, members, Elements, Members, Mark, no_mark, mark, JsonText, text, padded}
use Rattle.numerals.specs.Numbers.{Digits, no_digits, no_fraction, no_exponent, no_minus, minus}
use Rattle.json_values.specs.Json.{JsonValue, number, string, array, object, boolean, null, no_items, no_fields, items_of, fields_of}
use Rattle.json_values.specs.Lists.{merged}
use Rattle.json_read.specs.Machine.{Place, Open, Moves, in_array, in_object, is_value, is_name, start, in_mark, value, first_value, first_name, next_name, colon, after, in_word, after_minus, after_zero, in_whole, after_point, in_fraction, after_mantissa, after_letter, after_sign, in_exponent, in_string, in_escape, in_hex, in_character, step, run, at_end, ends, begins, begins_name, opens, word_step, mark_step, accepted, fault, fault_of}
use Rattle.json_read.specs.declared.reader.Fault.{Fault}
use Rattle.json_read.proofs.Runs.{moves, stops}
use Rattle.json_read.proofs.Arrays.{items_list-items_of}
use Rattle.json_values.proofs.Seen.{fields_list-fields_of}
use Rattle.reading_laws.proofs.JsonRests.{Then, then_none, then_more, Byte, After, at_last, Value, AtValue, AtColon, Name, AtName, Shuts, elements_of, members_of, FromPoint, FromWhole, InWhole, InFraction, Past, Stands, Later, split, at_byte}
use Rattle.reading_laws.proofs.JsonNumbers.{ends_back, exponent_back, point_back, whole_back, fraction_back, point_digit_back, some_digits_back, digits_back, letter_back, begins_whole_back, number_of}
use Rattle.reading_laws.proofs.JsonStrings.{string_back, escape_back, hex_back, second_back}

module _ (d : ℕ) (k : List Open) where
  abbrev OfValue : List ℕ → Type 0
  OfValue t = (v : JsonValue) × Denotes (d - length k) t v

  -- ## The first byte of a value

  string_value : (s : List ℕ) → Past [] d is_value k s → Value d k (34 ∷ s)
  string_value s (t, s1, e, (us, c), (rest, f, a)) = (34 ∷ (t ++ 34 ∷ []), rest, rw (e, f) (simp append_assoc), (string _, is_string (quoted (us, c, refl))), a)

  string_name : (s : List ℕ) → Past [] d is_name k s → Name d k (34 ∷ s)
  string_name s (t, s1, e, (us, c), (rest, f, a)) = (34 ∷ (t ++ 34 ∷ []), rest, rw (e, f) (simp append_assoc), (_, quoted (us, c, refl)), a)

  deeper : length k < d → suc (d - suc (length k)) ≡ d - length k
  deeper l = omega (arith, l)

  elements_value : (s : List ℕ) → length k < d → Then (λ t. (vs : List JsonValue) × Elements (d - suc (length k)) t vs) (Byte 93 (After d k)) s → Value d k (91 ∷ s)
  elements_value s l (t, s1, e, (vs, es), (rest, f, a)) =
      let is : Denotes (suc (d - suc (length k))) (91 ∷ (t ++ 93 ∷ [])) (array (items_of vs)) = elements (subst (Elements (d - suc (length k)) t) (sym (items_list-items_of vs)) es) in
      (91 ∷ (t ++ 93 ∷ []), rest, rw (e, f) (simp append_assoc), (array (items_of vs), subst (λ (n : ℕ). Denotes n (91 ∷ (t ++ 93 ∷ [])) (array (items_of vs))) (deeper l) is), a)

  array_value : (s : List ℕ) → length k < d → Stands d first_value (in_array ∷ k) s → Value d k (91 ∷ s)
  array_value s l (inl h) = elements_value s l (elements_of d k s h)
  array_value s l (inr (m, same, (w, s1, e, h, (rest, f, a)))) =
      let is : k ≡ m = cc in
      (91 ∷ (w ++ 93 ∷ []), rest, rw (e, f) (simp append_assoc), (array no_items, subst (λ (n : ℕ). Denotes n (91 ∷ (w ++ 93 ∷ [])) (array no_items)) (deeper l) (no_elements h)), subst (λ (j : List Open). After d j rest) (sym is) a)

  members_value : (s : List ℕ) → length k < d → Then (λ t. (ms : List (List ℕ × JsonValue)) × Members (d - suc (length k)) t ms) (Byte 125 (After d k)) s → Value d k (123 ∷ s)
  members_value s l (t, s1, e, (ms, es), (rest, f, a)) =
      let is : Denotes (suc (d - suc (length k))) (123 ∷ (t ++ 125 ∷ [])) (object (fields_of (merged [] ms))) = members es (fields_list-fields_of (merged [] ms)) in
      (123 ∷ (t ++ 125 ∷ []), rest, rw (e, f) (simp append_assoc), (object (fields_of (merged [] ms)), subst (λ (n : ℕ). Denotes n (123 ∷ (t ++ 125 ∷ [])) (object (fields_of (merged [] ms)))) (deeper l) is), a)

  object_value : (s : List ℕ) → length k < d → Stands d first_name (in_object ∷ k) s → Value d k (123 ∷ s)
  object_value s l (inl h) = members_value s l (members_of d k s h)
  object_value s l (inr (m, same, (w, s1, e, h, (rest, f, a)))) =
      let is : k ≡ m = cc in
      (123 ∷ (w ++ 125 ∷ []), rest, rw (e, f) (simp append_assoc), (object no_fields, subst (λ (n : ℕ). Denotes n (123 ∷ (w ++ 125 ∷ [])) (object no_fields)) (deeper l) (no_members h)), subst (λ (j : List Open). After d j rest) (sym is) a)

  word_value : (b : ℕ) (cs : List ℕ) (v : JsonValue) → Denotes (d - length k) (b ∷ cs) v → (s : List ℕ) → Stands d (in_word cs) k s → Value d k (b ∷ s)
  word_value b cs v h s = then_more (λ t. t ≡ cs) OfValue (After d k) b (λ t e. (v, subst (λ (z : List ℕ). Denotes (d - length k) (b ∷ z) v) (sym e) h))

  -- where one more level is left
  opened : (o : Open) (p : Place) (c : ℕ) (s : List ℕ) → (length k < d → Stands d p (o ∷ k) s → Value d k (c ∷ s)) → Later d s (opens d p o k) → Value d k (c ∷ s)
  opened o p c s f h = ⊎_elim (λ q. f (ltb-true (length k) d q.0) q.1) (λ q. absurd (q.1)) (split (Later d s) (ltb (length k) d) _ _ h)

  begins_back : (b : ℕ) (s : List ℕ) → Later d s (begins d k b) → Value d k (b ∷ s)
  begins_back b s h = ⊎_elim (λ p. at b 34 p.0 (string_value s p.1)) (λ p.
      ⊎_elim (λ p. at b 91 p.0 (opened in_array first_value 91 s (array_value s) p.1)) (λ p.
      ⊎_elim (λ p. at b 123 p.0 (opened in_object first_name 123 s (object_value s) p.1)) (λ p.
      ⊎_elim (λ p. at b 110 p.0 (word_value 110 (codes "ull") null is_null s p.1)) (λ p.
      ⊎_elim (λ p. at b 116 p.0 (word_value 116 (codes "rue") (boolean true) is_true s p.1)) (λ p.
      ⊎_elim (λ p. at b 102 p.0 (word_value 102 (codes "alse") (boolean false) is_false s p.1)) (λ p.
      ⊎_elim (λ p. at b 45 p.0 (then_more FromWhole OfValue (After d k) 45 (λ t f. (number (45 ∷ t), is_number (number_of t minus f))) p.1)) (λ p.
      (let (t, rest, e, f, a) = begins_whole_back d k b s p.1 in (t, rest, e, (number t, is_number (number_of t no_minus f)), a)))
      (split (Later d s) (eqb b 45) _ _ p.1))
      (split (Later d s) (eqb b 102) _ _ p.1))
      (split (Later d s) (eqb b 116) _ _ p.1))
      (split (Later d s) (eqb b 110) _ _ p.1))
      (split (Later d s) (eqb b 123) _ _ p.1))
      (split (Later d s) (eqb b 91) _ _ p.1))
      (split (Later d s) (eqb b 34) _ _ h)
    where
      at : (b c : ℕ) → eqb b c ≡ true → Value d k (c ∷ s) → Value d k (b ∷ s)
      at b c e v = at_byte (λ (x : ℕ). Value d k (x ∷ s)) b c e v

  -- ## Before a value and before a name

  value_back : (b : ℕ) (s : List ℕ) → Later d s (step d value k b) → AtValue d k (b ∷ s)
  value_back b s h = ⊎_elim (λ p. then_more White White (Value d k) b (λ t w. white p.0 w) p.1) (λ p. then_none White (Value d k) no_white (begins_back b s p.1)) (split (Later d s) (is_white b) _ _ h)

  name_back : (b : ℕ) (s : List ℕ) → Later d s (begins_name k b) → AtName d k (b ∷ s)
  name_back b s h = ⊎_elim (λ p. at_byte (λ (x : ℕ). AtName d k (x ∷ s)) b 34 p.0 (then_none White (Name d k) no_white (string_name s p.1))) (λ p. absurd (p.1)) (split (Later d s) (eqb b 34) _ _ h)

  next_name_back : (b : ℕ) (s : List ℕ) → Later d s (step d next_name k b) → AtName d k (b ∷ s)
  next_name_back b s h = ⊎_elim (λ p. then_more White White (Name d k) b (λ t w. white p.0 w) p.1) (λ p. name_back b s p.1) (split (Later d s) (is_white b) _ _ h)

  colon_back : (b : ℕ) (s : List ℕ) → Later d s (step d colon k b) → AtColon d k (b ∷ s)
  colon_back b s h = ⊎_elim
      (λ p. then_more White White (Byte 58 (AtValue d k)) b (λ t w. white p.0 w) p.1)
      (λ p. ⊎_elim (λ q. at_byte (λ (x : ℕ). AtColon d k (x ∷ s)) b 58 q.0 (then_none White (Byte 58 (AtValue d k)) no_white (s, refl, q.1))) (λ q. absurd (q.1)) (split (Later d s) (eqb b 58) _ _ p.1))
      (split (Later d s) (is_white b) _ _ h)

  -- ## Words and marks

  word_back : (cs : List ℕ) (b : ℕ) (s : List ℕ) → Later d s (word_step k cs b) → Stands d (in_word cs) k (b ∷ s)
  word_back [] b s h = absurd h
  word_back (c ∷ []) b s h = ⊎_elim
      (λ p. at_byte (λ (x : ℕ). Stands d (in_word (c ∷ [])) k (x ∷ s)) b c p.0 (c ∷ [], s, refl, refl, p.1))
      (λ p. absurd (p.1)) (split (Later d s) (eqb b c) _ _ h)
  word_back (c ∷ x ∷ cs) b s h = ⊎_elim
      (λ p. at_byte (λ (y : ℕ). Stands d (in_word (c ∷ x ∷ cs)) k (y ∷ s)) b c p.0 (then_more (λ t. t ≡ x ∷ cs) (λ t. t ≡ c ∷ x ∷ cs) (After d k) c (λ t e. ap (λ (z : List ℕ). c ∷ z) e) p.1))
      (λ p. absurd (p.1)) (split (Later d s) (eqb b c) _ _ h)

  mark_back : (cs : List ℕ) (b : ℕ) (s : List ℕ) → Later d s (mark_step k cs b) → Stands d (in_mark cs) k (b ∷ s)
  mark_back [] b s h = absurd h
  mark_back (c ∷ []) b s h = ⊎_elim
      (λ p. at_byte (λ (x : ℕ). Stands d (in_mark (c ∷ [])) k (x ∷ s)) b c p.0 (c ∷ [], s, refl, refl, p.1))
      (λ p. absurd (p.1)) (split (Later d s) (eqb b c) _ _ h)
  mark_back (c ∷ x ∷ cs) b s h = ⊎_elim
      (λ p. at_byte (λ (y : ℕ). Stands d (in_mark (c ∷ x ∷ cs)) k (y ∷ s)) b c p.0 (then_more (λ t. t ≡ x ∷ cs) (λ t. t ≡ c ∷ x ∷ cs) (AtValue d k) c (λ t e. ap (λ (z : List ℕ). c ∷ z) e) p.1))
      (λ p. absurd (p.1)) (split (Later d s) (eqb b c) _ _ h)

  start_back : (b : ℕ) (s : List ℕ) → Later d s (step d start k b) → Then Mark (AtValue d k) (b ∷ s)
  start_back b s h = ⊎_elim
      (λ p. then_none Mark (AtValue d k) no_mark (then_more White White (Value d k) b (λ t w. white p.0 w) p.1))
      (λ p. ⊎_elim
      (λ q. at_byte (λ (x : ℕ). Then Mark (AtValue d k) (x ∷ s)) b 0xEF q.0 (then_more (λ t. t ≡ 0xBB ∷ 0xBF ∷ []) Mark (AtValue d k) 0xEF (λ t e. subst (λ (z : List ℕ). Mark (0xEF ∷ z)) (sym e) mark) q.1))
      (λ q. then_none Mark (AtValue d k) no_mark (then_none White (Value d k) no_white (begins_back b s q.1)))
      (split (Later d s) (eqb b 0xEF) _ _ p.1))
      (split (Later d s) (is_white b) _ _ h)

  shuts_later : (o : Open) (c b : ℕ) (s : List ℕ) → IsTrue (is_white b) → Shuts o c d k s → Shuts o c d k (b ∷ s)
  shuts_later o c b s i (l, e, t) = (l, e, then_more White White (Byte c (After d l)) b (λ u w. white i w) t)

-- ## Directly after a bracket or a brace

shut_array : (d : ℕ) (k : List Open) (s : List ℕ) → Later d s (ends k 93) → Shuts in_array 93 d k (93 ∷ s)
shut_array d [] s h = absurd h
shut_array d (in_array ∷ k) s h = (k, refl, then_none White (Byte 93 (After d k)) no_white (s, refl, h))
shut_array d (in_object ∷ k) s h = absurd h

shut_object : (d : ℕ) (k : List Open) (s : List ℕ) → Later d s (ends k 125) → Shuts in_object 125 d k (125 ∷ s)
shut_object d [] s h = absurd h
shut_object d (in_object ∷ k) s h = (k, refl, then_none White (Byte 125 (After d k)) no_white (s, refl, h))
shut_object d (in_array ∷ k) s h = absurd h

first_value_back : (d : ℕ) (k : List Open) (b : ℕ) (s : List ℕ) → Later d s (step d first_value k b) → Stands d first_value k (b ∷ s)
first_value_back d k b s h = ⊎_elim
    (λ p. ⊎_elim (λ v. inl (then_more White White (Value d k) b (λ t w. white p.0 w) v)) (λ v. inr (shuts_later d k in_array 93 b s p.0 v)) p.1)
    (λ p. ⊎_elim
    (λ q. at_byte (λ (x : ℕ). Stands d first_value k (x ∷ s)) b 93 q.0 (inr (shut_array d k s (subst (λ (x : ℕ). Later d s (ends k x)) (eqb-true b 93 q.0) q.1))))
    (λ q. inl (then_none White (Value d k) no_white (begins_back d k b s q.1)))
    (split (Later d s) (eqb b 93) _ _ p.1))
    (split (Later d s) (is_white b) _ _ h)

first_name_back : (d : ℕ) (k : List Open) (b : ℕ) (s : List ℕ) → Later d s (step d first_name k b) → Stands d first_name k (b ∷ s)
first_name_back d k b s h = ⊎_elim
    (λ p. ⊎_elim (λ v. inl (then_more White White (Name d k) b (λ t w. white p.0 w) v)) (λ v. inr (shuts_later d k in_object 125 b s p.0 v)) p.1)
    (λ p. ⊎_elim
    (λ q. at_byte (λ (x : ℕ). Stands d first_name k (x ∷ s)) b 125 q.0 (inr (shut_object d k s (subst (λ (x : ℕ). Later d s (ends k x)) (eqb-true b 125 q.0) q.1))))
    (λ q. inl (name_back d k b s q.1))
    (split (Later d s) (eqb b 125) _ _ p.1))
    (split (Later d s) (is_white b) _ _ h)

-- ## All places

one_back : (d : ℕ) (p : Place) (k : List Open) (b : ℕ) (s : List ℕ) → Later d s (step d p k b) → Stands d p k (b ∷ s)
one_back d start k b s h = start_back d k b s h
one_back d (in_mark cs) k b s h = mark_back d k cs b s h
one_back d value k b s h = value_back d k b s h
one_back d first_value k b s h = first_value_back d k b s h
one_back d first_name k b s h = first_name_back d k b s h
one_back d next_name k b s h = next_name_back d k b s h
one_back d colon k b s h = colon_back d k b s h
one_back d after k b s h = ends_back d k b s h
one_back d (in_word cs) k b s h = word_back d k cs b s h
one_back d after_minus k b s h = begins_whole_back d k b s h
one_back d after_zero k b s h = point_back d k b s h
one_back d in_whole k b s h = whole_back d k b s h
one_back d after_point k b s h = point_digit_back d k b s h
one_back d in_fraction k b s h = fraction_back d k b s h
one_back d after_mantissa k b s h = exponent_back d k b s h
one_back d after_letter k b s h = letter_back d k b s h
one_back d after_sign k b s h = some_digits_back d k b s h
one_back d in_exponent k b s h = digits_back d k b s h
one_back d (in_string r) k b s h = string_back d r k b s h
one_back d (in_escape r) k b s h = escape_back d r k b s h
one_back d (in_hex r n) k b s h = hex_back d r k n b s h
one_back d (in_character r low high n) k b s h = second_back d r k low high n b s h

-- at the end
nothing_left : (d : ℕ) → After d [] []
nothing_left d = at_last no_white

end_back : (d : ℕ) (p : Place) (k : List Open) → at_end p k ≡ accepted → Stands d p k []
end_back d after [] e = nothing_left d
end_back d after_zero [] e = then_none FromPoint (After d []) ([], [], refl, no_fraction, no_exponent) (nothing_left d)
end_back d in_whole [] e = then_none InWhole (After d []) ([], [], refl, no_digits, ([], [], refl, no_fraction, no_exponent)) (nothing_left d)
end_back d in_fraction [] e = then_none InFraction (After d []) ([], [], refl, no_digits, no_exponent) (nothing_left d)
end_back d after_mantissa [] e = then_none _ (After d []) no_exponent (nothing_left d)
end_back d in_exponent [] e = then_none Digits (After d []) no_digits (nothing_left d)
end_back d p k e = absurd (cc)

fault_not_accepted : (f : Fault) (xs : List ℕ) → fault f xs ≡ accepted → ⊥
fault_not_accepted f xs e = cc

pub stands : (d : ℕ) (s : List ℕ) (p : Place) (k : List Open) → run d p k s ≡ accepted → Stands d p k s
unfolding run
stands d [] p k e = end_back d p k e
stands d (b ∷ s) p k e = one_back d p k b s (go (step d p k b) refl (λ q l h. stands d s q l h))
  where
    go : (m : Moves) → step d p k b ≡ m → ((q : Place) (l : List Open) → run d q l s ≡ accepted → Stands d q l s) → Later d s m
    go None f later = absurd (fault_not_accepted (fault_of p b) (b ∷ s) (sym (stops d p k b s f) ∙ e))
    go (Some (q, l)) f later = later q l (sym (moves d p k b s q l f) ∙ e)

pub accepted_text : (d : ℕ) (t : List ℕ) → run d start [] t ≡ accepted → (v : JsonValue) × JsonText d t v
accepted_text d t h = whole (stands d t start [] h)
  where
    whole : Then Mark (AtValue d []) t → (v : JsonValue) × JsonText d t v
    whole (m, s1, e1, hm, (w, s2, e2, hw, (u, w', e3, (v, den), at_last hw'))) =
        let all : d - 0 ≡ d = omega arith in
        (v, subst (λ (z : List ℕ). JsonText d z v) (sym (e1 ∙ ap (λ (z : List ℕ). m ++ z) (e2 ∙ ap (λ (z : List ℕ). w ++ z) e3))) (text hm (padded hw (subst (λ (n : ℕ). Denotes n u v) all den) hw')))
