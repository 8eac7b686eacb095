-- From each place that the machine comes to, some bytes end a text; so what it read before a fault begins one.
use Rattle.std.proofs.Common.{ℕ, zero, suc, ◌≡◌, ◌-◌, ◌++◌, ◌<◌, List, [], ◌∷◌, Bool, true, false, cond, Option, Some, None, refl, ap, ◌∙◌, sym, subst, length, arith, ◌⊎◌, inl, inr, eqb, ltb, leb}
use Rattle.std.proofs.lemmas.Bool.{cond-true, eq-eqb, le-leb, lt-ltb, and_from}
use Rattle.numerals.specs.Bytes.{is_white, is_digit, is_nonzero_digit, is_exponent_letter, is_hex}
use Rattle.json_read.specs.Faults.{IsFault}
use Rattle.json_values.specs.Grammar.{JsonText, short_escape}
use Rattle.json_values.specs.Json.{JsonValue}
use Rattle.json_read.specs.Machine.{Place, Open, Role, Moves, Outcome, in_array, in_object, is_value, is_name, start, in_mark, value, first_value, first_name, next_name, colon, after, in_word, after_minus, after_zero, in_whole, after_point, in_fraction, after_mantissa, after_letter, after_sign, in_exponent, in_string, in_escape, in_hex, in_character, step, run, at_end, ends, begins, begins_whole, begins_name, second_bounds, further_bytes, leads_by, string_step, follows, hex_follows, escape_step, word_step, mark_step, exponent_or_end, point_or_end, accepted, fault, fault_of}
use Rattle.json_read.specs.declared.reader.Fault.{Fault}
use Rattle.json_read.specs.Reading.{is_between}
use Rattle.json_read.proofs.Runs.{moves, stops}
use Rattle.json_read.proofs.Utf8.{bounds_tell}
use Rattle.json_read.proofs.Viability.{is_fault}
use Rattle.reading_laws.proofs.JsonMoves.{accepted_text}

-- ## Places that the machine comes to

-- some bytes can come next
abbrev CanGoOn : Place → Type 0
CanGoOn (in_mark []) = ⊥
CanGoOn (in_word []) = ⊥
CanGoOn (in_character r low high n) = low < high
CanGoOn _ = Unit {0}

data AllGoOn : Moves → Type 0 where
  none : AllGoOn None
  to : {p : Place} {k : List Open} → CanGoOn p → AllGoOn (Some (p, k))

both : (t : Bool) (x y : Moves) → AllGoOn x → AllGoOn y → AllGoOn (cond t x y)
both true x y p q = p
both false x y p q = q

ends_go_on : (k : List Open) (b : ℕ) → AllGoOn (ends k b)
ends_go_on [] b = both (is_white b) _ _ (to tt) none
ends_go_on (in_array ∷ k) b = both (is_white b) _ _ (to tt) (both (eqb b 44) _ _ (to tt) (both (eqb b 93) _ _ (to tt) none))
ends_go_on (in_object ∷ k) b = both (is_white b) _ _ (to tt) (both (eqb b 44) _ _ (to tt) (both (eqb b 125) _ _ (to tt) none))

exponent_goes_on : (k : List Open) (b : ℕ) → AllGoOn (exponent_or_end k b)
exponent_goes_on k b = both (is_exponent_letter b) _ _ (to tt) (ends_go_on k b)

point_goes_on : (k : List Open) (b : ℕ) → AllGoOn (point_or_end k b)
point_goes_on k b = both (eqb b 46) _ _ (to tt) (exponent_goes_on k b)

whole_goes_on : (k : List Open) (b : ℕ) → AllGoOn (begins_whole k b)
whole_goes_on k b = both (eqb b 48) _ _ (to tt) (both (is_nonzero_digit b) _ _ (to tt) none)

begins_go_on : (d : ℕ) (k : List Open) (b : ℕ) → AllGoOn (begins d k b)
begins_go_on d k b =
    both (eqb b 34) _ _ (to tt)
    (both (eqb b 91) _ _ (both (ltb (length k) d) _ _ (to tt) none)
    (both (eqb b 123) _ _ (both (ltb (length k) d) _ _ (to tt) none)
    (both (eqb b 110) _ _ (to tt) (both (eqb b 116) _ _ (to tt) (both (eqb b 102) _ _ (to tt) (both (eqb b 45) _ _ (to tt) (whole_goes_on k b)))))))

name_goes_on : (k : List Open) (b : ℕ) → AllGoOn (begins_name k b)
name_goes_on k b = both (eqb b 34) _ _ (to tt) none

leads_go_on : (r : Role) (k : List Open) (b : ℕ) (o : Option (ℕ × ℕ)) → second_bounds b ≡ o → AllGoOn (leads_by r k (further_bytes b) o)
leads_go_on r k b None e = none
leads_go_on r k b (Some (low, high)) e = to (bounds_tell b low high e).apart

string_goes_on : (r : Role) (k : List Open) (b : ℕ) → AllGoOn (string_step r k b)
string_goes_on is_value k b = both (eqb b 34) _ _ (to tt) (both (eqb b 92) _ _ (to tt) (both (ltb b 32) _ _ none (both (ltb b 128) _ _ (to tt) (leads_go_on is_value k b (second_bounds b) refl))))
string_goes_on is_name k b = both (eqb b 34) _ _ (to tt) (both (eqb b 92) _ _ (to tt) (both (ltb b 32) _ _ none (both (ltb b 128) _ _ (to tt) (leads_go_on is_name k b (second_bounds b) refl))))

escape_goes_on : (r : Role) (k : List Open) (o : Option ℕ) → AllGoOn (escape_step r k o)
escape_goes_on r k None = none
escape_goes_on r k (Some c) = to tt

hex_goes_on : (r : Role) (n : ℕ) → CanGoOn (hex_follows r n)
hex_goes_on r zero = tt
hex_goes_on r (suc n) = tt

follows_go_on : (r : Role) (n : ℕ) → CanGoOn (follows r n)
follows_go_on r zero = tt
follows_go_on r (suc n) = omega arith

word_goes_on : (k : List Open) (cs : List ℕ) (b : ℕ) → AllGoOn (word_step k cs b)
word_goes_on k [] b = none
word_goes_on k (c ∷ []) b = both (eqb b c) _ _ (to tt) none
word_goes_on k (c ∷ x ∷ cs) b = both (eqb b c) _ _ (to tt) none

mark_goes_on : (k : List Open) (cs : List ℕ) (b : ℕ) → AllGoOn (mark_step k cs b)
mark_goes_on k [] b = none
mark_goes_on k (c ∷ []) b = both (eqb b c) _ _ (to tt) none
mark_goes_on k (c ∷ x ∷ cs) b = both (eqb b c) _ _ (to tt) none

one_goes_on : (d : ℕ) (p : Place) (k : List Open) (b : ℕ) → AllGoOn (step d p k b)
one_goes_on d start k b = both (is_white b) _ _ (to tt) (both (eqb b 0xEF) _ _ (to tt) (begins_go_on d k b))
one_goes_on d (in_mark cs) k b = mark_goes_on k cs b
one_goes_on d value k b = both (is_white b) _ _ (to tt) (begins_go_on d k b)
one_goes_on d first_value k b = both (is_white b) _ _ (to tt) (both (eqb b 93) _ _ (ends_go_on k b) (begins_go_on d k b))
one_goes_on d first_name k b = both (is_white b) _ _ (to tt) (both (eqb b 125) _ _ (ends_go_on k b) (name_goes_on k b))
one_goes_on d next_name k b = both (is_white b) _ _ (to tt) (name_goes_on k b)
one_goes_on d colon k b = both (is_white b) _ _ (to tt) (both (eqb b 58) _ _ (to tt) none)
one_goes_on d after k b = ends_go_on k b
one_goes_on d (in_word cs) k b = word_goes_on k cs b
one_goes_on d after_minus k b = whole_goes_on k b
one_goes_on d after_zero k b = point_goes_on k b
one_goes_on d in_whole k b = both (is_digit b) _ _ (to tt) (point_goes_on k b)
one_goes_on d after_point k b = both (is_digit b) _ _ (to tt) none
one_goes_on d in_fraction k b = both (is_digit b) _ _ (to tt) (exponent_goes_on k b)
one_goes_on d after_mantissa k b = exponent_goes_on k b
one_goes_on d after_letter k b = both (eqb b 43) _ _ (to tt) (both (eqb b 45) _ _ (to tt) (both (is_digit b) _ _ (to tt) none))
one_goes_on d after_sign k b = both (is_digit b) _ _ (to tt) none
one_goes_on d in_exponent k b = both (is_digit b) _ _ (to tt) (ends_go_on k b)
one_goes_on d (in_string r) k b = string_goes_on r k b
one_goes_on d (in_escape r) k b = both (eqb b 117) _ _ (to tt) (escape_goes_on r k (short_escape b))
one_goes_on d (in_hex r n) k b = both (is_hex b) _ _ (to (hex_goes_on r n)) none
one_goes_on d (in_character r low high n) k b = both (is_between low high b) _ _ (to (follows_go_on r n)) none

-- ## The ends of texts

record Ends (d : ℕ) (p : Place) (k : List Open) : Type 0 where
  bytes : List ℕ
  accepts : run d p k bytes ≡ accepted

module _ (d : ℕ) where
  by : (b : ℕ) {p q : Place} {k l : List Open} → step d p k b ≡ Some (q, l) → Ends d q l → Ends d p k
  by b {p} {q} {k} {l} e h = record { bytes = b ∷ h.bytes; accepts = moves d p k b h.bytes q l e ∙ h.accepts }

  after_ends : (k : List Open) → Ends d after k
  unfolding run
  after_ends [] = record { bytes = []; accepts = refl }
  after_ends (in_array ∷ k) = by 93 refl (after_ends k)
  after_ends (in_object ∷ k) = by 125 refl (after_ends k)

  number_ends : (p : Place) → run d p [] [] ≡ accepted → ((k : List Open) → step d p (in_array ∷ k) 93 ≡ Some (after, k)) → ((k : List Open) → step d p (in_object ∷ k) 125 ≡ Some (after, k)) → (k : List Open) → Ends d p k
  number_ends p e a o [] = record { bytes = []; accepts = e }
  number_ends p e a o (in_array ∷ k) = by 93 (a k) (after_ends k)
  number_ends p e a o (in_object ∷ k) = by 125 (o k) (after_ends k)

  zero_ends : (k : List Open) → Ends d after_zero k
  unfolding run
  zero_ends k = number_ends after_zero refl (λ l. refl) (λ l. refl) k

  exponent_ends : (k : List Open) → Ends d in_exponent k
  unfolding run
  exponent_ends k = number_ends in_exponent refl (λ l. refl) (λ l. refl) k

  value_ends : (k : List Open) → Ends d value k
  value_ends k = by 48 refl (zero_ends k)

  string_ends : (r : Role) (k : List Open) → Ends d (in_string r) k
  string_ends is_value k = by 34 refl (after_ends k)
  string_ends is_name k = by 34 refl (by 58 refl (value_ends k))

  hexes_end : (r : Role) (n : ℕ) (k : List Open) → Ends d (in_hex r n) k
  hexes_end r zero k = by 48 refl (string_ends r k)
  hexes_end r (suc n) k = by 48 refl (hexes_end r n k)

  followed_ends : (r : Role) (n : ℕ) (k : List Open) → Ends d (follows r n) k
  followed_ends r zero k = string_ends r k
  followed_ends r (suc n) k = by 128 refl (followed_ends r n k)

  character_ends : (r : Role) (low high n : ℕ) (k : List Open) → low < high → Ends d (in_character r low high n) k
  character_ends r low high n k l = by low (cond-true (is_between low high low) _ _ (and_from (leb low low) (ltb low high) (le-leb low low (omega arith)) (lt-ltb low high l))) (followed_ends r n k)

  word_ends : (cs : List ℕ) (k : List Open) → CanGoOn (in_word cs) → Ends d (in_word cs) k
  word_ends [] k h = absurd h
  word_ends (c ∷ []) k h = by c (cond-true (eqb c c) _ _ (eq-eqb c c refl)) (after_ends k)
  word_ends (c ∷ x ∷ cs) k h = by c (cond-true (eqb c c) _ _ (eq-eqb c c refl)) (word_ends (x ∷ cs) k tt)

  mark_ends : (cs : List ℕ) (k : List Open) → CanGoOn (in_mark cs) → Ends d (in_mark cs) k
  mark_ends [] k h = absurd h
  mark_ends (c ∷ []) k h = by c (cond-true (eqb c c) _ _ (eq-eqb c c refl)) (value_ends k)
  mark_ends (c ∷ x ∷ cs) k h = by c (cond-true (eqb c c) _ _ (eq-eqb c c refl)) (mark_ends (x ∷ cs) k tt)

  text_ends : (p : Place) (k : List Open) → CanGoOn p → Ends d p k
  unfolding run
  text_ends start k h = by 48 refl (zero_ends k)
  text_ends (in_mark cs) k h = mark_ends cs k h
  text_ends value k h = value_ends k
  text_ends first_value k h = by 48 refl (zero_ends k)
  text_ends first_name k h = by 34 refl (string_ends is_name k)
  text_ends next_name k h = by 34 refl (string_ends is_name k)
  text_ends colon k h = by 58 refl (value_ends k)
  text_ends after k h = after_ends k
  text_ends (in_word cs) k h = word_ends cs k h
  text_ends after_minus k h = by 48 refl (zero_ends k)
  text_ends after_zero k h = zero_ends k
  text_ends in_whole k h = number_ends in_whole refl (λ l. refl) (λ l. refl) k
  text_ends after_point k h = by 48 refl (number_ends in_fraction refl (λ l. refl) (λ l. refl) k)
  text_ends in_fraction k h = number_ends in_fraction refl (λ l. refl) (λ l. refl) k
  text_ends after_mantissa k h = number_ends after_mantissa refl (λ l. refl) (λ l. refl) k
  text_ends after_letter k h = by 48 refl (exponent_ends k)
  text_ends after_sign k h = by 48 refl (exponent_ends k)
  text_ends in_exponent k h = exponent_ends k
  text_ends (in_string r) k h = string_ends r k
  text_ends (in_escape r) k h = by 34 refl (string_ends r k)
  text_ends (in_hex r n) k h = hexes_end r n k
  text_ends (in_character r low high n) k h = character_ends r low high n k h

  -- ## What was read before a fault

  -- it begins bytes that the machine accepts
  abbrev Begins : Place → List Open → List ℕ → List ℕ → Type 0
  Begins p k bytes rest = (front : List ℕ) × (more : List ℕ) × (bytes ≡ front ++ rest) × (run d p k (front ++ more) ≡ accepted)

  end_leaves_none : (p : Place) (k : List Open) (f : Fault) (rest : List ℕ) → at_end p k ≡ fault f rest → [] ≡ rest
  end_leaves_none after [] f rest e = absurd (cc)
  end_leaves_none after (o ∷ k) f rest e = cc
  end_leaves_none after_zero [] f rest e = absurd (cc)
  end_leaves_none after_zero (o ∷ k) f rest e = cc
  end_leaves_none in_whole [] f rest e = absurd (cc)
  end_leaves_none in_whole (o ∷ k) f rest e = cc
  end_leaves_none in_fraction [] f rest e = absurd (cc)
  end_leaves_none in_fraction (o ∷ k) f rest e = cc
  end_leaves_none after_mantissa [] f rest e = absurd (cc)
  end_leaves_none after_mantissa (o ∷ k) f rest e = cc
  end_leaves_none in_exponent [] f rest e = absurd (cc)
  end_leaves_none in_exponent (o ∷ k) f rest e = cc
  end_leaves_none _ k f rest e = cc

  begins_there : (bytes : List ℕ) (p : Place) (k : List Open) (f : Fault) (rest : List ℕ) → CanGoOn p → run d p k bytes ≡ fault f rest → Begins p k bytes rest
  unfolding run
  begins_there [] p k f rest h e = let end : Ends d p k = text_ends p k h in ([], end.bytes, end_leaves_none p k f rest e, end.accepts)
  begins_there (b ∷ s) p k f rest h e = go (step d p k b) refl (one_goes_on d p k b) (λ q l h' e'. begins_there s q l f rest h' e')
    where
      goes : (q : Place) (l : List Open) → AllGoOn (Some (q, l)) → CanGoOn q
      goes q l (to h) = h

      go : (m : Moves) → step d p k b ≡ m → AllGoOn (step d p k b) → ((q : Place) (l : List Open) → CanGoOn q → run d q l s ≡ fault f rest → Begins q l s rest) → Begins p k (b ∷ s) rest
      go None is g later =
          let end : Ends d p k = text_ends p k h in
          let same : fault (fault_of p b) (b ∷ s) ≡ fault f rest = sym (stops d p k b s is) ∙ e in
          ([], end.bytes, (let left : b ∷ s ≡ rest = cc in left), end.accepts)
      go (Some (q, l)) is g later =
          let (front, more, cut, a) = later q l (goes q l (subst AllGoOn is g)) (sym (moves d p k b s q l is) ∙ e) in
          (b ∷ front, more, ap (λ (t : List ℕ). b ∷ t) cut, moves d p k b (front ++ more) q l is ∙ a)

  -- bytes are a text, or have a fault
  pub text_or_fault : (bytes : List ℕ) → ((v : JsonValue) × JsonText d bytes v) ⊎ ((f : Fault) × (at : ℕ) × IsFault d bytes f at)
  text_or_fault bytes = go (run d start [] bytes) refl
    where
      go : (o : Outcome) → run d start [] bytes ≡ o → ((v : JsonValue) × JsonText d bytes v) ⊎ ((f : Fault) × (at : ℕ) × IsFault d bytes f at)
      go accepted e = inl (accepted_text d bytes e)
      go (fault f rest) e =
          let (front, more, cut, a) = begins_there bytes start [] f rest tt e in
          inr (f, length bytes - length rest, is_fault d f bytes rest (length bytes - length rest) refl (record { begins = (front, more, cut, accepted_text d (front ++ more) a); fails = e }))
