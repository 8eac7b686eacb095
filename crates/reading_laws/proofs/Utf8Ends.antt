-- Bytes are a UTF-8 text, or stop at some place to begin one.
use Rattle.std.proofs.Common.{ℕ, zero, suc, ◌≡◌, ◌+◌, ◌++◌, ◌<◌, ◌≤◌, ◌↔◌, List, [], ◌∷◌, Option, Some, None, MatchOption, refl, ap, sym, subst, ◌∙◌, length, take, drop, get_or, arith, append_assoc, append-nil, ◌⊎◌, inl, inr, ⊎_elim, cond, eqb}
use Rattle.std.specs.Prelude.{IsUtf8}
use Rattle.std.proofs.lemmas.Bool.{cases_lt, cond-true, cond-false, eq-eqb, ne_eqb}
use Rattle.std.proofs.lemmas.List.{take_more, take-append-drop, take_all}
use Rattle.std.proofs.lemmas.Str.{IsUtf8-nil}
use Rattle.csv_io.specs.CsvUtf8.{BeginsUtf8, EndsUtf8At, Follow}
use Rattle.csv_io.proofs.CsvUtf8.{can_end, first_of_four, first_of_none, first_of_one, first_of_three, first_of_two}

-- what may come next: a character, or a byte from low up to high and then a number of bytes from 128 to 191
data Next : Type 0 where
  first : Next
  between : ℕ → ℕ → ℕ → Next

abbrev Completes : Next → List ℕ → Type 0
Completes first more = IsUtf8 more
Completes (between low high n) [] = ⊥
Completes (between low high n) (b ∷ more) = (low ≤ b) × (b < high) × Follow n more

abbrev CanEnd : Next → Type 0
CanEnd e = (more : List ℕ) × Completes e more

abbrev Continues : Next → ℕ → Next → Type 0
Continues e b later = ((more : List ℕ) → Completes e (b ∷ more) ↔ Completes later more) × CanEnd later

abbrev Stops : Next → ℕ → Type 0
Stops e b = (more : List ℕ) → Completes e (b ∷ more) → ⊥

-- ## A byte comes, or may not come

abbrev Goes : Next → ℕ → Type 0
Goes e b = ((later : Next) × Continues e b later) ⊎ Stops e b

abbrev bound : ℕ → ℕ → ℕ → ℕ → ℕ
bound b at special other = cond (eqb b at) special other

at_special : (b at special other : ℕ) → b ≡ at → bound b at special other ≡ special
at_special b at special other e = cond-true (eqb b at) special other (eq-eqb b at e)

at_other : (b at special other : ℕ) → (b ≡ at → ⊥) → bound b at special other ≡ other
at_other b at special other n = cond-false (eqb b at) special other (ne_eqb b at n)

three_goes : (b : ℕ) → 224 ≤ b → b < 240 → Goes first b
three_goes b g l =
    let low : ℕ = bound b 224 160 128 in
    let high : ℕ = bound b 237 160 192 in
    inl (between low high 1, first_of_three b low high g l (at_special b 224 160 128) (at_other b 224 160 128) (at_special b 237 160 192) (at_other b 237 160 192))

four_goes : (b : ℕ) → 240 ≤ b → b < 245 → Goes first b
four_goes b g l =
    let low : ℕ = bound b 240 144 128 in
    let high : ℕ = bound b 244 144 192 in
    inl (between low high 2, first_of_four b low high g l (at_special b 240 144 128) (at_other b 240 144 128) (at_special b 244 144 192) (at_other b 244 144 192))

first_goes : (b : ℕ) → Goes first b
first_goes b = ⊎_elim (λ l. inl (first, first_of_one b l)) (λ g.
    ⊎_elim (λ l. inr (first_of_none b g (inl l))) (λ g2.
    ⊎_elim (λ l. inl (between 128 192 0, first_of_two b g2 l)) (λ g3.
    ⊎_elim (λ l. three_goes b g3 l) (λ g4.
    ⊎_elim (λ l. four_goes b g4 l) (λ g5. inr (first_of_none b g (inr (omega (arith, g5)))))
    (cases_lt b 245)) (cases_lt b 240)) (cases_lt b 224)) (cases_lt b 194)) (cases_lt b 128)

inside_goes : (low high n b : ℕ) → low ≤ b → b < high → Goes (between low high n) b
inside_goes low high zero b g l = inl (first, (λ more. (λ h. h.2, λ h. (g, l, h)), ([], IsUtf8-nil)))
inside_goes low high (suc n) b g l = inl (between 128 192 n, (same, can_end 128 192 n (omega arith)))
  where
    same : (more : List ℕ) → Completes (between low high (suc n)) (b ∷ more) ↔ Completes (between 128 192 n) more
    same [] = (λ h. h.2, λ h. (g, l, h))
    same (x ∷ more) = (λ h. h.2, λ h. (g, l, h))

goes : (e : Next) (b : ℕ) → Goes e b
goes first b = first_goes b
goes (between low high n) b = ⊎_elim
    (λ l. inr (λ more h. omega (arith, l, h.0)))
    (λ g. ⊎_elim (λ l. inside_goes low high n b g l) (λ m. inr (λ more h. omega (arith, m, h.1))) (cases_lt b high)) (cases_lt b low)

-- ## All bytes

-- after bytes that were read comes what is expected
abbrev Expects : List ℕ → Next → Type 0
Expects bytes e = ((more : List ℕ) → IsUtf8 (bytes ++ more) ↔ Completes e more) × CanEnd e

abbrev EndsAt : List ℕ → Type 0
EndsAt bytes = (o : Option ℕ) × MatchOption o (IsUtf8 bytes) (EndsUtf8At bytes)

take_past : (i n : ℕ) (bytes : List ℕ) → i ≤ n → (rest : List ℕ) × (take n bytes ≡ take i bytes ++ rest)
take_past zero n bytes h = (take n bytes, refl)
take_past (suc i) zero bytes h = absurd (omega arith)
take_past (suc i) (suc n) [] h = ([], refl)
take_past (suc i) (suc n) (b ∷ bytes) h = let r : (rest : List ℕ) × (take n bytes ≡ take i bytes ++ rest) = take_past i n bytes (omega arith) in (r.0, ap (λ (l : List ℕ). b ∷ l) r.1)

module _ (bytes : List ℕ) (i : ℕ) where
  abbrev next : ℕ
  next = get_or bytes i 0

  one_more : i < length bytes → (more : List ℕ) → take (i + 1) bytes ++ more ≡ take i bytes ++ (next ∷ more)
  one_more less more = ap (λ (l : List ℕ). l ++ more) (take_more bytes i 0 less) ∙ append_assoc (take i bytes) (next ∷ []) more

  expects_more : (e later : Next) → i < length bytes → Expects (take i bytes) e → Continues e next later → Expects (take (i + 1) bytes) later
  expects_more e later less before step = (
    λ more. (
      λ h. (step.0 more).0 ((before.0 (next ∷ more)).0 (subst IsUtf8 (one_more less more) h)),
      λ h. subst IsUtf8 (sym (one_more less more)) ((before.0 (next ∷ more)).1 ((step.0 more).1 h)),
    ),
    step.1,
  )

  expects_not : (e : Next) → i < length bytes → Expects (take i bytes) e → Stops e next → EndsUtf8At bytes i
  expects_not e less before stop = (
    λ h. never (drop (i + 1) bytes) (subst IsUtf8 (sym (take-append-drop (i + 1) bytes)) h),
    omega arith,
    (before.1.0, (before.0 before.1.0).1 before.1.1),
    longer,
  )
    where
      never : (more : List ℕ) → IsUtf8 (take (i + 1) bytes ++ more) → ⊥
      never more h = stop more ((before.0 (next ∷ more)).0 (subst IsUtf8 (one_more less more) h))

      longer : (n : ℕ) → i < n → n ≤ length bytes → BeginsUtf8 (take n bytes) → ⊥
      longer n l m h =
          let r : (rest : List ℕ) × (take n bytes ≡ take (i + 1) bytes ++ rest) = take_past (i + 1) n bytes (omega arith) in
          never (r.0 ++ h.0) (subst IsUtf8 (ap (λ (z : List ℕ). z ++ h.0) r.1 ∙ append_assoc (take (i + 1) bytes) r.0 h.0) h.1)

  expects_end : length bytes ≤ i → Expects (take i bytes) first → IsUtf8 bytes
  expects_end all before = subst IsUtf8 (append-nil (take i bytes) ∙ take_all i bytes all) ((before.0 []).1 IsUtf8-nil)

  expects_next : (low high n : ℕ) → length bytes ≤ i → Expects (take i bytes) (between low high n) → EndsUtf8At bytes (length bytes)
  expects_next low high n all before = (
    λ h. (before.0 []).0 (subst IsUtf8 (sym (append-nil (take i bytes) ∙ take_all i bytes all)) h),
    omega arith,
    (before.1.0, subst (λ (z : List ℕ). IsUtf8 (z ++ before.1.0)) (take_all i bytes all ∙ sym (take_all (length bytes) bytes (omega arith))) ((before.0 before.1.0).1 before.1.1)),
    λ m l g h. omega (arith, l, g),
  )

-- where bytes end a text, of which the first i are read and `left` are left
ends_after : (bytes : List ℕ) (left i : ℕ) (e : Next) → i + left ≡ length bytes → Expects (take i bytes) e → EndsAt bytes
ends_after bytes zero i first size h = (None, expects_end bytes i (omega (arith, size)) h)
ends_after bytes zero i (between low high n) size h = (Some (length bytes), expects_next bytes i low high n (omega (arith, size)) h)
ends_after bytes (suc left) i e size h = ⊎_elim
    (λ s. ends_after bytes left (i + 1) s.0 (omega (arith, size)) (expects_more bytes i e s.0 (omega (arith, size)) h s.1))
    (λ s. (Some i, expects_not bytes i e (omega (arith, size)) h s)) (goes e (get_or bytes i 0))

pub utf8_end : (bytes : List ℕ) → EndsAt bytes
utf8_end bytes = ends_after bytes (length bytes) 0 first (omega arith) (λ more. (λ h. h, λ h. h), ([], IsUtf8-nil))
