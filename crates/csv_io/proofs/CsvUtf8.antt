-- UTF-8 texts, one byte at a time.
use Rattle.std.proofs.Common.{ℕ, zero, suc, ◌≡◌, ◌≢◌, ◌+◌, ◌-◌, ◌*◌, ◌/◌, ◌++◌, ◌<◌, ◌≤◌, ◌↔◌, List, [], ◌∷◌, Bool, true, false, refl, sym, ap, ◌∙◌, subst, length, take, drop, get_or, arith, append_assoc, append-nil, ltb, true≢false, ◌⊎◌, inl, inr, ⊎_elim}
use Rattle.std.proofs.lemmas.Bool.{cond-true, cond-false, lt-ltb, le-ltb, and_parts, cases_order}
use Rattle.std.proofs.lemmas.Bool.Decides.{nat_tests}
use Rattle.std.proofs.lemmas.List.{take_more, take-append-drop, take_all}
use Rattle.std.proofs.lemmas.Str.{IsUtf8-append, IsUtf8-nil, IsUtf8-encode, encode_ascii}
use Rattle.std.specs.Str.{IsUtf8, encode_utf8_all}
use lib.Utf8.{encode, next, scalar, scalars, low_scalar, scalar_cases}
use Rattle.json_read.proofs.Utf8.{encode_two, encode_three, encode_four}
use Rattle.csv_io.specs.CsvUtf8.{BeginsUtf8, EndsUtf8At, Follow, Completes, CanEnd, Continues, Stops, Expects}
use Rattle.csv_io.specs.declared.utf8.Expected.{Expected}
use Rattle.csv_io.specs.declared.utf8.Expected.TheVariants.{First, Next}

-- ## The first character of a text

record Front (bytes : List ℕ) : Type 0 where
  code : ℕ
  rest : List ℕ
  is_scalar : scalar code ≡ true
  is : bytes ≡ encode code ++ rest
  utf8 : IsUtf8 rest

front_of : (b : ℕ) (more : List ℕ) → IsUtf8 (b ∷ more) → Front (b ∷ more)
front_of b more h = go h.0 h.1.0 h.1.1
  where
    go : (cs : List ℕ) → scalars cs ≡ true → encode_utf8_all cs ≡ b ∷ more → Front (b ∷ more)
    go [] s e = absurd (true≢false (sym (ap (λ (l : List ℕ). elim l as (λ _. Bool) [ [] ↦ false | x ∷ xs ↦ true ]) e)))
    go (c ∷ cs) s e =
        let parts : (scalar c ≡ true) × (scalars cs ≡ true) = and_parts (scalar c) (scalars cs) s in
        record { code = c; rest = encode_utf8_all cs; is_scalar = parts.0; is = sym e; utf8 = (cs, (parts.1, refl)) }

two_bytes : (c : ℕ) → 128 ≤ c → c < 2048 → encode c ≡ (192 + c / 64) ∷ next c ∷ []
unfolding encode
two_bytes c a b = cond-false (ltb c 128) _ _ (le-ltb c 128 a) ∙ cond-true (ltb c 2048) _ _ (lt-ltb c 2048 b)

three_bytes : (c : ℕ) → 2048 ≤ c → c < 65536 → encode c ≡ (224 + c / 4096) ∷ next (c / 64) ∷ next c ∷ []
unfolding encode
three_bytes c a b =
    cond-false (ltb c 128) _ _ (le-ltb c 128 (omega arith)) ∙ cond-false (ltb c 2048) _ _ (le-ltb c 2048 a) ∙ cond-true (ltb c 65536) _ _ (lt-ltb c 65536 b)

four_bytes : (c : ℕ) → 65536 ≤ c → encode c ≡ (240 + c / 262144) ∷ next (c / 4096) ∷ next (c / 64) ∷ next c ∷ []
unfolding encode
four_bytes c a =
    cond-false (ltb c 128) _ _ (le-ltb c 128 (omega arith)) ∙ cond-false (ltb c 2048) _ _ (le-ltb c 2048 (omega arith)) ∙ cond-false (ltb c 65536) _ _ (le-ltb c 65536 a)

-- ## A text by the size of its first character

record One (b : ℕ) (more : List ℕ) : Type 0 where
  below : b < 128
  utf8 : IsUtf8 more

record Two (b : ℕ) (more : List ℕ) : Type 0 where
  code : ℕ
  rest : List ℕ
  least : 128 ≤ code
  below : code < 2048
  first : b ≡ 192 + code / 64
  others : more ≡ next code ∷ rest
  utf8 : IsUtf8 rest

record Three (b : ℕ) (more : List ℕ) : Type 0 where
  code : ℕ
  rest : List ℕ
  least : 2048 ≤ code
  below : code < 65536
  apart : (code < 55296) ⊎ (57344 ≤ code)
  first : b ≡ 224 + code / 4096
  others : more ≡ next (code / 64) ∷ next code ∷ rest
  utf8 : IsUtf8 rest

record Four (b : ℕ) (more : List ℕ) : Type 0 where
  code : ℕ
  rest : List ℕ
  least : 65536 ≤ code
  below : code < 1114112
  first : b ≡ 240 + code / 262144
  others : more ≡ next (code / 4096) ∷ next (code / 64) ∷ next code ∷ rest
  utf8 : IsUtf8 rest

head_same : (x y : ℕ) (xs ys : List ℕ) → x ∷ xs ≡ y ∷ ys → x ≡ y
head_same x y xs ys e = ap (λ (l : List ℕ). get_or l 0 0) e

abbrev rest_of : List ℕ → List ℕ
rest_of [] = []
rest_of (x ∷ xs) = xs

tail_same : (x y : ℕ) (xs ys : List ℕ) → x ∷ xs ≡ y ∷ ys → xs ≡ ys
tail_same x y xs ys e = ap rest_of e

abbrev Sized : ℕ → List ℕ → Type 0
Sized b more = One b more ⊎ (Two b more ⊎ (Three b more ⊎ Four b more))

front_sized : (b : ℕ) (more : List ℕ) → Front (b ∷ more) → Sized b more
front_sized b more f = ⊎_elim one (λ l. ⊎_elim (two l) (λ m. ⊎_elim (three m) four (order 65536)) (order 2048)) (order 128)
  where
    c : ℕ
    c = f.code

    order : (n : ℕ) → (c < n) ⊎ (n ≤ c)
    order n = ⊎_elim (λ e. inr (omega (arith, e))) (⊎_elim (λ l. inl l) (λ g. inr (omega (arith, g)))) (cases_order c n)

    begins : (x : ℕ) (xs : List ℕ) → encode c ≡ x ∷ xs → (b ≡ x) × (more ≡ xs ++ f.rest)
    begins x xs e =
        let same : b ∷ more ≡ x ∷ (xs ++ f.rest) = f.is ∙ ap (λ (l : List ℕ). l ++ f.rest) e in
        (head_same b x more (xs ++ f.rest) same, tail_same b x more (xs ++ f.rest) same)

    one : c < 128 → Sized b more
    one l =
        let p : (b ≡ c) × (more ≡ f.rest) = begins c [] (encode_ascii c l) in
        let e : b ≡ c = p.0 in
        inl (record { below = omega (arith, e, l); utf8 = subst IsUtf8 (sym p.1) f.utf8 })

    two : 128 ≤ c → c < 2048 → Sized b more
    two a l =
        let p : (b ≡ 192 + c / 64) × (more ≡ next c ∷ f.rest) = begins (192 + c / 64) (next c ∷ []) (two_bytes c a l) in
        inr (inl (record { code = c; rest = f.rest; least = a; below = l; first = p.0; others = p.1; utf8 = f.utf8 }))

    three : 2048 ≤ c → c < 65536 → Sized b more
    three a l =
        let p : (b ≡ 224 + c / 4096) × (more ≡ next (c / 64) ∷ next c ∷ f.rest) = begins (224 + c / 4096) (next (c / 64) ∷ next c ∷ []) (three_bytes c a l) in
        let parts : (c < 55296) ⊎ ((57344 ≤ c) × (c < 1114112)) = scalar_cases c f.is_scalar in
        inr (inr (inl (record { code = c; rest = f.rest; least = a; below = l; apart = ⊎_elim (λ k. inl k) (λ k. inr k.0) parts; first = p.0; others = p.1; utf8 = f.utf8 })))

    four : 65536 ≤ c → Sized b more
    four a =
        let p : (b ≡ 240 + c / 262144) × (more ≡ next (c / 4096) ∷ next (c / 64) ∷ next c ∷ f.rest) = begins (240 + c / 262144) (next (c / 4096) ∷ next (c / 64) ∷ next c ∷ []) (four_bytes c a) in
        let l : c < 1114112 = ⊎_elim (λ k. omega (arith, k, a)) (λ k. k.1) (scalar_cases c f.is_scalar) in
        inr (inr (inr (record { code = c; rest = f.rest; least = a; below = l; first = p.0; others = p.1; utf8 = f.utf8 })))

sized : (b : ℕ) (more : List ℕ) → IsUtf8 (b ∷ more) → Sized b more
sized b more h = front_sized b more (front_of b more h)

-- ## What may follow a first byte

scalar_above : (c : ℕ) → 57344 ≤ c → c < 1114112 → scalar c ≡ true
scalar_above c h g = grind (arith, nat_tests)

pub first_of_one : (b : ℕ) → b < 128 → Continues First b First
first_of_one b l = (λ more. (forth more, back more), ([], IsUtf8-nil))
  where
    forth : (more : List ℕ) → IsUtf8 (b ∷ more) → IsUtf8 more
    forth more h = ⊎_elim (λ p. p.utf8)
        (⊎_elim (λ p. let e : b ≡ 192 + p.code / 64 = p.first in absurd (omega (arith, e, l)))
        (⊎_elim (λ p. let e : b ≡ 224 + p.code / 4096 = p.first in absurd (omega (arith, e, l)))
        (λ p. let e : b ≡ 240 + p.code / 262144 = p.first in absurd (omega (arith, e, l))))) (sized b more h)

    back : (more : List ℕ) → IsUtf8 more → IsUtf8 (b ∷ more)
    back more h = IsUtf8-append (b ∷ []) more (subst IsUtf8 (encode_ascii b l) (IsUtf8-encode b (low_scalar b (omega (arith, l))))) h

-- a first byte of no character
pub first_of_none : (b : ℕ) → 128 ≤ b → (b < 194) ⊎ (244 < b) → Stops First b
first_of_none b a out more h = ⊎_elim
    (λ p. let e : b < 128 = p.below in absurd (omega (arith, e, a)))
    (⊎_elim (λ p.
    let e : b ≡ 192 + p.code / 64 = p.first in let l : 128 ≤ p.code = p.least in let m : p.code < 2048 = p.below in
    ⊎_elim (λ o. absurd (omega (arith, e, l, o))) (λ o. absurd (omega (arith, e, m, o))) out)
    (⊎_elim (λ p.
    let e : b ≡ 224 + p.code / 4096 = p.first in let m : p.code < 65536 = p.below in
    ⊎_elim (λ o. absurd (omega (arith, e, o))) (λ o. absurd (omega (arith, e, m, o))) out)
    (λ p.
    let e : b ≡ 240 + p.code / 262144 = p.first in let m : p.code < 1114112 = p.below in
    ⊎_elim (λ o. absurd (omega (arith, e, o))) (λ o. absurd (omega (arith, e, m, o))) out))) (sized b more h)

can_follow : (n : ℕ) → (more : List ℕ) × Follow n more
can_follow zero = ([], IsUtf8-nil)
can_follow (suc n) = let r : (more : List ℕ) × Follow n more = can_follow n in (128 ∷ r.0, (omega arith, omega arith, r.1))

-- a byte from low on, below high, and then n bytes from 128 to 191
pub can_end : (low high n : ℕ) → low < high → CanEnd (Next low high n)
can_end low high n l = let r : (more : List ℕ) × Follow n more = can_follow n in (low ∷ r.0, (omega arith, l, r.1))

next_low : (c : ℕ) → 128 ≤ next c
next_low c = omega arith

next_high : (c : ℕ) → next c < 192
next_high c = omega arith

back_128 : (x : ℕ) → 128 ≤ x → x - 128 + 128 ≡ x
back_128 x h = omega (arith, h)

two_text : (b x : ℕ) (xs : List ℕ) → 194 ≤ b → b < 224 → 128 ≤ x → x < 192 → IsUtf8 xs → IsUtf8 (b ∷ x ∷ xs)
two_text b x xs l g xl xg h =
    let eb : b - 192 + 192 ≡ b = omega (arith, l) in
    let ex : x - 128 + 128 ≡ x = back_128 x xl in
    let bytes : encode ((b - 192) * 64 + (x - 128)) ≡ b ∷ x ∷ [] = encode_two (b - 192) (x - 128) (omega (arith, l)) (omega (arith, l, g)) (omega (arith, xl, xg)) ∙ (λ i. eb i ∷ ex i ∷ []) in
    let is : scalar ((b - 192) * 64 + (x - 128)) ≡ true = low_scalar ((b - 192) * 64 + (x - 128)) (omega (arith, l, g, xl, xg)) in
    IsUtf8-append (b ∷ x ∷ []) xs (subst IsUtf8 bytes (IsUtf8-encode ((b - 192) * 64 + (x - 128)) is)) h

pub first_of_two : (b : ℕ) → 194 ≤ b → b < 224 → Continues First b (Next 128 192 0)
first_of_two b l g = (λ more. (forth more, back more), can_end 128 192 0 (omega arith))
  where
    forth : (more : List ℕ) → IsUtf8 (b ∷ more) → Completes (Next 128 192 0) more
    forth more h = ⊎_elim
        (λ p. let e : b < 128 = p.below in absurd (omega (arith, e, l)))
        (⊎_elim (λ p. subst (Completes (Next 128 192 0)) (sym p.others) (next_low p.code, next_high p.code, p.utf8))
        (⊎_elim (λ p. let e : b ≡ 224 + p.code / 4096 = p.first in absurd (omega (arith, e, g)))
        (λ p. let e : b ≡ 240 + p.code / 262144 = p.first in absurd (omega (arith, e, g))))) (sized b more h)

    back : (more : List ℕ) → Completes (Next 128 192 0) more → IsUtf8 (b ∷ more)
    back [] h = absurd h
    back (x ∷ xs) h = two_text b x xs l g h.0 h.1 h.2

order_of : (b n : ℕ) → (b ≡ n) ⊎ (b ≢ n)
order_of b n = ⊎_elim (λ e. inl e) (⊎_elim (λ l. inr (λ e. omega (arith, l, e))) (λ g. inr (λ e. omega (arith, g, e)))) (cases_order b n)

three_text : (b x y : ℕ) (xs : List ℕ) → 224 ≤ b → b < 240 → (b ≡ 224 → 160 ≤ x) → (b ≡ 237 → x < 160) → 128 ≤ x → x < 192 → 128 ≤ y → y < 192 → IsUtf8 xs → IsUtf8 (b ∷ x ∷ y ∷ xs)
three_text b x y xs l g low high xl xg yl yg h =
    let eb : b - 224 + 224 ≡ b = omega (arith, l) in
    let ex : x - 128 + 128 ≡ x = back_128 x xl in
    let ey : y - 128 + 128 ≡ y = back_128 y yl in
    let up : 32 ≤ (b - 224) * 64 + (x - 128) = ⊎_elim (λ e. let m : 160 ≤ x = low e in omega (arith, m)) (λ n. omega (arith, n, l)) (order_of b 224) in
    let bytes : encode (((b - 224) * 64 + (x - 128)) * 64 + (y - 128)) ≡ b ∷ x ∷ y ∷ [] = encode_three (b - 224) (x - 128) (y - 128) up (omega (arith, l, g)) (omega (arith, xl, xg)) (omega (arith, yl, yg)) ∙ (λ i. eb i ∷ ex i ∷ ey i ∷ []) in
    let is : scalar (((b - 224) * 64 + (x - 128)) * 64 + (y - 128)) ≡ true = three_scalar in
    IsUtf8-append (b ∷ x ∷ y ∷ []) xs (subst IsUtf8 bytes (IsUtf8-encode (((b - 224) * 64 + (x - 128)) * 64 + (y - 128)) is)) h
  where
    three_scalar : scalar (((b - 224) * 64 + (x - 128)) * 64 + (y - 128)) ≡ true
    three_scalar = ⊎_elim
        (λ e. let m : x < 160 = high e in low_scalar (((b - 224) * 64 + (x - 128)) * 64 + (y - 128)) (omega (arith, e, m, xl, yl, yg)))
        (⊎_elim
        (λ k. low_scalar (((b - 224) * 64 + (x - 128)) * 64 + (y - 128)) (omega (arith, k, l, xl, xg, yl, yg)))
        (λ k. scalar_above (((b - 224) * 64 + (x - 128)) * 64 + (y - 128)) (omega (arith, k)) (omega (arith, l, g, xl, xg, yl, yg))))
        (cases_order b 237)

pub first_of_three : (b low high : ℕ) → 224 ≤ b → b < 240 → (b ≡ 224 → low ≡ 160) → (b ≢ 224 → low ≡ 128) → (b ≡ 237 → high ≡ 160) → (b ≢ 237 → high ≡ 192) → Continues First b (Next low high 1)
first_of_three b low high l g low_at low_else high_at high_else = (λ more. (forth more, back more), can_end low high 1 ends)
  where
    low_is : (low ≡ 160) ⊎ (low ≡ 128)
    low_is = ⊎_elim (λ e. inl (low_at e)) (λ n. inr (low_else n)) (order_of b 224)

    high_is : (high ≡ 160) ⊎ (high ≡ 192)
    high_is = ⊎_elim (λ e. inl (high_at e)) (λ n. inr (high_else n)) (order_of b 237)

    ends : low < high
    ends = ⊎_elim
        (λ e. let k : low ≡ 160 = low_at e in let m : high ≡ 192 = high_else (λ d. omega (arith, e, d)) in omega (arith, k, m))
        (λ n. let k : low ≡ 128 = low_else n in ⊎_elim (λ m. omega (arith, k, m)) (λ m. omega (arith, k, m)) high_is) (order_of b 224)

    inside : (c : ℕ) → 2048 ≤ c → (c < 55296) ⊎ (57344 ≤ c) → b ≡ 224 + c / 4096 → (low ≤ next (c / 64)) × (next (c / 64) < high)
    inside c a apart first = (
      ⊎_elim (λ e. let k : low ≡ 160 = low_at e in omega (arith, k, e, first, a)) (λ n. let k : low ≡ 128 = low_else n in omega (arith, k)) (order_of b 224),
      ⊎_elim (λ e. let k : high ≡ 160 = high_at e in ⊎_elim (λ s. omega (arith, k, e, first, s)) (λ s. absurd (omega (arith, e, first, s))) apart) (λ n. let k : high ≡ 192 = high_else n in omega (arith, k)) (order_of b 237),
    )

    forth : (more : List ℕ) → IsUtf8 (b ∷ more) → Completes (Next low high 1) more
    forth more h = ⊎_elim
        (λ p. let e : b < 128 = p.below in absurd (omega (arith, e, l)))
        (⊎_elim (λ p. let e : b ≡ 192 + p.code / 64 = p.first in let m : p.code < 2048 = p.below in absurd (omega (arith, e, l, m)))
        (⊎_elim (λ p.
        let i : (low ≤ next (p.code / 64)) × (next (p.code / 64) < high) = inside p.code p.least p.apart p.first in
        subst (Completes (Next low high 1)) (sym p.others) (i.0, i.1, (next_low p.code, next_high p.code, p.utf8)))
        (λ p. let e : b ≡ 240 + p.code / 262144 = p.first in absurd (omega (arith, e, g))))) (sized b more h)

    back : (more : List ℕ) → Completes (Next low high 1) more → IsUtf8 (b ∷ more)
    back [] h = absurd h
    back (x ∷ []) h = absurd h.2
    back (x ∷ y ∷ xs) h =
        let xl : low ≤ x = h.0 in
        let xg : x < high = h.1 in
        three_text b x y xs l g
        (λ e. let k : low ≡ 160 = low_at e in omega (arith, k, xl))
        (λ e. let k : high ≡ 160 = high_at e in omega (arith, k, xg))
        (⊎_elim (λ k. omega (arith, k, xl)) (λ k. omega (arith, k, xl)) low_is)
        (⊎_elim (λ k. omega (arith, k, xg)) (λ k. omega (arith, k, xg)) high_is)
        h.2.0 h.2.1 h.2.2

four_text : (b x y z : ℕ) (xs : List ℕ) → 240 ≤ b → b < 245 → (b ≡ 240 → 144 ≤ x) → (b ≡ 244 → x < 144) → 128 ≤ x → x < 192 → 128 ≤ y → y < 192 → 128 ≤ z → z < 192 → IsUtf8 xs → IsUtf8 (b ∷ x ∷ y ∷ z ∷ xs)
four_text b x y z xs l g low high xl xg yl yg zl zg h =
    let eb : b - 240 + 240 ≡ b = omega (arith, l) in
    let ex : x - 128 + 128 ≡ x = back_128 x xl in
    let ey : y - 128 + 128 ≡ y = back_128 y yl in
    let ez : z - 128 + 128 ≡ z = back_128 z zl in
    let up : 16 ≤ (b - 240) * 64 + (x - 128) = ⊎_elim (λ e. let m : 144 ≤ x = low e in omega (arith, m)) (λ n. omega (arith, n, l)) (order_of b 240) in
    let down : (b - 240) * 64 + (x - 128) < 272 = ⊎_elim (λ e. let m : x < 144 = high e in omega (arith, e, m)) (λ n. omega (arith, n, g, xl, xg)) (order_of b 244) in
    let c : ℕ = (((b - 240) * 64 + (x - 128)) * 64 + (y - 128)) * 64 + (z - 128) in
    let bytes : encode ((((b - 240) * 64 + (x - 128)) * 64 + (y - 128)) * 64 + (z - 128)) ≡ b ∷ x ∷ y ∷ z ∷ [] = encode_four (b - 240) (x - 128) (y - 128) (z - 128) up (omega (arith, l, g)) (omega (arith, xl, xg)) (omega (arith, yl, yg)) (omega (arith, zl, zg)) ∙ (λ i. eb i ∷ ex i ∷ ey i ∷ ez i ∷ []) in
    let is : scalar ((((b - 240) * 64 + (x - 128)) * 64 + (y - 128)) * 64 + (z - 128)) ≡ true = scalar_above ((((b - 240) * 64 + (x - 128)) * 64 + (y - 128)) * 64 + (z - 128)) (omega (arith, up)) (omega (arith, down, yl, yg, zl, zg)) in
    IsUtf8-append (b ∷ x ∷ y ∷ z ∷ []) xs (subst IsUtf8 bytes (IsUtf8-encode ((((b - 240) * 64 + (x - 128)) * 64 + (y - 128)) * 64 + (z - 128)) is)) h

pub first_of_four : (b low high : ℕ) → 240 ≤ b → b < 245 → (b ≡ 240 → low ≡ 144) → (b ≢ 240 → low ≡ 128) → (b ≡ 244 → high ≡ 144) → (b ≢ 244 → high ≡ 192) → Continues First b (Next low high 2)
first_of_four b low high l g low_at low_else high_at high_else = (λ more. (forth more, back more), can_end low high 2 ends)
  where
    low_is : (low ≡ 144) ⊎ (low ≡ 128)
    low_is = ⊎_elim (λ e. inl (low_at e)) (λ n. inr (low_else n)) (order_of b 240)

    high_is : (high ≡ 144) ⊎ (high ≡ 192)
    high_is = ⊎_elim (λ e. inl (high_at e)) (λ n. inr (high_else n)) (order_of b 244)

    ends : low < high
    ends = ⊎_elim
        (λ e. let k : low ≡ 144 = low_at e in let m : high ≡ 192 = high_else (λ d. omega (arith, e, d)) in omega (arith, k, m))
        (λ n. let k : low ≡ 128 = low_else n in ⊎_elim (λ m. omega (arith, k, m)) (λ m. omega (arith, k, m)) high_is) (order_of b 240)

    inside : (c : ℕ) → 65536 ≤ c → c < 1114112 → b ≡ 240 + c / 262144 → (low ≤ next (c / 4096)) × (next (c / 4096) < high)
    inside c a m first = (
      ⊎_elim (λ e. let k : low ≡ 144 = low_at e in omega (arith, k, e, first, a)) (λ n. let k : low ≡ 128 = low_else n in omega (arith, k)) (order_of b 240),
      ⊎_elim (λ e. let k : high ≡ 144 = high_at e in omega (arith, k, e, first, m)) (λ n. let k : high ≡ 192 = high_else n in omega (arith, k)) (order_of b 244),
    )

    forth : (more : List ℕ) → IsUtf8 (b ∷ more) → Completes (Next low high 2) more
    forth more h = ⊎_elim
        (λ p. let e : b < 128 = p.below in absurd (omega (arith, e, l)))
        (⊎_elim (λ p. let e : b ≡ 192 + p.code / 64 = p.first in let m : p.code < 2048 = p.below in absurd (omega (arith, e, l, m)))
        (⊎_elim (λ p. let e : b ≡ 224 + p.code / 4096 = p.first in let m : p.code < 65536 = p.below in absurd (omega (arith, e, l, m)))
        (λ p.
        let i : (low ≤ next (p.code / 4096)) × (next (p.code / 4096) < high) = inside p.code p.least p.below p.first in
        subst (Completes (Next low high 2)) (sym p.others) (i.0, i.1, (next_low (p.code / 64), next_high (p.code / 64), (next_low p.code, next_high p.code, p.utf8)))))) (sized b more h)

    back : (more : List ℕ) → Completes (Next low high 2) more → IsUtf8 (b ∷ more)
    back [] h = absurd h
    back (x ∷ []) h = absurd h.2
    back (x ∷ y ∷ []) h = absurd h.2.2
    back (x ∷ y ∷ z ∷ xs) h =
        let xl : low ≤ x = h.0 in
        let xg : x < high = h.1 in
        four_text b x y z xs l g
        (λ e. let k : low ≡ 144 = low_at e in omega (arith, k, xl))
        (λ e. let k : high ≡ 144 = high_at e in omega (arith, k, xg))
        (⊎_elim (λ k. omega (arith, k, xl)) (λ k. omega (arith, k, xl)) low_is)
        (⊎_elim (λ k. omega (arith, k, xg)) (λ k. omega (arith, k, xg)) high_is)
        h.2.0 h.2.1 h.2.2.0 h.2.2.1 h.2.2.2

-- ## What follows later bytes

pub follow_next : (m : ℕ) (bytes : List ℕ) → Follow (suc m) bytes ↔ Completes (Next 128 192 m) bytes
follow_next m [] = (λ h. h, λ h. h)
follow_next m (b ∷ bytes) = (λ h. h, λ h. h)

pub follow_less : (n m : ℕ) → n ≡ suc m → (bytes : List ℕ) → Follow n bytes ↔ Completes (Next 128 192 m) bytes
follow_less n m e bytes = subst (λ (k : ℕ). Follow k bytes ↔ Completes (Next 128 192 m) bytes) (sym e) (follow_next m bytes)

-- ## A text up to some place

one_more : (bytes : List ℕ) (i b : ℕ) → i < length bytes → b ≡ get_or bytes i 0 → (more : List ℕ) → take (i + 1) bytes ++ more ≡ take i bytes ++ (b ∷ more)
one_more bytes i b less is more =
    ap (λ (l : List ℕ). l ++ more) (take_more bytes i 0 less) ∙ append_assoc (take i bytes) (get_or bytes i 0 ∷ []) more
    ∙ ap (λ (x : ℕ). take i bytes ++ (x ∷ more)) (sym is)

pub expects_more : (bytes : List ℕ) (i b : ℕ) (e next : Expected) → i < length bytes → b ≡ get_or bytes i 0 → Expects (take i bytes) e → Continues e b next → Expects (take (i + 1) bytes) next
expects_more bytes i b e next less is before step = (
  λ more. (
    λ h. (step.0 more).0 ((before.0 (b ∷ more)).0 (subst IsUtf8 (one_more bytes i b less is more) h)),
    λ h. subst IsUtf8 (sym (one_more bytes i b less is more)) ((before.0 (b ∷ more)).1 ((step.0 more).1 h)),
  ),
  step.1,
)

take_past : (i n : ℕ) (bytes : List ℕ) → i ≤ n → (rest : List ℕ) × (take n bytes ≡ take i bytes ++ rest)
take_past zero n bytes h = (take n bytes, refl)
take_past (suc i) zero bytes h = absurd (omega arith)
take_past (suc i) (suc n) [] h = ([], refl)
take_past (suc i) (suc n) (b ∷ bytes) h = let r : (rest : List ℕ) × (take n bytes ≡ take i bytes ++ rest) = take_past i n bytes (omega arith) in (r.0, ap (λ (l : List ℕ). b ∷ l) r.1)

pub expects_not : (bytes : List ℕ) (i b : ℕ) (e : Expected) → i < length bytes → b ≡ get_or bytes i 0 → Expects (take i bytes) e → Stops e b → EndsUtf8At bytes i
expects_not bytes i b e less is before stop = (
  λ h. never (drop (i + 1) bytes) (subst IsUtf8 (sym (take-append-drop (i + 1) bytes)) h),
  omega arith,
  (before.1.0, (before.0 before.1.0).1 before.1.1),
  longer,
)
  where
    never : (more : List ℕ) → ¬ (IsUtf8 (take (i + 1) bytes ++ more))
    never more h = stop more ((before.0 (b ∷ more)).0 (subst IsUtf8 (one_more bytes i b less is more) h))

    longer : (n : ℕ) → i < n → n ≤ length bytes → ¬ (BeginsUtf8 (take n bytes))
    longer n l m h =
        let r : (rest : List ℕ) × (take n bytes ≡ take (i + 1) bytes ++ rest) = take_past (i + 1) n bytes (omega arith) in
        never (r.0 ++ h.0) (subst IsUtf8 (ap (λ (z : List ℕ). z ++ h.0) r.1 ∙ append_assoc (take (i + 1) bytes) r.0 h.0) h.1)

pub expects_end : (bytes : List ℕ) (n : ℕ) → length bytes ≤ n → Expects (take n bytes) First → IsUtf8 bytes
expects_end bytes n all before = subst IsUtf8 (append-nil (take n bytes) ∙ take_all n bytes all) ((before.0 []).1 IsUtf8-nil)

pub expects_next : (bytes : List ℕ) (n low high k : ℕ) → length bytes ≤ n → Expects (take n bytes) (Next low high k) → EndsUtf8At bytes (length bytes)
expects_next bytes n low high k all before = (
  λ h. (before.0 []).0 (subst IsUtf8 (sym (append-nil (take n bytes) ∙ take_all n bytes all)) h),
  omega arith,
  (before.1.0, subst (λ (z : List ℕ). IsUtf8 (z ++ before.1.0)) (take_all n bytes all ∙ sym (take_all (length bytes) bytes (omega arith))) ((before.0 before.1.0).1 before.1.1)),
  λ m l g h. omega (arith, l, g),
)
