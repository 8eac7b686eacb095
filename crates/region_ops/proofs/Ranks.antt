-- A rule ranks the sets in a line: no two before each other, and of two one before the other.
use Rattle.std.proofs.Common.{◌≡◌, ◌⊎◌, inl, inr, arith, ℕ, ◌<◌, ◌≤◌, true, false, not, ◌&&◌, ℤ, ◌≤ℤ◌, ◌<ℤ◌, int_lt, nat_lt}
use Rattle.std.proofs.lemmas.Bool.{cases_lt, ltb-true, lt-ltb, false_from_ne_true, not-true, not_from_false, and_from, and_parts}
use Rattle.std.proofs.lemmas.Int.{ints}
use Rattle.plane_algebra.proofs.Order.{order_cases}
use Rattle.plane_algebra.proofs.Tests.{lt_from, lt_to, or_cases, or_first, or_second}
use Rattle.grid_base.specs.declared.kinds.OverlapRule.{OverlapRule}
use Rattle.grid_base.specs.declared.kinds.OverlapRule.TheVariants.{MinId, MaxId, MinArea, MaxArea}
use Rattle.region_ops.specs.Cleaned.{by_size, ranks_before}

-- the lesser area, or not the greater one and the lower number
abbrev Lesser : ℤ → ℕ → ℤ → ℕ → Type 0
Lesser a m b n = (a <ℤ b) ⊎ ((a ≤ℤ b) × (m < n))

size_lesser : (a b : ℤ) (m n : ℕ) → by_size (int_lt a b) (int_lt b a) (nat_lt m n) ≡ true → Lesser a m b n
size_lesser a b m n e = or_cases (int_lt a b) (not (int_lt b a) && nat_lt m n) e (λ f. inl (lt_from a b f)) (λ f.
    let both = and_parts (not (int_lt b a)) (nat_lt m n) f in
    let g : int_lt b a ≡ false = not-true (int_lt b a) both.0 in
    inr (omega (arith, ints), ltb-true m n both.1))

lesser_size : (a b : ℤ) (m n : ℕ) → Lesser a m b n → by_size (int_lt a b) (int_lt b a) (nat_lt m n) ≡ true
lesser_size a b m n h = elim h [
  | inl l ↦ or_first (int_lt a b) (not (int_lt b a) && nat_lt m n) (lt_to a b l)
  | inr p ↦ or_second (int_lt a b) (not (int_lt b a) && nat_lt m n) (and_from (not (int_lt b a)) (nat_lt m n)
      (not_from_false (int_lt b a) (false_from_ne_true (int_lt b a) (λ e. let l = lt_from b a e in let k : a ≤ℤ b = p.0 in omega (arith, ints)))) (lt-ltb m n p.1))
]

lesser_itself : (a : ℤ) (m : ℕ) → Lesser a m a m → ⊥
lesser_itself a m h = elim h [ inl l ↦ omega (arith, ints) | inr p ↦ let l : m < m = p.1 in omega arith ]

lesser_once : (a b : ℤ) (m n : ℕ) → Lesser a m b n → Lesser b n a m → ⊥
lesser_once a b m n h k = elim h [
  | inl l ↦ elim k [ inl q ↦ omega (arith, ints) | inr q ↦ let r : b ≤ℤ a = q.0 in omega (arith, ints) ]
  | inr p ↦ elim k [ inl q ↦ (let r : a ≤ℤ b = p.0 in omega (arith, ints)) | inr q ↦ (let r : m < n = p.1 in let s : n < m = q.1 in omega arith) ]
]

at_most : (a b : ℤ) (m n : ℕ) → (Lesser a m b n → ⊥) → b ≤ℤ a
at_most a b m n h = order_cases b a (λ l. l) (λ l. absurd (h (inl l)))

lower : (a b : ℤ) (m n : ℕ) → (Lesser a m b n → ⊥) → a ≤ℤ b → n ≤ m
lower a b m n h l = elim (cases_lt m n) [ inl k ↦ absurd (h (inr (l, k))) | inr k ↦ k ]

-- where none is lesser than the next, the first is not lesser than the last
lesser_through : (c a b : ℤ) (k m n : ℕ) → (Lesser c k a m → ⊥) → (Lesser a m b n → ⊥) → Lesser c k b n → ⊥
lesser_through c a b k m n f g h =
    let p : a ≤ℤ c = at_most c a k m f in
    let q : b ≤ℤ a = at_most a b m n g in
    elim h [
      | inl l ↦ omega (arith, ints)
      | inr r ↦
          let l : c ≤ℤ b = r.0 in
          let less : k < n = r.1 in
          let s : m ≤ k = lower c a k m f (omega (arith, ints)) in
          let t : n ≤ m = lower a b m n g (omega (arith, ints)) in
          omega arith
    ]

-- the same where the greater areas come first
greater_through : (c a b : ℤ) (k m n : ℕ) → (Lesser a k c m → ⊥) → (Lesser b m a n → ⊥) → Lesser b k c n → ⊥
greater_through c a b k m n f g h =
    let p : c ≤ℤ a = at_most a c k m f in
    let q : a ≤ℤ b = at_most b a m n g in
    elim h [
      | inl l ↦ omega (arith, ints)
      | inr r ↦
          let l : b ≤ℤ c = r.0 in
          let less : k < n = r.1 in
          let s : m ≤ k = lower a c k m f (omega (arith, ints)) in
          let t : n ≤ m = lower b a m n g (omega (arith, ints)) in
          omega arith
    ]

lesser_one : (a b : ℤ) (m n : ℕ) → (Lesser a m b n → ⊥) → (m ≡ n → ⊥) → Lesser b n a m
lesser_one a b m n h apart = elim (cases_lt n m) [
  | inl l ↦ inr (at_most a b m n h, l)
  | inr l ↦ order_cases a b (λ k. absurd (apart (let s : n ≤ m = lower a b m n h k in omega arith))) (λ k. inl k)
]

-- ---- by each rule

abbrev Before : OverlapRule → ℕ → ℤ → ℕ → ℤ → Type 0
Before MinId m a n b = m < n
Before MaxId m a n b = n < m
Before MinArea m a n b = Lesser a m b n
Before MaxArea m a n b = Lesser b m a n

before : (rule : OverlapRule) (m : ℕ) (a : ℤ) (n : ℕ) (b : ℤ) → ranks_before rule m a n b ≡ true → Before rule m a n b
before MinId m a n b e = ltb-true m n e
before MaxId m a n b e = ltb-true n m e
before MinArea m a n b e = size_lesser a b m n e
before MaxArea m a n b e = size_lesser b a m n e

ranked : (rule : OverlapRule) (m : ℕ) (a : ℤ) (n : ℕ) (b : ℤ) → Before rule m a n b → ranks_before rule m a n b ≡ true
ranked MinId m a n b h = lt-ltb m n h
ranked MaxId m a n b h = lt-ltb n m h
ranked MinArea m a n b h = lesser_size a b m n h
ranked MaxArea m a n b h = lesser_size b a m n h

unranked : (rule : OverlapRule) (m : ℕ) (a : ℤ) (n : ℕ) (b : ℤ) → ranks_before rule m a n b ≡ false → Before rule m a n b → ⊥
unranked rule m a n b e h = let f : ranks_before rule m a n b ≡ true = ranked rule m a n b h in cc

pub not_before_itself : (rule : OverlapRule) (m : ℕ) (a : ℤ) → ranks_before rule m a m a ≡ false
not_before_itself rule m a = false_from_ne_true (ranks_before rule m a m a) (λ e. go rule (before rule m a m a e))
  where
    go : (rule : OverlapRule) → Before rule m a m a → ⊥
    go MinId h = omega arith
    go MaxId h = omega arith
    go MinArea h = lesser_itself a m h
    go MaxArea h = lesser_itself a m h

pub not_both_before : (rule : OverlapRule) (m : ℕ) (a : ℤ) (n : ℕ) (b : ℤ) → ranks_before rule m a n b ≡ true → ranks_before rule n b m a ≡ false
not_both_before rule m a n b e = false_from_ne_true (ranks_before rule n b m a) (λ f. go rule (before rule m a n b e) (before rule n b m a f))
  where
    go : (rule : OverlapRule) → Before rule m a n b → Before rule n b m a → ⊥
    go MinId h k = omega arith
    go MaxId h k = omega arith
    go MinArea h k = lesser_once a b m n h k
    go MaxArea h k = lesser_once b a m n h k

pub not_before_through : (rule : OverlapRule) (k : ℕ) (c : ℤ) (m : ℕ) (a : ℤ) (n : ℕ) (b : ℤ) → ranks_before rule k c m a ≡ false → ranks_before rule m a n b ≡ false → ranks_before rule k c n b ≡ false
not_before_through rule k c m a n b e f = false_from_ne_true (ranks_before rule k c n b) (λ g. go rule (unranked rule k c m a e) (unranked rule m a n b f) (before rule k c n b g))
  where
    go : (rule : OverlapRule) → (Before rule k c m a → ⊥) → (Before rule m a n b → ⊥) → Before rule k c n b → ⊥
    go MinId p q h = elim (cases_lt k m) [ inl l ↦ p l | inr l ↦ elim (cases_lt m n) [ inl o ↦ q o | inr o ↦ omega arith ] ]
    go MaxId p q h = elim (cases_lt m k) [ inl l ↦ p l | inr l ↦ elim (cases_lt n m) [ inl o ↦ q o | inr o ↦ omega arith ] ]
    go MinArea p q h = lesser_through c a b k m n p q h
    go MaxArea p q h = greater_through c a b k m n p q h

pub one_before : (rule : OverlapRule) (m : ℕ) (a : ℤ) (n : ℕ) (b : ℤ) → ranks_before rule m a n b ≡ false → (m ≡ n → ⊥) → ranks_before rule n b m a ≡ true
one_before rule m a n b e apart = ranked rule n b m a (go rule (unranked rule m a n b e))
  where
    go : (rule : OverlapRule) → (Before rule m a n b → ⊥) → Before rule n b m a
    go MinId p = elim (cases_lt m n) [ inl l ↦ absurd (p l) | inr l ↦ elim (cases_lt n m) [ inl o ↦ o | inr o ↦ absurd (apart (omega arith)) ] ]
    go MaxId p = elim (cases_lt n m) [ inl l ↦ absurd (p l) | inr l ↦ elim (cases_lt m n) [ inl o ↦ o | inr o ↦ absurd (apart (omega arith)) ] ]
    go MinArea p = lesser_one a b m n p apart
    go MaxArea p = lesser_one b a m n p apart
