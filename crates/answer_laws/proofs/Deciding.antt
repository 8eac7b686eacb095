-- What can be told: a fact holds, or is refuted.
use Rattle.std.proofs.Common.{◌≡◌, ◌⊎◌, inl, inr, refl, sym, subst, arith, ℕ, zero, suc, ◌+◌, ◌<◌, ◌≤◌, Bool, true, false, List, [], ◌∷◌, Contains, nat_lt}
use Rattle.std.specs.Prelude.{◌↔◌}
use Rattle.std.proofs.lemmas.Bool.{cases_lt, lt-ltb}
use Rattle.lists.proofs.Ascending.{IsAscending}
use Rattle.lists.proofs.Members.{Contains-cases, Contains-head, Contains-later, Contains-nil}

abbrev pub IsTold : Type 0 → Type 0
IsTold A = A ⊎ (A → ⊥)

-- ---- facts made of facts

pub same_told : {A B : Type 0} → (A → B) → (B → A) → IsTold A → IsTold B
same_told to from (inl a) = inl (to a)
same_told to from (inr n) = inr (λ b. n (from b))

pub not_told : {A : Type 0} → IsTold A → IsTold (A → ⊥)
not_told (inl a) = inr (λ n. n a)
not_told (inr n) = inl n

pub both_told : {A B : Type 0} → IsTold A → IsTold B → IsTold (A × B)
both_told (inl a) (inl b) = inl (a, b)
both_told (inl a) (inr n) = inr (λ h. n h.1)
both_told (inr n) b = inr (λ h. n h.0)

pub either_told : {A B : Type 0} → IsTold A → IsTold B → IsTold (A ⊎ B)
either_told (inl a) b = inl (inl a)
either_told (inr n) (inl b) = inl (inr b)
either_told (inr n) (inr m) = inr (λ h. elim h [ inl a ↦ n a | inr b ↦ m b ])

pub test_told : (b : Bool) → IsTold (b ≡ true)
test_told true = inl refl
test_told false = inr (λ e. absurd (let f : false ≡ true = e in cc))

-- ---- told by a test

abbrev pub test : {A : Type 0} → IsTold A → Bool
test (inl a) = true
test (inr n) = false

pub test_says : {A : Type 0} → (t : IsTold A) → (test t ≡ true) ↔ A
test_says (inl a) = (λ e. a, λ h. refl)
test_says (inr n) = (λ e. absurd (let f : false ≡ true = e in cc), λ h. absurd (n h))

-- ---- some element of a list

pub some_told : {X : Type 0} (P : X → Type 0) (xs : List X) → ((x : X) → Contains xs x → IsTold (P x)) → IsTold ((x : X) × Contains xs x × P x)
some_told P [] h = inr (λ (x, c, p). Contains-nil x c)
some_told {X} P (x ∷ xs) h = go (h x (Contains-head x xs)) (some_told P xs (λ y c. h y (Contains-later x xs y c)))
  where
    go : IsTold (P x) → IsTold ((y : X) × Contains xs y × P y) → IsTold ((y : X) × Contains (x ∷ xs) y × P y)
    go (inl p) later = inl (x, Contains-head x xs, p)
    go (inr n) (inl (y, c, p)) = inl (y, Contains-later x xs y c, p)
    go (inr n) (inr m) = inr (λ (y, c, p). elim (Contains-cases x xs y c) [ inl e ↦ n (subst P (sym e) p) | inr k ↦ m (y, k, p) ])

-- whether an element stands in a list, where elements can be told apart
pub there_told : {X : Type 0} → ((x y : X) → IsTold (x ≡ y)) → (xs : List X) (x : X) → IsTold (Contains xs x)
there_told {X} same xs x =
    same_told (λ (h : (y : X) × Contains xs y × (y ≡ x)). subst (Contains xs) h.2 h.1) (λ c. (x, c, refl)) (some_told (λ y. y ≡ x) xs (λ y c. same y x))

-- a test that says of each element of a list whether P holds of it
pub tested : {X : Type 0} → ((x y : X) → IsTold (x ≡ y)) → (P : X → Type 0) (xs : List X) → ((x : X) → Contains xs x → IsTold (P x)) → (f : X → Bool) × ((x : X) → Contains xs x → (f x ≡ true) ↔ P x)
tested {X} same P xs told = (λ x. test (both x), λ x c. (let says = test_says (both x) in (λ e. (says.0 e).1, λ p. says.1 (c, p))))
  where
    both : (x : X) → IsTold (Contains xs x × P x)
    both x = elim (there_told same xs x) [
      | inl c ↦ same_told (λ p. (c, p)) (λ h. h.1) (told x c)
      | inr none ↦ inr (λ h. none h.0)
    ]

-- ---- numbers

-- the least number of which P holds
abbrev pub IsLeast : (ℕ → Type 0) → ℕ → Type 0
IsLeast P n = P n × ((m : ℕ) → P m → n ≤ m)

module _ (P : ℕ → Type 0) (told : (n : ℕ) → IsTold (P n)) where
  least_below : (k : ℕ) → ((n : ℕ) × IsLeast P n) ⊎ ((n : ℕ) → n < k → P n → ⊥)
  least_below zero = inr (λ n l p. absurd (omega arith))
  least_below (suc k) = elim (least_below k) [
    | inl found ↦ inl found
    | inr none ↦ elim (told k) [
      | inl p ↦ inl (k, (p, λ m q. elim (cases_lt m k) [ inl l ↦ absurd (none m l q) | inr l ↦ l ]))
      | inr n ↦ inr (λ m l q. elim (cases_lt m k) [ inl less ↦ none m less q | inr more ↦ n (subst P (let same : m ≡ k = omega arith in same) q) ])
    ]
  ]

  -- there is a least such number where there are any, and none is as great as a bound
  pub least_or_none : (k : ℕ) → ((n : ℕ) → P n → n < k) → ((n : ℕ) × IsLeast P n) ⊎ ((n : ℕ) → P n → ⊥)
  least_or_none k below = elim (least_below k) [ inl found ↦ inl found | inr none ↦ inr (λ n p. none n (below n p) p) ]

  -- the numbers from a on, n of them, of which P holds
  abbrev AreFrom : ℕ → ℕ → List ℕ → Type 0
  AreFrom a n xs = IsAscending nat_lt xs × ((m : ℕ) → Contains xs m ↔ ((a ≤ m) × (m < a + n) × P m))

  from : (a n : ℕ) → (xs : List ℕ) × AreFrom a n xs
  from a zero = ([], (tt, λ m. (λ c. Contains-nil m c, λ (low, high, p). absurd (omega arith))))
  from a (suc n) = go (told a) (from (suc a) n)
    where
      go : IsTold (P a) → ((xs : List ℕ) × AreFrom (suc a) n xs) → (xs : List ℕ) × AreFrom a (suc n) xs
      go (inl p) (xs, (up, are)) = (
        a ∷ xs,
        (
          (λ m c. (let (low, high, q) = (are m).0 c in lt-ltb a m (omega arith)), up),
          λ m. (
            λ c. elim (Contains-cases a xs m c) [ inl e ↦ (omega arith, omega arith, subst P e p) | inr k ↦ (let (low, high, q) = (are m).0 k in (omega arith, omega arith, q)) ],
            λ (low, high, q). elim (cases_lt a m) [
              | inl less ↦ Contains-later a xs m ((are m).1 (omega arith, omega arith, q))
              | inr same ↦ subst (Contains (a ∷ xs)) (let e : a ≡ m = omega arith in e) (Contains-head a xs)
            ],
          ),
        ),
      )
      go (inr none) (xs, (up, are)) = (
        xs,
        (
          up,
          λ m. (
            λ c. (let (low, high, q) = (are m).0 c in (omega arith, omega arith, q)),
            λ (low, high, q). elim (cases_lt a m) [
              | inl less ↦ (are m).1 (omega arith, omega arith, q)
              | inr same ↦ absurd (none (subst P (let e : m ≡ a = omega arith in e) q))
            ],
          ),
        ),
      )

  -- all of them, in order
  pub all_of_them : (k : ℕ) → ((n : ℕ) → P n → n < k) → (xs : List ℕ) × IsAscending nat_lt xs × ((n : ℕ) → Contains xs n ↔ P n)
  all_of_them k below =
      let (xs, (up, are)) = from 0 k in
      (xs, up, λ n. (λ c. ((are n).0 c).2, λ p. (are n).1 (let l = below n p in omega arith, let l = below n p in omega arith, p)))
