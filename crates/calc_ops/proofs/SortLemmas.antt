-- The order of keys is total, and sorted numbers are those that a stable sort gives.
use Rattle.std.proofs.Common.{◌≡◌, ◌⊎◌, inl, inr, refl, sym, ap, ◌∙◌, subst, arith, cond, ℕ, ◌+◌, ◌<◌, ◌≤◌, zero, suc, Bool, true, false, true≢false, nat_cmp, nat_eq, ℤ, pos, List, [], ◌∷◌, get_or, All, Contains}
use Rattle.std.specs.Ordering.{int_cmp, is_lt, is_eq, ordering_then, ordering_reverse, on, then_cmp, flip_args}
use Rattle.std.specs.declared.cmp.Ordering.{Ordering}
use Rattle.std.specs.declared.cmp.Ordering.TheVariants.{Less, Equal, Greater}
use Rattle.std.specs.Cmp.{IsTotalOrder, IsStrictWeakOrder, unsigned_Decides}
use Rattle.std.specs.Cmp.Lexicographic.{slice_cmp}
use Rattle.std.specs.List.{range_with_len, IsDistinct}
use Rattle.std.specs.List.Sorted.{IsPermutation, IsSortedBy}
use Rattle.std.proofs.lemmas.Bool.{true_from_ne_false, false_from_ne_true}
use Rattle.std.proofs.lemmas.Cmp.{ranked, nat_cmp_total, int_cmp_total, nat_list_cmp_total, nat_eq_equiv, on_total, then_total, back_total}
use Rattle.std.proofs.lemmas.List.FromFn.{length-range_with_len, get_or-range_with_len}
use Rattle.std.proofs.lemmas.List.Elements.{All-from_get_or}
use Rattle.std.proofs.lemmas.List.Sorted.{ranks_by, sorted_far, IsPermutation-sym, Contains-permutation, All-permutation}
use Rattle.std.proofs.lemmas.Map.Keys.{IsDistinct-IsPermutation, IsDistinct-from_apart, apart_from_distinct}
use Rattle.lists.specs.Lists.{insert_stable, sort_stable}
use Rattle.lists.proofs.Members.{Contains-head, Contains-later, Contains-nil, Contains-cases}
use Rattle.lists.proofs.Ascending.{IsStrictOrder, IsAscending, one_ascending, ascending_of_pairs}
use Rattle.json_values.specs.declared.value.Value.{Value}
use Rattle.json_values.specs.declared.value.Value.TheVariants as cell
use Rattle.face_sets.proofs.Orders.{is_less, strict_order}
use Rattle.calc_ops.specs.Keys.{key_at}
use Rattle.calc_ops.specs.KeyOrder.{type_place, value_order, key_order, comes_before, row_order}

-- ---- the order of keys, by numbers and texts that they stand for

abbrev number_in : Value → ℤ
number_in (cell.Bool false) = pos 0
number_in (cell.Bool true) = pos 1
number_in (cell.Num units) = units
number_in _ = pos 0

abbrev text_in : Value → List ℕ
text_in (cell.Text s) = s
text_in _ = []

abbrev null_place : Value → ℕ
null_place cell.Null = 1
null_place _ = 0

abbrev by_parts : Value → Value → Ordering
by_parts = then_cmp (on type_place nat_cmp) (then_cmp (on number_in int_cmp) (on text_in (slice_cmp nat_cmp)))

abbrev turned : Bool → (Value → Value → Ordering) → Value → Value → Ordering
turned false R = R
turned true R = flip_args R

abbrev by_null : Bool → Value → Value → Ordering
by_null descending = then_cmp (on null_place nat_cmp) (turned descending by_parts)

then_equal : (o : Ordering) → o ≡ ordering_then o Equal
then_equal Less = refl
then_equal Equal = refl
then_equal Greater = refl

value_by_parts : (v w : Value) → value_order v w ≡ by_parts v w
value_by_parts (cell.Bool false) (cell.Bool false) = refl
value_by_parts (cell.Bool false) (cell.Bool true) = refl
value_by_parts (cell.Bool true) (cell.Bool false) = refl
value_by_parts (cell.Bool true) (cell.Bool true) = refl
value_by_parts (cell.Num m) (cell.Num n) = then_equal (int_cmp m n)
value_by_parts (cell.Text s) (cell.Text t) = refl
value_by_parts cell.Null cell.Null = refl
value_by_parts cell.Null (cell.Bool b) = refl
value_by_parts cell.Null (cell.Num n) = refl
value_by_parts cell.Null (cell.Long t) = refl
value_by_parts cell.Null (cell.Text t) = refl
value_by_parts cell.Null (cell.Tree k) = refl
value_by_parts (cell.Long s) cell.Null = refl
value_by_parts (cell.Long s) (cell.Bool b) = refl
value_by_parts (cell.Long s) (cell.Num n) = refl
value_by_parts (cell.Long s) (cell.Long t) = refl
value_by_parts (cell.Long s) (cell.Text t) = refl
value_by_parts (cell.Long s) (cell.Tree k) = refl
value_by_parts (cell.Tree j) cell.Null = refl
value_by_parts (cell.Tree j) (cell.Bool b) = refl
value_by_parts (cell.Tree j) (cell.Num n) = refl
value_by_parts (cell.Tree j) (cell.Long t) = refl
value_by_parts (cell.Tree j) (cell.Text t) = refl
value_by_parts (cell.Tree j) (cell.Tree k) = refl
value_by_parts v w = refl

key_by_null : (descending : Bool) (v w : Value) → key_order descending v w ≡ by_null descending v w
key_by_null false cell.Null cell.Null = refl
key_by_null true cell.Null cell.Null = refl
key_by_null descending cell.Null w = refl
key_by_null descending v cell.Null = refl
key_by_null false v w = value_by_parts v w
key_by_null true v w = value_by_parts w v

parts_total : IsTotalOrder by_parts
parts_total = then_total (on_total type_place nat_cmp_total) (then_total (on_total number_in int_cmp_total) (on_total text_in nat_list_cmp_total))

turned_total : (descending : Bool) → IsTotalOrder (turned descending by_parts)
turned_total false = parts_total
turned_total true = back_total parts_total

key_total : (descending : Bool) → IsTotalOrder (key_order descending)
key_total descending =
    subst IsTotalOrder (λ i v w. sym (key_by_null descending v w) i) (then_total (on_total null_place nat_cmp_total) (turned_total descending))

-- ---- the order of rows

then_tied : (o p : Ordering) → is_eq (ordering_then o p) ≡ true → is_eq p ≡ true
then_tied Less p e = absurd (true≢false (sym e))
then_tied Equal p e = e
then_tied Greater p e = absurd (true≢false (sym e))

same_number : (m n : ℕ) (o : Ordering) → o ≡ nat_cmp m n → is_eq o ≡ true → m ≡ n
same_number m n Less r e = absurd (true≢false (sym e))
same_number m n Equal r e = ranked m n Equal r
same_number m n Greater r e = absurd (true≢false (sym e))

lesser_number : (m n : ℕ) (o : Ordering) → o ≡ nat_cmp m n → m < n → is_lt o ≡ true
lesser_number m n Less r l = refl
lesser_number m n Equal r l = let e : m ≡ n = ranked m n Equal r in absurd (omega (arith, e, l))
lesser_number m n Greater r l = let h : n < m = ranked m n Greater r in absurd (omega (arith, h, l))

-- an order that is not turned round, with one that is less after it
then_less : (o p q : Ordering) → o ≡ ordering_reverse p → is_lt p ≡ false → is_lt q ≡ true → is_lt (ordering_then o q) ≡ true
then_less Less p q r e f = refl
then_less Equal p q r e f = f
then_less Greater Less q r e f = absurd (true≢false e)
then_less Greater Equal q r e f = absurd (true≢false (sym (ap is_eq r)))
then_less Greater Greater q r e f = absurd (true≢false (sym (ap is_lt r)))

module _ (descending : Bool) (keys : List Value) where
  abbrev order : ℕ → ℕ → Ordering
  order = row_order descending keys

  abbrev before : ℕ → ℕ → Bool
  before m n = is_lt (order m n)

  row_total : IsTotalOrder order
  row_total = then_total (on_total (key_at keys) (key_total descending)) nat_cmp_total

  pub before_weak : IsStrictWeakOrder before
  before_weak = ranks_by row_total (λ (n : ℕ). n)

  before_strict : IsStrictOrder before
  before_strict = strict_order order row_total (λ m n e. same_number m n (nat_cmp m n) refl (then_tied (key_order descending (key_at keys m) (key_at keys n)) (nat_cmp m n) e))

  -- ---- what a stable sort gives

  abbrev first : ℕ → ℕ → Bool
  first = comes_before descending keys

  before_from_first : (m n : ℕ) → first m n ≡ true → before m n ≡ true
  before_from_first m n e = ap (λ (o : Ordering). is_lt (ordering_then o (nat_cmp m n))) (is_less (key_order descending (key_at keys m) (key_at keys n)) e)

  before_from_number : (m n : ℕ) → first n m ≡ false → m < n → before m n ≡ true
  before_from_number m n e l =
      then_less (key_order descending (key_at keys m) (key_at keys n)) (key_order descending (key_at keys n) (key_at keys m)) (nat_cmp m n)
      ((key_total descending).antisymm (key_at keys m) (key_at keys n)) e (lesser_number m n (nat_cmp m n) refl l)

  insert-Contains : (x : ℕ) (ys : List ℕ) (z : ℕ) → Contains (insert_stable first x ys) z → (x ≡ z) ⊎ Contains ys z
  insert-Contains x [] z c = Contains-cases x [] z c
  insert-Contains x (y ∷ ys) z c = go (first y x) refl c (insert-Contains x ys z)
    where
      go : (b : Bool) → first y x ≡ b → Contains (cond b (y ∷ insert_stable first x ys) (x ∷ y ∷ ys)) z → (Contains (insert_stable first x ys) z → (x ≡ z) ⊎ Contains ys z) → (x ≡ z) ⊎ Contains (y ∷ ys) z
      go true e c more = elim (Contains-cases y (insert_stable first x ys) z c) [
        | inl g ↦ inr (0, omega arith, g)
        | inr d ↦ elim (more d) [ inl g ↦ inl g | inr h ↦ inr (Contains-later y ys z h) ]
      ]
      go false e c more = Contains-cases x (y ∷ ys) z c

  Contains-insert : (x : ℕ) (ys : List ℕ) (z : ℕ) → (x ≡ z) ⊎ Contains ys z → Contains (insert_stable first x ys) z
  Contains-insert x [] z (inl e) = (0, omega arith, e)
  Contains-insert x [] z (inr c) = Contains-nil z c
  Contains-insert x (y ∷ ys) z c = go (first y x) c (Contains-insert x ys z)
    where
      go : (b : Bool) → (x ≡ z) ⊎ Contains (y ∷ ys) z → ((x ≡ z) ⊎ Contains ys z → Contains (insert_stable first x ys) z) → Contains (cond b (y ∷ insert_stable first x ys) (x ∷ y ∷ ys)) z
      go true (inl g) more = Contains-later y (insert_stable first x ys) z (more (inl g))
      go true (inr h) more = elim (Contains-cases y ys z h) [
        | inl g ↦ (0, omega arith, g)
        | inr d ↦ Contains-later y (insert_stable first x ys) z (more (inr d))
      ]
      go false (inl g) more = (0, omega arith, g)
      go false (inr h) more = Contains-later x (y ∷ ys) z h

  sort-Contains : (xs : List ℕ) (z : ℕ) → Contains (sort_stable first xs) z → Contains xs z
  sort-Contains [] z c = c
  sort-Contains (x ∷ xs) z c = elim (insert-Contains x (sort_stable first xs) z c) [
    | inl e ↦ (0, omega arith, e)
    | inr d ↦ Contains-later x xs z (sort-Contains xs z d)
  ]

  Contains-sort : (xs : List ℕ) (z : ℕ) → Contains xs z → Contains (sort_stable first xs) z
  Contains-sort [] z c = c
  Contains-sort (x ∷ xs) z c = Contains-insert x (sort_stable first xs) z (elim (Contains-cases x xs z c) [ inl e ↦ inl e | inr d ↦ inr (Contains-sort xs z d) ])

  insert-IsAscending : (x : ℕ) (ys : List ℕ) → IsAscending before ys → ((y : ℕ) → Contains ys y → x < y) → IsAscending before (insert_stable first x ys)
  insert-IsAscending x [] h l = ((λ y c. Contains-nil y c), tt)
  insert-IsAscending x (y ∷ ys) h l = go (first y x) refl (insert-IsAscending x ys h.1 (λ z c. l z (Contains-later y ys z c)))
    where
      go : (b : Bool) → first y x ≡ b → IsAscending before (insert_stable first x ys) → IsAscending before (cond b (y ∷ insert_stable first x ys) (x ∷ y ∷ ys))
      go true e more = (
        (λ z c. elim (insert-Contains x ys z c) [ inl g ↦ subst (λ (w : ℕ). before y w ≡ true) g (before_from_first y x e) | inr d ↦ h.0 z d ]),
        more,
      )
      go false e more =
          let next : before x y ≡ true = before_from_number x y e (l y (Contains-head y ys)) in (
            (λ z c. elim (Contains-cases y ys z c) [ inl g ↦ subst (λ (w : ℕ). before x w ≡ true) g next | inr d ↦ before_strict.trans x y z next (h.0 z d) ]),
            h,
          )

  numbers_from_start : (a n y : ℕ) → Contains (range_with_len a n) y → a ≤ y
  numbers_from_start a n y (k, l, e) =
      let long = length-range_with_len a n in
      let at = get_or-range_with_len a n k y (omega (arith, long, l)) in
      omega (arith, at, e)

  sort-IsAscending : (a n : ℕ) → IsAscending before (sort_stable first (range_with_len a n))
  sort-IsAscending a zero = tt
  sort-IsAscending a (suc n) =
      insert-IsAscending a (sort_stable first (range_with_len (a + 1) n)) (sort-IsAscending (a + 1) n)
      (λ y c. let h = numbers_from_start (a + 1) n y (sort-Contains (range_with_len (a + 1) n) y c) in omega (arith, h))

  -- ---- what another sort gives

  range-IsDistinct : (n : ℕ) → IsDistinct nat_eq (range_with_len 0 n)
  range-IsDistinct n = IsDistinct-from_apart nat_eq (range_with_len 0 n) (λ i j d l m.
      let long = length-range_with_len 0 n in
      let at_i = get_or-range_with_len 0 n i d (omega (arith, long, l, m)) in
      let at_j = get_or-range_with_len 0 n j d (omega (arith, long, m)) in
      false_from_ne_true (nat_eq (get_or (range_with_len 0 n) i d) (get_or (range_with_len 0 n) j d))
      (λ e. let same = (unsigned_Decides (get_or (range_with_len 0 n) i d) (get_or (range_with_len 0 n) j d)).0 e in absurd (omega (arith, at_i, at_j, same, l))))

  sorted-IsAscending : (xs : List ℕ) → IsDistinct nat_eq xs → IsSortedBy before xs → IsAscending before xs
  sorted-IsAscending xs once up =
      ascending_of_pairs before (λ (m n : ℕ). before m n ≡ true) xs
      (λ i j d l m. true_from_ne_false (before (get_or xs i d) (get_or xs j d)) (λ e.
      let same : get_or xs i d ≡ get_or xs j d = before_strict.total (get_or xs i d) (get_or xs j d) e (sorted_far before before_weak xs up i j d (omega (arith, l)) m) in
      absurd (true≢false (sym ((unsigned_Decides (get_or xs i d) (get_or xs j d)).1 same) ∙ apart_from_distinct nat_eq xs i j d once l m))))
      (λ x y c d r. r)

  -- the first n numbers, sorted by the order of rows, are sorted stably by their keys
  pub sorted_by_key : (n : ℕ) (numbers : List ℕ) → IsPermutation (range_with_len 0 n) numbers → IsSortedBy before numbers → numbers ≡ sort_stable first (range_with_len 0 n)
  sorted_by_key n numbers moved up =
      let once : IsDistinct nat_eq numbers = IsDistinct-IsPermutation nat_eq nat_eq_equiv.symm (range_with_len 0 n) numbers moved (range-IsDistinct n) in
      one_ascending before before_strict numbers (sort_stable first (range_with_len 0 n)) (sorted-IsAscending numbers once up) (sort-IsAscending 0 n)
      (λ z c. Contains-sort (range_with_len 0 n) z (Contains-permutation numbers (range_with_len 0 n) z (IsPermutation-sym (range_with_len 0 n) numbers moved) c))
      (λ z c. Contains-permutation (range_with_len 0 n) numbers z moved (sort-Contains (range_with_len 0 n) z c))

-- ---- the first n numbers

pub numbers_moved : (n : ℕ) (numbers : List ℕ) → IsPermutation (range_with_len 0 n) numbers → All (λ k. k < n) numbers
numbers_moved n numbers moved =
    All-permutation (λ k. k < n) (range_with_len 0 n) numbers moved
    (All-from_get_or (λ k. k < n) (range_with_len 0 n) 0
    (λ i l. let long = length-range_with_len 0 n in let at = get_or-range_with_len 0 n i 0 (omega (arith, long, l)) in omega (arith, at, long, l)))
