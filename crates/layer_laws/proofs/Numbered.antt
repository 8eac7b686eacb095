-- Elements by their numbers: those that are taken, those that pass a test, and both one after the other.
use Rattle.std.proofs.Common.{◌≡◌, refl, sym, ap, ◌∙◌, subst, arith, ℕ, zero, suc, ◌+◌, ◌<◌, Bool, true, false, cond, ◌||◌, if◌then◌else◌, List, [], ◌∷◌, length, map, get_or, filter, filter_map, All, Option, Some, None, nat_eq}
use Rattle.std.specs.Cmp.{unsigned_Decides}
use Rattle.std.specs.List.{AllZip, cons_option, enumerate_from, list_any, range_with_len}
use Rattle.std.proofs.lemmas.Bool.{false_from_ne_true}
use Rattle.std.proofs.lemmas.List.{get_or-map}
use Rattle.std.proofs.lemmas.List.Elements.{All-cons, All-head, All-tail}
use Rattle.lists.specs.Lists.{has, insert_stable, numbers_from, numbers_where, sort_stable}

-- ---- which numbers those of the elements are that pass

number_itself : (m : ℕ) → nat_eq m m ≡ true
number_itself m = (unsigned_Decides m m).1 refl

numbers_apart : (m n : ℕ) → (m ≡ n → ⊥) → nat_eq m n ≡ false
numbers_apart m n f = false_from_ne_true (nat_eq m n) (λ e. f ((unsigned_Decides m n).0 e))

module _ {A : Type 0} (test : A → Bool) where
  none_before : (n m : ℕ) (xs : List A) → m < n → has nat_eq (numbers_from n test xs) m ≡ false
  none_before n m [] l = refl
  none_before n m (x ∷ xs) l = go (test x) (none_before (n + 1) m xs (omega arith))
    where
      go : (b : Bool) → has nat_eq (numbers_from (n + 1) test xs) m ≡ false → has nat_eq (if b then n ∷ numbers_from (n + 1) test xs else numbers_from (n + 1) test xs) m ≡ false
      go true e = ap (λ (c : Bool). c || has nat_eq (numbers_from (n + 1) test xs) m) (numbers_apart m n (λ e. omega (arith, e, l))) ∙ e
      go false e = e

  -- the first element has the first number, where it passes
  first_number : (n : ℕ) (x : A) (xs : List A) → has nat_eq (numbers_from n test (x ∷ xs)) n ≡ test x
  first_number n x xs = go (test x)
    where
      go : (b : Bool) → has nat_eq (if b then n ∷ numbers_from (n + 1) test xs else numbers_from (n + 1) test xs) n ≡ b
      go true = ap (λ (c : Bool). c || has nat_eq (numbers_from (n + 1) test xs) n) (number_itself n)
      go false = none_before (n + 1) n xs (omega arith)

  -- and no other element has it
  later_number : (n m : ℕ) (x : A) (xs : List A) → n < m → has nat_eq (numbers_from n test (x ∷ xs)) m ≡ has nat_eq (numbers_from (n + 1) test xs) m
  later_number n m x xs l = go (test x)
    where
      go : (b : Bool) → has nat_eq (if b then n ∷ numbers_from (n + 1) test xs else numbers_from (n + 1) test xs) m ≡ has nat_eq (numbers_from (n + 1) test xs) m
      go true = ap (λ (c : Bool). c || has nat_eq (numbers_from (n + 1) test xs) m) (numbers_apart m n (λ e. omega (arith, e, l)))
      go false = refl

  pub number_tells : (n : ℕ) (xs : List A) (k : ℕ) (d : A) → k < length xs → has nat_eq (numbers_from n test xs) (n + k) ≡ test (get_or xs k d)
  number_tells n [] k d l = absurd (omega arith)
  number_tells n (x ∷ xs) zero d l =
      let here : n + 0 ≡ n = omega arith in
      ap (has nat_eq (numbers_from n test (x ∷ xs))) here ∙ first_number n x xs
  number_tells n (x ∷ xs) (suc k) d l =
      let further : n + suc k ≡ n + 1 + k = omega arith in
      later_number n (n + suc k) x xs (omega arith) ∙ ap (has nat_eq (numbers_from (n + 1) test xs)) further ∙ number_tells (n + 1) xs k d (omega arith)

pub any-map : {A B : Type 0} (test : B → Bool) (f : A → B) (xs : List A) → list_any test (map f xs) ≡ list_any (λ (x : A). test (f x)) xs
any-map test f [] = refl
any-map test f (x ∷ xs) = ap (λ (b : Bool). test (f x) || b) (any-map test f xs)

-- ---- the elements whose numbers pass are those that pass

-- an element with a number that passes
abbrev pub picked_by : {B : Type 0} → (ℕ → Bool) → ℕ × B → Option B
picked_by numbered m = if numbered m.0 then Some m.1 else None

module _ {A B : Type 0} (R : A → B → Type 0) (test : A → Bool) (numbered : ℕ → Bool) where
  pick : (x : A) (y : B) (xs : List A) (ys : List B) → R x y → AllZip R xs ys → (b c : Bool) → b ≡ c → AllZip R (cond b (x ∷ xs) xs) (cons_option (if c then Some y else None) ys)
  pick x y xs ys r z b c e = subst (λ (t : Bool). AllZip R (cond b (x ∷ xs) xs) (cons_option (if t then Some y else None) ys)) e (go b)
    where
      go : (b : Bool) → AllZip R (cond b (x ∷ xs) xs) (cons_option (if b then Some y else None) ys)
      go true = (r, z)
      go false = z

  pub zip_picked : (n : ℕ) (xs : List A) (ys : List B) → AllZip R xs ys → ((k : ℕ) (d : A) → k < length xs → numbered (n + k) ≡ test (get_or xs k d)) → AllZip R (filter test xs) (filter_map (picked_by numbered) (enumerate_from n ys))
  zip_picked n [] [] z tells = tt
  zip_picked n [] (y ∷ ys) z tells = absurd z
  zip_picked n (x ∷ xs) [] z tells = absurd z
  zip_picked n (x ∷ xs) (y ∷ ys) z tells =
      let first : n ≡ n + 0 = omega arith in
      let here : numbered n ≡ test x = ap numbered first ∙ tells 0 x (omega arith) in
      let rest : AllZip R (filter test xs) (filter_map (picked_by numbered) (enumerate_from (n + 1) ys)) = zip_picked (n + 1) xs ys z.1 (λ k d l. let further : n + 1 + k ≡ n + suc k = omega arith in ap numbered further ∙ tells (suc k) d (omega arith)) in
      pick x y (filter test xs) (filter_map (picked_by numbered) (enumerate_from (n + 1) ys)) z.0 rest (test x) (numbered n) (sym here)

-- so it is with the numbers where elements pass
pub zip_where : {A B : Type 0} (R : A → B → Type 0) (test : A → Bool) (xs : List A) (ys : List B) → AllZip R xs ys →
    AllZip R (filter test xs) (filter_map (picked_by (has nat_eq (numbers_where test xs))) (enumerate_from 0 ys))
zip_where R test xs ys z = zip_picked R test (has nat_eq (numbers_where test xs)) 0 xs ys z (λ k d l. number_tells test 0 xs k d l)

-- ---- the numbers of elements that pass are those of all elements that pass

pub numbers_of_all : {B : Type 0} (test : B → Bool) (numbered : ℕ → Bool) (n : ℕ) (ys : List B) → ((k : ℕ) (d : B) → k < length ys → numbered (n + k) ≡ test (get_or ys k d)) →
    filter numbered (range_with_len n (length ys)) ≡ numbers_from n test ys
numbers_of_all test numbered n [] tells = refl
numbers_of_all test numbered n (y ∷ ys) tells =
    let first : n ≡ n + 0 = omega arith in
    let here : numbered n ≡ test y = ap numbered first ∙ tells 0 y (omega arith) in
    let rest : filter numbered (range_with_len (n + 1) (length ys)) ≡ numbers_from (n + 1) test ys = numbers_of_all test numbered (n + 1) ys (λ k d l. let further : n + 1 + k ≡ n + suc k = omega arith in ap numbered further ∙ tells (suc k) d (omega arith)) in
    λ i. cond (here i) (n ∷ rest i) (rest i)

-- all of them, where all pass
pub all_numbers_pass : {A : Type 0} (n : ℕ) (xs : List A) → numbers_from n (λ (x : A). true) xs ≡ range_with_len n (length xs)
all_numbers_pass n [] = refl
all_numbers_pass n (x ∷ xs) = ap (λ (ns : List ℕ). n ∷ ns) (all_numbers_pass (n + 1) xs)

-- ---- elements with numbers, taken from a list and then from those taken

module _ {B C : Type 0} (f : ℕ → B) (g : ℕ → C) (test : B → Bool) where
  taken_after : (n : ℕ) (ns : List ℕ) (at : ℕ → C) → ((k : ℕ) (d : ℕ) → k < length ns → at (n + k) ≡ g (get_or ns k d)) →
      map at (numbers_from n test (map f ns)) ≡ map g (filter (λ (m : ℕ). test (f m)) ns)
  taken_after n [] at is = refl
  taken_after n (m ∷ ns) at is =
      let first : n ≡ n + 0 = omega arith in
      let here : at n ≡ g m = ap at first ∙ is 0 m (omega arith) in
      let rest : map at (numbers_from (n + 1) test (map f ns)) ≡ map g (filter (λ (m : ℕ). test (f m)) ns) = taken_after (n + 1) ns at (λ k d l. let further : n + 1 + k ≡ n + suc k = omega arith in ap at further ∙ is (suc k) d (omega arith)) in
      go (test (f m)) here rest
    where
      go : (b : Bool) → at n ≡ g m → map at (numbers_from (n + 1) test (map f ns)) ≡ map g (filter (λ (m : ℕ). test (f m)) ns) →
          map at (cond b (n ∷ numbers_from (n + 1) test (map f ns)) (numbers_from (n + 1) test (map f ns))) ≡ map g (cond b (m ∷ filter (λ (m : ℕ). test (f m)) ns) (filter (λ (m : ℕ). test (f m)) ns))
      go true here rest = λ i. here i ∷ rest i
      go false here rest = rest

  -- values by g, taken at the places where values by f pass a test, are those of the elements whose values by f pass it
  pub taken_of_taken : (ns : List ℕ) (d : C) → map (λ (k : ℕ). get_or (map g ns) k d) (numbers_where test (map f ns)) ≡ map g (filter (λ (m : ℕ). test (f m)) ns)
  taken_of_taken ns d = taken_after 0 ns (λ (k : ℕ). get_or (map g ns) k d) (λ k e l. let start : 0 + k ≡ k = omega arith in ap (λ (j : ℕ). get_or (map g ns) j d) start ∙ get_or-map g ns k e d l)

-- ---- numbers below a count

module _ (P : ℕ → Type 0) (before : ℕ → ℕ → Bool) where
  insert_keeps : (x : ℕ) (ys : List ℕ) → P x → All P ys → All P (insert_stable before x ys)
  insert_keeps x [] p a = All-cons P x [] p a
  insert_keeps x (y ∷ ys) p a = go (before y x) (insert_keeps x ys p (All-tail P y ys a))
    where
      go : (b : Bool) → All P (insert_stable before x ys) → All P (if b then y ∷ insert_stable before x ys else x ∷ y ∷ ys)
      go true more = All-cons P y (insert_stable before x ys) (All-head P y ys a) more
      go false more = All-cons P x (y ∷ ys) p a

  pub sort_keeps : (xs : List ℕ) → All P xs → All P (sort_stable before xs)
  sort_keeps [] a = a
  sort_keeps (x ∷ xs) a = insert_keeps x (sort_stable before xs) (All-head P x xs a) (sort_keeps xs (All-tail P x xs a))
