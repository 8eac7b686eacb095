-- Parities of how often numbers stand in lists, and lists of numbers that rise.
use Rattle.std.proofs.Common.{◌≡◌, subst, None, inl, inr, refl, sym, ap, ◌∙◌, arith, ℕ, zero, suc, ◌+◌, ◌-◌, ◌<◌, ◌≤◌, Bool, true, false, not, cond, Some, List, [], ◌∷◌, ◌++◌, All, Contains, length, get_or, take}
use Rattle.std.specs.Prelude.{nat_eq, slice_get}
use Rattle.std.specs.List.{sum_by}
use Rattle.std.specs.List.Sorted.{IsPermutation, IsNonDecreasing, IsStrictlyIncreasing}
use Rattle.std.proofs.lemmas.Bool.{cases_lt, eqb-true, eq-eqb, ne_eqb}
use Rattle.std.proofs.lemmas.List.{get_or-append_right, get_or_append_left, get_or_default, get_or-take, length_push, length-take-le, take_all}
use Rattle.std.proofs.lemmas.List.Sorted.{sum_by-IsPermutation}
use Rattle.std.proofs.lemmas.List.Sums.{sum_by-cons}
use Rattle.std.proofs.lemmas.Option.{get_or_from_slice_get, none-some, same_Some, slice_get-get_or, slice_get_within}
use Rattle.std.proofs.lemmas.List.Elements.{Contains-append_left, Contains-push, Contains-push_cases}
use Rattle.lists.proofs.Members.{Contains-cases, Contains-later, Contains-nil}
use Rattle.plane_model.specs.Parity.{xor, odd_count}
use Rattle.face_walk.specs.Holders.{stands_oddly, AreAcross, AreOddOnes, AreOwnersOf, IsFlipped, IsPut}
use Rattle.face_walk.specs.declared.ring_steps.RingStep.{RingStep}
use Rattle.face_walk.proofs.RingStepLemmas.{take_found, take_item}

-- ---- exactly one of two

xor_assoc : (a b c : Bool) → xor (xor a b) c ≡ xor a (xor b c)
xor_assoc false b c = refl
xor_assoc true false c = refl
xor_assoc true true false = refl
xor_assoc true true true = refl

pub xor_none : (a : Bool) → xor a false ≡ a
xor_none false = refl
xor_none true = refl

xor_swap : (a b c : Bool) → xor (xor a b) c ≡ xor (xor a c) b
xor_swap false false false = refl
xor_swap false false true = refl
xor_swap false true false = refl
xor_swap false true true = refl
xor_swap true false false = refl
xor_swap true false true = refl
xor_swap true true false = refl
xor_swap true true true = refl

xor_twice : (a b : Bool) → a ≡ xor (xor a b) b
xor_twice false false = refl
xor_twice false true = refl
xor_twice true false = refl
xor_twice true true = refl

-- ---- odd counts

pub odd_of_two : {A : Type 0} (f : A → Bool) (xs ys : List A) → odd_count f (xs ++ ys) ≡ xor (odd_count f xs) (odd_count f ys)
odd_of_two f [] ys = refl
odd_of_two f (x ∷ xs) ys = ap (λ (b : Bool). xor (f x) b) (odd_of_two f xs ys) ∙ sym (xor_assoc (f x) (odd_count f xs) (odd_count f ys))

one_where : Bool → ℕ
one_where b = cond b 1 0

is_odd : ℕ → Bool
is_odd zero = false
is_odd (suc n) = not (is_odd n)

odd_of_sum : {A : Type 0} (f : A → Bool) (xs : List A) → odd_count f xs ≡ is_odd (sum_by (λ (x : A). one_where (f x)) xs)
unfolding one_where is_odd
odd_of_sum f [] = refl
odd_of_sum {A} f (x ∷ xs) = ap (xor (f x)) (odd_of_sum f xs) ∙ go (f x) (sum_by (λ (y : A). one_where (f y)) xs) ∙ ap is_odd (sym (sum_by-cons (λ (y : A). one_where (f y)) x xs))
  where
    go : (b : Bool) (n : ℕ) → xor b (is_odd n) ≡ is_odd (one_where b + n)
    go true n = let e : suc n ≡ 1 + n = omega arith in ap is_odd e
    go false n = let e : n ≡ 0 + n = omega arith in ap is_odd e

pub odd_of_moved : {A : Type 0} (f : A → Bool) (xs ys : List A) → IsPermutation xs ys → odd_count f ys ≡ odd_count f xs
odd_of_moved {A} f xs ys h = odd_of_sum f ys ∙ ap is_odd (sum_by-IsPermutation (λ (x : A). one_where (f x)) xs ys h) ∙ sym (odd_of_sum f xs)

-- ---- a number that stands in a list oddly is there

pub stands_there : (xs : List ℕ) (n : ℕ) → stands_oddly xs n ≡ true → Contains xs n
stands_there [] n e = absurd (let f : false ≡ true = e in cc)
stands_there (x ∷ xs) n e = go (nat_eq n x) refl e (stands_there xs n)
  where
    go : (b : Bool) → nat_eq n x ≡ b → xor b (stands_oddly xs n) ≡ true → (stands_oddly xs n ≡ true → Contains xs n) → Contains (x ∷ xs) n
    go true f e later = let same = eqb-true n x f in (0, omega arith, let back : x ≡ n = omega arith in back)
    go false f e later = Contains-later x xs n (later e)

-- ---- lists that rise

pub rises_on : (xs : List ℕ) → IsStrictlyIncreasing xs → (i j : ℕ) → i < j → j < length xs → get_or xs i 0 < get_or xs j 0
rises_on xs h i zero l m = absurd (omega arith)
rises_on xs h i (suc j) l m =
    let next : suc j ≡ j + 1 = omega arith in
    let step = h j (omega arith) in
    let there = ap (λ (k : ℕ). get_or xs k 0) next in
    elim (cases_lt i j) [
      | inl less ↦ (let before = rises_on xs h i j less (omega arith) in omega arith)
      | inr more ↦ (let same : i ≡ j = omega arith in let here = ap (λ (k : ℕ). get_or xs k 0) same in omega arith)
    ]

rises_later : (x : ℕ) (xs : List ℕ) → IsStrictlyIncreasing (x ∷ xs) → IsStrictlyIncreasing xs
rises_later x xs h k l =
    let same : suc k + 1 ≡ suc (k + 1) = omega arith in
    let next = ap (λ (j : ℕ). get_or (x ∷ xs) j 0) same in
    let step = h (suc k) (omega arith) in
    omega arith

rises_above : (x : ℕ) (xs : List ℕ) → IsStrictlyIncreasing (x ∷ xs) → (n : ℕ) → Contains xs n → x < n
rises_above x xs h n (k, l, e) = let above = rises_on (x ∷ xs) h 0 (suc k) (omega arith) (omega arith) in let d = get_or_at xs k n l e in omega arith
  where
    get_or_at : (ys : List ℕ) (j m : ℕ) → j < length ys → get_or ys j m ≡ m → get_or ys j 0 ≡ m
    get_or_at [] j m i f = absurd (omega arith)
    get_or_at (y ∷ ys) zero m i f = f
    get_or_at (y ∷ ys) (suc j) m i f = get_or_at ys j m (omega arith) f

pub absent : (xs : List ℕ) (n : ℕ) → (Contains xs n → ⊥) → stands_oddly xs n ≡ false
absent xs n h = go (stands_oddly xs n) refl
  where
    go : (b : Bool) → stands_oddly xs n ≡ b → b ≡ false
    go false e = refl
    go true e = absurd (h (stands_there xs n e))

-- in a list that rises a number that is there stands once
pub stands_once : (xs : List ℕ) → IsStrictlyIncreasing xs → (n : ℕ) → Contains xs n → stands_oddly xs n ≡ true
stands_once [] h n (k, l, e) = absurd (omega arith)
stands_once (x ∷ xs) h n c = elim (Contains-cases x xs n c) [
  | inl e ↦ (let gone : stands_oddly xs n ≡ false = absent xs n (λ d. let above = rises_above x xs h n d in omega arith) in
      λ i. xor (eq-eqb n x (sym e) i) (gone i))
  | inr d ↦ (let above = rises_above x xs h n d in (λ i. xor (ne_eqb n x (λ same. omega arith) i) (stands_oddly xs n)) ∙ stands_once xs (rises_later x xs h) n d)
]

-- one greater number more
pub rises_more : (xs : List ℕ) (n : ℕ) → IsStrictlyIncreasing xs → All (λ (m : ℕ). m ≤ n) xs → (slice_get xs (length xs - 1) ≡ Some n → ⊥) → IsStrictlyIncreasing (xs ++ n ∷ [])
rises_more xs n h low other k l =
    let size = length_push xs n in
    elim (cases_lt (k + 1) (length xs)) [
      | inl less ↦ (let step = h k less in
          let here = get_or_append_left xs (n ∷ []) 0 k (omega arith) in
          let next = get_or_append_left xs (n ∷ []) 0 (k + 1) less in
          omega arith)
      | inr more ↦ (let last : length xs - 1 ≡ k = omega arith in
          let here = get_or_append_left xs (n ∷ []) 0 k (omega arith) in
          let next : get_or (xs ++ n ∷ []) (k + 1) 0 ≡ n = get_or-append_right xs (n ∷ []) (k + 1) (k + 1) 0 (omega arith) (omega arith) ∙ (let zeroth : k + 1 - (k + 1) ≡ 0 = omega arith in ap (λ (j : ℕ). get_or (n ∷ []) j 0) zeroth) in
          let below = low k 0 (omega arith) in
          elim (cases_lt (get_or xs k 0) n) [
            | inl less ↦ omega arith
            | inr not_less ↦ absurd (other (ap (slice_get xs) last ∙ slice_get-get_or xs k 0 (omega arith) ∙ (let same : get_or xs k 0 ≡ n = omega arith in ap Some same)))
          ])
    ]

-- ---- one number in or out

pub number_out : (xs ys : List ℕ) (n : ℕ) → IsStrictlyIncreasing xs → slice_get xs (length xs - 1) ≡ Some n → ys ≡ take (length xs - 1) xs → IsFlipped xs n ys
number_out xs ys n h last e =
    let within = slice_get_within xs (length xs - 1) n last in
    let size : length xs - 1 + 1 ≡ length xs = omega arith in
    let whole : xs ≡ ys ++ n ∷ [] = sym (take_all (length xs) xs (omega arith)) ∙ ap (λ (k : ℕ). take k xs) (sym size) ∙ take_found xs (length xs - 1) n last ∙ ap (λ (zs : List ℕ). zs ++ n ∷ []) (sym e) in
    let shorter = ap (λ (zs : List ℕ). length zs) whole ∙ length_push ys n in
    record {
      rising = λ k l. (let step = h k (omega arith) in
          let here = ap (λ (zs : List ℕ). get_or zs k 0) whole ∙ get_or_append_left ys (n ∷ []) 0 k (omega arith) in
          let next = ap (λ (zs : List ℕ). get_or zs (k + 1) 0) whole ∙ get_or_append_left ys (n ∷ []) 0 (k + 1) l in
          omega arith);
      parity = λ m. xor_twice (stands_oddly ys m) (nat_eq m n)
          ∙ ap (λ (b : Bool). xor b (nat_eq m n)) (ap (xor (stands_oddly ys m)) (sym (xor_none (nat_eq m n))) ∙ sym (odd_of_two (nat_eq m) ys (n ∷ [])) ∙ ap (λ (zs : List ℕ). stands_oddly zs m) (sym whole));
    }

pub number_in : (xs ys : List ℕ) (n : ℕ) → IsStrictlyIncreasing xs → All (λ (m : ℕ). m ≤ n) xs → (slice_get xs (length xs - 1) ≡ Some n → ⊥) → ys ≡ xs ++ n ∷ [] → IsFlipped xs n ys
number_in xs ys n h low other e = record {
  rising = subst (λ (zs : List ℕ). IsStrictlyIncreasing zs) (sym e) (rises_more xs n h low other);
  parity = λ m. ap (λ (zs : List ℕ). stands_oddly zs m) e ∙ odd_of_two (nat_eq m) xs (n ∷ []) ∙ ap (xor (stands_oddly xs m)) (xor_none (nat_eq m n));
}

-- in any place, by the odd ones of the list with the number
pub number_sorted : (old pushed sorted new : List ℕ) (n : ℕ) → pushed ≡ old ++ n ∷ [] → IsPermutation pushed sorted → AreOddOnes sorted new → IsFlipped old n new
number_sorted old pushed sorted new n e moved h = record {
  rising = h.rising;
  parity = λ m. h.parity m ∙ odd_of_moved (nat_eq m) pushed sorted moved ∙ ap (λ (zs : List ℕ). stands_oddly zs m) e ∙ odd_of_two (nat_eq m) old (n ∷ []) ∙ ap (xor (stands_oddly old m)) (xor_none (nat_eq m n));
}

-- what is no less than the last number is no less than any
pub low_last : (xs : List ℕ) (last n : ℕ) → IsStrictlyIncreasing xs → slice_get xs (length xs - 1) ≡ Some last → last ≤ n → All (λ (m : ℕ). m ≤ n) xs
low_last xs last n up found l j d below =
    let value = get_or_from_slice_get xs (length xs - 1) last 0 found in
    let here = get_or_default xs j d 0 below in
    elim (cases_lt j (length xs - 1)) [
      | inl less ↦ (let far = rises_on xs up j (length xs - 1) less (omega arith) in omega arith)
      | inr more ↦ (let same : j ≡ length xs - 1 = omega arith in let at_last = ap (λ (k : ℕ). get_or xs k 0) same in omega arith)
    ]

-- ---- the numbers of a list in order, one after another

-- the odd ones so far are no greater than the next number
pub odd_low : (sorted odd : List ℕ) (k n : ℕ) → IsNonDecreasing sorted → k < length sorted → get_or sorted k n ≡ n → AreOddOnes (take k sorted) odd → All (λ (m : ℕ). m ≤ n) odd
odd_low sorted odd k n up l e h j d below =
    let m = get_or odd j d in
    let (i, within, found) = stands_there (take k sorted) m (sym (h.parity m) ∙ stands_once odd h.rising m (j, below, get_or_default odd j m d below)) in
    let size = length-take-le k sorted (omega arith) in
    let there = get_or-take k sorted i m (omega arith) in
    let inside = up i k m (omega arith) l in
    let next = get_or_default sorted k m n l in
    omega arith

pub odd_more : (sorted odd new : List ℕ) (k n : ℕ) → k < length sorted → get_or sorted k n ≡ n → AreOddOnes (take k sorted) odd → IsFlipped odd n new → AreOddOnes (take (k + 1) sorted) new
odd_more sorted odd new k n l e h f = record {
  rising = f.rising;
  parity = λ m. f.parity m ∙ ap (λ (b : Bool). xor b (nat_eq m n)) (h.parity m)
      ∙ ap (xor (stands_oddly (take k sorted) m)) (sym (xor_none (nat_eq m n))) ∙ sym (odd_of_two (nat_eq m) (take k sorted) (n ∷ []))
      ∙ ap (λ (zs : List ℕ). stands_oddly zs m) (sym (take_item sorted k n l e));
}

-- ---- across an arc

pub across_none : AreAcross [] [] []
across_none = record { rising = λ k l. absurd (omega arith); parity = λ i. refl }

-- one number more of the face that is left
pub across_held : (along : List RingStep) (held items new : List ℕ) (k n : ℕ) → k < length held → get_or held k n ≡ n → AreAcross along (take k held) items → IsFlipped items n new → AreAcross along (take (k + 1) held) new
across_held along held items new k n l e h f = record {
  rising = f.rising;
  parity = λ i. (
      let a = stands_oddly (take k held) i in
      let o = odd_count (λ (s : RingStep). nat_eq i s.item) along in
      let more : stands_oddly (take (k + 1) held) i ≡ xor a (nat_eq i n) =
      ap (λ (zs : List ℕ). stands_oddly zs i) (take_item held k n l e) ∙ odd_of_two (nat_eq i) (take k held) (n ∷ []) ∙ ap (xor a) (xor_none (nat_eq i n)) in
      f.parity i ∙ ap (λ (b : Bool). xor b (nat_eq i n)) (h.parity i) ∙ xor_swap a o (nat_eq i n) ∙ ap (λ (b : Bool). xor b o) (sym more));
}

-- one step more along the arc
pub across_step : (along : List RingStep) (held items new : List ℕ) (k : ℕ) (s : RingStep) → k < length along → get_or along k s ≡ s → AreAcross (take k along) held items → IsFlipped items s.item new → AreAcross (take (k + 1) along) held new
across_step along held items new k s l e h f = record {
  rising = f.rising;
  parity = λ i. (
      let test : RingStep → Bool = λ t. nat_eq i t.item in
      let a = stands_oddly held i in
      let o = odd_count test (take k along) in
      let more : odd_count test (take (k + 1) along) ≡ xor o (test s) =
      ap (odd_count test) (take_item along k s l e) ∙ odd_of_two test (take k along) (s ∷ []) ∙ ap (xor o) (xor_none (test s)) in
      f.parity i ∙ ap (λ (b : Bool). xor b (test s)) (h.parity i) ∙ xor_assoc a o (test s) ∙ ap (xor a) (sym more));
}

-- ---- owners

-- one owner more
pub put_there : (old : List ℕ) (n : ℕ) → IsStrictlyIncreasing old → slice_get old (length old - 1) ≡ Some n → IsPut old n old
put_there old n h last = record {
  rising = h;
  each = λ m. (
    λ c. inl c,
    λ w. elim w [
      | inl c ↦ c
      | inr e ↦ subst (Contains old) (sym e) (length old - 1, slice_get_within old (length old - 1) n last, get_or_from_slice_get old (length old - 1) n n last)
    ],
  );
}

pub put_last : (old new : List ℕ) (n : ℕ) → IsStrictlyIncreasing old → All (λ (m : ℕ). m ≤ n) old → (slice_get old (length old - 1) ≡ Some n → ⊥) → new ≡ old ++ n ∷ [] → IsPut old n new
put_last old new n h low other e = record {
  rising = subst (λ (zs : List ℕ). IsStrictlyIncreasing zs) (sym e) (rises_more old n h low other);
  each = λ m. (
    λ c. elim (Contains-push_cases old n m (subst (λ (zs : List ℕ). Contains zs m) e c)) [ inl d ↦ inl d | inr f ↦ inr (sym f) ],
    λ w. subst (λ (zs : List ℕ). Contains zs m) (sym e) (elim w [
      | inl c ↦ Contains-append_left old (n ∷ []) m c
      | inr f ↦ subst (Contains (old ++ n ∷ [])) (sym f) (Contains-push old n)
    ]),
  );
}

pub owners_none : (owners : List ℕ) → AreOwnersOf owners [] []
owners_none owners = record {
  rising = λ k l. absurd (omega arith);
  each = λ f. (λ c. Contains-nil f c, λ w. Contains-nil w.0 w.1);
}

pub owners_low : (owners items features : List ℕ) (k i owner : ℕ) → IsNonDecreasing owners → IsStrictlyIncreasing items → k < length items → get_or items k i ≡ i → slice_get owners i ≡ Some owner → AreOwnersOf owners (take k items) features → All (λ (m : ℕ). m ≤ owner) features
owners_low owners items features k i owner up rising l e found h j d below =
    let m = get_or features j d in
    let (n, (p, within, is), owned) = (h.each m).0 (j, below, get_or_default features j m d below) in
    let size = length-take-le k items (omega arith) in
    let before = rises_on items rising p k (omega arith) l in
    let at_p : get_or items p 0 ≡ n = get_or_default items p 0 n (omega arith) ∙ sym (get_or-take k items p n (omega arith)) ∙ is in
    let at_k : get_or items k 0 ≡ i = get_or_default items k 0 i l ∙ e in
    let to = slice_get_within owners i owner found in
    let lower = up n i 0 (omega arith) to in
    let value_n = get_or_from_slice_get owners n m 0 owned in
    let value_i = get_or_from_slice_get owners i owner 0 found in
    omega arith

pub owners_with : (owners items features new : List ℕ) (k i owner : ℕ) → k < length items → get_or items k i ≡ i → slice_get owners i ≡ Some owner → AreOwnersOf owners (take k items) features → IsPut features owner new → AreOwnersOf owners (take (k + 1) items) new
owners_with owners items features new k i owner l e found h put =
    let next = take_item items k i l e in
    record {
      rising = put.rising;
      each = λ f. (
        λ c. elim ((put.each f).0 c) [
          | inl old ↦ (let (n, there, owned) = (h.each f).0 old in (n, subst (λ (zs : List ℕ). Contains zs n) (sym next) (Contains-append_left (take k items) (i ∷ []) n there), owned))
          | inr same ↦ (i, subst (λ (zs : List ℕ). Contains zs i) (sym next) (Contains-push (take k items) i), found ∙ ap Some (sym same))
        ],
        λ (n, there, owned). elim (Contains-push_cases (take k items) i n (subst (λ (zs : List ℕ). Contains zs n) next there)) [
          | inl old ↦ (put.each f).1 (inl ((h.each f).1 (n, old, owned)))
          | inr same ↦ (put.each f).1 (inr (same_Some f owner (sym owned ∙ ap (slice_get owners) (sym same) ∙ found)))
        ],
      );
    }

-- an item that nobody owns
pub owners_without : (owners items features : List ℕ) (k i : ℕ) → k < length items → get_or items k i ≡ i → slice_get owners i ≡ None → AreOwnersOf owners (take k items) features → AreOwnersOf owners (take (k + 1) items) features
owners_without owners items features k i l e none h =
    let next = take_item items k i l e in
    record {
      rising = h.rising;
      each = λ f. (
        λ c. (let (n, there, owned) = (h.each f).0 c in (n, subst (λ (zs : List ℕ). Contains zs n) (sym next) (Contains-append_left (take k items) (i ∷ []) n there), owned)),
        λ (n, there, owned). elim (Contains-push_cases (take k items) i n (subst (λ (zs : List ℕ). Contains zs n) next there)) [
          | inl old ↦ (h.each f).1 (n, old, owned)
          | inr same ↦ absurd (none-some f (sym none ∙ ap (slice_get owners) same ∙ owned))
        ],
      );
    }
