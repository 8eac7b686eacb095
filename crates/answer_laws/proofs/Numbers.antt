-- Numbers that points have, and the places of these numbers in order.
use Rattle.std.proofs.Common.{◌≡◌, ◌⊎◌, inl, inr, refl, sym, ap, subst, ◌∙◌, arith, ℕ, zero, suc, ◌<◌, Bool, true, false, cond, List, [], ◌∷◌, Contains, filter, length, get_or, nat_lt}
use Rattle.std.specs.Prelude.{◌↔◌}
use Rattle.std.specs.List.Sorted.{IsStrictlyIncreasing}
use Rattle.std.proofs.lemmas.Bool.{cases_eq, false_from_ne_true, lt-ltb, ltb-true}
use Rattle.std.proofs.lemmas.List.{get_or_default}
use Rattle.std.proofs.lemmas.List.Elements.{Contains-get_or}
use Rattle.lists.proofs.Ascending.{IsAscending, one_ascending}
use Rattle.lists.proofs.Members.{Contains-cases, Contains-filter, Contains-head, Contains-later, filter-Contains}
use Rattle.plane_model.specs.Points.{RationalPoint, Segment}
use Rattle.plane_model.specs.Arrangement.{IsArrangement, IsDistinct}
use Rattle.plane_model.specs.Joined.{AreOfOneFace}
use Rattle.plane_model.specs.Sees.{IsOffLinks}
use Rattle.plane_model.specs.Sides.{Points}
use Rattle.face_sets.proofs.SetLemmas.{from_ascending, nat_order, to_ascending}
use Rattle.region_laws.proofs.AscendingLists.{filter_ascends}
use Rattle.answer_laws.proofs.Deciding.{IsTold, all_of_them, same_told}
use Rattle.answer_laws.proofs.FaceSets.{IsFaceSet, point_told}

-- ---- the numbers below one of a list

none_passes : (f : ℕ → Bool) (xs : List ℕ) → ((x : ℕ) → Contains xs x → f x ≡ false) → filter f xs ≡ []
none_passes f [] h = refl
none_passes f (x ∷ xs) h = go (f x) (h x (Contains-head x xs)) (none_passes f xs (λ y c. h y (Contains-later x xs y c)))
  where
    go : (b : Bool) → b ≡ false → filter f xs ≡ [] → cond b (x ∷ filter f xs) (filter f xs) ≡ []
    go true e none = absurd (let g : true ≡ false = e in cc)
    go false e none = none

not_below : (m n : ℕ) → (m < n → ⊥) → nat_lt m n ≡ false
not_below m n h = false_from_ne_true (nat_lt m n) (λ e. h (ltb-true m n e))

-- in an ascending list there are i before the one at place i
pub before_place : (xs : List ℕ) → IsAscending nat_lt xs → (i : ℕ) → i < length xs → length (filter (λ m. nat_lt m (get_or xs i 0)) xs) ≡ i
before_place [] up i l = absurd (omega arith)
before_place (x ∷ xs) up zero l =
    ap length (none_passes (λ m. nat_lt m x) (x ∷ xs) (λ y c. not_below y x (λ less. elim (Contains-cases x xs y c) [
      | inl e ↦ omega arith
      | inr k ↦ (let more = ltb-true x y (up.0 y k) in omega arith)
    ])))
before_place (x ∷ xs) up (suc i) l = go (nat_lt x (get_or xs i 0)) (up.0 (get_or xs i 0) (Contains-get_or xs i 0 (omega arith))) (before_place xs up.1 i (omega arith))
  where
    go : (b : Bool) → b ≡ true → length (filter (λ m. nat_lt m (get_or xs i 0)) xs) ≡ i → length (cond b (x ∷ filter (λ m. nat_lt m (get_or xs i 0)) xs) (filter (λ m. nat_lt m (get_or xs i 0)) xs)) ≡ suc i
    go true e h = omega arith
    go false e h = absurd (let g : false ≡ true = e in cc)

-- ---- numbers of points

-- at a point of In it can be told whether it stands at place j, and the places that have points are those below the
-- count
pub record ArePlaces (S : List Segment) (In : Points) (At : RationalPoint → ℕ → Type 0) (count : ℕ) : Type 0 where
  pub told : (z : RationalPoint) (j : ℕ) → IsTold (In z × At z j)
  pub below : (j : ℕ) → (j < count) ↔ ((z : RationalPoint) × IsOffLinks S z × (In z × At z j))

-- each point of In has a number, or none
module _ (S : List Segment) (arr : IsArrangement S) (distinct : IsDistinct S) (In : Points) (set : IsFaceSet S In) (Number : RationalPoint → ℕ → Type 0) (bound : ℕ)
    (found : (z : RationalPoint) → In z → ((n : ℕ) × Number z n) ⊎ ((n : ℕ) → Number z n → ⊥)) (one : (z : RationalPoint) (m n : ℕ) → Number z m → Number z n → m ≡ n)
    (below : (z : RationalPoint) (n : ℕ) → Number z n → n < bound) (faces : (u v : RationalPoint) → AreOfOneFace S u v → (n : ℕ) → Number u n → Number v n) where
  -- some point has the number n
  abbrev pub SomeHas : ℕ → Type 0
  SomeHas n = (w : RationalPoint) × IsOffLinks S w × In w × Number w n

  with_number : (n : ℕ) → IsFaceSet S (λ w. In w × Number w n)
  with_number n = record {
    told = λ w. elim (set.told w) [
      | inr out ↦ inr (λ h. out h.0)
      | inl i ↦ elim (found w i) [
        | inr none ↦ inr (λ h. none n h.1)
        | inl r ↦ elim (cases_eq r.0 n) [ inl e ↦ inl (i, subst (Number w) e r.1) | inr d ↦ inr (λ h. d (one w r.0 n r.1 h.1)) ]
      ]
    ];
    faces = λ u v f (i, is). (set.faces u v f i, faces u v f n is);
  }

  pub numbers_exist : (all : List ℕ) × IsAscending nat_lt all × ((n : ℕ) → Contains all n ↔ SomeHas n)
  numbers_exist =
      all_of_them SomeHas
      (λ n. same_told (λ (h : (w : RationalPoint) × IsOffLinks S w × (In w × Number w n)). (h.0, h.1, h.2.0, h.2.1)) (λ h. (h.0, h.1, (h.2, h.3))) (point_told S arr distinct (λ w. In w × Number w n) (with_number n)))
      bound (λ n (w, off, i, is). below w n is)

  module _ (all : List ℕ) (up : IsAscending nat_lt all) (are : (n : ℕ) → Contains all n ↔ SomeHas n) where
    abbrev lesser : ℕ → List ℕ
    lesser n = filter (λ m. nat_lt m n) all

    pub lesser_rise : (n : ℕ) → IsStrictlyIncreasing (lesser n)
    lesser_rise n = from_ascending (lesser n) (filter_ascends nat_lt (λ m. nat_lt m n) all up)

    pub lesser_are : (n m : ℕ) → Contains (lesser n) m ↔ ((m < n) × SomeHas m)
    lesser_are n m = (
      λ c. (let (there, less) = filter-Contains (λ k. nat_lt k n) all m c in (ltb-true m n less, (are m).0 there)),
      λ (less, some). Contains-filter (λ k. nat_lt k n) all m ((are m).1 some) (lt-ltb m n less),
    )

    lesser_is_one : (n : ℕ) (xs : List ℕ) → IsStrictlyIncreasing xs → ((m : ℕ) → Contains xs m ↔ ((m < n) × SomeHas m)) → xs ≡ lesser n
    lesser_is_one n xs rising same =
        one_ascending nat_lt nat_order xs (lesser n) (to_ascending xs rising) (filter_ascends nat_lt (λ m. nat_lt m n) all up)
        (λ m c. (lesser_are n m).1 ((same m).0 c)) (λ m c. (same m).1 ((lesser_are n m).0 c))

    -- the number of z stands at place j
    abbrev IsPlaced : RationalPoint → ℕ → Type 0
    IsPlaced z j = (n : ℕ) × Number z n × (length (lesser n) ≡ j)

    placed_told : (z : RationalPoint) → In z → (j : ℕ) → IsTold (IsPlaced z j)
    placed_told z i j = elim (found z i) [
      | inr none ↦ inr (λ (n, is, e). none n is)
      | inl r ↦ elim (cases_eq (length (lesser r.0)) j) [
        | inl e ↦ inl (r.0, r.1, e)
        | inr d ↦ inr (λ (n, is, e). d (ap (λ (k : ℕ). length (lesser k)) (one z r.0 n r.1 is) ∙ e))
      ]
    ]

    placed_below : (j : ℕ) → (j < length all) ↔ ((z : RationalPoint) × IsOffLinks S z × In z × IsPlaced z j)
    placed_below j = (
      λ l. (let (w, off, i, is) = (are (get_or all j 0)).0 (Contains-get_or all j 0 l) in (w, off, i, (get_or all j 0, is, before_place all up j l))),
      λ (z, off, i, (n, is, e)).
          let (k, l, at) = (are n).1 (z, off, i, is) in
          let same : k ≡ j = sym (before_place all up k l) ∙ ap (λ (m : ℕ). length (lesser m)) (get_or_default all k 0 n l ∙ at) ∙ e in
          omega arith,
    )

    -- At says the same, with a list of the lesser numbers
    pub are_places : (At : RationalPoint → ℕ → Type 0) →
        ((z : RationalPoint) (j n : ℕ) → Number z n → (xs : List ℕ) → IsStrictlyIncreasing xs → ((m : ℕ) → Contains xs m ↔ ((m < n) × SomeHas m)) → length xs ≡ j → At z j) →
        ((z : RationalPoint) (j : ℕ) → At z j → (n : ℕ) × Number z n × (xs : List ℕ) × IsStrictlyIncreasing xs × ((m : ℕ) → Contains xs m ↔ ((m < n) × SomeHas m)) × (length xs ≡ j)) → ArePlaces S In At (length all)
    are_places At make take_apart = record {
      told = λ z j. elim (set.told z) [
        | inr out ↦ inr (λ h. out h.0)
        | inl i ↦ same_told (λ placed. (i, to z j placed)) (λ h. from z j h.1) (placed_told z i j)
      ];
      below = λ j. (
        λ l. (let (z, off, i, placed) = (placed_below j).0 l in (z, off, (i, to z j placed))),
        λ (z, off, (i, is)). (placed_below j).1 (z, off, i, from z j is),
      );
    }
      where
        to : (z : RationalPoint) (j : ℕ) → IsPlaced z j → At z j
        to z j (n, is, e) = make z j n is (lesser n) (lesser_rise n) (lesser_are n) e

        from : (z : RationalPoint) (j : ℕ) → At z j → IsPlaced z j
        from z j h = let (n, is, xs, rising, same, e) = take_apart z j h in (n, is, sym (ap (λ (ys : List ℕ). length ys) (lesser_is_one n xs rising same)) ∙ e)
