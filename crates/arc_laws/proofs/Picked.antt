-- Elements of a list of which something is picked: just two of them, or just one.
use Rattle.std.proofs.Common.{◌≡◌, refl, ap, ◌∙◌, arith, ℕ, zero, suc, ◌<◌, List, [], ◌∷◌, length, get_or, Option, Some, None}
use Rattle.std.specs.List.{cons_option, filter_map}

module _ {A B : Type 0} (pick : A → Option B) (d : A) where
  none_picked : (xs : List A) → ((k : ℕ) → k < length xs → pick (get_or xs k d) ≡ None) → filter_map pick xs ≡ []
  none_picked [] none = refl
  none_picked (x ∷ xs) none = ap (λ (o : Option B). cons_option o (filter_map pick xs)) (none 0 (omega arith)) ∙ none_picked xs (λ k l. none (suc k) (omega arith))

  one_picked : (xs : List A) (i : ℕ) (u : B) → i < length xs → pick (get_or xs i d) ≡ Some u → ((k : ℕ) → k < length xs → (k ≡ i → ⊥) → pick (get_or xs k d) ≡ None) → filter_map pick xs ≡ u ∷ []
  one_picked [] i u l e none = absurd (omega arith)
  one_picked (x ∷ xs) zero u l e none =
      ap (λ (o : Option B). cons_option o (filter_map pick xs)) e ∙ ap (λ (ys : List B). u ∷ ys) (none_picked xs (λ k m. none (suc k) (omega arith) (λ f. omega arith)))
  one_picked (x ∷ xs) (suc i) u l e none =
      ap (λ (o : Option B). cons_option o (filter_map pick xs)) (none 0 (omega arith) (λ f. omega arith)) ∙ one_picked xs i u (omega arith) e (λ k m ne. none (suc k) (omega arith) (λ f. ne (omega arith)))

  pub two_picked : (xs : List A) (i j : ℕ) (u v : B) → i < j → j < length xs → pick (get_or xs i d) ≡ Some u → pick (get_or xs j d) ≡ Some v
      → ((k : ℕ) → k < length xs → (k ≡ i → ⊥) → (k ≡ j → ⊥) → pick (get_or xs k d) ≡ None) → filter_map pick xs ≡ u ∷ v ∷ []
  two_picked [] i j u v less l e f none = absurd (omega arith)
  two_picked (x ∷ xs) i zero u v less l e f none = absurd (omega arith)
  two_picked (x ∷ xs) zero (suc j) u v less l e f none =
      ap (λ (o : Option B). cons_option o (filter_map pick xs)) e
      ∙ ap (λ (ys : List B). u ∷ ys) (one_picked xs j v (omega arith) f (λ k m ne. none (suc k) (omega arith) (λ g. omega arith) (λ g. ne (omega arith))))
  two_picked (x ∷ xs) (suc i) (suc j) u v less l e f none =
      ap (λ (o : Option B). cons_option o (filter_map pick xs)) (none 0 (omega arith) (λ g. omega arith) (λ g. omega arith))
      ∙ two_picked xs i j u v (omega arith) (omega arith) e f (λ k m ni nj. none (suc k) (omega arith) (λ g. ni (omega arith)) (λ g. nj (omega arith)))

  -- ---- and back

  none_found : (xs : List A) → length (filter_map pick xs) ≡ 0 → (k : ℕ) → k < length xs → pick (get_or xs k d) ≡ None
  none_found [] e k l = absurd (omega arith)
  none_found (x ∷ xs) e k l = go (pick x) refl e (none_found xs) k l
    where
      go : (o : Option B) → pick x ≡ o → length (cons_option o (filter_map pick xs)) ≡ 0 → (length (filter_map pick xs) ≡ 0 → (k : ℕ) → k < length xs → pick (get_or xs k d) ≡ None) → (k : ℕ) → k < length (x ∷ xs) → pick (get_or (x ∷ xs) k d) ≡ None
      go None is e more zero l = is
      go None is e more (suc k) l = more e k (omega arith)
      go (Some y) is e more k l = absurd (omega arith)

  record OneFound (xs : List A) : Type 0 where
    place : ℕ
    value : B
    there : place < length xs
    picks : pick (get_or xs place d) ≡ Some value
    others : (k : ℕ) → k < length xs → (k ≡ place → ⊥) → pick (get_or xs k d) ≡ None

  later_one : (x : A) (xs : List A) → pick x ≡ None → OneFound xs → OneFound (x ∷ xs)
  later_one x xs is r = record { place = suc r.place; value = r.value; there = (let l = r.there in omega arith); picks = r.picks; others = others }
    where
      others : (k : ℕ) → k < length (x ∷ xs) → (k ≡ suc r.place → ⊥) → pick (get_or (x ∷ xs) k d) ≡ None
      others zero l ne = is
      others (suc k) l ne = r.others k (omega arith) (λ f. ne (ap suc f))

  first_one : (x : A) (xs : List A) (y : B) → pick x ≡ Some y → ((k : ℕ) → k < length xs → pick (get_or xs k d) ≡ None) → OneFound (x ∷ xs)
  first_one x xs y is none = record { place = 0; value = y; there = omega arith; picks = is; others = others }
    where
      others : (k : ℕ) → k < length (x ∷ xs) → (k ≡ 0 → ⊥) → pick (get_or (x ∷ xs) k d) ≡ None
      others zero l ne = absurd (ne refl)
      others (suc k) l ne = none k (omega arith)

  one_found : (xs : List A) → length (filter_map pick xs) ≡ 1 → OneFound xs
  one_found [] e = absurd (omega arith)
  one_found (x ∷ xs) e = go (pick x) refl e (one_found xs)
    where
      go : (o : Option B) → pick x ≡ o → length (cons_option o (filter_map pick xs)) ≡ 1 → (length (filter_map pick xs) ≡ 1 → OneFound xs) → OneFound (x ∷ xs)
      go None is e more = later_one x xs is (more e)
      go (Some y) is e more = first_one x xs y is (none_found xs (omega arith))

  pub record TwoFound (xs : List A) : Type 0 where
    pub first : ℕ
    pub second : ℕ
    pub less : first < second
    pub there : second < length xs
    pub one : B
    pub another : B
    pub picks_one : pick (get_or xs first d) ≡ Some one
    pub picks_another : pick (get_or xs second d) ≡ Some another
    pub others : (k : ℕ) → k < length xs → (k ≡ first → ⊥) → (k ≡ second → ⊥) → pick (get_or xs k d) ≡ None

  later_two : (x : A) (xs : List A) → pick x ≡ None → TwoFound xs → TwoFound (x ∷ xs)
  later_two x xs is r = record {
    first = suc r.first;
    second = suc r.second;
    less = (let l = r.less in omega arith);
    there = (let l = r.there in omega arith);
    one = r.one;
    another = r.another;
    picks_one = r.picks_one;
    picks_another = r.picks_another;
    others = others;
  }
    where
      others : (k : ℕ) → k < length (x ∷ xs) → (k ≡ suc r.first → ⊥) → (k ≡ suc r.second → ⊥) → pick (get_or (x ∷ xs) k d) ≡ None
      others zero l ni nj = is
      others (suc k) l ni nj = r.others k (omega arith) (λ f. ni (ap suc f)) (λ f. nj (ap suc f))

  first_two : (x : A) (xs : List A) (y : B) → pick x ≡ Some y → OneFound xs → TwoFound (x ∷ xs)
  first_two x xs y is r = record {
    first = 0;
    second = suc r.place;
    less = omega arith;
    there = (let l = r.there in omega arith);
    one = y;
    another = r.value;
    picks_one = is;
    picks_another = r.picks;
    others = others;
  }
    where
      others : (k : ℕ) → k < length (x ∷ xs) → (k ≡ 0 → ⊥) → (k ≡ suc r.place → ⊥) → pick (get_or (x ∷ xs) k d) ≡ None
      others zero l ni nj = absurd (ni refl)
      others (suc k) l ni nj = r.others k (omega arith) (λ f. nj (ap suc f))

  pub two_found : (xs : List A) → length (filter_map pick xs) ≡ 2 → TwoFound xs
  two_found [] e = absurd (omega arith)
  two_found (x ∷ xs) e = go (pick x) refl e (two_found xs)
    where
      go : (o : Option B) → pick x ≡ o → length (cons_option o (filter_map pick xs)) ≡ 2 → (length (filter_map pick xs) ≡ 2 → TwoFound xs) → TwoFound (x ∷ xs)
      go None is e more = later_two x xs is (more e)
      go (Some y) is e more = first_two x xs y is (one_found xs (omega arith))
