-- What holds of each step of a path holds too of the path gone back, joined, and begun elsewhere.
use Rattle.std.proofs.Common.{◌≡◌, inl, inr, refl, sym, ap, subst, ◌∙◌, ℕ, zero, suc, Bool, true, false, cond, List, [], ◌∷◌, ◌++◌, reverse, Contains, append-nil, append_assoc}
use Rattle.std.proofs.lemmas.List.{reverse-append}
use Rattle.std.proofs.lemmas.List.Elements.{Contains-append_cases}
use Rattle.lists.specs.Lists.{last_of, least_of, place_of, turned}
use Rattle.lists.proofs.Members.{Contains-cases, Contains-head, Contains-later, Contains-nil}
use Rattle.plane_model.specs.Points.{GridPoint, Segment, Path, is_before, reversed, same_point}
use Rattle.plane_model.specs.Drawing.{steps}
use Rattle.plane_model.specs.Arcs.{begun_at_least}
use Rattle.plane_model.proofs.PointOrder.{clash, same_point_from, same_point_to}
use Rattle.plane_snapping.proofs.Steps.{last_of-append}
use Rattle.part_laws.proofs.CountLemmas.{steps_joined}

abbrev pub EachStep : (Segment → Type 0) → Path → Type 0
EachStep P path = (t : Segment) → Contains (steps path) t → P t

module _ (P : Segment → Type 0) where
  pub each_none : (p : GridPoint) → EachStep P (p ∷ [])
  each_none p t c = Contains-nil t c

  pub each_first : (p q : GridPoint) (rest : Path) → EachStep P (p ∷ q ∷ rest) → P (record { start = p; stop = q })
  each_first p q rest h = h (record { start = p; stop = q }) (Contains-head (record { start = p; stop = q }) (steps (q ∷ rest)))

  pub each_later : (p q : GridPoint) (rest : Path) → EachStep P (p ∷ q ∷ rest) → EachStep P (q ∷ rest)
  each_later p q rest h t c = h t (Contains-later (record { start = p; stop = q }) (steps (q ∷ rest)) t c)

  pub each_from : (p q : GridPoint) (rest : Path) → P (record { start = p; stop = q }) → EachStep P (q ∷ rest) → EachStep P (p ∷ q ∷ rest)
  each_from p q rest first later t c = elim (Contains-cases (record { start = p; stop = q }) (steps (q ∷ rest)) t c) [
    | inl e ↦ subst P e first
    | inr k ↦ later t k
  ]

  -- two paths joined at y
  pub each_joined : (xs : Path) (y : GridPoint) (ys : Path) → EachStep P (xs ++ y ∷ []) → EachStep P (y ∷ ys) → EachStep P (xs ++ y ∷ ys)
  each_joined xs y ys h k t c = elim (Contains-append_cases (steps (xs ++ y ∷ [])) (steps (y ∷ ys)) t (subst (λ (ss : List Segment). Contains ss t) (steps_joined xs y ys) c)) [
    | inl i ↦ h t i
    | inr i ↦ k t i
  ]

  -- one step more at the end
  each_end : (x : GridPoint) (xs : Path) (y : GridPoint) → EachStep P (x ∷ xs) → P (record { start = last_of x xs; stop = y }) → EachStep P (x ∷ (xs ++ y ∷ []))
  each_end x [] y h last = each_from x y [] last (each_none y)
  each_end x (z ∷ xs) y h last = each_from x z (xs ++ y ∷ []) (each_first x z xs h) (each_end z xs y (each_later x z xs h) last)

  -- ---- once round

  -- each step of the path, and the step from its last vertex to its first
  abbrev IsRound : Path → Type 0
  IsRound [] = Unit {0}
  IsRound (x ∷ xs) = EachStep P (x ∷ (xs ++ x ∷ []))

  -- begun one step later, and n steps later
  round_on : (x : GridPoint) (xs : Path) → IsRound (x ∷ xs) → IsRound (xs ++ x ∷ [])
  round_on x [] h = h
  round_on x (z ∷ zs) h =
      each_end z (zs ++ x ∷ []) z (each_later x z (zs ++ x ∷ []) h)
      (subst (λ (p : GridPoint). P (record { start = p; stop = z })) (sym (last_of-append z zs (x ∷ []))) (each_first x z (zs ++ x ∷ []) h))

  round_turned : (n : ℕ) (xs : Path) → IsRound xs → IsRound (turned n xs)
  round_turned n [] h = tt
  round_turned zero (x ∷ xs) h = h
  round_turned (suc n) (x ∷ xs) h = round_turned n (xs ++ x ∷ []) (round_on x xs h)

-- ---- gone back

pub each_back : (P : Segment → Type 0) (path : Path) → EachStep P path → EachStep (λ t. P (reversed t)) (reverse path)
each_back P [] h t c = Contains-nil t c
each_back P (p ∷ []) h t c = Contains-nil t c
each_back P (p ∷ q ∷ rest) h t c =
    let Back : Segment → Type 0 = λ t. P (reversed t) in
    let past : reverse (q ∷ rest) ≡ reverse rest ++ q ∷ [] = reverse-append (q ∷ []) rest in
    let whole : reverse (p ∷ q ∷ rest) ≡ reverse rest ++ q ∷ p ∷ [] = reverse-append (p ∷ []) (q ∷ rest) ∙ ap (λ (xs : Path). xs ++ p ∷ []) past ∙ append_assoc (reverse rest) (q ∷ []) (p ∷ []) in
    subst (EachStep Back) (sym whole)
    (each_joined Back (reverse rest) q (p ∷ []) (subst (EachStep Back) past (each_back P (q ∷ rest) (each_later P p q rest h))) (each_from Back q p [] (each_first P p q rest h) (each_none Back p))) t c

-- ---- begun at the least vertex

-- a list begun at the first element that passes a test
turned_found : {A : Type 0} (test : A → Bool) (xs ws : List A) (x : A) → Contains xs x → test x ≡ true → (y : A) × (ys : List A) × (turned (place_of test xs) (xs ++ ws) ≡ y ∷ ys) × (test y ≡ true)
turned_found test [] ws x c e = Contains-nil x c
turned_found {A} test (v ∷ xs) ws x c e = go (λ k. turned_found test xs (ws ++ v ∷ []) x k e) (test v) refl
  where
    go : (Contains xs x → (y : A) × (ys : List A) × (turned (place_of test xs) (xs ++ (ws ++ v ∷ [])) ≡ y ∷ ys) × (test y ≡ true)) →
        (b : Bool) → test v ≡ b → (y : A) × (ys : List A) × (turned (cond b 0 (suc (place_of test xs))) (v ∷ (xs ++ ws)) ≡ y ∷ ys) × (test y ≡ true)
    go later true f = (v, xs ++ ws, refl, f)
    go later false f =
        let there : Contains xs x = elim (Contains-cases v xs x c) [ inl i ↦ clash (test x) e (sym (ap test i) ∙ f) | inr k ↦ k ] in
        let (y, ys, is, told) = later there in
        (y, ys, ap (turned (place_of test xs)) (append_assoc xs ws (v ∷ [])) ∙ is, told)

-- the least vertex is one of them
least_there : (d x : GridPoint) (xs : Path) → Contains (x ∷ xs) (least_of is_before d (x ∷ xs))
least_there d x [] = Contains-head x []
least_there d x (y ∷ ys) = go (is_before (least_of is_before d (y ∷ ys)) x) (least_there d y ys)
  where
    go : (b : Bool) → Contains (y ∷ ys) (least_of is_before d (y ∷ ys)) → Contains (x ∷ y ∷ ys) (cond b (least_of is_before d (y ∷ ys)) x)
    go true c = Contains-later x (y ∷ ys) (least_of is_before d (y ∷ ys)) c
    go false c = Contains-head x (y ∷ ys)

-- a closed path begun at its least vertex
pub each_begun : (P : Segment → Type 0) (p : GridPoint) (rest : Path) → last_of p rest ≡ p → EachStep P (p ∷ rest) → EachStep P (begun_at_least (p ∷ rest))
each_begun P p [] closes h = each_none P p
each_begun P p (x ∷ xs) closes h =
    let least : GridPoint = least_of is_before p (x ∷ xs) in
    let n : ℕ = place_of (same_point least) (x ∷ xs) in
    let round : IsRound P (x ∷ xs) = each_end P x xs x (each_later P p x xs h) (subst (λ (q : GridPoint). P (record { start = q; stop = x })) (sym closes) (each_first P p x xs h)) in
    let (y, ys, is, told) = turned_found (same_point least) (x ∷ xs) [] least (least_there p x xs) (same_point_to least least refl) in
    let shape : turned n (x ∷ xs) ≡ y ∷ ys = ap (turned n) (sym (append-nil (x ∷ xs))) ∙ is in
    let whole : turned n (x ∷ xs) ++ least ∷ [] ≡ y ∷ (ys ++ y ∷ []) = (λ i. shape i ++ same_point_from least y told i ∷ []) in
    subst (EachStep P) (sym whole) (subst (IsRound P) shape (round_turned P n (x ∷ xs) round))
