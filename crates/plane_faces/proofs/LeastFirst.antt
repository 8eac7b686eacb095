-- A ring can start at its least vertex.
use Rattle.std.proofs.Common.{◌≡◌, ◌⊎◌, inl, inr, refl, sym, ap, subst, ◌∙◌, Bool, true, false, cond, List, [], ◌∷◌, ◌++◌}
use Rattle.std.specs.Prelude.{All, Contains, if◌then◌else◌}
use Rattle.std.specs.List.Sorted.{IsPermutation}
use Rattle.std.proofs.lemmas.List.{append_assoc}
use Rattle.std.proofs.lemmas.List.Elements.{All-head, All-tail, All-cons, All-nil, All-append, All-weaker, All-contains, All-contains_itself}
use Rattle.std.proofs.lemmas.List.Sorted.{IsPermutation-append_comm, IsPermutation-append, IsPermutation-refl, All-permutation}
use Rattle.plane_snapping.proofs.Steps.{last_of-append}
use Rattle.lists.specs.Lists.{last_of, least_of}
use Rattle.plane_model.specs.Points.{GridPoint, Segment, is_before, Path}
use Rattle.plane_model.specs.Parity.{xor}
use Rattle.plane_model.specs.Arrangement.{IsBefore, IsArrangement}
use Rattle.plane_model.specs.Rotation.{Dart}
use Rattle.plane_faces.specs.Around.{forward_dart, backward_dart}
use Rattle.plane_faces.specs.Places.{Place, left_of, left_side, right_side, border}
use Rattle.plane_faces.proofs.Runs.{AreDifferent, pairs_differ, differ_pairwise, ring_closed, dart_between, darts_from, darts_of_runs}
use Rattle.plane_faces.specs.Rings.{IsRing, darts_of_path, StartsLeast}
use Rattle.plane_faces.proofs.Lists.{all_left, all_right}
use Rattle.plane_model.specs.Rings.{turn_at_least}
use Rattle.plane_model.proofs.PointOrder.{before_to}
use Rattle.plane_faces.proofs.Turns.{HasLeastStart, Other, turn_begun_at}
use Rattle.plane_faces.proofs.Order.{before_trans, before_not_itself, before_not_back, order_cases}
use Rattle.plane_faces.proofs.Orientation.{dart_on, dart_back}
use Rattle.plane_faces.proofs.Parts.{passes_filter, border_in}

-- ---- a closed run, begun at another point

darts_cut : (q : GridPoint) (xs : List GridPoint) (r : GridPoint) (ys : List GridPoint) → darts_from q (xs ++ (r ∷ ys)) ≡ darts_from q (xs ++ (r ∷ [])) ++ darts_from r ys
darts_cut q [] r ys = refl
darts_cut q (x ∷ xs) r ys = ap (λ (ds : List Dart). dart_between q x ∷ ds) (darts_cut x xs r ys)

darts_join : (p : GridPoint) (ys zs : List GridPoint) → darts_from p (ys ++ zs) ≡ darts_from p ys ++ darts_from (last_of p ys) zs
darts_join p [] zs = refl
darts_join p (y ∷ ys) zs = ap (λ (ds : List Dart). dart_between p y ∷ ds) (darts_join y ys zs)

begun_at : (c : GridPoint) (xs : List GridPoint) (p : GridPoint) (ys : List GridPoint) → last_of c (xs ++ (p ∷ ys)) ≡ c → IsPermutation (darts_from c (xs ++ (p ∷ ys))) (darts_from p (ys ++ (xs ++ (p ∷ []))))
begun_at c xs p ys closed =
    subst (λ (ds : List Dart). IsPermutation ds (darts_from p (ys ++ (xs ++ (p ∷ []))))) (sym (darts_cut c xs p ys))
    (subst (IsPermutation (darts_from c (xs ++ (p ∷ [])) ++ darts_from p ys))
    (ap (λ (q : GridPoint). darts_from p ys ++ darts_from q (xs ++ (p ∷ []))) (sym closed ∙ last_of-append c xs (p ∷ ys)) ∙ sym (darts_join p ys (xs ++ (p ∷ []))))
    (IsPermutation-append_comm (darts_from c (xs ++ (p ∷ []))) (darts_from p ys)))

-- ---- lists without repeats

abbrev NotIn : List GridPoint → GridPoint → Type 0
NotIn ys x = All (λ y. y ≡ x → ⊥) ys

different_parts : (xs ys : List GridPoint) → AreDifferent (xs ++ ys) → AreDifferent xs × AreDifferent ys × All (NotIn ys) xs
different_parts [] ys h = (tt, h, All-nil (NotIn ys))
different_parts (x ∷ xs) ys h =
    let r : AreDifferent xs × AreDifferent ys × All (NotIn ys) xs = different_parts xs ys h.1 in
    ((all_left (λ y. y ≡ x → ⊥) xs ys h.0, r.0), r.1, All-cons (NotIn ys) x xs (all_right (λ y. y ≡ x → ⊥) xs ys h.0) r.2)

different_join : (xs ys : List GridPoint) → AreDifferent xs → AreDifferent ys → All (NotIn ys) xs → AreDifferent (xs ++ ys)
different_join [] ys hx hy a = hy
different_join (x ∷ xs) ys hx hy a = (All-append (λ y. y ≡ x → ⊥) xs ys hx.0 (All-head (NotIn ys) x xs a), different_join xs ys hx.1 hy (All-tail (NotIn ys) x xs a))

apart_turned : (xs ys : List GridPoint) → All (NotIn ys) xs → All (NotIn xs) ys
apart_turned xs ys h = All-weaker (Contains ys) (NotIn xs) (λ y c. All-weaker (Contains xs) (λ x. x ≡ y → ⊥) (λ x d e. All-contains (λ z. z ≡ x → ⊥) ys y (All-contains (NotIn ys) xs x h d) c (sym e)) xs (All-contains_itself xs)) ys (All-contains_itself ys)

different_turned : (xs : List GridPoint) (p : GridPoint) (ys : List GridPoint) → AreDifferent (xs ++ (p ∷ ys)) → AreDifferent (ys ++ (xs ++ (p ∷ [])))
different_turned xs p ys h =
    let r : AreDifferent (xs ++ (p ∷ [])) × AreDifferent ys × All (NotIn ys) (xs ++ (p ∷ [])) = different_parts (xs ++ (p ∷ [])) ys (subst AreDifferent (sym (append_assoc xs (p ∷ []) ys)) h) in
    different_join ys (xs ++ (p ∷ [])) r.1 r.0 (apart_turned (xs ++ (p ∷ [])) ys r.2)

-- ---- the least point

AtLeast : GridPoint → GridPoint → Type 0
AtLeast p x = (x ≡ p) ⊎ IsBefore p x

least_in : (q : GridPoint) (run : List GridPoint) → (xs : List GridPoint) × (p : GridPoint) × (ys : List GridPoint) × (q ∷ run ≡ xs ++ (p ∷ ys)) × All (AtLeast p) (q ∷ run) × ((d : GridPoint) → least_of is_before d (q ∷ run) ≡ p)
unfolding AtLeast
least_in q [] = ([], q, [], refl, All-cons (AtLeast q) q [] (inl refl) (All-nil (AtLeast q)), λ d. refl)
least_in q (r ∷ run) =
    let t : (xs : List GridPoint) × (p : GridPoint) × (ys : List GridPoint) × (r ∷ run ≡ xs ++ (p ∷ ys)) × All (AtLeast p) (r ∷ run) × ((d : GridPoint) → least_of is_before d (r ∷ run) ≡ p) = least_in r run in
    elim (order_cases q t.1) [
      | inl h ↦ (
        [],
        q,
        r ∷ run,
        refl,
        All-cons (AtLeast q) q (r ∷ run) (inl refl) (All-weaker (AtLeast t.1) (AtLeast q) (λ x k. elim k [ inl e ↦ inr (subst (IsBefore q) (sym e) h) | inr b ↦ inr (before_trans q t.1 x h b) ]) (r ∷ run) t.4),
        λ d. ap (λ (m : GridPoint). if is_before m q then m else q) (t.5 d) ∙ ap (λ (b : Bool). if b then t.1 else q) (before_not_back q t.1 h),
      )
      | inr s ↦ (
        q ∷ t.0,
        t.1,
        t.2,
        ap (λ (ps : List GridPoint). q ∷ ps) t.3,
        All-cons (AtLeast t.1) q (r ∷ run) s t.4,
        λ d. ap (λ (m : GridPoint). if is_before m q then m else q) (t.5 d) ∙ elim s [ inl e ↦ either (is_before t.1 q) q t.1 e | inr h ↦ ap (λ (b : Bool). if b then t.1 else q) (before_to t.1 q h) ],
      )
    ]
  where
    either : (b : Bool) (x m : GridPoint) → x ≡ m → (if b then m else x) ≡ m
    either true x m e = refl
    either false x m e = e

after_least : (p : GridPoint) (zs : List GridPoint) → All (AtLeast p) zs → NotIn zs p → All (IsBefore p) zs
unfolding AtLeast
after_least p zs h n = All-weaker (Contains zs) (IsBefore p) (λ z c. elim (All-contains (AtLeast p) zs z h c) [ inl e ↦ absurd (All-contains (λ y. y ≡ p → ⊥) zs z n c e) | inr b ↦ b ]) zs (All-contains_itself zs)

snoc : (x : GridPoint) (xs : List GridPoint) → (ps : List GridPoint) × (q : GridPoint) × (x ∷ xs ≡ ps ++ (q ∷ []))
snoc x [] = ([], x, refl)
snoc x (y ∷ ys) = let t = snoc y ys in (x ∷ t.0, t.1, ap (λ (ps : List GridPoint). x ∷ ps) t.2)

-- ---- a ring of a border

module _ (S : List Segment) (arr : IsArrangement S) (f : Place → Bool) where
  -- a dart of the border with f on its left
  abbrev pub Bordering : Dart → Type 0
  Bordering d = Contains (border f S) d.link × (f (left_of d) ≡ true)

  -- no ring of a border has one or two links
  not_loop : (p : GridPoint) → Bordering (dart_between p p) → ⊥
  not_loop p h = before_not_itself p (loop (All-contains (λ l. IsBefore l.start l.stop) S (dart_between p p).link arr.ordered (All-contains (Contains S) (border f S) (dart_between p p).link (border_in S f) h.0)))
    where
      loop : IsBefore (dart_between p p).link.start (dart_between p p).link.stop → IsBefore p p
      loop = go (is_before p p)
        where
          go : (b : Bool) → (let l : Segment = cond b (record { start = p; stop = p }) (record { start = p; stop = p }) in IsBefore l.start l.stop → IsBefore p p)
          go true h = h
          go false h = h

  not_back : (p r : GridPoint) → IsBefore p r → Bordering (dart_between p r) → Bordering (dart_between r p) → ⊥
  not_back p r o h k =
      let there : Bordering (forward_dart l) = subst Bordering (dart_on p r o) h in
      let back : Bordering (backward_dart l) = subst Bordering (dart_back p r o) k in
      clash (f (left_side l)) (f (right_side l)) there.1 back.1 (passes_filter (λ j. xor (f (left_side j)) (f (right_side j))) S l there.0)
    where
      l : Segment
      l = record { start = p; stop = r }

      clash : (x y : Bool) → x ≡ true → y ≡ true → xor x y ≡ true → ⊥
      clash true true e f h = let i : false ≡ true = h in absurd (cc)
      clash true false e f h = let i : false ≡ true = f in absurd (cc)
      clash false y e f h = let i : false ≡ true = e in absurd (cc)

  begun : (p : GridPoint) (mid : List GridPoint) → All (IsBefore p) mid → AreDifferent (mid ++ (p ∷ [])) → All Bordering (darts_from p (mid ++ (p ∷ []))) → IsRing (p ∷ (mid ++ (p ∷ []))) × StartsLeast (p ∷ (mid ++ (p ∷ [])))
  begun p [] after different b = absurd (not_loop p (All-head Bordering (dart_between p p) [] b))
  begun p (r ∷ []) after different b =
      absurd (not_back p r (All-head (IsBefore p) r [] after) (All-head Bordering (dart_between p r) (dart_between r p ∷ []) b) (All-head Bordering (dart_between r p) [] (All-tail Bordering (dart_between p r) (dart_between r p ∷ []) b)))
  begun p (r ∷ (s ∷ m)) after different b = (
    (last_of-append r (s ∷ m) (p ∷ []), pairs_differ (r ∷ (s ∷ (m ++ (p ∷ [])))) different),
    record {
      least = p;
      next = r;
      others = t.0;
      last = t.1;
      is = ap (λ (ps : List GridPoint). p ∷ (r ∷ (ps ++ (p ∷ [])))) t.2 ∙ ap (λ (ps : List GridPoint). p ∷ (r ∷ ps)) (append_assoc t.0 (t.1 ∷ []) (p ∷ []));
      next_after = All-head (IsBefore p) r (s ∷ m) after;
      others_after = all_left (IsBefore p) t.0 (t.1 ∷ []) rest;
      last_after = All-head (IsBefore p) t.1 [] (all_right (IsBefore p) t.0 (t.1 ∷ []) rest);
    },
  )
    where
      t : (ps : List GridPoint) × (q : GridPoint) × (s ∷ m ≡ ps ++ (q ∷ []))
      t = snoc s m

      rest : All (IsBefore p) (t.0 ++ (t.1 ∷ []))
      rest = subst (All (IsBefore p)) t.2 (All-tail (IsBefore p) r (s ∷ m) after)

  pub turned : (run : List GridPoint) → IsRing run → All Bordering (darts_of_path run) → (run' : List GridPoint) × IsRing run' × StartsLeast run' × IsPermutation (darts_of_path run) (darts_of_path run') × (turn_at_least run ≡ turn_at_least run')
  turned [] h b = absurd h
  turned (c ∷ []) h b = absurd h
  turned (c ∷ (q ∷ run)) h b = (p ∷ (mid ++ (p ∷ [])), r.0, r.1, perm, turn_begun_at c q p run t.0 t.2 t.3 closes (t.5 c) (all_right (Other p) t.2 t.0 others) others after)
    where
      t : (xs : List GridPoint) × (p : GridPoint) × (ys : List GridPoint) × (q ∷ run ≡ xs ++ (p ∷ ys)) × All (AtLeast p) (q ∷ run) × ((d : GridPoint) → least_of is_before d (q ∷ run) ≡ p)
      t = least_in q run

      p : GridPoint
      p = t.1

      mid : List GridPoint
      mid = t.2 ++ t.0

      turn_of : t.2 ++ (t.0 ++ (p ∷ [])) ≡ mid ++ (p ∷ [])
      turn_of = sym (append_assoc t.2 t.0 (p ∷ []))

      perm : IsPermutation (darts_from c (q ∷ run)) (darts_from p (mid ++ (p ∷ [])))
      perm = subst (λ (ps : List GridPoint). IsPermutation (darts_from c (q ∷ run)) (darts_from p ps)) turn_of
          (subst (λ (ps : List GridPoint). IsPermutation (darts_from c ps) (darts_from p (t.2 ++ (t.0 ++ (p ∷ []))))) (sym t.3) (begun_at c t.0 p t.2 (ap (last_of c) (sym t.3) ∙ h.0)))

      different : AreDifferent (mid ++ (p ∷ []))
      different = subst AreDifferent turn_of (different_turned t.0 p t.2 (subst AreDifferent t.3 (differ_pairwise (q ∷ run) h.1)))

      at_least : All (AtLeast p) (t.0 ++ (p ∷ t.2))
      at_least = subst (All (AtLeast p)) t.3 t.4

      after : All (IsBefore p) mid
      after = after_least p mid (All-append (AtLeast p) t.2 t.0 (All-tail (AtLeast p) p t.2 (all_right (AtLeast p) t.0 (p ∷ t.2) at_least)) (all_left (AtLeast p) t.0 (p ∷ t.2) at_least))
          (All-weaker (NotIn (p ∷ [])) (λ x. x ≡ p → ⊥) (λ x n e. All-head (λ y. y ≡ x → ⊥) p [] n (sym e)) mid (different_parts mid (p ∷ []) different).2)

      closes : last_of p t.2 ≡ c
      closes = sym (last_of-append c t.0 (p ∷ t.2)) ∙ sym (ap (last_of c) t.3) ∙ h.0

      others : All (Other p) mid
      others = All-weaker (NotIn (p ∷ [])) (Other p) (λ x n e. All-head (λ y. y ≡ x → ⊥) p [] n (sym e)) mid (different_parts mid (p ∷ []) different).2

      r : IsRing (p ∷ (mid ++ (p ∷ []))) × StartsLeast (p ∷ (mid ++ (p ∷ [])))
      r = begun p mid after different (All-permutation Bordering (darts_from c (q ∷ run)) (darts_from p (mid ++ (p ∷ []))) perm b)

  pub all_turned : (runs : List Path) → All IsRing runs → All Bordering (darts_of_runs runs) → (runs' : List Path) × All IsRing runs' × All StartsLeast runs' × IsPermutation (darts_of_runs runs) (darts_of_runs runs')
  all_turned [] h b = ([], All-nil IsRing, All-nil StartsLeast, IsPermutation-refl [])
  all_turned (run ∷ runs) h b =
      let r : (run' : List GridPoint) × IsRing run' × StartsLeast run' × IsPermutation (darts_of_path run) (darts_of_path run') × (turn_at_least run ≡ turn_at_least run') = turned run (All-head IsRing run runs h) (all_left Bordering (darts_of_path run) (darts_of_runs runs) b) in
      let s : (runs' : List Path) × All IsRing runs' × All StartsLeast runs' × IsPermutation (darts_of_runs runs) (darts_of_runs runs') = all_turned runs (All-tail IsRing run runs h) (all_right Bordering (darts_of_path run) (darts_of_runs runs) b) in
      (r.0 ∷ s.0, All-cons IsRing r.0 s.0 r.1 s.1, All-cons StartsLeast r.0 s.0 r.2 s.2, IsPermutation-append (darts_of_path run) (darts_of_path r.0) (darts_of_runs runs) (darts_of_runs s.0) r.3 s.3)

  pub least_starts : (runs : List Path) → All IsRing runs → All Bordering (darts_of_runs runs) → All HasLeastStart runs
  least_starts [] h b = All-nil HasLeastStart
  least_starts (run ∷ runs) h b =
      let ring = All-head IsRing run runs h in
      let r = turned run ring (all_left Bordering (darts_of_path run) (darts_of_runs runs) b) in
      All-cons HasLeastStart run runs (record { closed = ring_closed run ring; begun = r.0; least = r.2; same_darts = r.3; same_turn = r.4 })
      (least_starts runs (All-tail IsRing run runs h) (all_right Bordering (darts_of_path run) (darts_of_runs runs) b))
