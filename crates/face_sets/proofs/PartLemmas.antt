-- Faces with numbers, in order, divided into the sets of equal numbers.
use Rattle.std.proofs.Common.{◌≡◌, refl, sym, ap, ◌∙◌, subst, arith, ℕ, suc, ◌+◌, ◌-◌, ◌<◌, ◌≤◌, Bool, cond, List, [], ◌∷◌, ◌++◌, length, get_or, take, drop, map, filter, nat_eq, nat_lt, All, Contains, inl, inr, length-take, append-nil}
use Rattle.std.specs.List.Sorted.{IsStrictlyIncreasing, IsPermutation}
use Rattle.std.proofs.lemmas.Bool.{cases_lt, eq-eqb, ne_eqb, eqb-true}
use Rattle.std.proofs.lemmas.List.{length-map, map-append, take-append-drop, get_or-map, get_or-take, get_or-drop, length-drop, get_or_append_left, get_or_push, get_or_default, length_push}
use Rattle.std.proofs.lemmas.List.Elements.{Contains-get_or, Contains-append_left, Contains-push, Contains-push_cases, All-from_get_or, All-contains, All-weaker, All-contains_itself, filter-append, filter_more}
use Rattle.std.proofs.lemmas.List.Kept.{AllPairs-from_increasing}
use Rattle.std.proofs.lemmas.List.Sorted.{Contains-permutation, IsPermutation-sym}
use Rattle.lists.proofs.Members.{Contains-filter, filter-Contains, Contains-map, map-Contains}
use Rattle.lists.proofs.Ascending.{ascending-Contains, Contains-ascending}
use Rattle.face_sets.specs.declared.part_sets.PartFace.{PartFace}
use Rattle.face_sets.specs.Parts.{AreNumbered, HasPart, AreInOrder, Begins, GoesOn, faces_of_part, AreGroups, IsDivided, IsFaceOf, IsPieceOf}
use Rattle.face_sets.proofs.SetLemmas.{nat_order, pushed}

abbrev pub none : PartFace
none = record { part = 0; face = 0 }

abbrev pub has_part : ℕ → PartFace → Bool
has_part n p = nat_eq p.part n

-- ---- places of a new number

-- a face before a place has no greater number than the one just before it
not_above : (numbered : List PartFace) (i : ℕ) (p d : PartFace) → AreInOrder numbered → i < length numbered → Contains (take i numbered) p → (0 < i) × (p.part ≤ (get_or numbered (i - 1) d).part)
not_above numbered i p d up l (j, below, is) =
    let e = length-take i numbered in
    let b : j < i = omega arith in
    let at : get_or numbered j p ≡ p = sym (get_or-take i numbered j p b) ∙ is in
    let other : get_or numbered j d ≡ p = get_or_default numbered j d p (omega arith) ∙ at in
    let r : (get_or numbered j d).part ≤ (get_or numbered (i - 1) d).part = up j (i - 1) d (omega arith) (omega arith) in
    (omega arith, subst (λ (q : PartFace). q.part ≤ (get_or numbered (i - 1) d).part) other r)

pub begins_after : (numbered : List PartFace) (i before here : ℕ) → AreInOrder numbered → i < length numbered → HasPart numbered (i - 1) before → HasPart numbered i here → (before ≡ here → ⊥) → Begins numbered i
begins_after numbered i before here up l is_before is_here differ p d c =
    let (some, low) = not_above numbered i p d up l c in
    let r = up (i - 1) i d (omega arith) l in
    let e = is_before d in
    let f = is_here d in
    omega arith

pub goes_on_after : (numbered : List PartFace) (i before here : ℕ) → 0 < i → i < length numbered → HasPart numbered (i - 1) before → HasPart numbered i here → before ≡ here → GoesOn numbered i
goes_on_after numbered i before here some l is_before is_here same d =
    let e = length-take i numbered in
    let at : get_or (take i numbered) (i - 1) d ≡ get_or numbered (i - 1) d = get_or-take i numbered (i - 1) d (omega arith) in
    (get_or numbered (i - 1) d, subst (λ (q : PartFace). Contains (take i numbered) q) at (Contains-get_or (take i numbered) (i - 1) d (omega arith)), is_before d ∙ same ∙ sym (is_here d))

-- ---- runs of one number

picks_none : (n : ℕ) (xs : List PartFace) → ((p : PartFace) → Contains xs p → p.part ≡ n → ⊥) → filter (has_part n) xs ≡ []
picks_none n [] h = refl
picks_none n (x ∷ xs) h =
    ap (λ (b : Bool). cond b (x ∷ filter (has_part n) xs) (filter (has_part n) xs)) (ne_eqb x.part n (h x (0, (omega arith), refl)))
    ∙ picks_none n xs (λ p c. h p (suc c.0, (let l = c.1 in omega arith), c.2))

pub picked_first : (numbered : List PartFace) (n first : ℕ) → Begins numbered first → HasPart numbered first n → map (λ (p : PartFace). p.face) (filter (has_part n) (take first numbered)) ≡ []
picked_first numbered n first begins is =
    ap (map (λ (p : PartFace). p.face)) (picks_none n (take first numbered) (λ p c e. let b = begins p none c in let f = is none in absurd (omega arith)))

pub picked_more : (numbered : List PartFace) (n i : ℕ) (d : PartFace) → i < length numbered → HasPart numbered i n →
    map (λ (p : PartFace). p.face) (filter (has_part n) (take (i + 1) numbered)) ≡ map (λ (p : PartFace). p.face) (filter (has_part n) (take i numbered)) ++ (get_or numbered i d).face ∷ []
picked_more numbered n i d l is =
    ap (map (λ (p : PartFace). p.face))
    (filter_more (has_part n) numbered i d l ∙ ap (λ (b : Bool). filter (has_part n) (take i numbered) ++ cond b (get_or numbered i d ∷ []) []) (eq-eqb (get_or numbered i d).part n (is d)))
    ∙ map-append (λ (p : PartFace). p.face) (filter (has_part n) (take i numbered)) (get_or numbered i d ∷ [])

pub picked_all : (numbered : List PartFace) (n end : ℕ) → ((k : ℕ) (d : PartFace) → end ≤ k → k < length numbered → (get_or numbered k d).part ≡ n → ⊥) → filter (has_part n) (take end numbered) ≡ filter (has_part n) numbered
picked_all numbered n end beyond =
    sym (ap (filter (has_part n)) (sym (take-append-drop end numbered)) ∙ filter-append (has_part n) (take end numbered) (drop end numbered)
    ∙ ap (λ (xs : List PartFace). filter (has_part n) (take end numbered) ++ xs) (picks_none n (drop end numbered) rest) ∙ append-nil (filter (has_part n) (take end numbered)))
  where
    rest : (p : PartFace) → Contains (drop end numbered) p → p.part ≡ n → ⊥
    rest p (j, l, is) e =
        let f = length-drop end numbered in
        let at : get_or numbered (end + j) p ≡ p = sym (get_or-drop end numbered j p) ∙ is in
        beyond (end + j) p (omega arith) (omega arith) (ap (λ (q : PartFace). q.part) at ∙ e)

-- ---- groups

pub rises_more : (xs : List ℕ) (n : ℕ) → IsStrictlyIncreasing xs → ((m : ℕ) → Contains xs m → m < n) → IsStrictlyIncreasing (xs ++ n ∷ [])
rises_more xs n up below k l =
    let e = length_push xs n in
    let first : get_or (xs ++ n ∷ []) k 0 ≡ get_or xs k 0 = get_or_append_left xs (n ∷ []) 0 k (omega arith) in
    elim (cases_lt (k + 1) (length xs)) [
      | inl less ↦ (let second = get_or_append_left xs (n ∷ []) 0 (k + 1) less in let h = up k less in omega arith)
      | inr more ↦ (let second = get_or_push xs n 0 (k + 1) (omega arith) in let h = below (get_or xs k 0) (Contains-get_or xs k 0 (omega arith)) in omega arith)
    ]

pub groups_new : (numbered some : List PartFace) (sets : List (List ℕ)) (x : PartFace) → AreGroups numbered some sets → ((p : PartFace) → Contains some p → p.part < x.part) → AreGroups numbered (some ++ x ∷ []) (sets ++ faces_of_part numbered x.part ∷ [])
groups_new numbered some sets x g below = record {
  numbers = g.numbers ++ x.part ∷ [];
  rising = rises_more g.numbers x.part g.rising (λ m c. let (p, there, is) = g.used m c in let b = below p there in omega arith);
  used = λ n c. elim (Contains-push_cases g.numbers x.part n c) [
    | inl old ↦ (let (p, there, is) = g.used n old in (p, Contains-append_left some (x ∷ []) p there, is))
    | inr new ↦ (x, Contains-push some x, new)
  ];
  reached = λ p c. elim (Contains-push_cases some x p c) [
    | inl old ↦ Contains-append_left g.numbers (x.part ∷ []) p.part (g.reached p old)
    | inr new ↦ subst (λ (q : PartFace). Contains (g.numbers ++ x.part ∷ []) q.part) new (Contains-push g.numbers x.part)
  ];
  are = ap (λ (ss : List (List ℕ)). ss ++ faces_of_part numbered x.part ∷ []) g.are ∙ sym (map-append (faces_of_part numbered) g.numbers (x.part ∷ []));
}

pub groups_same : (numbered some : List PartFace) (sets : List (List ℕ)) (x p : PartFace) → AreGroups numbered some sets → Contains some p → p.part ≡ x.part → AreGroups numbered (some ++ x ∷ []) sets
groups_same numbered some sets x p g c e = record {
  numbers = g.numbers;
  rising = g.rising;
  used = λ n d. let (q, there, is) = g.used n d in (q, Contains-append_left some (x ∷ []) q there, is);
  reached = λ q d. elim (Contains-push_cases some x q d) [
    | inl old ↦ g.reached q old
    | inr new ↦ subst (λ (m : ℕ). Contains g.numbers m) (e ∙ ap (λ (r : PartFace). r.part) new) (g.reached p c)
  ];
  are = g.are;
}

-- ---- the set is divided

pub of_part : (numbered : List PartFace) (n k : ℕ) → Contains (faces_of_part numbered n) k → (p : PartFace) × Contains numbered p × (p.part ≡ n) × (p.face ≡ k)
of_part numbered n k c =
    let picked = filter (has_part n) numbered in
    let (p, there, face) = map-Contains (λ (p : PartFace). p.face) picked k (ascending-Contains nat_lt nat_order (map (λ (p : PartFace). p.face) picked) k c) in
    let (inside, part) = filter-Contains (has_part n) numbered p there in
    (p, inside, eqb-true p.part n part, face)

pub in_part : (numbered : List PartFace) (p : PartFace) → Contains numbered p → Contains (faces_of_part numbered p.part) p.face
in_part numbered p c =
    let picked = filter (has_part p.part) numbered in
    Contains-ascending nat_lt nat_order (map (λ (q : PartFace). q.face) picked) p.face
    (Contains-map (λ (q : PartFace). q.face) picked p (Contains-filter (has_part p.part) numbered p c (eq-eqb p.part p.part refl)))

pub divided : (faces : List ℕ) (numbered : List PartFace) (sets : List (List ℕ)) → All (IsFaceOf faces) numbered → AreNumbered faces numbered → AreGroups numbered numbered sets → IsDivided faces sets
divided faces numbered sets listed are g = record {
  faces = All-from_get_or (IsPieceOf faces) sets [] (λ i l. record { faces = All-weaker (Contains (get_or sets i [])) (Contains faces) (λ k c. of_faces i k l c) (get_or sets i []) (All-contains_itself (get_or sets i [])) });
  some = λ i l e.
      let (p, there, part) = g.used (get_or g.numbers i 0) (Contains-get_or g.numbers i 0 (each i l)) in
      let c : Contains (get_or sets i []) p.face = subst (λ (s : List ℕ). Contains s p.face) (sym (at i l)) (subst (λ (m : ℕ). Contains (faces_of_part numbered m) p.face) part (in_part numbered p there)) in
      let bad = subst (λ (s : List ℕ). Contains s p.face) e c in
      let no = bad.1 in absurd (omega arith);
  each = λ k c.
      let (p, there, face) = are.each k c in
      let (i, l, is) = g.reached p there in
      let within : i < length sets = (let e = count in omega arith) in
      let number : get_or g.numbers i 0 ≡ p.part = get_or_default g.numbers i 0 p.part l ∙ is in
      (i, within, subst (λ (s : List ℕ). Contains s k) (sym (at i within ∙ ap (faces_of_part numbered) number)) (subst (λ (m : ℕ). Contains (faces_of_part numbered p.part) m) face (in_part numbered p there)));
  once = λ i j k l m c d.
      let (p, pin, ppart, pface) = of_part numbered (get_or g.numbers i 0) k (subst (λ (s : List ℕ). Contains s k) (at i l) c) in
      let (q, qin, qpart, qface) = of_part numbered (get_or g.numbers j 0) k (subst (λ (s : List ℕ). Contains s k) (at j m) d) in
      apart i j (each i l) (each j m) (sym ppart ∙ are.one p q pin qin (pface ∙ sym qface) ∙ qpart);
}
  where
    count : length sets ≡ length g.numbers
    count = ap (λ (ss : List (List ℕ)). length ss) g.are ∙ length-map g.numbers (faces_of_part numbered)

    each : (i : ℕ) → i < length sets → i < length g.numbers
    each i l = let e = count in omega arith

    at : (i : ℕ) → i < length sets → get_or sets i [] ≡ faces_of_part numbered (get_or g.numbers i 0)
    at i l = ap (λ (ss : List (List ℕ)). get_or ss i []) g.are ∙ get_or-map (faces_of_part numbered) g.numbers i 0 [] (each i l)

    of_faces : (i k : ℕ) → i < length sets → Contains (get_or sets i []) k → Contains faces k
    of_faces i k l c =
        let (p, there, part, face) = of_part numbered (get_or g.numbers i 0) k (subst (λ (s : List ℕ). Contains s k) (at i l) c) in
        subst (λ (m : ℕ). Contains faces m) face (All-contains (IsFaceOf faces) numbered p listed there).listed

    apart : (i j : ℕ) → i < length g.numbers → j < length g.numbers → get_or g.numbers i 0 ≡ get_or g.numbers j 0 → i ≡ j
    apart i j l m e = elim (cases_lt i j) [
      | inl less ↦ (let h = AllPairs-from_increasing g.numbers g.rising i j 0 less m in absurd (omega arith))
      | inr more ↦ elim (cases_lt j i) [
        | inl less ↦ (let h = AllPairs-from_increasing g.numbers g.rising j i 0 less l in absurd (omega arith))
        | inr same ↦ omega arith
      ]
    ]

-- ---- numbers for faces

pub face_pushed : (numbered : List PartFace) (x : PartFace) (faces : List ℕ) (i : ℕ) → length numbered ≡ i → x.face ≡ get_or faces i 0 → ((k : ℕ) (d : PartFace) → k < i → (get_or numbered k d).face ≡ get_or faces k 0) →
    (k : ℕ) (d : PartFace) → k < i + 1 → (get_or (numbered ++ x ∷ []) k d).face ≡ get_or faces k 0
face_pushed numbered x faces i e is before k d l = pushed numbered x d i (λ (j : ℕ) (p : PartFace). p.face ≡ get_or faces j 0) e (λ j m. before j d m) is k l

pub numbered_each : (faces : List ℕ) (numbered : List PartFace) → IsStrictlyIncreasing faces → length numbered ≡ length faces → ((k : ℕ) (d : PartFace) → k < length faces → (get_or numbered k d).face ≡ get_or faces k 0) → AreNumbered faces numbered
numbered_each faces numbered up each face = record {
  each = λ k c. let (i, l, is) = c in
      (get_or numbered i none, Contains-get_or numbered i none (omega arith), face i none l ∙ get_or_default faces i 0 k l ∙ is);
  one = λ p q c d e. let (i, l, is) = c in let (j, m, at) = d in
      let f : get_or faces i 0 ≡ get_or faces j 0 = sym (face i p (omega arith)) ∙ ap (λ (r : PartFace). r.face) is ∙ e ∙ sym (ap (λ (r : PartFace). r.face) at) ∙ face j q (omega arith) in
      let same : i ≡ j = apart i j (omega arith) (omega arith) f in
      ap (λ (r : PartFace). r.part) (sym is ∙ ap (λ (n : ℕ). get_or numbered n p) same ∙ get_or_default numbered j p q m ∙ at);
}
  where
    apart : (i j : ℕ) → i < length faces → j < length faces → get_or faces i 0 ≡ get_or faces j 0 → i ≡ j
    apart i j l m e = elim (cases_lt i j) [
      | inl less ↦ (let h = AllPairs-from_increasing faces up i j 0 less m in absurd (omega arith))
      | inr more ↦ elim (cases_lt j i) [
        | inl less ↦ (let h = AllPairs-from_increasing faces up j i 0 less l in absurd (omega arith))
        | inr same ↦ omega arith
      ]
    ]

pub numbered_moved : (faces : List ℕ) (old new : List PartFace) → IsPermutation old new → AreNumbered faces old → AreNumbered faces new
numbered_moved faces old new moved h = record {
  each = λ k c. let (p, there, face) = h.each k c in (p, Contains-permutation old new p moved there, face);
  one = λ p q c d e. h.one p q (Contains-permutation new old p (IsPermutation-sym old new moved) c) (Contains-permutation new old q (IsPermutation-sym old new moved) d) e;
}
