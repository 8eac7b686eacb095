-- Meetings of edges that are listed back from each edge's last, as more are added.
use Rattle.std.proofs.Common.{◌≡◌, ◌≢◌, ◌⊎◌, inl, inr, refl, sym, ap, ◌∙◌, subst, arith, ℕ, ◌+◌, ◌<◌, ◌≤◌, true, List, [], ◌∷◌, ◌++◌, length, get_or, set, replicate, Contains, Option, Some, None, append_assoc, length-append}
use Rattle.std.specs.List.{slice_get}
use Rattle.std.proofs.lemmas.Bool.{cases_eq}
use Rattle.std.proofs.lemmas.List.{append-nil, length-set, length-replicate, get_or-set_same, get_or-set_other, get_or-replicate}
use Rattle.std.proofs.lemmas.List.Elements.{Contains-append_left, Contains-append_right, Contains-append_cases}
use Rattle.std.proofs.lemmas.Option.{slice_get-get_or, slice_get_within, slice_get_read, get_or_from_slice_get}
use Rattle.std.specs.List.Sorted.{IsPermutation}
use Rattle.std.proofs.lemmas.List.Sorted.{IsPermutation-sym, Contains-permutation}
use Rattle.lists.proofs.Members.{Contains-head, Contains-later, Contains-nil, Contains-cases}
use Rattle.plane_model.specs.Points.{GridPoint, Segment}
use Rattle.plane_model.specs.Pixel.{meets}
use Rattle.bucket_grid.proofs.Growth.{slice_get-append_left, slice_get-append_end}
use Rattle.hot_pixels.specs.declared.meetings.Meeting.{Meeting}
use Rattle.hot_pixels.specs.Meetings.{meeting_at, count_to, AreBack, IsListed, AreMetBack, AreLists, AddsMeetings}
use Rattle.hot_pixels.specs.Marking.{IsEndOf, AreEndsAnd}

-- ---- lists of marks that change at one place

module _ {X : Type 0} (xs : List X) (i : ℕ) (y : X) (l : i < length xs) where
  pub set_here : slice_get (set xs i y) i ≡ Some y
  set_here = slice_get-get_or (set xs i y) i y (let n = length-set xs i y in omega arith) ∙ ap Some (get_or-set_same xs i y y l)

  pub set_there : (j : ℕ) → j ≢ i → (x : X) → slice_get (set xs i y) j ≡ Some x → slice_get xs j ≡ Some x
  set_there j n x e =
      let m = slice_get_within (set xs i y) j x e in
      let k = length-set xs i y in
      slice_get-get_or xs j x (omega arith) ∙ ap Some (sym (get_or-set_other xs i j y x n) ∙ get_or_from_slice_get (set xs i y) j x x e)

  pub still_there : (j : ℕ) → j ≢ i → (x : X) → slice_get xs j ≡ Some x → slice_get (set xs i y) j ≡ Some x
  still_there j n x e =
      let m = slice_get_within xs j x e in
      let k = length-set xs i y in
      slice_get-get_or (set xs i y) j x (omega arith) ∙ ap Some (get_or-set_other xs i j y x n ∙ get_or_from_slice_get xs j x x e)

-- ---- back along meetings

module _ (meetings : List Meeting) where
  reached : (o : Option ℕ) (m : Meeting) → meeting_at meetings o ≡ Some m → Contains meetings m × (count_to o ≤ length meetings)
  reached None m e = absurd cc
  reached (Some k) m e =
      let l = slice_get_within meetings k m e in
      ((k, l, get_or_from_slice_get meetings k m m e), omega arith)

  pub within : (last : Option ℕ) (points : List GridPoint) → AreBack meetings last points → count_to last ≤ length meetings
  within last [] h = let e : count_to last ≡ 0 = ap count_to h in omega arith
  within last (p ∷ rest) (m, e, f, l, r) = (reached last m e).1

  pub few_back : (last : Option ℕ) (points : List GridPoint) → AreBack meetings last points → length points ≤ count_to last
  few_back last [] h = omega arith
  few_back last (p ∷ rest) (m, e, f, l, r) = let n = few_back m.before rest r in omega arith

  pub back_found : (last : Option ℕ) (points : List GridPoint) (g : GridPoint) → AreBack meetings last points → Contains points g → (m : Meeting) × Contains meetings m × (m.point ≡ g)
  back_found last [] g h c = Contains-nil g c
  back_found last (p ∷ rest) g (m, e, f, l, r) c = elim (Contains-cases p rest g c) [
    | inl same ↦ (m, (reached last m e).0, f ∙ same)
    | inr d ↦ back_found m.before rest g r d
  ]

  pub none_back : (last : Option ℕ) (points : List GridPoint) → AreBack meetings last points → meeting_at meetings last ≡ None → points ≡ []
  none_back last [] h n = refl
  none_back last (p ∷ rest) (m, e, f, l, r) n = absurd (let k : Some m ≡ None = sym e ∙ n in cc)

  pub one_back : (last : Option ℕ) (points : List GridPoint) (m : Meeting) → AreBack meetings last points → meeting_at meetings last ≡ Some m → (rest : List GridPoint) × (points ≡ m.point ∷ rest) × AreBack meetings m.before rest
  one_back last [] m h e = absurd (let k : None ≡ Some m = sym (ap (meeting_at meetings) h) ∙ e in cc)
  one_back last (p ∷ rest) m (n, e, f, l, r) d =
      let same : n ≡ m = (let k : Some n ≡ Some m = sym e ∙ d in cc) in
      (rest, ap (λ (q : GridPoint). q ∷ rest) (sym f ∙ ap (λ (k : Meeting). k.point) same), subst (λ (k : Meeting). AreBack meetings k.before rest) same r)

-- ---- a walk back

-- `count` points have been added to those from which it began, from the last one back to a place: with the rest they are all
pub record IsWalked (meetings : List Meeting) (last : Option ℕ) (begun met : List GridPoint) (at : Option ℕ) (count : ℕ) : Type 0 where
  pub many : length met ≡ length begun + count
  pub rest : (points : List GridPoint) → AreBack meetings last points → (rest : List GridPoint) × AreBack meetings at rest × (met ++ rest ≡ begun ++ points)

module _ (meetings : List Meeting) (last : Option ℕ) (begun : List GridPoint) where
  pub walk_begins : IsWalked meetings last begun begun last 0
  walk_begins = record { many = omega arith; rest = λ points h. (points, h, refl) }

  pub walk_goes_on : (met : List GridPoint) (at : Option ℕ) (count : ℕ) (m : Meeting) → meeting_at meetings at ≡ Some m → IsWalked meetings last begun met at count → IsWalked meetings last begun (met ++ m.point ∷ []) m.before (count + 1)
  walk_goes_on met at count m e h = record {
    many = (let n = h.many in omega (arith, length-append met (m.point ∷ [])));
    rest = λ points b.
        let k = h.rest points b in
        let next = one_back meetings at k.0 m k.1 e in
        (next.0, next.2, append_assoc met (m.point ∷ []) next.0 ∙ ap (λ (xs : List GridPoint). met ++ xs) (sym next.1) ∙ k.2);
  }

  pub walk_stops : (met : List GridPoint) (at : Option ℕ) (count : ℕ) → meeting_at meetings at ≡ None → IsWalked meetings last begun met at count → (points : List GridPoint) → AreBack meetings last points → met ≡ begun ++ points
  walk_stops met at count e h points b =
      let k = h.rest points b in
      sym (append-nil met) ∙ ap (λ (xs : List GridPoint). met ++ xs) (sym (none_back meetings at k.0 k.1 e)) ∙ k.2

  nothing_left : (xs : List GridPoint) → length xs ≤ 0 → xs ≡ []
  nothing_left [] l = refl
  nothing_left (x ∷ xs) l = absurd (omega arith)

  pub walk_ends : (met : List GridPoint) (at : Option ℕ) (count : ℕ) → length meetings ≤ count → IsWalked meetings last begun met at count → (points : List GridPoint) → AreBack meetings last points → met ≡ begun ++ points
  walk_ends met at count l h points b =
      let k = h.rest points b in
      let many = h.many in
      let few = few_back meetings last points b in
      let all = within meetings last points b in
      let sum : length (met ++ k.0) ≡ length (begun ++ points) = ap (λ (xs : List GridPoint). length xs) k.2 in
      let left : length k.0 ≤ 0 = omega (arith, length-append met k.0, length-append begun points) in
      sym (append-nil met) ∙ ap (λ (xs : List GridPoint). met ++ xs) (sym (nothing_left k.0 left)) ∙ k.2

-- ---- the ends of a segment, and points between them

-- points with one before them and one after, which are the ends
pub ends_around : (s : Segment) (p q : GridPoint) (points all : List GridPoint) → all ≡ p ∷ [] ++ points ++ q ∷ [] → IsEndOf s p → IsEndOf s q → ((g : GridPoint) → IsEndOf s g → (p ≡ g) ⊎ (q ≡ g)) → AreEndsAnd s points all
ends_around s p q points all e p_end q_end both = subst (AreEndsAnd s points) (sym e) (record {
  from = λ g c. elim (Contains-append_cases (p ∷ [] ++ points) (q ∷ []) g c) [
    | inl d ↦ elim (Contains-append_cases (p ∷ []) points g d) [
      | inl f ↦ elim (Contains-cases p [] g f) [ inl k ↦ inl (subst (IsEndOf s) k p_end) | inr k ↦ Contains-nil g k ]
      | inr f ↦ inr f
    ]
    | inr d ↦ elim (Contains-cases q [] g d) [ inl k ↦ inl (subst (IsEndOf s) k q_end) | inr k ↦ Contains-nil g k ]
  ];
  ends = λ g n. elim (both g n) [
    | inl k ↦ subst (Contains (p ∷ [] ++ points ++ q ∷ [])) k (Contains-append_left (p ∷ [] ++ points) (q ∷ []) p (Contains-append_left (p ∷ []) points p (Contains-head p [])))
    | inr k ↦ subst (Contains (p ∷ [] ++ points ++ q ∷ [])) k (Contains-append_right (p ∷ [] ++ points) (q ∷ []) q (Contains-head q []))
  ];
  others = λ g c. Contains-append_left (p ∷ [] ++ points) (q ∷ []) g (Contains-append_right (p ∷ []) points g c);
})

pub ends_moved : (s : Segment) (points all moved : List GridPoint) → IsPermutation all moved → AreEndsAnd s points all → AreEndsAnd s points moved
ends_moved s points all moved same h = record {
  from = λ g c. h.from g (Contains-permutation moved all g (IsPermutation-sym all moved same) c);
  ends = λ g n. Contains-permutation all moved g same (h.ends g n);
  others = λ g c. Contains-permutation all moved g same (h.others g c);
}

-- ---- meetings that are added

pub back_kept : (meetings : List Meeting) (more : Meeting) (last : Option ℕ) (points : List GridPoint) → AreBack meetings last points → AreBack (meetings ++ more ∷ []) last points
back_kept meetings more last [] h = h
back_kept meetings more last (p ∷ rest) (m, e, f, l, r) = (m, kept last e, f, l, back_kept meetings more m.before rest r)
  where
    kept : (o : Option ℕ) → meeting_at meetings o ≡ Some m → meeting_at (meetings ++ more ∷ []) o ≡ Some m
    kept None e = e
    kept (Some k) e = slice_get-append_left meetings (more ∷ []) k m e

pub adds_none : (edges : List Segment) (p : GridPoint) (lasts : List (Option ℕ)) (meetings : List Meeting) → AreLists edges lasts meetings → AddsMeetings edges p lasts meetings lasts meetings
adds_none edges p lasts meetings h = record { kept = λ i g k. k; lists = h; from = λ m c. inl c }

pub adds_twice : (edges : List Segment) (p : GridPoint) (old mid new : List (Option ℕ)) (before between after : List Meeting) → AddsMeetings edges p old before mid between → AddsMeetings edges p mid between new after → AddsMeetings edges p old before new after
adds_twice edges p old mid new before between after a b = record {
  kept = λ i g h. b.kept i g (a.kept i g h);
  lists = b.lists;
  from = λ m c. elim (b.from m c) [ inl d ↦ a.from m d | inr e ↦ inr e ];
}

module _ (edges : List Segment) (lasts : List (Option ℕ)) (meetings : List Meeting) (i : ℕ) (s : Segment) (p : GridPoint) (last : Option ℕ) (h : AreLists edges lasts meetings) (s_at : slice_get edges i ≡ Some s) (last_at : slice_get lasts i ≡ Some last)
    (met : meets s p ≡ true) where
  abbrev meeting : Meeting
  meeting = record { point = p; before = last }

  abbrev number : Option ℕ
  number = Some (length meetings)

  abbrev new : List (Option ℕ)
  new = set lasts i number

  abbrev after : List Meeting
  after = meetings ++ meeting ∷ []

  in_list : i < length lasts
  in_list = slice_get_within lasts i last last_at

  one_more : (points : List GridPoint) → AreBack meetings last points → AreBack after number (p ∷ points)
  one_more points b = let n = within meetings last points b in (meeting, slice_get-append_end meetings meeting, refl, omega arith, back_kept meetings meeting last points b)

  mine : AreMetBack meetings s last
  mine = h.met i s last s_at last_at

  new_at : slice_get new i ≡ Some number
  new_at = set_here lasts i number in_list

  kept : (j : ℕ) (g : GridPoint) → IsListed lasts meetings j g → IsListed new after j g
  kept j g k = elim (cases_eq j i) [
    | inl e ↦
        let at : slice_get lasts i ≡ Some k.last = subst (λ (n : ℕ). slice_get lasts n ≡ Some k.last) e k.there in
        let same : k.last ≡ last = (let f : Some k.last ≡ Some last = sym at ∙ last_at in cc) in
        record {
          last = number;
          there = subst (λ (n : ℕ). slice_get new n ≡ Some number) (sym e) new_at;
          points = p ∷ k.points;
          back = one_more k.points (subst (λ (o : Option ℕ). AreBack meetings o k.points) same k.back);
          listed = Contains-later p k.points g k.listed;
        }
    | inr n ↦ record {
      last = k.last;
      there = still_there lasts i number in_list j n k.last k.there;
      points = k.points;
      back = back_kept meetings meeting k.last k.points k.back;
      listed = k.listed;
    }
  ]

  list_at : (j : ℕ) (t : Segment) (o : Option ℕ) → slice_get edges j ≡ Some t → slice_get new j ≡ Some o → AreMetBack after t o
  list_at j t o t_at o_at = elim (cases_eq j i) [
    | inl e ↦
        let t_here : slice_get edges i ≡ Some t = subst (λ (n : ℕ). slice_get edges n ≡ Some t) e t_at in
        let o_here : slice_get new i ≡ Some o = subst (λ (n : ℕ). slice_get new n ≡ Some o) e o_at in
        let same : s ≡ t = (let f : Some s ≡ Some t = sym s_at ∙ t_here in cc) in
        let here : number ≡ o = (let f : Some number ≡ Some o = sym new_at ∙ o_here in cc) in
        record {
          points = p ∷ mine.points;
          back = subst (λ (n : Option ℕ). AreBack after n (p ∷ mine.points)) here (one_more mine.points mine.back);
          met = λ g c. subst (λ (u : Segment). meets u g ≡ true) same (elim (Contains-cases p mine.points g c) [ inl f ↦ subst (λ (q : GridPoint). meets s q ≡ true) f met | inr d ↦ mine.met g d ]);
        }
    | inr n ↦ let k = h.met j t o t_at (set_there lasts i number in_list j n o o_at) in record {
      points = k.points;
      back = back_kept meetings meeting o k.points k.back;
      met = k.met;
    }
  ]

  pub adds_one : AddsMeetings edges p lasts meetings new after
  adds_one = record {
    kept = kept;
    lists = record { each = length-set lasts i number ∙ h.each; met = list_at };
    from = λ m c. elim (Contains-append_cases meetings (meeting ∷ []) m c) [
      | inl d ↦ inl d
      | inr d ↦ elim (Contains-cases meeting [] m d) [ inl e ↦ inr (ap (λ (n : Meeting). n.point) (sym e)) | inr k ↦ Contains-nil m k ]
    ];
  }

  pub now_listed : IsListed new after i p
  now_listed = record { last = number; there = new_at; points = p ∷ mine.points; back = one_more mine.points mine.back; listed = Contains-head p mine.points }

-- as a step of a program tells it
pub gathers : (edges : List Segment) (lasts : List (Option ℕ)) (meetings grown : List Meeting) (i : ℕ) (s : Segment) (p : GridPoint) (last : Option ℕ) (n : ℕ) → AreLists edges lasts meetings → i < length edges → s ≡ get_or edges i s → last ≡ get_or lasts i last → meets s p ≡ true →
    n ≡ length meetings → grown ≡ meetings ++ record { point = p; before = last } ∷ [] → AddsMeetings edges p lasts meetings (set lasts i (Some n)) grown × IsListed (set lasts i (Some n)) grown i p
gathers edges lasts meetings grown i s p last n h l s_is last_is met many pushed =
    subst (λ (ms : List Meeting). AddsMeetings edges p lasts meetings (set lasts i (Some n)) ms × IsListed (set lasts i (Some n)) ms i p) (sym pushed)
    (subst (λ (k : ℕ). AddsMeetings edges p lasts meetings (set lasts i (Some k)) (meetings ++ record { point = p; before = last } ∷ []) × IsListed (set lasts i (Some k)) (meetings ++ record { point = p; before = last } ∷ []) i p) (sym many)
    (adds_one edges lasts meetings i s p last h s_at last_at met, now_listed edges lasts meetings i s p last h s_at last_at met))
  where
    s_at : slice_get edges i ≡ Some s
    s_at = slice_get_read edges (length edges) i s refl l s_is

    last_at : slice_get lasts i ≡ Some last
    last_at = slice_get_read lasts (length edges) i last (sym h.each) l last_is

-- ---- no meetings

pub no_lists : (edges : List Segment) → AreLists edges (replicate (length edges) None) []
no_lists edges = record {
  each = length-replicate (length edges) None;
  met = λ i s last e f.
      let l = slice_get_within edges i s e in
      let same : None ≡ last = sym (get_or-replicate (length edges) i None None l) ∙ get_or_from_slice_get (replicate (length edges) None) i last None f in
      record { points = []; back = sym same; met = λ g c. Contains-nil g c };
}
