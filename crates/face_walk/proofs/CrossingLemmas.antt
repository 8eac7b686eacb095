-- Steps from face to face, one after another.
use Rattle.std.proofs.Common.{◌≡◌, ◌≢◌, ◌⊎◌, ◌↔◌, inl, inr, refl, sym, ap, subst, ◌∙◌, arith, ℕ, zero, suc, ◌+◌, ◌<◌, ◌≤◌, Bool, true, false, cond, Some, List, [], ◌∷◌, ◌++◌, Contains, length, get_or, set, append_assoc}
use Rattle.std.specs.Prelude.{slice_get}
use Rattle.std.specs.List.{count_by}
use Rattle.std.proofs.lemmas.Bool.{cases_lt, cases_eq, eq-eqb}
use Rattle.std.proofs.lemmas.List.{get_or_append_left, get_or-set_other, get_or-set_same, length-set, length_push, length-append}
use Rattle.std.proofs.lemmas.List.Elements.{All-push, Contains-append_left, Contains-append_right}
use Rattle.std.proofs.lemmas.List.Sums.{count_by-le-length, sum_by-set}
use Rattle.std.proofs.lemmas.Option.{get_or_from_slice_get, same_Some, slice_get-get_or, slice_get_within}
use Rattle.lists.proofs.Members.{Contains-filter}
use Rattle.plane_model.specs.Arcs.{SignedArc, forward, backward}
use Rattle.bucket_grid.proofs.Growth.{slice_get-append_end, slice_get-append_left}
use Rattle.face_walk.specs.Places.{FaceTable, face_left_of, has_left, signed_below, arcs_with_left}
use Rattle.face_walk.specs.Crossings.{outer_of, face_across, IsCrossing, IsReached, IsDone, LeaveNone, AreMarked, IsLonger}
use Rattle.face_walk.specs.declared.crossings.Crossing.{Crossing}

-- ---- elements before the end

get_before : {X : Type 0} (xs ys : List X) (j : ℕ) (x : X) → j < length xs → slice_get (xs ++ ys) j ≡ Some x → slice_get xs j ≡ Some x
get_before {X} xs ys j x l e = slice_get-get_or xs j x l ∙ ap Some (sym (get_or_append_left xs ys x j l) ∙ get_or_from_slice_get (xs ++ ys) j x x e)

get_last : {X : Type 0} (xs : List X) (x y : X) (j : ℕ) → length xs ≤ j → slice_get (xs ++ x ∷ []) j ≡ Some y → (j ≡ length xs) × (x ≡ y)
get_last {X} xs x y j l e =
    let within = slice_get_within (xs ++ x ∷ []) j y e in
    let size = length_push xs x in
    let same : j ≡ length xs = omega arith in
    (same, same_Some x y (sym (slice_get-append_end xs x) ∙ ap (slice_get (xs ++ x ∷ [])) (sym same) ∙ e))

-- ---- reached by more crossings

pub reached_longer : (outer : ℕ) (xs more : List Crossing) (k m f : ℕ) → k ≤ m → IsReached outer xs k f → IsReached outer (xs ++ more) m f
reached_longer outer xs more k m f l (inl e) = inl e
reached_longer outer xs more k m f l (inr h) = inr (h.0, h.1, (let less = h.2 in omega arith), slice_get-append_left xs more h.0 h.1 h.3, h.4)

reached_shorter : (outer : ℕ) (xs more : List Crossing) (k f : ℕ) → k ≤ length xs → IsReached outer (xs ++ more) k f → IsReached outer xs k f
reached_shorter outer xs more k f l (inl e) = inl e
reached_shorter outer xs more k f l (inr h) = inr (h.0, h.1, h.2, get_before xs more h.0 h.1 (let less = h.2 in omega arith) h.3, h.4)

pub reached_by_longer : (outer : ℕ) (xs ys : List Crossing) (f : ℕ) → IsLonger xs ys → IsReached outer xs (length xs) f → IsReached outer ys (length ys) f
reached_by_longer outer xs ys f (more, e) h =
    let size = length-append xs more in
    let same = ap (λ (zs : List Crossing). length zs) e in
    subst (λ (zs : List Crossing). IsReached outer zs (length ys) f) (sym e) (reached_longer outer xs more (length xs) (length ys) f (omega arith) h)

pub longer_twice : (xs ys zs : List Crossing) → IsLonger xs ys → IsLonger ys zs → IsLonger xs zs
longer_twice xs ys zs (more, e) (next, d) = (more ++ next, d ∙ ap (λ (us : List Crossing). us ++ next) e ∙ append_assoc xs more next)

pub done_by_longer : (faces : FaceTable) (xs ys : List Crossing) (f : ℕ) → IsLonger xs ys → IsDone faces xs f → IsDone faces ys f
done_by_longer faces xs ys f h d a there left = reached_by_longer (outer_of faces) xs ys (face_across faces.places a) h (d a there left)

-- ---- one crossing more

abbrev one_if : Bool → ℕ
one_if b = cond b 1 0

pub marked_more : (faces : FaceTable) (xs : List Crossing) (marks : List Bool) (c : Crossing) → AreMarked faces xs marks → IsCrossing faces c → IsReached (outer_of faces) xs (length xs) c.from → get_or marks c.into false ≡ false →
    AreMarked faces (xs ++ c ∷ []) (set marks c.into true)
marked_more faces xs marks c h is from unmarked = record {
  crossings_are = record {
    each = All-push (IsCrossing faces) xs c h.crossings_are.each is;
    onward = onward;
    new = new;
  };
  each = length-set marks c.into true ∙ h.each;
  marked = marked;
  counted = counted;
}
  where
    size : length (xs ++ c ∷ []) ≡ length xs + 1
    size = length_push xs c

    fresh : IsReached (outer_of faces) xs (length xs) c.into → ⊥
    fresh r = let e = (h.marked c.into is.into_there).1 r in let f : true ≡ false = sym e ∙ unmarked in cc

    onward : (k : ℕ) (d : Crossing) → slice_get (xs ++ c ∷ []) k ≡ Some d → IsReached (outer_of faces) (xs ++ c ∷ []) k d.from
    onward k d e = elim (cases_lt k (length xs)) [
      | inl less ↦ reached_longer (outer_of faces) xs (c ∷ []) k k d.from (omega arith) (h.crossings_are.onward k d (get_before xs (c ∷ []) k d less e))
      | inr more ↦ (let (same, is_last) = get_last xs c d k more e in
          reached_longer (outer_of faces) xs (c ∷ []) (length xs) k d.from (omega arith) (subst (λ (b : Crossing). IsReached (outer_of faces) xs (length xs) b.from) is_last from))
    ]

    new : (k : ℕ) (d : Crossing) → slice_get (xs ++ c ∷ []) k ≡ Some d → IsReached (outer_of faces) (xs ++ c ∷ []) k d.into → ⊥
    new k d e r = elim (cases_lt k (length xs)) [
      | inl less ↦ h.crossings_are.new k d (get_before xs (c ∷ []) k d less e) (reached_shorter (outer_of faces) xs (c ∷ []) k d.into (omega arith) r)
      | inr more ↦ (let (same, is_last) = get_last xs c d k more e in
          fresh (subst (λ (n : ℕ). IsReached (outer_of faces) xs n c.into) same (subst (λ (b : Crossing). IsReached (outer_of faces) xs k b.into) (sym is_last) (reached_shorter (outer_of faces) xs (c ∷ []) k d.into (omega arith) r))))
    ]

    before : (g : ℕ) → g ≢ c.into → IsReached (outer_of faces) (xs ++ c ∷ []) (length (xs ++ c ∷ [])) g → IsReached (outer_of faces) xs (length xs) g
    before g other (inl e) = inl e
    before g other (inr r) = elim (cases_lt r.0 (length xs)) [
      | inl less ↦ inr (r.0, r.1, less, get_before xs (c ∷ []) r.0 r.1 less r.3, r.4)
      | inr more ↦ absurd (let (same, is_last) = get_last xs c r.1 r.0 more r.3 in other (sym r.4 ∙ ap (λ (b : Crossing). b.into) (sym is_last)))
    ]

    marked : (f : ℕ) → f < faces.count → (get_or (set marks c.into true) f false ≡ true) ↔ IsReached (outer_of faces) (xs ++ c ∷ []) (length (xs ++ c ∷ [])) f
    marked f l = let longer = size in elim (cases_eq f c.into) [
      | inl e ↦ (
        λ _. inr (length xs, c, omega arith, slice_get-append_end xs c, sym e),
        λ _. ap (λ (n : ℕ). get_or (set marks c.into true) n false) e ∙ get_or-set_same marks c.into true false (let there = is.into_there in let many = h.each in omega arith),
      )
      | inr other ↦ (
        λ e. reached_longer (outer_of faces) xs (c ∷ []) (length xs) (length (xs ++ c ∷ [])) f (omega arith) ((h.marked f l).0 (sym (get_or-set_other marks c.into f true false other) ∙ e)),
        λ r. get_or-set_other marks c.into f true false other ∙ (h.marked f l).1 (before f other r),
      )
    ]

    counted : count_by (λ (b : Bool). b) (set marks c.into true) ≡ length (xs ++ c ∷ []) + 1
    counted =
        let there = is.into_there in
        let many = h.each in
        let one = sum_by-set one_if marks c.into true false (omega arith) in
        let longer = size in
        let was : one_if (get_or marks c.into false) ≡ 0 = ap one_if unmarked in
        let before = h.counted in
        omega arith

-- ---- at the end

-- there are fewer crossings than faces
fewer : (faces : FaceTable) (xs : List Crossing) (marks : List Bool) → AreMarked faces xs marks → length xs < faces.count
fewer faces xs marks h =
    let bound = count_by-le-length (λ (b : Bool). b) marks in
    let each = h.each in
    let counted = h.counted in
    omega arith

pub none_left : (faces : FaceTable) (xs : List Crossing) (marks : List Bool) (k : ℕ) → faces.count ≤ k → AreMarked faces xs marks → IsDone faces xs (outer_of faces)
    → ((j : ℕ) (c : Crossing) → j < k → slice_get xs j ≡ Some c → IsDone faces xs c.into) → LeaveNone faces xs
none_left faces xs marks k l h first each f (inl e) = subst (IsDone faces xs) (sym e) first
none_left faces xs marks k l h first each f (inr r) =
    let few = fewer faces xs marks h in
    subst (IsDone faces xs) r.4 (each r.0 r.1 (let less = r.2 in omega arith) r.3)

-- the crossings gone on from so far, and the next
pub each_done_more : (faces : FaceTable) (xs ys : List Crossing) (k : ℕ) → IsLonger xs ys → ((j : ℕ) (c : Crossing) → j < k → slice_get xs j ≡ Some c → IsDone faces xs c.into)
    → ((c : Crossing) → slice_get xs k ≡ Some c → IsDone faces ys c.into) → (k < length xs) ⊎ (length xs ≡ length ys) → (j : ℕ) (c : Crossing) → j < k + 1 → slice_get ys j ≡ Some c → IsDone faces ys c.into
each_done_more faces xs ys k (more, e) each next cases j c l found = elim (cases_lt j (length xs)) [
  | inl less ↦ (let before = get_before xs more j c less (ap (λ (zs : List Crossing). slice_get zs j) (sym e) ∙ found) in
      elim (cases_lt j k) [
        | inl old ↦ done_by_longer faces xs ys c.into (more, e) (each j c old before)
        | inr now ↦ (let same : j ≡ k = omega arith in next c (ap (slice_get xs) (sym same) ∙ before))
      ])
  | inr more ↦ absurd (let within = slice_get_within ys j c found in elim cases [ inl less ↦ omega arith | inr same ↦ omega arith ])
]

-- ---- the arcs round a face

signed_there : (n : ℕ) (a : SignedArc) → a.arc < n → Contains (signed_below n) a
signed_there zero a l = absurd (omega arith)
signed_there (suc n) a l = elim (cases_lt a.arc n) [
  | inl less ↦ Contains-append_left (signed_below n) (forward n ∷ backward n ∷ []) a (signed_there n a less)
  | inr more ↦ (let same : n ≡ a.arc = omega arith in Contains-append_right (signed_below n) (forward n ∷ backward n ∷ []) a (here a.is_reversed refl same))
]
  where
    here : (b : Bool) → b ≡ a.is_reversed → n ≡ a.arc → Contains (forward n ∷ backward n ∷ []) a
    here true e same = (1, omega arith, λ i. record { arc = same i; is_reversed = e i })
    here false e same = (0, omega arith, λ i. record { arc = same i; is_reversed = e i })

pub arcs_round : (places : List ℕ) (many f : ℕ) (a : SignedArc) → a.arc < many → face_left_of places a ≡ f → Contains (arcs_with_left places many f) a
arcs_round places many f a l e = Contains-filter (has_left places f) (signed_below many) a (signed_there many a l) (eq-eqb (face_left_of places a) f e)
