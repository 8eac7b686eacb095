-- Which signed arcs there are, and which of them are of the boundary of a set.
use Rattle.std.proofs.Common.{◌≡◌, ◌⊎◌, inl, inr, refl, sym, ap, ◌∙◌, subst, arith, ℕ, zero, suc, ◌+◌, ◌<◌, Bool, true, false, not, List, [], ◌∷◌, ◌++◌, length, get_or, map, filter, take, nat_eq, All, Contains, Some, append_assoc, append-nil}
use Rattle.std.specs.Prelude.{slice_get}
use Rattle.std.specs.List.Sorted.{IsStrictlyIncreasing}
use Rattle.std.proofs.lemmas.Bool.{cases_lt, eq-eqb, eqb-true, not-true, not_from_false, false_from_ne_true}
use Rattle.std.proofs.lemmas.List.{get_or_default, map-append}
use Rattle.std.proofs.lemmas.Option.{get_or_from_slice_get}
use Rattle.std.proofs.lemmas.List.Elements.{Contains-append_left, Contains-append_right, Contains-append_cases, filter_more, filter_passes, All-weaker, All-contains}
use Rattle.std.proofs.lemmas.List.Folds.{list_any_at, Any-from_list_any}
use Rattle.std.proofs.lemmas.List.Kept.{AllPairs-from_increasing}
use Rattle.lists.specs.Lists.{has}
use Rattle.lists.proofs.Members.{Contains-nil, Contains-filter, filter-Contains, Contains-map, map-Contains}
use Rattle.plane_model.specs.Points.{Path}
use Rattle.plane_model.specs.Arcs.{SignedArc}
use Rattle.arc_table.proofs.SignedArcs.{Contains-signed_below, all_below}
use Rattle.face_walk.specs.Places.{FaceTable, HasArc, IsBuiltOf, place_of, face_left_of, has_left, signed_below, arcs_with_left}
use Rattle.face_sets.specs.declared.joined_faces.Side.{Side}
use Rattle.face_sets.specs.Boundary.{other_way, face_right_of, is_outward, IsOnBoundary, outward_at, side_at, sides_from, sides_of}

-- ---- signed arcs

pub not_not : (b : Bool) → not (not b) ≡ b
not_not true = refl
not_not false = refl

pub back_again : (a : SignedArc) → other_way (other_way a) ≡ a
back_again a = ap (λ (b : Bool). let c : SignedArc = record { arc = a.arc; is_reversed = b } in c) (not_not a.is_reversed)

-- signed arcs of one number
pub same_or_other : (a b : SignedArc) → a.arc ≡ b.arc → (a ≡ b) ⊎ (a ≡ other_way b)
same_or_other a b e = go a.is_reversed b.is_reversed refl refl
  where
    is : (c : SignedArc) → a.arc ≡ c.arc → a.is_reversed ≡ c.is_reversed → a ≡ c
    is c f g = λ i. record { arc = f i; is_reversed = g i }

    go : (s t : Bool) → a.is_reversed ≡ s → b.is_reversed ≡ t → (a ≡ b) ⊎ (a ≡ other_way b)
    go true true f g = inl (is b e (f ∙ sym g))
    go false false f g = inl (is b e (f ∙ sym g))
    go true false f g = inr (is (other_way b) e (f ∙ sym (ap not g)))
    go false true f g = inr (is (other_way b) e (f ∙ sym (ap not g)))

pub below_arc : (n : ℕ) (a : SignedArc) → Contains (signed_below n) a → a.arc < n
below_arc n a c = All-contains (λ (b : SignedArc). b.arc < n) (signed_below n) a (all_below n n (omega arith)) c

-- ---- places of faces

pub one_place : (xs : List ℕ) (i j : ℕ) → IsStrictlyIncreasing xs → i < length xs → j < length xs → get_or xs i 0 ≡ get_or xs j 0 → i ≡ j
one_place xs i j up l m e = elim (cases_lt i j) [
  | inl less ↦ (let h = AllPairs-from_increasing xs up i j 0 less m in absurd (omega arith))
  | inr more ↦ elim (cases_lt j i) [
    | inl less ↦ (let h = AllPairs-from_increasing xs up j i 0 less l in absurd (omega arith))
    | inr same ↦ omega arith
  ]
]

pub place_in : (xs : List ℕ) (x : ℕ) → Contains xs x → (i : ℕ) × (i < length xs) × (get_or xs i 0 ≡ x)
place_in xs x (i, l, e) = (i, l, get_or_default xs i 0 x l ∙ e)

pub has_Contains : (xs : List ℕ) (x : ℕ) → has nat_eq xs x ≡ true → Contains xs x
has_Contains xs x e =
    let (i, y, l, at, same) = Any-from_list_any (nat_eq x) xs e in
    (i, l, get_or_default xs i x y l ∙ at ∙ sym (eqb-true x y same))

pub Contains_has : (xs : List ℕ) (x : ℕ) → Contains xs x → has nat_eq xs x ≡ true
Contains_has xs x (i, l, e) = list_any_at (nat_eq x) xs i x l (eq-eqb x (get_or xs i x) (sym e))

pub outward_from : (places set : List ℕ) (a : SignedArc) → is_outward places set a ≡ true → Contains set (face_right_of places a) → ⊥
outward_from places set a e c = let h : true ≡ false = sym (Contains_has set (face_right_of places a) c) ∙ not-true (has nat_eq set (face_right_of places a)) e in absurd (cc)

pub outward_if : (places set : List ℕ) (a : SignedArc) → (Contains set (face_right_of places a) → ⊥) → is_outward places set a ≡ true
outward_if places set a out = not_from_false (has nat_eq set (face_right_of places a)) (false_from_ne_true (has nat_eq set (face_right_of places a)) (λ e. out (has_Contains set (face_right_of places a) e)))

-- ---- sides face by face

pub sides_more : (places : List ℕ) (many : ℕ) (set : List ℕ) (i x : ℕ) (xs : List ℕ) → sides_from places many set i (xs ++ x ∷ []) ≡ sides_from places many set i xs ++ map (side_at (i + length xs)) (outward_at places many set x)
sides_more places many set i x [] =
    let e : i ≡ i + 0 = omega arith in
    append-nil (map (side_at i) (outward_at places many set x)) ∙ ap (λ (n : ℕ). map (side_at n) (outward_at places many set x)) e
sides_more places many set i x (y ∷ xs) =
    let e : (i + 1) + length xs ≡ i + length (y ∷ xs) = omega arith in
    ap (λ (ss : List Side). map (side_at i) (outward_at places many set y) ++ ss) (sides_more places many set (i + 1) x xs)
    ∙ sym (append_assoc (map (side_at i) (outward_at places many set y)) (sides_from places many set (i + 1) xs) (map (side_at ((i + 1) + length xs)) (outward_at places many set x)))
    ∙ ap (λ (n : ℕ). (map (side_at i) (outward_at places many set y) ++ sides_from places many set (i + 1) xs) ++ map (side_at n) (outward_at places many set x)) e

record IsSideFrom (places : List ℕ) (many : ℕ) (set : List ℕ) (i : ℕ) (fs : List ℕ) (s : Side) : Type 0 where
  at : ℕ
  within : at < length fs
  place : s.place ≡ i + at
  left : face_left_of places s.arc ≡ get_or fs at 0
  there : s.arc.arc < many
  outward : is_outward places set s.arc ≡ true

side_from : (places : List ℕ) (many : ℕ) (set : List ℕ) (i : ℕ) (fs : List ℕ) (s : Side) → Contains (sides_from places many set i fs) s → IsSideFrom places many set i fs s
side_from places many set i [] s c = Contains-nil s c
side_from places many set i (f ∷ fs) s c = elim (Contains-append_cases (map (side_at i) (outward_at places many set f)) (sides_from places many set (i + 1) fs) s c) [
  | inl d ↦ here d
  | inr d ↦ (let h = side_from places many set (i + 1) fs s d in
      let p = h.place in
      let w = h.within in
      record { at = suc h.at; within = omega arith; place = omega arith; left = h.left; there = h.there; outward = h.outward })
]
  where
    here : Contains (map (side_at i) (outward_at places many set f)) s → IsSideFrom places many set i (f ∷ fs) s
    here d =
        let (a, inside, is) = map-Contains (side_at i) (outward_at places many set f) s d in
        let (round, out) = filter-Contains (is_outward places set) (arcs_with_left places many f) a inside in
        let (below, left) = filter-Contains (has_left places f) (signed_below many) a round in
        let arc : a ≡ s.arc = ap (λ (t : Side). t.arc) is in
        record {
          at = 0;
          within = omega arith;
          place = (let e : i ≡ s.place = ap (λ (t : Side). t.place) is in omega arith);
          left = ap (face_left_of places) (sym arc) ∙ eqb-true (face_left_of places a) f left;
          there = subst (λ (b : SignedArc). b.arc < many) arc (below_arc many a below);
          outward = ap (is_outward places set) (sym arc) ∙ out;
        }

side_to : (places : List ℕ) (many : ℕ) (set : List ℕ) (i k : ℕ) (fs : List ℕ) (a : SignedArc) → k < length fs → face_left_of places a ≡ get_or fs k 0 → a.arc < many → is_outward places set a ≡ true →
    (s : Side) × Contains (sides_from places many set i fs) s × (s.arc ≡ a)
side_to places many set i k [] a l e m out = absurd (omega arith)
side_to places many set i zero (f ∷ fs) a l e m out = (
  side_at i a,
  Contains-append_left (map (side_at i) (outward_at places many set f)) (sides_from places many set (i + 1) fs) (side_at i a)
      (Contains-map (side_at i) (outward_at places many set f) a
      (Contains-filter (is_outward places set) (arcs_with_left places many f) a (Contains-filter (has_left places f) (signed_below many) a (Contains-signed_below many a m) (eq-eqb (face_left_of places a) f e)) out)),
  refl,
)
side_to places many set i (suc k) (f ∷ fs) a l e m out =
    let (s, c, is) = side_to places many set (i + 1) k fs a (omega arith) e m out in
    (s, Contains-append_right (map (side_at i) (outward_at places many set f)) (sides_from places many set (i + 1) fs) s c, is)

-- ---- the sides of a set

pub record AreSidesOf (faces : FaceTable) (set : List ℕ) (sides : List Side) : Type 0 where
  pub each : (s : Side) → Contains sides s → (s.place < length set) × (get_or set s.place 0 ≡ face_left_of faces.places s.arc) × IsOnBoundary faces set s.arc
  pub all : (a : SignedArc) → IsOnBoundary faces set a → (s : Side) × Contains sides s × (s.arc ≡ a)

pub sides_are : (arcs : List Path) (faces : FaceTable) (set : List ℕ) (sides : List Side) → IsBuiltOf arcs faces → sides ≡ sides_of faces.places (length arcs) set → AreSidesOf faces set sides
sides_are arcs faces set sides built is = record {
  each = λ s c.
      let h = side_from faces.places (length arcs) set 0 set s (subst (λ (ss : List Side). Contains ss s) is c) in
      let at : s.place ≡ h.at = (let p = h.place in omega arith) in
      let within : s.place < length set = (let w = h.within in omega arith) in
      let left : get_or set s.place 0 ≡ face_left_of faces.places s.arc = ap (λ (k : ℕ). get_or set k 0) at ∙ sym h.left in (
        within,
        left,
        record {
          arc = (let e = built.places_counted in let l = h.there in omega arith);
          left = (s.place, within, get_or_default set s.place (face_left_of faces.places s.arc) 0 within ∙ left);
          right = outward_from faces.places set s.arc h.outward;
        },
      );
  all = λ a b.
      let (k, l, e) = place_in set (face_left_of faces.places a) b.left in
      let (s, c, f) = side_to faces.places (length arcs) set 0 k set a l (sym e) (let n = built.places_counted in let m = b.arc in omega arith) (outward_if faces.places set a b.right) in
      (s, subst (λ (ss : List Side). Contains ss s) (sym is) c, f);
}

-- ---- across an arc

pub right_is : (places : List ℕ) (a turned : SignedArc) (x : ℕ) → turned ≡ other_way a → slice_get places (place_of turned) ≡ Some x → x ≡ face_right_of places a
right_is places a turned x e h = sym (get_or_from_slice_get places (place_of turned) x 0 h) ∙ ap (face_left_of places) e

pub not_across : (xs : List ℕ) (x : ℕ) → has nat_eq xs x ≡ false → Contains xs x → ⊥
not_across xs x e c = let h : true ≡ false = sym (Contains_has xs x c) ∙ e in absurd (cc)

-- of arcs round a face, one more
pub outward_more : (places inside : List ℕ) (i : ℕ) (round : List SignedArc) (k : ℕ) (d : SignedArc) (old : List Side) → k < length round →
    (old ++ map (side_at i) (filter (is_outward places inside) (take k round))) ++ map (side_at i) (filter (is_outward places inside) (get_or round k d ∷ [])) ≡ old ++ map (side_at i) (filter (is_outward places inside) (take (k + 1) round))
outward_more places inside i round k d old l =
    append_assoc old (map (side_at i) (filter (is_outward places inside) (take k round))) (map (side_at i) (filter (is_outward places inside) (get_or round k d ∷ [])))
    ∙ ap (λ (xs : List Side). old ++ xs)
    (sym (map-append (side_at i) (filter (is_outward places inside) (take k round)) (filter (is_outward places inside) (get_or round k d ∷ [])))
    ∙ ap (map (side_at i)) (sym (filter_more (is_outward places inside) round k d l)))

-- ---- arcs round a face

pub left_listed : (places : List ℕ) (many f : ℕ) → All (λ (a : SignedArc). face_left_of places a ≡ f) (arcs_with_left places many f)
left_listed places many f = All-weaker (λ (a : SignedArc). has_left places f a ≡ true) (λ (a : SignedArc). face_left_of places a ≡ f) (λ a e. eqb-true (face_left_of places a) f e) (arcs_with_left places many f) (filter_passes (has_left places f) (signed_below many))

pub listed_left : (arcs : List Path) (faces : FaceTable) (f : ℕ) (a : SignedArc) → IsBuiltOf arcs faces → HasArc faces a → face_left_of faces.places a ≡ f → Contains (arcs_with_left faces.places (length arcs) f) a
listed_left arcs faces f a built arc left =
    Contains-filter (has_left faces.places f) (signed_below (length arcs)) a (Contains-signed_below (length arcs) a (let e = built.places_counted in omega arith)) (eq-eqb (face_left_of faces.places a) f left)
