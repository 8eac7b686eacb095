-- The edges of parts are balanced: at each point as many end as start.
use Rattle.std.proofs.Common.{◌≡◌, refl, sym, ap, ◌∙◌, subst, arith, ℕ, zero, suc, ◌+◌, ◌<◌, Bool, true, false, not, ◌&&◌, ◌||◌, cond, List, [], ◌∷◌, length, get_or, map, nat_eq, nat_lt, Contains}
use Rattle.std.specs.List.{sum_by}
use Rattle.std.specs.List.Sorted.{IsStrictlyIncreasing}
use Rattle.std.proofs.lemmas.Bool.{eq-eqb, eqb-true, ne_eqb, ltb-true}
use Rattle.std.proofs.lemmas.List.Elements.{Contains-get_or}
use Rattle.std.proofs.lemmas.List.Sums.{sum_by-append}
use Rattle.std.proofs.lemmas.List.Sorted.{sum_by-IsPermutation}
use Rattle.lists.specs.Lists.{has}
use Rattle.lists.proofs.Ascending.{IsAscending}
use Rattle.plane_model.specs.Points.{GridPoint, Path, same_point}
use Rattle.plane_model.specs.Arcs.{SignedArc}
use Rattle.arc_table.specs.Around.{start_of}
use Rattle.face_walk.specs.Places.{FaceTable, HasArc, IsBuiltOf, face_left_of, has_left, signed_below, arcs_with_left}
use Rattle.face_sets.specs.declared.joined_faces.Side.{Side}
use Rattle.ring_trace.specs.declared.pairing.Edge.{Edge}
use Rattle.face_sets.specs.Boundary.{face_right_of, is_outward, outward_at, side_at, sides_from, sides_of}
use Rattle.face_sets.specs.Joined.{AreJoined, AreJoinedBy}
use Rattle.ring_trace.specs.Traced.{once_if}
use Rattle.ring_trace.specs.Pairing.{stop_of, number_at, edge_of, AreEdgesOf, AreBalanced, same_corner, start_corner, stop_corner}
use Rattle.face_sets.proofs.SetLemmas.{to_ascending}
use Rattle.face_sets.proofs.BoundaryLemmas.{has_Contains, place_in, below_arc}
use Rattle.face_sets.proofs.JoinedLemmas.{joined_over}
use Rattle.ring_trace.proofs.UsedLemmas.{sum_by-map, not_later}
use Rattle.ring_trace.proofs.BalanceLemmas.{sum_both, starts_edge, stops_edge, balanced_faces}
use Rattle.ring_trace.proofs.Sums.{sum_by_same, sum_by_none, sum_by-filter}

-- ---- faces that have a number

-- the face is in a list that begins at place i, at a place of the number n
abbrev numbered : (ℕ → ℕ) → ℕ → ℕ → List ℕ → ℕ → Bool
numbered num n i [] x = false
numbered num n i (f ∷ fs) x = (nat_eq x f && nat_eq n (num i)) || numbered num n (i + 1) fs x

numbered_none : (num : ℕ → ℕ) (n i : ℕ) (fs : List ℕ) (x : ℕ) → has nat_eq fs x ≡ false → numbered num n i fs x ≡ false
numbered_none num n i [] x e = refl
numbered_none num n i (f ∷ fs) x e = go (nat_eq x f) (has nat_eq fs x) refl refl (numbered_none num n (i + 1) fs x) e
  where
    go : (s t : Bool) → nat_eq x f ≡ s → has nat_eq fs x ≡ t → (has nat_eq fs x ≡ false → numbered num n (i + 1) fs x ≡ false) → (s || t) ≡ false → ((nat_eq x f && nat_eq n (num i)) || numbered num n (i + 1) fs x) ≡ false
    go true t f₁ f₂ rest h = absurd (cc)
    go false true f₁ f₂ rest h = absurd (cc)
    go false false f₁ f₂ rest h = λ j. (f₁ j && nat_eq n (num i)) || rest f₂ j

numbered_at : (num : ℕ → ℕ) (n i : ℕ) (fs : List ℕ) (k : ℕ) → IsAscending nat_lt fs → k < length fs → numbered num n i fs (get_or fs k 0) ≡ nat_eq n (num (i + k))
numbered_at num n i [] k up l = absurd (omega arith)
numbered_at num n i (f ∷ fs) zero up l =
    (λ j. (eq-eqb f f refl j && nat_eq n (num i)) || numbered_none num n (i + 1) fs f (not_later f f fs up.0 refl) j)
    ∙ either (nat_eq n (num i)) ∙ ap (λ (m : ℕ). nat_eq n (num m)) (let e : i ≡ i + 0 = omega arith in e)
  where
    either : (b : Bool) → (b || false) ≡ b
    either true = refl
    either false = refl
numbered_at num n i (f ∷ fs) (suc k) up l =
    let less = ltb-true f (get_or fs k 0) (up.0 (get_or fs k 0) (Contains-get_or fs k 0 (omega arith))) in
    (λ j. (ne_eqb (get_or fs k 0) f (λ e. omega arith) j && nat_eq n (num i)) || numbered num n (i + 1) fs (get_or fs k 0))
    ∙ numbered_at num n (i + 1) fs k up.1 (omega arith)
    ∙ ap (λ (m : ℕ). nat_eq n (num m)) (let e : i + 1 + k ≡ i + suc k = omega arith in e)

-- ---- sides and arcs

-- what a signed arc adds as a side of faces that stand from place i on
abbrev along_sides : (Side → ℕ) → List ℕ → List ℕ → ℕ → List ℕ → SignedArc → ℕ
along_sides g places set i [] a = 0
along_sides g places set i (f ∷ fs) a = cond (has_left places f a) (cond (is_outward places set a) (g (side_at i a)) 0) 0 + along_sides g places set (i + 1) fs a

sum_sides : (g : Side → ℕ) (places : List ℕ) (many : ℕ) (set : List ℕ) (i : ℕ) (fs : List ℕ) → sum_by g (sides_from places many set i fs) ≡ sum_by (along_sides g places set i fs) (signed_below many)
sum_sides g places many set i [] = sym (sum_by_none (along_sides g places set i []) (signed_below many) (λ a c. refl))
sum_sides g places many set i (f ∷ fs) =
    let of_side : SignedArc → ℕ = λ a. g (side_at i a) in
    let of_out : SignedArc → ℕ = λ a. cond (is_outward places set a) (g (side_at i a)) 0 in
    let here : SignedArc → ℕ = λ a. cond (has_left places f a) (of_out a) 0 in
    let split = sum_by-append g (map (side_at i) (outward_at places many set f)) (sides_from places many set (i + 1) fs) in
    let one = sum_by-map g (side_at i) (outward_at places many set f) ∙ sum_by-filter (is_outward places set) of_side (arcs_with_left places many f) ∙ sum_by-filter (has_left places f) of_out (signed_below many) in
    let rest = sum_sides g places many set (i + 1) fs in
    let joined = sum_both here (along_sides g places set (i + 1) fs) (signed_below many) in
    let all : sum_by g (sides_from places many set i (f ∷ fs)) ≡ sum_by here (signed_below many) + sum_by (along_sides g places set (i + 1) fs) (signed_below many) = omega arith in
    all ∙ sym joined

module _ (places set : List ℕ) (num : ℕ → ℕ) (n : ℕ) (p : GridPoint) (end_of : SignedArc → GridPoint) where
  abbrev at_corner : Side → ℕ
  at_corner s = once_if (nat_eq n (num s.place) && same_point p (end_of s.arc))

  one_arc : (a : SignedArc) (i : ℕ) (fs : List ℕ) → IsAscending nat_lt fs →
      along_sides at_corner places set i fs a ≡ once_if (same_point p (end_of a) && (numbered num n i fs (face_left_of places a) && is_outward places set a))
  one_arc a i [] up = none (same_point p (end_of a))
    where
      none : (w : Bool) → let z : ℕ = 0 in z ≡ once_if (w && (false && is_outward places set a))
      none true = refl
      none false = refl
  one_arc a i (f ∷ fs) up =
      ap (λ (m : ℕ). cond (has_left places f a) (cond (is_outward places set a) (at_corner (side_at i a)) 0) 0 + m) (one_arc a (i + 1) fs up.1)
      ∙ tests (same_point p (end_of a)) (nat_eq (face_left_of places a) f) (nat_eq n (num i)) (numbered num n (i + 1) fs (face_left_of places a)) (is_outward places set a) first
    where
      first : nat_eq (face_left_of places a) f ≡ true → numbered num n (i + 1) fs (face_left_of places a) ≡ false
      first e = numbered_none num n (i + 1) fs (face_left_of places a) (not_later (face_left_of places a) f fs up.0 (eqb-true (face_left_of places a) f e))

      tests : (w t m h u : Bool) → (t ≡ true → h ≡ false) → cond t (cond u (once_if (m && w)) 0) 0 + once_if (w && (h && u)) ≡ once_if (w && (((t && m) || h) && u))
      tests w true m true u e = absurd (let f : true ≡ false = e refl in cc)
      tests true true true false true e = refl
      tests true true true false false e = refl
      tests true true false false true e = refl
      tests true true false false false e = refl
      tests true false true true true e = refl
      tests true false true true false e = refl
      tests true false true false true e = refl
      tests true false true false false e = refl
      tests true false false true true e = refl
      tests true false false true false e = refl
      tests true false false false true e = refl
      tests true false false false false e = refl
      tests false true true false true e = refl
      tests false true true false false e = refl
      tests false true false false true e = refl
      tests false true false false false e = refl
      tests false false true true true e = refl
      tests false false true true false e = refl
      tests false false true false true e = refl
      tests false false true false false e = refl
      tests false false false true true e = refl
      tests false false false true false e = refl
      tests false false false false true e = refl
      tests false false false false false e = refl

-- ---- the boundary of one part

module _ (arcs : List Path) (faces : FaceTable) (inside classes numbers : List ℕ) (up : IsStrictlyIncreasing inside) (built : IsBuiltOf arcs faces) (joined : AreJoinedBy faces inside classes) where
  abbrev num : ℕ → ℕ
  num i = number_at classes numbers i

  one_number : (n : ℕ) (a : SignedArc) → HasArc faces a → has nat_eq inside (face_left_of faces.places a) ≡ true → has nat_eq inside (face_right_of faces.places a) ≡ true →
      numbered num n 0 inside (face_left_of faces.places a) ≡ numbered num n 0 inside (face_right_of faces.places a)
  one_number n a arc l r =
      let left = face_left_of faces.places a in
      let right = face_right_of faces.places a in
      let (i, li, at_i) = place_in inside left (has_Contains inside left l) in
      let (j, lj, at_j) = place_in inside right (has_Contains inside right r) in
      let rising = to_ascending inside up in
      let over = joined_over faces inside left a (record { arc = arc; from = refl; into = has_Contains inside right r }) in
      let one = (joined i j li lj).1 (subst (λ (x : ℕ). AreJoined faces inside x (get_or inside j 0)) (sym at_i) (subst (λ (y : ℕ). AreJoined faces inside left y) (sym at_j) over)) in
      ap (numbered num n 0 inside) (sym at_i) ∙ numbered_at num n 0 inside i rising li ∙ ap (λ (m : ℕ). nat_eq n (num m)) (let e : 0 + i ≡ i = omega arith in e)
      ∙ ap (λ (c : ℕ). nat_eq n (get_or numbers c 0)) one
      ∙ ap (λ (m : ℕ). nat_eq n (num m)) (let e : j ≡ 0 + j = omega arith in e) ∙ sym (numbered_at num n 0 inside j rising lj) ∙ ap (numbered num n 0 inside) at_j

  leads_out_of : (n : ℕ) (a : SignedArc) → HasArc faces a →
      (numbered num n 0 inside (face_left_of faces.places a) && is_outward faces.places inside a) ≡ (numbered num n 0 inside (face_left_of faces.places a) && not (numbered num n 0 inside (face_right_of faces.places a)))
  leads_out_of n a arc = go (has nat_eq inside (face_left_of faces.places a)) (has nat_eq inside (face_right_of faces.places a)) refl refl
    where
      excluded : (b : Bool) → (b && not true) ≡ (b && not b)
      excluded true = refl
      excluded false = refl

      go : (l r : Bool) → has nat_eq inside (face_left_of faces.places a) ≡ l → has nat_eq inside (face_right_of faces.places a) ≡ r →
          (numbered num n 0 inside (face_left_of faces.places a) && not (has nat_eq inside (face_right_of faces.places a))) ≡ (numbered num n 0 inside (face_left_of faces.places a) && not (numbered num n 0 inside (face_right_of faces.places a)))
      go l false e f = ap (λ (b : Bool). numbered num n 0 inside (face_left_of faces.places a) && not b) (f ∙ sym (numbered_none num n 0 inside (face_right_of faces.places a) f))
      go true true e f =
          ap (λ (b : Bool). numbered num n 0 inside (face_left_of faces.places a) && not b) f
          ∙ excluded (numbered num n 0 inside (face_left_of faces.places a))
          ∙ ap (λ (b : Bool). numbered num n 0 inside (face_left_of faces.places a) && not b) (one_number n a arc e f)
      go false true e f =
          let none = numbered_none num n 0 inside (face_left_of faces.places a) e in
          ap (λ (b : Bool). b && not (has nat_eq inside (face_right_of faces.places a))) none
          ∙ sym (ap (λ (b : Bool). b && not (numbered num n 0 inside (face_right_of faces.places a))) none)

  balanced_sides : (n : ℕ) (p : GridPoint) → sum_by (at_corner faces.places inside num n p (start_of arcs)) (sides_of faces.places (length arcs) inside) ≡ sum_by (at_corner faces.places inside num n p (stop_of arcs)) (sides_of faces.places (length arcs) inside)
  balanced_sides n p =
      let rising = to_ascending inside up in
      let all = signed_below (length arcs) in
      let kind : ℕ → Bool = numbered num n 0 inside in
      let one : (end_of : SignedArc → GridPoint) (a : SignedArc) → Contains all a → along_sides (at_corner faces.places inside num n p end_of) faces.places inside 0 inside a
      ≡ once_if (same_point p (end_of a) && (kind (face_left_of faces.places a) && not (kind (face_right_of faces.places a)))) =
      (λ end_of a c.
      let there = below_arc (length arcs) a c in
      let has_it : HasArc faces a = (let e = built.places_counted in omega arith) in
      one_arc faces.places inside num n p end_of a 0 inside rising ∙ ap (λ (b : Bool). once_if (same_point p (end_of a) && b)) (leads_out_of n a has_it)) in
      sum_sides (at_corner faces.places inside num n p (start_of arcs)) faces.places (length arcs) inside 0 inside
      ∙ sum_by_same (along_sides (at_corner faces.places inside num n p (start_of arcs)) faces.places inside 0 inside) (starts_edge arcs faces.places kind p) all (one (start_of arcs))
      ∙ balanced_faces arcs faces kind p built
      ∙ sym (sum_by_same (along_sides (at_corner faces.places inside num n p (stop_of arcs)) faces.places inside 0 inside) (stops_edge arcs faces.places kind p) all (one (stop_of arcs)))
      ∙ sym (sum_sides (at_corner faces.places inside num n p (stop_of arcs)) faces.places (length arcs) inside 0 inside)

  pub balanced_edges : (sides : List Side) (edges : List Edge) → sides ≡ sides_of faces.places (length arcs) inside → AreEdgesOf arcs classes numbers sides edges → AreBalanced arcs edges
  balanced_edges sides edges are moved v =
      let starts : Edge → ℕ = λ e. cond (same_corner v (start_corner e)) 1 0 in
      let stops : Edge → ℕ = λ e. cond (same_corner v (stop_corner arcs e)) 1 0 in
      let made : Side → Edge = edge_of arcs classes numbers in
      sum_by-IsPermutation starts (map made sides) edges moved
      ∙ sum_by-map starts made sides
      ∙ ap (sum_by (at_corner faces.places inside num v.part v.point (start_of arcs))) are
      ∙ balanced_sides v.part v.point
      ∙ sym (ap (sum_by (at_corner faces.places inside num v.part v.point (stop_of arcs))) are)
      ∙ sym (sum_by-map stops made sides)
      ∙ sym (sum_by-IsPermutation stops (map made sides) edges moved)
