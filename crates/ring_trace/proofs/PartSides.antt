-- The sides of a part, by its number.
use Rattle.std.proofs.Common.{◌≡◌, inl, inr, refl, sym, ap, ◌∙◌, subst, arith, ℕ, ◌+◌, ◌*◌, ◌^◌, ◌<◌, Bool, true, false, cond, List, [], length, get_or, nat_eq, nat_lt, Contains}
use Rattle.std.specs.List.{sum_by}
use Rattle.std.specs.List.Sorted.{IsStrictlyIncreasing}
use Rattle.std.proofs.lemmas.Bool.{eq-eqb, eqb-true, and_parts, and_from, lt-ltb, ltb-true}
use Rattle.std.proofs.lemmas.List.Elements.{Contains-get_or, All-contains}
use Rattle.lists.specs.Lists.{has}
use Rattle.plane_model.specs.Arcs.{SignedArc}
use Rattle.face_walk.specs.Places.{FaceTable, face_left_of}
use Rattle.face_walk.specs.Joining.{AreClasses}
use Rattle.face_sets.specs.declared.joined_faces.Side.{Side}
use Rattle.face_sets.specs.Boundary.{face_right_of, sides_of, IsOnBoundary, IsLeastArc}
use Rattle.face_sets.specs.Joined.{AreJoined, AreJoinedBy, AreLeastNumbers, AreParts}
use Rattle.ring_trace.specs.Pairing.{number_at}
use Rattle.ring_trace.specs.Traced.{same_arc, is_of_boundary, once_if}
use Rattle.face_sets.proofs.BoundaryLemmas.{AreSidesOf, same_or_other, has_Contains, Contains_has, outward_from, outward_if}
use Rattle.face_sets.proofs.JoinedLemmas.{joined_over}
use Rattle.ring_trace.proofs.Sums.{sum_by_same, sum_by_none}
use Rattle.ring_trace.proofs.UsedLemmas.{same_place, once_along_sides}

-- ---- the boundary, as a test

pub test_of : (faces : FaceTable) (many : ℕ) (set : List ℕ) (a : SignedArc) → length faces.places ≡ 2 * many + 1 → IsOnBoundary faces set a → is_of_boundary faces.places many set a ≡ true
test_of faces many set a size b =
    and_from (nat_lt a.arc many) _ (lt-ltb a.arc many (let l = b.arc in omega arith))
    (and_from (has nat_eq set (face_left_of faces.places a)) _ (Contains_has set (face_left_of faces.places a) b.left) (outward_if faces.places set a b.right))

pub of_test : (faces : FaceTable) (many : ℕ) (set : List ℕ) (a : SignedArc) → length faces.places ≡ 2 * many + 1 → is_of_boundary faces.places many set a ≡ true → IsOnBoundary faces set a
of_test faces many set a size e =
    let (low, rest) = and_parts (nat_lt a.arc many) _ e in
    let (left, out) = and_parts (has nat_eq set (face_left_of faces.places a)) _ rest in
    record {
      arc = (let l = ltb-true a.arc many low in omega arith);
      left = has_Contains set (face_left_of faces.places a) left;
      right = outward_from faces.places set a out;
    }

-- ---- parts and classes

module _ (faces : FaceTable) (many : ℕ) (inside classes numbers : List ℕ) (sides : List Side) (parts : List (List ℕ)) (size : length faces.places ≡ 2 * many + 1) (up : IsStrictlyIncreasing inside)
    (each : length classes ≡ length inside) (each_number : length numbers ≡ length classes) (are_classes : AreClasses classes) (joined : AreJoinedBy faces inside classes)
    (are_least : AreLeastNumbers classes sides numbers) (are_sides : sides ≡ sides_of faces.places many inside) (sides_are : AreSidesOf faces inside sides) (are_parts : AreParts faces inside parts) where
  in_set : (i f : ℕ) → i < length parts → Contains (get_or parts i []) f → Contains inside f
  in_set i f l c = All-contains (Contains inside) (get_or parts i []) f (are_parts.divided.faces i [] l).faces c

  same_class : (i p q : ℕ) → i < length parts → p < length inside → q < length inside → Contains (get_or parts i []) (get_or inside p 0) → Contains (get_or parts i []) (get_or inside q 0) → get_or classes p 0 ≡ get_or classes q 0
  same_class i p q l lp lq c d = (joined p q lp lq).1 ((are_parts.joined i i (get_or inside p 0) (get_or inside q 0) l l c d).0 refl)

  of_class : (i p q : ℕ) → i < length parts → p < length inside → q < length inside → Contains (get_or parts i []) (get_or inside p 0) → get_or classes p 0 ≡ get_or classes q 0 → Contains (get_or parts i []) (get_or inside q 0)
  of_class i p q l lp lq c e =
      let chain : AreJoined faces inside (get_or inside p 0) (get_or inside q 0) = (joined p q lp lq).0 e in
      let (j, m, d) = are_parts.divided.each (get_or inside q 0) (Contains-get_or inside q 0 lq) in
      let same : i ≡ j = (are_parts.joined i j (get_or inside p 0) (get_or inside q 0) l m c d).1 chain in
      subst (λ (k : ℕ). Contains (get_or parts k []) (get_or inside q 0)) (sym same) d

  -- an arc of the boundary of a part is of the boundary of the set, and the other way round
  pub of_set : (i : ℕ) (a : SignedArc) → i < length parts → IsOnBoundary faces (get_or parts i []) a → IsOnBoundary faces inside a
  of_set i a l b = record {
    arc = b.arc;
    left = in_set i (face_left_of faces.places a) l b.left;
    right = λ c.
        let (j, m, d) = are_parts.divided.each (face_right_of faces.places a) c in
        let same : i ≡ j = (are_parts.joined i j (face_left_of faces.places a) (face_right_of faces.places a) l m b.left d).1
        (joined_over faces inside (face_left_of faces.places a) a (record { arc = b.arc; from = refl; into = c })) in
        b.right (subst (λ (k : ℕ). Contains (get_or parts k []) (face_right_of faces.places a)) (sym same) d);
  }

  pub of_part : (i : ℕ) (a : SignedArc) → i < length parts → IsOnBoundary faces inside a → Contains (get_or parts i []) (face_left_of faces.places a) → IsOnBoundary faces (get_or parts i []) a
  of_part i a l b c = record { arc = b.arc; left = c; right = λ d. b.right (in_set i (face_right_of faces.places a) l d) }

  -- the face at the place of a side is on the left of its arc
  left_at : (s : Side) → Contains sides s → (s.place < length inside) × (get_or inside s.place 0 ≡ face_left_of faces.places s.arc)
  left_at s c = let h = sides_are.each s c in (h.0, h.1)

  at_place : (i : ℕ) (s : Side) → Contains sides s → Contains (get_or parts i []) (face_left_of faces.places s.arc) → Contains (get_or parts i []) (get_or inside s.place 0)
  at_place i s c d = subst (λ (f : ℕ). Contains (get_or parts i []) f) (sym (left_at s c).1) d

  from_place : (i : ℕ) (s : Side) → Contains sides s → Contains (get_or parts i []) (get_or inside s.place 0) → Contains (get_or parts i []) (face_left_of faces.places s.arc)
  from_place i s c d = subst (λ (f : ℕ). Contains (get_or parts i []) f) (left_at s c).1 d

  class_within : (s : Side) → Contains sides s → get_or classes s.place 0 < length numbers
  class_within s c = let l = (left_at s c).0 in let h = are_classes.least s.place (omega arith) in omega arith

  -- the number of the class of a side of a part is the least number of an arc in the boundary of the part
  pub number_is : (i m : ℕ) (s : Side) → i < length parts → IsLeastArc faces (get_or parts i []) m → Contains sides s → Contains (get_or parts i []) (face_left_of faces.places s.arc) → number_at classes numbers s.place ≡ m
  number_is i m s l least c left =
      let a = least.used.0 in
      let on = least.used.1 in
      let (t, there, is) = sides_are.all a (of_set i a l on) in
      let t_left : Contains (get_or parts i []) (face_left_of faces.places t.arc) = subst (λ (b : SignedArc). Contains (get_or parts i []) (face_left_of faces.places b)) (sym is) on.left in
      let same = same_class i t.place s.place l (left_at t there).0 (left_at s c).0 (at_place i t there t_left) (at_place i s c left) in
      let within = class_within s c in
      let low = are_least.least (get_or classes s.place 0) t within there same in
      let number : t.arc.arc ≡ m = ap (λ (b : SignedArc). b.arc) is ∙ least.used.2 in
      let small = All-contains (λ (x : Side). x.arc.arc < 2 ^ 32) sides t are_least.few there in
      elim (are_least.used (get_or classes s.place 0) within) [
        | inl most ↦ omega arith
        | inr w ↦
            (let u_left = from_place i w.0 w.1 (of_class i s.place w.0.place l (left_at s c).0 (left_at w.0 w.1).0 (at_place i s c left) (sym w.2)) in
            let r = least.least w.0.arc (of_part i w.0.arc l (sides_are.each w.0 w.1).2 u_left) in
            let e = w.3 in
            omega arith)
      ]

  -- and a side of that number is of the part
  pub of_number : (i m : ℕ) (s : Side) → i < length parts → IsLeastArc faces (get_or parts i []) m → Contains sides s → number_at classes numbers s.place ≡ m → Contains (get_or parts i []) (face_left_of faces.places s.arc)
  of_number i m s l least c e =
      let (u, there, class, number) = least_side in
      let a = least.used.0 in
      let on = least.used.1 in
      elim (same_or_other u.arc a (number ∙ sym least.used.2)) [
        | inl same ↦
            (let u_left : Contains (get_or parts i []) (face_left_of faces.places u.arc) = subst (λ (b : SignedArc). Contains (get_or parts i []) (face_left_of faces.places b)) (sym same) on.left in
            from_place i s c (of_class i u.place s.place l (left_at u there).0 (left_at s c).0 (at_place i u there u_left) class))
        | inr other ↦
            absurd ((of_set i a l on).right (subst (λ (b : SignedArc). Contains inside (face_left_of faces.places b)) other (sides_are.each u there).2.left))
      ]
    where
      least_side : (u : Side) × Contains sides u × (get_or classes u.place 0 ≡ get_or classes s.place 0) × (u.arc.arc ≡ m)
      least_side =
          let within = class_within s c in
          let low = are_least.least (get_or classes s.place 0) s within c refl in
          let small = All-contains (λ (x : Side). x.arc.arc < 2 ^ 32) sides s are_least.few c in
          elim (are_least.used (get_or classes s.place 0) within) [
            | inl most ↦ (s, c, refl, omega arith)
            | inr w ↦ (w.0, w.1, w.2, w.3 ∙ e)
          ]

  -- of the sides of that number one goes along each arc of the boundary of the part
  pub part_sum : (i m : ℕ) (a : SignedArc) → i < length parts → IsLeastArc faces (get_or parts i []) m →
      sum_by (λ (s : Side). cond (nat_eq (number_at classes numbers s.place) m) (once_if (same_arc a s.arc)) 0) sides ≡ once_if (is_of_boundary faces.places many (get_or parts i []) a)
  part_sum i m a l least = go (is_of_boundary faces.places many (get_or parts i []) a) refl
    where
      f : Side → ℕ
      f s = cond (nat_eq (number_at classes numbers s.place) m) (once_if (same_arc a s.arc)) 0

      along : (s : Side) → same_arc a s.arc ≡ true → a ≡ s.arc
      along s e = same_place a s.arc (eqb-true _ _ e)

      taken : IsOnBoundary faces (get_or parts i []) a → (s : Side) → Contains sides s → (t : Bool) → same_arc a s.arc ≡ t → f s ≡ once_if (same_arc a s.arc)
      taken on s c true e =
          ap (λ (t : Bool). cond t (once_if (same_arc a s.arc)) 0)
          (eq-eqb (number_at classes numbers s.place) m (number_is i m s l least c (subst (λ (b : SignedArc). Contains (get_or parts i []) (face_left_of faces.places b)) (along s e) on.left)))
      taken on s c false e = ap (λ (t : Bool). cond (nat_eq (number_at classes numbers s.place) m) (once_if t) 0) e ∙ none (nat_eq (number_at classes numbers s.place) m) ∙ sym (ap once_if e)
        where
          none : (t : Bool) → cond t (once_if false) 0 ≡ once_if false
          none true = refl
          none false = refl

      left_out : (IsOnBoundary faces (get_or parts i []) a → ⊥) → (s : Side) → Contains sides s → (t u : Bool) → same_arc a s.arc ≡ t → nat_eq (number_at classes numbers s.place) m ≡ u → f s ≡ 0
      left_out off s c true true e g =
          absurd (off (of_part i a l (subst (λ (b : SignedArc). IsOnBoundary faces inside b) (sym (along s e)) (sides_are.each s c).2)
          (subst (λ (b : SignedArc). Contains (get_or parts i []) (face_left_of faces.places b)) (sym (along s e)) (of_number i m s l least c (eqb-true _ _ g)))))
      left_out off s c true false e g = ap (λ (t : Bool). cond t (once_if (same_arc a s.arc)) 0) g
      left_out off s c false true e g = ap (λ (t : Bool). cond t (once_if (same_arc a s.arc)) 0) g ∙ ap once_if e
      left_out off s c false false e g = ap (λ (t : Bool). cond t (once_if (same_arc a s.arc)) 0) g

      go : (b : Bool) → is_of_boundary faces.places many (get_or parts i []) a ≡ b → sum_by f sides ≡ once_if (is_of_boundary faces.places many (get_or parts i []) a)
      go true e =
          let on = of_test faces many (get_or parts i []) a size e in
          sum_by_same f (λ (s : Side). once_if (same_arc a s.arc)) sides (λ s c. taken on s c (same_arc a s.arc) refl)
          ∙ ap (sum_by (λ (s : Side). once_if (same_arc a s.arc))) are_sides
          ∙ once_along_sides faces.places many inside a up
          ∙ ap once_if (test_of faces many inside a size (of_set i a l on) ∙ sym e)
      go false e =
          sum_by_none f sides (λ s c. left_out (λ on. let h : true ≡ false = sym (test_of faces many (get_or parts i []) a size on) ∙ e in absurd (cc)) s c (same_arc a s.arc) (nat_eq (number_at classes numbers s.place) m) refl refl)
          ∙ sym (ap once_if e)
