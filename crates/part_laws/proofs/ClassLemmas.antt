-- Parts of a set of faces are classes of the plane.
use Rattle.std.proofs.Common.{◌≡◌, inl, inr, refl, sym, ap, ◌∙◌, subst, arith, ℕ, zero, suc, ◌<◌, Bool, true, false, cond, List, [], ◌∷◌, length, get_or, nat_eq, All, Contains}
use Rattle.lists.specs.Lists.{has, place_of}
use Rattle.plane_model.specs.Points.{Segment, Path}
use Rattle.plane_model.specs.Arcs.{SignedArc}
use Rattle.plane_model.specs.Arrangement.{IsArrangement}
use Rattle.plane_faces.specs.Labels.{IsConstantWithin, IsPartLabelling}
use Rattle.plane_faces.specs.Places.{Place, IsBeside, left_side, right_side}
use Rattle.arc_table.specs.Along.{GoAlong}
use Rattle.face_walk.specs.Places.{FaceTable, HasArc, IsBuiltOf, face_left_of}
use Rattle.face_laws.specs.Faces.{IsFaceOfPlace}
use Rattle.face_sets.specs.Boundary.{face_right_of}
use Rattle.face_sets.specs.Joined.{AreJoined, AreParts, IsChain}
use Rattle.face_sets.proofs.BoundaryLemmas.{back_again, has_Contains, Contains_has, same_or_other}
use Rattle.face_sets.proofs.JoinedLemmas.{joined_over}
use Rattle.part_laws.specs.Parts.{PartsAreClasses, number_of}
use Rattle.part_laws.proofs.LinkLemmas.{GoesAlong, arc_of_link, link_of_arc}

-- the first that passes does
pub passes : {X : Type 0} (test : X → Bool) (xs : List X) (i : ℕ) (d : X) → i < length xs → test (get_or xs i d) ≡ true → (place_of test xs < length xs) × (test (get_or xs (place_of test xs) d) ≡ true)
passes test [] i d l e = absurd (omega arith)
passes test (x ∷ xs) zero d l e = go (test x) refl
  where
    go : (b : Bool) → test x ≡ b → (place_of test (x ∷ xs) < length (x ∷ xs)) × (test (get_or (x ∷ xs) (place_of test (x ∷ xs)) d) ≡ true)
    go true f = subst (λ (c : Bool). (cond c 0 (suc (place_of test xs)) < length (x ∷ xs)) × (test (get_or (x ∷ xs) (cond c 0 (suc (place_of test xs))) d) ≡ true)) (sym f) (omega arith, f)
    go false f = absurd (let g : true ≡ false = sym e ∙ f in cc)
passes test (x ∷ xs) (suc i) d l e = go (test x) refl (passes test xs i d (omega arith) e)
  where
    go : (b : Bool) → test x ≡ b → (place_of test xs < length xs) × (test (get_or xs (place_of test xs) d) ≡ true) → (place_of test (x ∷ xs) < length (x ∷ xs)) × (test (get_or (x ∷ xs) (place_of test (x ∷ xs)) d) ≡ true)
    go true f r = subst (λ (c : Bool). (cond c 0 (suc (place_of test xs)) < length (x ∷ xs)) × (test (get_or (x ∷ xs) (cond c 0 (suc (place_of test xs))) d) ≡ true)) (sym f) (omega arith, f)
    go false f r = subst (λ (c : Bool). (cond c 0 (suc (place_of test xs)) < length (x ∷ xs)) × (test (get_or (x ∷ xs) (cond c 0 (suc (place_of test xs))) d) ≡ true)) (sym f) ((let m = r.0 in omega arith), r.1)

module _ (S : List Segment) (arr : IsArrangement S) (arcs : List Path) (long : All (λ arc. 1 < length arc) arcs) (along : GoAlong S arcs) (faces : FaceTable) (built : IsBuiltOf arcs faces) (label : Place → ℕ) (by : IsFaceOfPlace arcs faces label)
    (set : List ℕ) (parts : List (List ℕ)) (are : AreParts faces set parts) where
  -- the number of a face of the set is that of its part
  pub numbered : (k : ℕ) → Contains set k → (number_of parts k < length parts) × Contains (get_or parts (number_of parts k) []) k
  numbered k c =
      let (i, l, d) = are.divided.each k c in
      let (below, there) = passes (λ (part : List ℕ). has nat_eq part k) parts i [] l (Contains_has (get_or parts i []) k d) in
      (below, has_Contains (get_or parts (number_of parts k) []) k there)

  joined_numbers : (f g : ℕ) → Contains set f → Contains set g → AreJoined faces set f g → number_of parts f ≡ number_of parts g
  joined_numbers f g c d chain =
      let (l, there) = numbered f c in
      let (m, here) = numbered g d in
      (are.joined (number_of parts f) (number_of parts g) f g l m there here).1 chain

  numbers_joined : (f g : ℕ) → Contains set f → Contains set g → number_of parts f ≡ number_of parts g → AreJoined faces set f g
  numbers_joined f g c d e =
      let (l, there) = numbered f c in
      let (m, here) = numbered g d in
      (are.joined (number_of parts f) (number_of parts g) f g l m there here).0 e

  abbrev Goes : SignedArc → Segment → Type 0
  Goes a l = GoesAlong S arr arcs long along faces label by a l

  has_arc : (a : SignedArc) → a.arc < length arcs → HasArc faces a
  has_arc a l = let e = built.places_counted in omega arith

  over : (l : Segment) → Contains S l → has nat_eq set (label (left_side l)) ≡ true → has nat_eq set (label (right_side l)) ≡ true → number_of parts (label (left_side l)) ≡ number_of parts (label (right_side l))
  over l c left right =
      let (a, goes) = arc_of_link S arr arcs long along faces label by l c in
      let f = label (left_side l) in
      let g = label (right_side l) in
      let in_left = has_Contains set f left in
      let in_right = has_Contains set g right in
      joined_numbers f g in_left in_right
      (subst (λ (x : ℕ). AreJoined faces set f x) (sym goes.right)
      (joined_over faces set f a (record { arc = has_arc a goes.arc; from = sym goes.left; into = subst (λ (x : ℕ). Contains set x) goes.right in_right })))

  module _ (f : Place → Bool) (h : IsConstantWithin S label (has nat_eq set) f) where
    follow : (chain : List SignedArc) (a b : Place) → IsBeside S a → IsBeside S b → has nat_eq set (label a) ≡ true → IsChain faces set (label a) chain (label b) → f a ≡ f b
    follow [] a b ba bb inside e = h.labels a b ba bb e
    follow (c ∷ rest) a b ba bb inside (leads, more) =
        let below : c.arc < length arcs = (let e = built.places_counted in let m = leads.arc in omega arith) in
        let (l, there, d, same, goes) = link_of_arc S arr arcs long along faces label by c.arc below in
        let into : has nat_eq set (face_right_of faces.places c) ≡ true = Contains_has set (face_right_of faces.places c) leads.into in
        elim (same_or_other c d (sym same)) [
          | inl e ↦
              (let left : label (left_side l) ≡ label a = goes.left ∙ sym (ap (face_left_of faces.places) e) ∙ leads.from in
              let right : label (right_side l) ≡ face_right_of faces.places c = goes.right ∙ sym (ap (face_right_of faces.places) e) in
              let right_in : has nat_eq set (label (right_side l)) ≡ true = ap (has nat_eq set) right ∙ into in
              h.labels a (left_side l) ba there (sym left) ∙ h.links l there (ap (has nat_eq set) left ∙ inside, right_in)
              ∙ follow rest (right_side l) b there bb right_in (subst (λ (x : ℕ). IsChain faces set x rest (label b)) (sym right) more))
          | inr e ↦
              (let right : label (right_side l) ≡ label a = goes.right ∙ sym (ap (face_left_of faces.places) e) ∙ leads.from in
              let left : label (left_side l) ≡ face_right_of faces.places c = goes.left ∙ sym (ap (face_right_of faces.places) e ∙ ap (face_left_of faces.places) (back_again d)) in
              let left_in : has nat_eq set (label (left_side l)) ≡ true = ap (has nat_eq set) left ∙ into in
              h.labels a (right_side l) ba there (sym right) ∙ sym (h.links l there (left_in, ap (has nat_eq set) right ∙ inside))
              ∙ follow rest (left_side l) b there bb left_in (subst (λ (x : ℕ). IsChain faces set x rest (label b)) (sym left) more))
        ]

  pub are_classes : IsPartLabelling S label (has nat_eq set) (number_of parts)
  are_classes = record {
    links = λ l c within. over l c within.0 within.1;
    joined = λ f h a b ba bb in_a in_b e.
        let chain = numbers_joined (label a) (label b) (has_Contains set (label a) in_a) (has_Contains set (label b) in_b) e in
        follow f h chain.0 a b ba bb in_a chain.1;
  }

pub parts_are_classes : PartsAreClasses
parts_are_classes S arr arcs long along faces built label by set parts are = are_classes S arr arcs long along faces built label by set parts are
