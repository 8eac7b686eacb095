-- What lies on a plane: the faces that features hold, and what is taken of shapes that lie on it.
use Rattle.std.proofs.Common.{◌≡◌, sym, subst, arith, ℕ, ◌<◌, List, [], ◌∷◌, All, Contains, Some, inl, inr, length, map, get_or, nat_eq}
use Rattle.std.specs.Prelude.{slice_get}
use Rattle.std.specs.List.{flat_map, range_with_len}
use Rattle.std.proofs.lemmas.Bool.{cases_lt}
use Rattle.std.proofs.lemmas.List.{get_or_past}
use Rattle.std.proofs.lemmas.List.Elements.{All-append, All-from_get_or, All-get_or, All-head, All-map, All-nil, All-tail, All-weaker, Contains-get_or}
use Rattle.std.proofs.lemmas.Option.{get_or_from_slice_get}
use Rattle.lists.specs.Lists.{has}
use Rattle.lists.proofs.Members.{Contains-nil, filter-Contains}
use Rattle.plane_model.specs.Arcs.{SignedArc}
use Rattle.plane_model.specs.Drawing.{Drawing}
use Rattle.plane_model.specs.Points.{Path}
use Rattle.face_walk.specs.Holders.{list_at}
use Rattle.face_walk.specs.Places.{FaceTable, HasArc, IsBuiltOf}
use Rattle.face_sets.specs.Sets.{IsInnerFace, IsSetOf}
use Rattle.face_sets.proofs.BoundaryLemmas.{has_Contains}
use Rattle.face_sets.proofs.GapLemmas.{of_range}
use Rattle.run_plane.specs.LaidOut.{IsLaidOut, held_faces}
use Rattle.run_plane.specs.OnPlane.{AreBelow, AreOn, IsOn}
use Rattle.run_plane.specs.Shapes.{faces_in, shape_at}
use Rattle.run_plane.specs.declared.layer.Shape.{Shape}
use Rattle.run_plane.specs.declared.layer.Shape.TheVariants as shape
use Rattle.run_plane.specs.declared.plane.Plane.{Plane}

-- ---- the faces that the features of a drawing hold

module _ (s : Drawing) (arcs : List Path) (faces : FaceTable) (boxes features : List (List ℕ)) (laid : IsLaidOut s arcs faces boxes features) where
  -- a face that has a holder isn't the outer one
  not_outer : (f n : ℕ) → f < faces.count → Contains (list_at laid.held.labels.holders f) n → slice_get faces.places 0 ≡ Some f → ⊥
  not_outer f n l c outer =
      let holders = laid.held.are_holders in
      let at : get_or faces.places 0 0 ≡ f = get_or_from_slice_get faces.places 0 f 0 outer in
      let none : list_at holders.polygons f ≡ [] = subst (λ (k : ℕ). list_at holders.polygons k ≡ []) at holders.held.outer_free in
      let (i, there, owns) = ((holders.owned f l).each n).0 c in
      Contains-nil i (subst (λ (xs : List ℕ). Contains xs i) none there)

  held_are_inner : (n : ℕ) → IsSetOf faces (held_faces laid.held.labels.holders faces.count n)
  held_are_inner n = All-from_get_or (IsInnerFace faces) (held_faces laid.held.labels.holders faces.count n) 0 (λ i l.
      let f = get_or (held_faces laid.held.labels.holders faces.count n) i 0 in
      let (among, holds) = filter-Contains (λ (k : ℕ). has nat_eq (list_at laid.held.labels.holders k) n) (range_with_len 0 faces.count) f (Contains-get_or (held_faces laid.held.labels.holders faces.count n) i 0 l) in
      let there = of_range faces.count f among in
      record { there = there; not_outer = not_outer f n there (has_Contains (list_at laid.held.labels.holders f) n holds) })

  -- they are faces of the plane, and the outer one isn't among them
  pub features_are_inner : All (IsSetOf faces) features
  features_are_inner = All-from_get_or (IsSetOf faces) features [] (λ n l.
      let each = laid.held.of_features.each in
      subst (IsSetOf faces) (sym (laid.held.of_features.held n (omega arith))) (held_are_inner n))

-- ---- paths

arc_there : (arcs : List Path) (faces : FaceTable) → IsBuiltOf arcs faces → (a : SignedArc) → a.arc < length arcs → HasArc faces a
arc_there arcs faces built a b = let c = built.places_counted in omega (arith, b, c)

-- the faces of a plane have the arcs of the plane
pub arcs_there : (arcs : List Path) (faces : FaceTable) → IsBuiltOf arcs faces → (paths : List (List SignedArc)) → AreBelow (length arcs) paths → All (All (HasArc faces)) paths
arcs_there arcs faces built paths h =
    All-weaker (All (λ (a : SignedArc). a.arc < length arcs)) (All (HasArc faces)) (All-weaker (λ (a : SignedArc). a.arc < length arcs) (HasArc faces) (arc_there arcs faces built)) paths h

-- ---- shapes

-- the faces of a shape
faces_on : (plane : Plane) (s : Shape) → IsOn plane s → IsSetOf plane.faces (faces_in s)
faces_on plane shape.Nothing h = All-nil (IsInnerFace plane.faces)
faces_on plane (shape.Faces set) h = h
faces_on plane (shape.Paths paths) h = All-nil (IsInnerFace plane.faces)
faces_on plane (shape.Points points) h = All-nil (IsInnerFace plane.faces)

pub sets_are_inner : (plane : Plane) (shapes : List Shape) → AreOn plane shapes → All (IsSetOf plane.faces) (map faces_in shapes)
sets_are_inner plane shapes h = All-map (IsSetOf plane.faces) faces_in shapes (All-weaker (IsOn plane) (λ (s : Shape). IsSetOf plane.faces (faces_in s)) (faces_on plane) shapes h)

-- the set with a number
pub set_inner : (faces : FaceTable) (sets : List (List ℕ)) (n : ℕ) → All (IsSetOf faces) sets → IsSetOf faces (list_at sets n)
set_inner faces sets n h = elim (cases_lt n (length sets)) [
  | inl less ↦ All-get_or (IsSetOf faces) sets n [] less h
  | inr more ↦ subst (IsSetOf faces) (sym (get_or_past sets n [] more)) (All-nil (IsInnerFace faces))
]

-- sets as shapes
pub sets_on : (plane : Plane) (sets : List (List ℕ)) → All (IsSetOf plane.faces) sets → AreOn plane (map shape.Faces sets)
sets_on plane sets h = All-map (IsOn plane) shape.Faces sets h

-- those with these numbers
pub shape_on : (plane : Plane) (shapes : List Shape) → AreOn plane shapes → (n : ℕ) → IsOn plane (shape_at shapes n)
shape_on plane shapes h n = elim (cases_lt n (length shapes)) [
  | inl less ↦ All-get_or (IsOn plane) shapes n shape.Nothing less h
  | inr more ↦ subst (IsOn plane) (sym (get_or_past shapes n shape.Nothing more)) tt
]

pub taken_on : (plane : Plane) (shapes : List Shape) (numbers : List ℕ) → AreOn plane shapes → AreOn plane (map (shape_at shapes) numbers)
taken_on plane shapes numbers h = All-map (IsOn plane) (shape_at shapes) numbers (λ i d l. shape_on plane shapes h (get_or numbers i d))

-- ---- lists

-- all elements, where all of the lists for them are
pub all_joined : {A B : Type 0} (P : B → Type 0) (f : A → List B) (xs : List A) → All (λ (x : A). All P (f x)) xs → All P (flat_map f xs)
all_joined P f [] h = All-nil P
all_joined {A} P f (x ∷ xs) h = All-append P (f x) (flat_map f xs) (All-head (λ (y : A). All P (f y)) x xs h) (all_joined P f xs (All-tail (λ (y : A). All P (f y)) x xs h))
