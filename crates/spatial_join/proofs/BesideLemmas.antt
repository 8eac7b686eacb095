-- Faces beside a vertex: round a node, on both sides of an arc, or over a point.
use Rattle.std.proofs.Common.{◌≡◌, refl, sym, ap, ◌∙◌, subst, arith, ℕ, ◌+◌, ◌<◌, Bool, true, false, ◌||◌, nat_eq, List, [], ◌∷◌, ◌++◌, All, Contains, length, get_or, take, map, append_assoc, append-nil}
use Rattle.std.specs.Prelude.{None, Some, Result, Ok, Err, OnOk, slice_get}
use Rattle.std.specs.List.{list_any}
use Rattle.std.proofs.lemmas.List.Elements.{All-nil, All-cons, All-contains, All-from_get_or, All-push, Contains-get_or}
use Rattle.std.proofs.lemmas.List.{get_or-map, length-map, take_more}
use Rattle.std.proofs.lemmas.List.Folds.{list_any_at, Any-from_list_any}
use Rattle.std.proofs.lemmas.Option.{get_or_from_slice_get}
use Rattle.lists.specs.Lists.{has}
use Rattle.lists.proofs.Members.{Contains-map, map-Contains}
use Rattle.plane_model.specs.Points.{GridPoint, Path}
use Rattle.plane_model.specs.Arcs.{SignedArc, forward, backward}
use Rattle.arc_table.specs.Around.{IsAround, start_of}
use Rattle.arc_table.specs.Lookup.{IsArcAt, IsLeastAt}
use Rattle.face_walk.specs.Places.{FaceTable, IsFaceOver, place_of}
use Rattle.face_sets.proofs.BoundaryLemmas.{has_Contains, Contains_has}
use Rattle.line_ops.specs.Inside.{left_of, right_of}
use Rattle.line_ops.specs.Points.{IsNode, IsInsideAt}
use Rattle.line_ops.proofs.PointLemmas.{one_least, some_node}
use Rattle.line_ops.proofs.RunLemmas.{flat_map_more}
use Rattle.spatial_join.specs.Beside.{AreBeside, AreFoundAt, lists_of, lists_left_of}

or_false : (b : Bool) → (b || false) ≡ b
or_false true = refl
or_false false = refl

-- the set has one of the faces
abbrev pub has_one : List ℕ → List ℕ → Bool
has_one beside set = list_any (λ (k : ℕ). has nat_eq set k) beside

-- lists of the faces left of arcs
pub left_lists : (owners : List (List ℕ)) (faces : FaceTable) (around : List SignedArc) → lists_left_of owners faces around ≡ lists_of owners (map (left_of faces) around)
left_lists owners faces [] = refl
left_lists owners faces (a ∷ rest) = ap (λ (ns : List ℕ). get_or owners (left_of faces a) [] ++ ns) (left_lists owners faces rest)

pub left_there : (faces : FaceTable) (around : List SignedArc) → All (λ (a : SignedArc). left_of faces a < faces.count) around → All (λ (k : ℕ). k < faces.count) (map (left_of faces) around)
left_there faces around h = All-from_get_or (λ (k : ℕ). k < faces.count) (map (left_of faces) around) 0 (λ i l.
    All-contains (λ (k : ℕ). k < faces.count) (map (left_of faces) around) (get_or (map (left_of faces) around) i 0)
    (λ j d m. let d_arc = get_or around j (forward 0) in
    let within : j < length around = (let e = length-map around (left_of faces) in omega arith) in
    subst (λ (k : ℕ). k < faces.count) (sym (get_or-map (left_of faces) around j (forward 0) d within)) (h j (forward 0) within))
    (Contains-get_or (map (left_of faces) around) i 0 l))

-- the face that was read is the one on the left of the arc
face_is : (faces : FaceTable) (a : SignedArc) (x : ℕ) → slice_get faces.places (place_of a) ≡ Some x → x ≡ left_of faces a
face_is faces a x read = sym (get_or_from_slice_get faces.places (place_of a) x 0 read)

module _ (faces : FaceTable) (arcs : List SignedArc) (i : ℕ) (d a : SignedArc) (x : ℕ) (l : i < length arcs) (is : a ≡ get_or arcs i d) (read : slice_get faces.places (place_of a) ≡ Some x) where
  -- one arc further
  pub left_more : (owners : List (List ℕ)) (old now new : List ℕ) → now ≡ old ++ lists_left_of owners faces (take i arcs) → new ≡ now ++ get_or owners x [] → new ≡ old ++ lists_left_of owners faces (take (i + 1) arcs)
  left_more owners old now new so_far pushed =
      let lists : SignedArc → List ℕ = λ (b : SignedArc). get_or owners (left_of faces b) [] in
      pushed ∙ (λ j. so_far j ++ get_or owners (face_is faces a x read j) []) ∙ append_assoc old (lists_left_of owners faces (take i arcs)) (lists a)
      ∙ ap (λ (ns : List ℕ). old ++ ns) (sym (flat_map_more lists arcs i a d l is))

  pub left_there_more : x < faces.count → All (λ (b : SignedArc). left_of faces b < faces.count) (take i arcs) → All (λ (b : SignedArc). left_of faces b < faces.count) (take (i + 1) arcs)
  left_there_more below so_far =
      subst (All (λ (b : SignedArc). left_of faces b < faces.count)) (ap (λ (b : SignedArc). take i arcs ++ b ∷ []) is ∙ sym (take_more arcs i d l))
      (All-push (λ (b : SignedArc). left_of faces b < faces.count) (take i arcs) a so_far (subst (λ (k : ℕ). k < faces.count) (face_is faces a x read) below))

-- two facts of one answer
pub from_both : {T E P Q R : Type 0} (r : Result T E) → (P → Q → R) → OnOk r P → OnOk r Q → OnOk r R
from_both (Ok v) to h k = to h k
from_both (Err why) to h k = tt

module _ (arcs : List Path) (faces : FaceTable) (p : GridPoint) where
  module _ (around : List SignedArc) (h : IsAround arcs p around) where
    pub beside_node : (length around ≡ 0 → ⊥) → AreBeside arcs faces p (map (left_of faces) around)
    beside_node some = record {
      at_node = λ node k. (
        λ c.
            let (a, there, is) = map-Contains (left_of faces) around k c in
            let o = All-contains (λ (b : SignedArc). (b.arc < length arcs) × (start_of arcs b ≡ p)) around a h.others there in
            (a, record { there = o.0; start = o.1 }, is),
        λ w.
            let (a, leaves, is) = w in
            subst (λ (f : ℕ). Contains (map (left_of faces) around) f) is (Contains-map (left_of faces) around a (h.all a leaves.there leaves.start)),
      );
      on_arc = λ n no least. absurd (no (some_node arcs p around h around refl some));
      alone = λ no off. absurd (no (some_node arcs p around h around refl some));
    }

  pub beside_arc : (IsNode arcs p → ⊥) → (n : ℕ) → IsLeastAt arcs p n → AreBeside arcs faces p (left_of faces (forward n) ∷ left_of faces (backward n) ∷ [])
  beside_arc off n least = record {
    at_node = λ node k. absurd (off node);
    on_arc = λ m no other. ap (λ (j : ℕ). left_of faces (forward j) ∷ left_of faces (backward j) ∷ []) (one_least arcs p n m least other);
    alone = λ no none. absurd (none n least.there least.on);
  }

  pub beside_face : (IsNode arcs p → ⊥) → IsArcAt arcs p None → (k : ℕ) → IsFaceOver faces p k → AreBeside arcs faces p (k ∷ [])
  beside_face off none k over = record {
    at_node = λ node j. absurd (off node);
    on_arc = λ n no least. absurd (none n least.there least.on);
    alone = λ no also. (k, over, refl);
  }

  -- a vertex is inside the sets that have a face beside it
  pub inside_by_beside : (set beside : List ℕ) → AreBeside arcs faces p beside → IsInsideAt arcs faces p set (has_one beside set)
  inside_by_beside set beside h =
      let test : ℕ → Bool = λ (k : ℕ). has nat_eq set k in
      record {
        at_node = λ node. (
          λ e.
              let (i, k, l, at, in_set) = Any-from_list_any test beside e in
              let (a, leaves, is) = (h.at_node node k).0 (i, l, at) in
              (a, leaves, subst (Contains set) (sym is) (has_Contains set k in_set)),
          λ w.
              let (a, leaves, c) = w in
              let (i, l, at) = (h.at_node node (left_of faces a)).1 (a, leaves, refl) in
              list_any_at test beside i (left_of faces a) l (subst (λ (k : ℕ). test k ≡ true) (sym at) (Contains_has set (left_of faces a) c)),
        );
        on_arc = λ n no least. ap (list_any test) (h.on_arc n no least) ∙ ap (λ (b : Bool). test (left_of faces (forward n)) || b) (or_false (test (right_of faces (forward n))));
        alone = λ no off. let (k, over, is) = h.alone no off in (k, over, ap (list_any test) is ∙ or_false (test k));
      }

  -- the sets of the faces that are left of arcs, and of one face
  pub found_left : (owners : List (List ℕ)) (around : List SignedArc) (old new : List ℕ) → AreBeside arcs faces p (map (left_of faces) around) → new ≡ old ++ lists_left_of owners faces around →
      All (λ (a : SignedArc). left_of faces a < faces.count) around → AreFoundAt arcs faces owners p old new
  found_left owners around old new are pushed there = record {
    beside = map (left_of faces) around;
    are = are;
    there = left_there faces around there;
    found = pushed ∙ ap (λ (ns : List ℕ). old ++ ns) (left_lists owners faces around);
  }

  pub found_over : (owners : List (List ℕ)) (k : ℕ) (old new : List ℕ) → AreBeside arcs faces p (k ∷ []) → k < faces.count → new ≡ old ++ get_or owners k [] → AreFoundAt arcs faces owners p old new
  found_over owners k old new are below pushed = record {
    beside = k ∷ [];
    are = are;
    there = All-cons (λ (j : ℕ). j < faces.count) k [] below (All-nil (λ (j : ℕ). j < faces.count));
    found = pushed ∙ ap (λ (ns : List ℕ). old ++ ns) (sym (append-nil (get_or owners k [])));
  }
