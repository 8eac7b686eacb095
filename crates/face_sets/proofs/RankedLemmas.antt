-- Sets of faces of equal rank: the parts, in the order of their least arcs.
use Rattle.std.proofs.Common.{◌≡◌, ◌↔◌, inl, inr, refl, sym, ap, ◌∙◌, subst, arith, ℕ, ◌+◌, ◌*◌, ◌^◌, ◌<◌, ◌≤◌, List, [], length, get_or, map, filter, nat_lt, All, Contains}
use Rattle.std.specs.List.Sorted.{IsStrictlyIncreasing}
use Rattle.std.proofs.lemmas.Bool.{cases_lt}
use Rattle.std.proofs.lemmas.List.{length-map, get_or-map, get_or_default}
use Rattle.std.proofs.lemmas.List.Elements.{Contains-get_or, All-from_get_or, All-contains}
use Rattle.std.proofs.lemmas.List.Kept.{AllPairs-from_increasing}
use Rattle.lists.proofs.Ascending.{ascending-IsAscending}
use Rattle.plane_model.specs.Arcs.{SignedArc}
use Rattle.face_walk.specs.Places.{FaceTable, face_left_of}
use Rattle.face_walk.specs.Joining.{AreClasses}
use Rattle.face_sets.specs.declared.joined_faces.Side.{Side}
use Rattle.face_sets.specs.declared.part_sets.PartFace.{PartFace}
use Rattle.face_sets.specs.Parts.{AreNumbered, faces_of_part, AreGroups, IsDivided, IsFaceOf}
use Rattle.face_sets.specs.Boundary.{face_right_of, IsOnBoundary, IsLeastArc}
use Rattle.face_sets.specs.Joined.{AreJoined, AreJoinedBy, IsOfClass, AreLeastNumbers, rank_of, IsRanked, AreParts}
use Rattle.face_sets.proofs.SetLemmas.{nat_order, from_ascending}
use Rattle.face_sets.proofs.PartLemmas.{divided, of_part, in_part, has_part}
use Rattle.face_sets.proofs.BoundaryLemmas.{AreSidesOf, same_or_other, one_place}
use Rattle.face_sets.proofs.JoinedLemmas.{joined_over}

module _ (faces : FaceTable) (inside classes numbers : List ℕ) (sides : List Side) (numbered : List PartFace) (sets : List (List ℕ)) (up : IsStrictlyIncreasing inside) (few : length inside < 2 ^ 32)
    (each : length classes ≡ length inside) (each_number : length numbers ≡ length classes) (are_classes : AreClasses classes) (joined : AreJoinedBy faces inside classes)
    (are_least : AreLeastNumbers classes sides numbers) (sides_are : AreSidesOf faces inside sides) (listed : All (IsFaceOf inside) numbered) (one_number : AreNumbered inside numbered)
    (ranked : All (IsRanked inside classes numbers) numbered) (g : AreGroups numbered numbered sets) where
  class_below : (i : ℕ) → i < length inside → get_or classes i 0 < 2 ^ 32
  class_below i l = let h = are_classes.least i (omega arith) in omega arith

  -- faces of one rank are of one class
  one_rank : (i j : ℕ) → i < length inside → j < length inside → rank_of classes numbers i ≡ rank_of classes numbers j → get_or classes i 0 ≡ get_or classes j 0
  one_rank i j l m e = let b = class_below i l in let c = class_below j m in omega arith

  count : length sets ≡ length g.numbers
  count = ap (λ (ss : List (List ℕ)). length ss) g.are ∙ length-map g.numbers (faces_of_part numbered)

  set_at : (i : ℕ) → i < length sets → get_or sets i [] ≡ faces_of_part numbered (get_or g.numbers i 0)
  set_at i l = ap (λ (ss : List (List ℕ)). get_or ss i []) g.are ∙ get_or-map (faces_of_part numbered) g.numbers i 0 [] (let e = count in omega arith)

  all_divided : IsDivided inside sets
  all_divided = divided inside numbered sets listed one_number g

  -- a face of a part, with its place in the set
  record IsInPart (i f : ℕ) : Type 0 where
    place : ℕ
    within : place < length inside
    face : get_or inside place 0 ≡ f
    rank : rank_of classes numbers place ≡ get_or g.numbers i 0

  in_its_part : (i f : ℕ) → i < length sets → Contains (get_or sets i []) f → IsInPart i f
  in_its_part i f l c =
      let (p, there, part, face) = of_part numbered (get_or g.numbers i 0) f (subst (λ (s : List ℕ). Contains s f) (set_at i l) c) in
      let h = All-contains (IsRanked inside classes numbers) numbered p ranked there in
      record { place = h.place; within = h.within; face = sym h.face ∙ face; rank = sym h.rank ∙ part }

  of_its_rank : (i j : ℕ) → i < length sets → j < length inside → rank_of classes numbers j ≡ get_or g.numbers i 0 → Contains (get_or sets i []) (get_or inside j 0)
  of_its_rank i j l m e =
      let (p, there, face) = one_number.each (get_or inside j 0) (Contains-get_or inside j 0 m) in
      let h = All-contains (IsRanked inside classes numbers) numbered p ranked there in
      let same : h.place ≡ j = one_place inside h.place j up h.within m (sym h.face ∙ face) in
      let part : p.part ≡ get_or g.numbers i 0 = h.rank ∙ ap (rank_of classes numbers) same ∙ e in
      subst (λ (s : List ℕ). Contains s (get_or inside j 0)) (sym (set_at i l))
      (subst (λ (n : ℕ). Contains (faces_of_part numbered n) (get_or inside j 0)) part
      (subst (λ (f : ℕ). Contains (faces_of_part numbered p.part) f) face (in_part numbered p there)))

  one_number_one_set : (i j : ℕ) → i < length sets → j < length sets → get_or g.numbers i 0 ≡ get_or g.numbers j 0 → i ≡ j
  one_number_one_set i j l m e = one_place g.numbers i j g.rising (let n = count in omega arith) (let n = count in omega arith) e

  are_joined : (i j f h : ℕ) → i < length sets → j < length sets → Contains (get_or sets i []) f → Contains (get_or sets j []) h → (i ≡ j) ↔ AreJoined faces inside f h
  are_joined i j f h l m c d =
      let a = in_its_part i f l c in
      let b = in_its_part j h m d in
      let iff = joined a.place b.place a.within b.within in (
        λ e. subst (λ (x : ℕ). AreJoined faces inside x h) a.face
            (subst (λ (x : ℕ). AreJoined faces inside (get_or inside a.place 0) x) b.face
            (iff.0 (one_rank a.place b.place a.within b.within (a.rank ∙ ap (λ (k : ℕ). get_or g.numbers k 0) e ∙ sym b.rank)))),
        λ chain.
            let same = iff.1 (subst (λ (x : ℕ). AreJoined faces inside x (get_or inside b.place 0)) (sym a.face) (subst (λ (x : ℕ). AreJoined faces inside f x) (sym b.face) chain)) in
            one_number_one_set i j l m (sym a.rank ∙ ap (λ (k : ℕ). get_or numbers k 0 * 4294967296 + k) same ∙ b.rank),
      )

  -- an arc of the boundary of a part is of the boundary of the set, and the other way round
  of_the_set : (i : ℕ) → i < length sets → (a : SignedArc) → IsOnBoundary faces (get_or sets i []) a → IsOnBoundary faces inside a
  of_the_set i l a b =
      let left = in_its_part i (face_left_of faces.places a) l b.left in
      let left_inside : Contains inside (face_left_of faces.places a) = (left.place, left.within, get_or_default inside left.place (face_left_of faces.places a) 0 left.within ∙ left.face) in
      record {
        arc = b.arc;
        left = left_inside;
        right = λ c.
            let (j, m, d) = all_divided.each (face_right_of faces.places a) c in
            let same : i ≡ j = (are_joined i j (face_left_of faces.places a) (face_right_of faces.places a) l m b.left d).1
            (joined_over faces inside (face_left_of faces.places a) a (record { arc = b.arc; from = refl; into = c })) in
            b.right (subst (λ (k : ℕ). Contains (get_or sets k []) (face_right_of faces.places a)) (sym same) d);
      }

  of_the_part : (i : ℕ) → i < length sets → (a : SignedArc) → IsOnBoundary faces inside a → Contains (get_or sets i []) (face_left_of faces.places a) → IsOnBoundary faces (get_or sets i []) a
  of_the_part i l a b c = record {
    arc = b.arc;
    left = c;
    right = λ d.
        let right = in_its_part i (face_right_of faces.places a) l d in
        b.right (right.place, right.within, get_or_default inside right.place (face_right_of faces.places a) 0 right.within ∙ right.face);
  }

  -- the number of a part is that of its least arc
  number_is : (i m f : ℕ) (l : i < length sets) → IsLeastArc faces (get_or sets i []) m → (h : IsInPart i f) → get_or numbers (get_or classes h.place 0) 0 ≡ m
  number_is i m f l least h = elim (are_least.used (get_or classes h.place 0) class_within) [
    | inl most ↦ (let n = low in let s = side in let small = arc_small in omega arith)
    | inr w ↦
        (let (within, at, on) = sides_are.each w.0 w.1 in
        let ranks : rank_of classes numbers w.0.place ≡ get_or g.numbers i 0 = ap (λ (k : ℕ). get_or numbers k 0 * 4294967296 + k) w.2 ∙ h.rank in
        let left : Contains (get_or sets i []) (face_left_of faces.places w.0.arc) = subst (λ (x : ℕ). Contains (get_or sets i []) x) at (of_its_rank i w.0.place l within ranks) in
        let r = least.least w.0.arc (of_the_part i l w.0.arc on left) in
        let e = w.3 in
        let n = low in
        omega arith)
  ]
    where
      class_within : get_or classes h.place 0 < length numbers
      class_within = let c = are_classes.least h.place (let w = h.within in omega arith) in let w = h.within in omega arith

      arc : SignedArc
      arc = least.used.0

      on_part : IsOnBoundary faces (get_or sets i []) arc
      on_part = least.used.1

      side : (s : Side) × Contains sides s × (s.arc ≡ arc)
      side = sides_are.all arc (of_the_set i l arc on_part)

      of_class : IsOfClass classes (get_or classes h.place 0) side.0
      of_class =
          let (within, at, on) = sides_are.each side.0 side.1 in
          let left = in_its_part i (face_left_of faces.places arc) l on_part.left in
          let same : side.0.place ≡ left.place = one_place inside side.0.place left.place up within left.within (at ∙ ap (face_left_of faces.places) side.2 ∙ sym left.face) in
          ap (λ (k : ℕ). get_or classes k 0) same ∙ one_rank left.place h.place left.within h.within (left.rank ∙ sym h.rank)

      low : get_or numbers (get_or classes h.place 0) 0 ≤ m
      low =
          let r = are_least.least (get_or classes h.place 0) side.0 class_within side.1 of_class in
          let e : side.0.arc.arc ≡ arc.arc = ap (λ (a : SignedArc). a.arc) side.2 in
          let f : arc.arc ≡ m = least.used.2 in
          omega arith

      arc_small : m < 2 ^ 32
      arc_small =
          let r = All-contains (λ (s : Side). s.arc.arc < 2 ^ 32) sides side.0 are_least.few side.1 in
          let e : side.0.arc.arc ≡ arc.arc = ap (λ (a : SignedArc). a.arc) side.2 in
          let f : arc.arc ≡ m = least.used.2 in
          omega arith

  in_order : (i j m n : ℕ) → i < j → j < length sets → IsLeastArc faces (get_or sets i []) m → IsLeastArc faces (get_or sets j []) n → m < n
  in_order i j m n less l least_m least_n =
      let a = least_m.used.0 in
      let b = least_n.used.0 in
      let first : i < length sets = omega arith in
      let left_a = least_m.used.1.left in
      let left_b = least_n.used.1.left in
      let at_a = in_its_part i (face_left_of faces.places a) first left_a in
      let at_b = in_its_part j (face_left_of faces.places b) l left_b in
      let is_m = number_is i m (face_left_of faces.places a) first least_m at_a in
      let is_n = number_is j n (face_left_of faces.places b) l least_n at_b in
      let rises : get_or g.numbers i 0 < get_or g.numbers j 0 = AllPairs-from_increasing g.numbers g.rising i j 0 less (let e = count in omega arith) in
      let ranks : rank_of classes numbers at_a.place < rank_of classes numbers at_b.place = (let e = at_a.rank in let f = at_b.rank in omega arith) in
      let ca = class_below at_a.place at_a.within in
      let cb = class_below at_b.place at_b.within in
      let no_more : m ≤ n = omega arith in
      elim (cases_lt m n) [
        | inl lower ↦ lower
        | inr higher ↦ absurd (apart (omega arith))
      ]
    where
      first_in : i < length sets
      first_in = omega arith

      apart : m ≡ n → ⊥
      apart e =
          let a = least_m.used.0 in
          let b = least_n.used.0 in
          let left_a = least_m.used.1.left in
          let left_b = least_n.used.1.left in
          let same_arc : a.arc ≡ b.arc = least_m.used.2 ∙ e ∙ sym least_n.used.2 in
          elim (same_or_other a b same_arc) [
            | inl same ↦
                (let both : i ≡ j = all_divided.once i j (face_left_of faces.places a) first_in l left_a (subst (λ (x : ℕ). Contains (get_or sets j []) x) (sym (ap (face_left_of faces.places) same)) left_b) in
                omega arith)
            | inr other ↦
                (let right : face_left_of faces.places a ≡ face_right_of faces.places b = ap (face_left_of faces.places) other in
                let in_first : Contains (get_or sets i []) (face_right_of faces.places b) = subst (λ (x : ℕ). Contains (get_or sets i []) x) right left_a in
                let at = in_its_part i (face_right_of faces.places b) first_in in_first in
                let into : Contains inside (face_right_of faces.places b) = (at.place, at.within, get_or_default inside at.place (face_right_of faces.places b) 0 at.within ∙ at.face) in
                let both : j ≡ i = (are_joined j i (face_left_of faces.places b) (face_right_of faces.places b) l first_in left_b in_first).1
                (joined_over faces inside (face_left_of faces.places b) b (record { arc = least_n.used.1.arc; from = refl; into = into })) in
                omega arith)
          ]

  pub parts_are : AreParts faces inside sets
  parts_are = record {
    divided = all_divided;
    ascending = All-from_get_or IsStrictlyIncreasing sets [] (λ i l.
        let picked = map (λ (p : PartFace). p.face) (filter (has_part (get_or g.numbers i 0)) numbered) in
        subst IsStrictlyIncreasing (sym (set_at i l)) (from_ascending (faces_of_part numbered (get_or g.numbers i 0)) (ascending-IsAscending nat_lt nat_order picked)));
    joined = are_joined;
    in_order = in_order;
  }
