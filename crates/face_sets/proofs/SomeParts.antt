-- A set that has classes has parts: its faces, numbered by the ranks of their classes, and gathered by these numbers.
use Rattle.std.proofs.Common.{◌≡◌, refl, sym, ap, subst, arith, ℕ, ◌<◌, ◌^◌, List, length, get_or, map, nat_lt, All, Contains}
use Rattle.std.specs.List.{range_with_len}
use Rattle.std.specs.List.Sorted.{IsStrictlyIncreasing}
use Rattle.std.proofs.lemmas.List.Elements.{All-from_get_or, Contains-get_or}
use Rattle.std.proofs.lemmas.List.FromFn.{length-map-range_with_len, get_or-map-range_with_len}
use Rattle.lists.specs.Lists.{ascending}
use Rattle.lists.proofs.Members.{Contains-map, map-Contains}
use Rattle.lists.proofs.Ascending.{ascending-Contains, ascending-IsAscending, Contains-ascending}
use Rattle.face_walk.specs.Joining.{AreClasses}
use Rattle.face_walk.specs.Places.{FaceTable}
use Rattle.face_sets.specs.declared.joined_faces.Side.{Side}
use Rattle.face_sets.specs.declared.part_sets.PartFace.{PartFace}
use Rattle.face_sets.specs.Joined.{AreJoinedBy, AreLeastNumbers, AreParts, IsRanked, rank_of}
use Rattle.face_sets.specs.Parts.{AreGroups, IsFaceOf, faces_of_part}
use Rattle.face_sets.proofs.BoundaryLemmas.{AreSidesOf}
use Rattle.face_sets.proofs.PartLemmas.{none, numbered_each}
use Rattle.face_sets.proofs.RankedLemmas.{parts_are}
use Rattle.face_sets.proofs.SetLemmas.{nat_order, from_ascending}

-- ---- the sets of equal numbers

abbrev number : PartFace → ℕ
number p = p.part

abbrev used_numbers : List PartFace → List ℕ
used_numbers numbered = ascending nat_lt (map number numbered)

abbrev groups : List PartFace → List (List ℕ)
groups numbered = map (faces_of_part numbered) (used_numbers numbered)

are_groups : (numbered : List PartFace) → AreGroups numbered numbered (groups numbered)
are_groups numbered = record {
  numbers = used_numbers numbered;
  rising = from_ascending (used_numbers numbered) (ascending-IsAscending nat_lt nat_order (map number numbered));
  used = λ n c. map-Contains number numbered n (ascending-Contains nat_lt nat_order (map number numbered) n c);
  reached = λ p c. Contains-ascending nat_lt nat_order (map number numbered) p.part (Contains-map number numbered p c);
  are = refl;
}

-- ---- the faces of a set with the ranks of their classes

module _ (faces : FaceTable) (inside classes numbers : List ℕ) (sides : List Side) (up : IsStrictlyIncreasing inside) (few : length inside < 2 ^ 32)
    (each : length classes ≡ length inside) (each_number : length numbers ≡ length classes) (are_classes : AreClasses classes) (joined : AreJoinedBy faces inside classes)
    (are_least : AreLeastNumbers classes sides numbers) (sides_are : AreSidesOf faces inside sides) where
  abbrev ranked_face : ℕ → PartFace
  ranked_face i = record { part = rank_of classes numbers i; face = get_or inside i 0 }

  abbrev ranked : List PartFace
  ranked = map ranked_face (range_with_len 0 (length inside))

  count : length ranked ≡ length inside
  count = length-map-range_with_len ranked_face 0 (length inside)

  at : (i : ℕ) (d : PartFace) → i < length inside → get_or ranked i d ≡ ranked_face i
  at i d l = get_or-map-range_with_len ranked_face 0 (length inside) i i d l (omega arith)

  listed : All (IsFaceOf inside) ranked
  listed = All-from_get_or (IsFaceOf inside) ranked none (λ i l.
      let within : i < length inside = (let c = count in omega arith) in
      record { listed = subst (λ (p : PartFace). Contains inside p.face) (sym (at i none within)) (Contains-get_or inside i 0 within) })

  all_ranked : All (IsRanked inside classes numbers) ranked
  all_ranked = All-from_get_or (IsRanked inside classes numbers) ranked none (λ i l.
      let within : i < length inside = (let c = count in omega arith) in
      record { place = i; within = within; face = ap (λ (p : PartFace). p.face) (at i none within); rank = ap number (at i none within) })

  -- some lists are the parts of the set
  pub some_parts : (parts : List (List ℕ)) × AreParts faces inside parts
  some_parts = (
    groups ranked,
    parts_are faces inside classes numbers sides ranked (groups ranked) up few each each_number are_classes joined are_least sides_are listed
        (numbered_each inside ranked up count (λ k d l. ap (λ (p : PartFace). p.face) (at k d l))) all_ranked (are_groups ranked),
  )
