-- The faces outside a set, and the parts of them that the outer face isn't in.
use Rattle.std.proofs.Common.{◌≡◌, ◌∙◌, sym, ap, arith, ℕ, ◌+◌, ◌<◌, Bool, true, cond, not, List, [], ◌∷◌, ◌++◌, length, get_or, take, filter, nat_eq, All, Contains, map-id}
use Rattle.std.specs.List.{range_with_len}
use Rattle.std.specs.List.Sorted.{IsStrictlyIncreasing}
use Rattle.std.proofs.lemmas.List.{take_more}
use Rattle.std.proofs.lemmas.List.Elements.{All-contains, All-filter, All-from_get_or, Contains-get_or, filter-append}
use Rattle.std.proofs.lemmas.List.FromFn.{length-range_with_len, get_or-range_with_len, map-range_with_len_more}
use Rattle.std.proofs.lemmas.List.Kept.{IsStrictlyIncreasing-filter}
use Rattle.std.proofs.lemmas.Option.{get_or_from_slice_get}
use Rattle.std.proofs.lemmas.Bool.{not-true}
use Rattle.lists.specs.Lists.{has, joined_up}
use Rattle.lists.proofs.Members.{filter-Contains}
use Rattle.plane_model.proofs.PointOrder.{clash}
use Rattle.face_walk.specs.Places.{FaceTable}
use Rattle.face_walk.proofs.RingStepLemmas.{joined_more}
use Rattle.face_sets.specs.Gaps.{outside_of, has_outer}
use Rattle.face_sets.specs.Parts.{IsPieceOf}
use Rattle.face_sets.specs.Sets.{IsInnerFace, IsSetOf}
use Rattle.face_sets.proofs.BoundaryLemmas.{Contains_has}

-- ---- what is outside

pub range_more : (n : ℕ) → range_with_len 0 (n + 1) ≡ range_with_len 0 n ++ n ∷ []
range_more n =
    sym (map-id (range_with_len 0 (n + 1))) ∙ map-range_with_len_more (λ (k : ℕ). k) 0 n n (omega arith)
    ∙ ap (λ (ks : List ℕ). ks ++ n ∷ []) (map-id (range_with_len 0 n))

pub outside_more : (set : List ℕ) (n : ℕ) (b : Bool) → b ≡ has nat_eq set n →
    filter (λ (k : ℕ). not (has nat_eq set k)) (range_with_len 0 (n + 1)) ≡ filter (λ (k : ℕ). not (has nat_eq set k)) (range_with_len 0 n) ++ cond (not b) (n ∷ []) []
outside_more set n b is =
    let test : ℕ → Bool = λ (k : ℕ). not (has nat_eq set k) in
    ap (filter test) (range_more n) ∙ filter-append test (range_with_len 0 n) (n ∷ [])
    ∙ ap (λ (c : Bool). filter test (range_with_len 0 n) ++ cond (not c) (n ∷ []) []) (sym is)

pub range_rises : (n : ℕ) → IsStrictlyIncreasing (range_with_len 0 n)
range_rises n k l =
    let e = length-range_with_len 0 n in
    let here = get_or-range_with_len 0 n k 0 (omega arith) in
    let next = get_or-range_with_len 0 n (k + 1) 0 (omega arith) in
    omega arith

pub outside_rises : (set : List ℕ) (n : ℕ) → IsStrictlyIncreasing (filter (λ (k : ℕ). not (has nat_eq set k)) (range_with_len 0 n))
outside_rises set n = IsStrictlyIncreasing-filter (λ (k : ℕ). not (has nat_eq set k)) (range_with_len 0 n) (range_rises n)

pub in_range : (n k : ℕ) → k < n → Contains (range_with_len 0 n) k
in_range n k l = (k, (let e = length-range_with_len 0 n in omega arith), get_or-range_with_len 0 n k k l ∙ (let same : 0 + k ≡ k = omega arith in same))

pub of_range : (n k : ℕ) → Contains (range_with_len 0 n) k → k < n
of_range n k (i, l, e) =
    let size = length-range_with_len 0 n in
    let is = get_or-range_with_len 0 n i k (omega arith) in
    omega arith

pub range_below : (n : ℕ) → All (λ k. k < n) (range_with_len 0 n)
range_below n = λ i d l. of_range n (get_or (range_with_len 0 n) i d) (Contains-get_or (range_with_len 0 n) i d l)

outside_below : (faces : FaceTable) (set : List ℕ) → All (λ k. k < faces.count) (outside_of faces set)
outside_below faces set = All-filter (λ (k : ℕ). not (has nat_eq set k)) (λ k. k < faces.count) (range_with_len 0 faces.count) (range_below faces.count)

-- ---- parts that the outer face isn't in

-- a part of what is outside that has no outer face has inner faces alone
shut_in_inner : (faces : FaceTable) (set part : List ℕ) → IsPieceOf (outside_of faces set) part → not (has_outer faces part) ≡ true → IsSetOf faces part
shut_in_inner faces set part piece without = All-from_get_or (IsInnerFace faces) part 0 (λ i l.
    let k : ℕ = get_or part i 0 in
    let listed : Contains part k = Contains-get_or part i 0 l in
    record {
      there = All-contains (λ k. k < faces.count) (outside_of faces set) k (outside_below faces set) (All-contains (Contains (outside_of faces set)) part k piece.faces listed);
      not_outer = λ e.
          let is : get_or faces.places 0 0 ≡ k = get_or_from_slice_get faces.places 0 k 0 e in
          clash (has_outer faces part) (ap (has nat_eq part) is ∙ Contains_has part k listed) (not-true (has_outer faces part) without);
    })

pub gaps_inner : (faces : FaceTable) (set : List ℕ) (parts : List (List ℕ)) → All (IsPieceOf (outside_of faces set)) parts → All (IsSetOf faces) (filter (λ (part : List ℕ). not (has_outer faces part)) parts)
gaps_inner faces set parts pieces =
    let test : List ℕ → Bool = λ (part : List ℕ). not (has_outer faces part) in
    All-from_get_or (IsSetOf faces) (filter test parts) [] (λ i l.
    let part : List ℕ = get_or (filter test parts) i [] in
    let (listed, passes) = filter-Contains test parts part (Contains-get_or (filter test parts) i [] l) in
    shut_in_inner faces set part (All-contains (IsPieceOf (outside_of faces set)) parts part pieces listed) passes)

-- ---- the faces of all sets, one more set

pub faces_more : (sets : List (List ℕ)) (i : ℕ) (d : List ℕ) → i < length sets → joined_up (take (i + 1) sets) ≡ joined_up (take i sets) ++ get_or sets i d
faces_more sets i d l = ap joined_up (take_more sets i d l) ∙ joined_more (take i sets) (get_or sets i d)
