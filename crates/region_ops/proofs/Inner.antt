-- What is made of faces of sets has inner faces alone, where the sets have.
use Rattle.std.proofs.Common.{ℕ, zero, suc, Bool, List, [], ◌∷◌, All, map, filter, take}
use Rattle.std.specs.List.{flat_map}
use Rattle.std.proofs.lemmas.List.Elements.{All-nil, All-cons, All-head, All-tail, All-append, All-weaker, All-take, All-map, All-filter}
use Rattle.face_walk.specs.Places.{FaceTable}
use Rattle.face_sets.specs.Sets.{IsInnerFace, IsSetOf}
use Rattle.face_sets.proofs.SetLemmas.{All-ascending}
use Rattle.region_ops.specs.Dissolved.{set_at, union_of}

pub filtered_inner : (t : FaceTable) (test : ℕ → Bool) (sets : List (List ℕ)) (n : ℕ) → All (IsSetOf t) sets → All (IsSetOf t) (map (filter test) (take n sets))
filtered_inner t test sets n h =
    All-map (IsSetOf t) (filter test) (take n sets)
    (All-weaker (IsSetOf t) (λ (set : List ℕ). IsSetOf t (filter test set)) (λ set inner. All-filter test (IsInnerFace t) set inner) (take n sets) (All-take (IsSetOf t) n sets h))

set_inner : (t : FaceTable) (sets : List (List ℕ)) (n : ℕ) → All (IsSetOf t) sets → IsSetOf t (set_at sets n)
set_inner t [] n h = All-nil (IsInnerFace t)
set_inner t (set ∷ sets) zero h = All-head (IsSetOf t) set sets h
set_inner t (set ∷ sets) (suc n) h = set_inner t sets n (All-tail (IsSetOf t) set sets h)

members_inner : (t : FaceTable) (sets : List (List ℕ)) (group : List ℕ) → All (IsSetOf t) sets → IsSetOf t (flat_map (set_at sets) group)
members_inner t sets [] h = All-nil (IsInnerFace t)
members_inner t sets (n ∷ ns) h = All-append (IsInnerFace t) (set_at sets n) (flat_map (set_at sets) ns) (set_inner t sets n h) (members_inner t sets ns h)

pub unions_inner : (t : FaceTable) (sets : List (List ℕ)) (groups : List (List ℕ)) → All (IsSetOf t) sets → All (IsSetOf t) (map (union_of sets) groups)
unions_inner t sets [] h = All-nil (IsSetOf t)
unions_inner t sets (group ∷ groups) h = All-cons (IsSetOf t) (union_of sets group) (map (union_of sets) groups)
    (All-ascending (IsInnerFace t) (flat_map (set_at sets) group) (members_inner t sets group h)) (unions_inner t sets groups h)
