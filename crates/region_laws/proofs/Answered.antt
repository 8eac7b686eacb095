-- What commands ask of regions, answered from the sets of faces that follow them.
use Rattle.std.proofs.Common.{◌≡◌, ◌⊎◌, inl, inr, refl, sym, ap, subst, ◌∙◌, arith, ℕ, zero, suc, ◌<◌, Bool, true, false, cond, List, [], ◌∷◌, Contains, length, filter, get_or, nat_eq, nat_lt}
use Rattle.std.specs.Prelude.{◌↔◌, ℤ}
use Rattle.std.specs.List.{range_with_len}
use Rattle.std.proofs.lemmas.Bool.{cases_lt, false_from_ne_true}
use Rattle.std.proofs.lemmas.List.{get_or_default}
use Rattle.std.proofs.lemmas.List.FromFn.{get_or-map-range_with_len, length-map-range_with_len}
use Rattle.std.proofs.lemmas.List.Elements.{Contains-get_or}
use Rattle.lists.specs.Lists.{has, joined_up}
use Rattle.lists.proofs.Ascending.{Contains-ascending, ascending-Contains}
use Rattle.lists.proofs.Members.{Contains-joined_up, joined_up-Contains}
use Rattle.plane_model.specs.Points.{Segment, Path}
use Rattle.plane_model.specs.Drawing.{Drawing}
use Rattle.plane_model.specs.Snapped.{links_of, snapped}
use Rattle.plane_faces.specs.Places.{Place, left_side, right_side}
use Rattle.plane_faces.proofs.Order.{place_exists}
use Rattle.grid_base.specs.declared.kinds.OverlapRule.{OverlapRule}
use Rattle.grid_base.specs.declared.kinds.OverlapRule.TheVariants.{MinId, MaxId, MinArea, MaxArea}
use Rattle.face_walk.specs.Places.{FaceTable}
use Rattle.face_sets.specs.Joined.{AreParts}
use Rattle.face_sets.specs.Sets.{IsSetOf}
use Rattle.face_sets.proofs.BoundaryLemmas.{Contains_has, has_Contains}
use Rattle.face_sets.proofs.SetLemmas.{nat_order}
use Rattle.region_ops.specs.Cleaned.{ranks_before}
use Rattle.region_model.specs.Region.{Region, any_of, less, part, Has}
use Rattle.region_model.specs.Answers as answers
use Rattle.region_model.specs.Answers.{boundary, is_empty, is_nil}
use Rattle.region_model.specs.PolygonCommands as model
use Rattle.region_model.specs.PolygonCommands.{exploded, parts_of, regions_at}
use Rattle.region_laws.specs.Regions.{Follows}
use Rattle.region_laws.specs.Followed.{IsWalked}
use Rattle.region_laws.specs.Answered.{AreasAreTold, CleanedAsTold, EmptinessIsTold, ExplodedAsTold, FollowInOrder, LayersAreFollowed, PartsAreTold, SidesAreTold, plane_with}
use Rattle.region_laws.proofs.Areas.{areas_are_those_of_regions}
use Rattle.region_laws.proofs.PartLaws.{parts_are_followed}
use Rattle.region_laws.proofs.Parts.{in_no_other}
use Rattle.region_laws.proofs.Sets.{has_some, some_has}
use Rattle.region_laws.proofs.Sides.{left_belongs, right_belongs}
use Rattle.region_laws.proofs.TieLaws.{cleaned_by_regions, empty_sets_are_empty_regions}
use Rattle.region_laws.proofs.Walked.{arcs_free, labels_faces, links_arranged, links_distinct}

-- ---- layers

found : {A : Type 0} (xs : List A) (x d : A) (c : Contains xs x) → x ≡ get_or xs c.0 d
found xs x d c = sym c.2 ∙ get_or_default xs c.0 x d c.1

pub layers_are_followed : LayersAreFollowed
layers_are_followed d arcs label sets regions (many, each) z off a here = (
  λ h.
      let (r, in_regions, held) = has_some d arcs z regions h in
      let n : ℕ = in_regions.0 in
      let below : n < length sets = let l = in_regions.1 in omega arith in
      let in_set : Contains (get_or sets n []) (label a) = (each n below z off a here).0 (subst (λ (t : Region). Has d arcs t z) (found regions r (any_of []) in_regions) held) in
      Contains-ascending nat_lt nat_order (joined_up sets) (label a) (Contains-joined_up sets (get_or sets n []) (label a) (Contains-get_or sets n [] below) in_set),
  λ c.
      let (set, in_sets, in_set) = joined_up-Contains sets (label a) (ascending-Contains nat_lt nat_order (joined_up sets) (label a) c) in
      let n : ℕ = in_sets.0 in
      let below : n < length regions = let l = in_sets.1 in omega arith in
      let held : Has d arcs (get_or regions n (any_of [])) z = (each n in_sets.1 z off a here).1 (subst (λ (xs : List ℕ). Contains xs (label a)) (found sets set [] in_sets) in_set) in
      some_has d arcs z regions (get_or regions n (any_of [])) (Contains-get_or regions n (any_of []) below) held,
)

-- ---- sides

pub sides_are_told : SidesAreTold
sides_are_told d arcs faces label walked set r follows = (
  λ l. has nat_eq set (label (left_side l)),
  λ l. has nat_eq set (label (right_side l)),
  record {
    left_side = λ l c.
        let by = left_belongs (links_of (snapped d)) (links_arranged d) (links_distinct d) label (labels_faces d arcs faces label walked) set (Has (snapped d) arcs r) follows l c in
        (λ e. by.1 (has_Contains set (label (left_side l)) e), λ i. Contains_has set (label (left_side l)) (by.0 i));
    right_side = λ l c.
        let by = right_belongs (links_of (snapped d)) (links_arranged d) (links_distinct d) label (labels_faces d arcs faces label walked) set (Has (snapped d) arcs r) follows l c in
        (λ e. by.1 (has_Contains set (label (right_side l)) e), λ i. Contains_has set (label (right_side l)) (by.0 i));
  },
)

-- ---- emptiness and areas

nil_is_told : (xs : List Segment) → (xs ≡ []) ↔ (is_nil xs ≡ true)
nil_is_told [] = (λ e. refl, λ e. refl)
nil_is_told (x ∷ xs) = (λ e. absurd (cc), λ e. absurd (let f : false ≡ true = e in cc))

pub emptiness_is_told : EmptinessIsTold
emptiness_is_told d arcs faces label walked set inner r follows A sides =
    let by = (empty_sets_are_empty_regions d arcs faces label walked set inner r follows).1 (A.left r) (A.right r) sides in
    let told = nil_is_told (boundary (plane_with d arcs) A r) in
    (λ e. told.0 (by.0 e), λ e. by.1 (told.1 e))

pub areas_are_told : AreasAreTold
areas_are_told d arcs faces label walked set rising inner r follows A sides = areas_are_those_of_regions d arcs faces label walked set rising inner r follows (A.left r) (A.right r) sides

-- ---- clean

-- both definitions of rank say the same
ranks_alike : (rule : OverlapRule) (area : ℕ → ℤ) (n : ℕ) → ◌≡◌ {A = ℕ → Bool} (λ m. ranks_before rule m (area m) n (area n)) (λ m. model.ranks_before rule m (area m) n (area n))
ranks_alike MinId area n = refl
ranks_alike MaxId area n = refl
ranks_alike MinArea area n = refl
ranks_alike MaxArea area n = refl

pub cleaned_as_told : CleanedAsTold
cleaned_as_told d arcs faces label walked sets rising inner region each A sides rule left is n l =
    subst (λ (earlier : ℕ → Bool). Follows (snapped d) arcs label (get_or left n []) (less (region n) (any_of (regions_at region (filter earlier (range_with_len 0 (length sets)))))))
    (ranks_alike rule (λ (m : ℕ). answers.area_of (plane_with d arcs) A (region m)) n)
    (cleaned_by_regions d arcs faces label walked sets rising inner region each (λ (m : ℕ). A.left (region m)) (λ (m : ℕ). A.right (region m)) sides rule left is n l)

-- ---- parts

pub parts_are_told : PartsAreTold
parts_are_told d arcs faces label walked set inner r follows parts are j =
    let followed = parts_are_followed d arcs faces label walked set inner r follows parts are in (
      λ l. followed.some j l,
      λ h.
          let (z, off, held) = h in
          let (k, below, in_k) = followed.all z off held.0 in
          let (a, here) = place_exists (links_of (snapped d)) (links_arranged d) z in
          let same : j ≡ k = in_no_other (links_of (snapped d)) (links_arranged d) (links_distinct d) arcs walked.table.long walked.table.links (arcs_free d arcs faces label walked) faces walked.built
          label walked.labelled (labels_faces d arcs faces label walked) set inner parts are (Has (snapped d) arcs r) follows z off a here k below ((followed.each k below z off a here).0 in_k) j held.1 in
          omega arith,
    )

-- ---- explode

pub nil_or_not : (xs : List ℕ) → (xs ≡ []) ⊎ (xs ≡ [] → ⊥)
nil_or_not [] = inl refl
nil_or_not (x ∷ xs) = inr (λ e. absurd (cc))

-- one bound
pub one_bound : (a b : ℕ) → ((j : ℕ) → j < a → j < b) → ((j : ℕ) → j < b → j < a) → a ≡ b
one_bound a b to from = elim (cases_lt a b) [
  | inl l ↦ absurd (let m = from a l in omega arith)
  | inr l ↦ elim (cases_lt b a) [ inl k ↦ absurd (let m = to b k in omega arith) | inr k ↦ omega arith ]
]

-- the parts of a set follow those of its region in order
pub parts_in_order : (d : Drawing) (arcs : List Path) (faces : FaceTable) (label : Place → ℕ) → IsWalked d arcs faces label → (set : List ℕ) → IsSetOf faces set → (r : Region) → Follows (snapped d) arcs label set r → (A : answers.Answers) →
    ((j : ℕ) → (j < A.parts r) ↔ answers.HasSome (plane_with d arcs) (part r j)) → (parts : List (List ℕ)) → AreParts faces set parts → FollowInOrder (snapped d) arcs label parts (parts_of A r)
parts_in_order d arcs faces label walked set inner r follows A counted parts are =
    let by_set = parts_are_told d arcs faces label walked set inner r follows parts are in
    let many : A.parts r ≡ length parts = one_bound (A.parts r) (length parts) (λ j l. (by_set j).1 ((counted j).0 l)) (λ j l. (counted j).1 ((by_set j).0 l)) in
    let followed = parts_are_followed d arcs faces label walked set inner r follows parts are in (
      length-map-range_with_len (part r) 0 (A.parts r) ∙ many,
      λ n l. subst (λ (t : Region). Follows (snapped d) arcs label (get_or parts n []) t) (sym (get_or-map-range_with_len (part r) 0 (A.parts r) n n (any_of []) (omega arith) (omega arith))) (followed.each n l),
    )

follow_one : (d : Drawing) (arcs : List Path) (label : Place → ℕ) (set : List ℕ) (r : Region) → Follows d arcs label set r → (n : ℕ) → n < length (set ∷ []) → Follows d arcs label (get_or (set ∷ []) n []) (get_or (r ∷ []) n (any_of []))
follow_one d arcs label set r follows zero l = follows
follow_one d arcs label set r follows (suc n) l = absurd (omega arith)

pub exploded_as_told : ExplodedAsTold
exploded_as_told d arcs faces label walked set inner r follows A sides counted pieces are = elim (nil_or_not set) [ inl none ↦ alone none | inr some ↦ apart some ]
  where
    told : (set ≡ []) ↔ (is_empty (plane_with d arcs) A r ≡ true)
    told = emptiness_is_told d arcs faces label walked set inner r follows A sides

    alone : set ≡ [] → FollowInOrder (snapped d) arcs label pieces (exploded (plane_with d arcs) A r)
    alone none =
        let one : pieces ≡ set ∷ [] = are.empty none ∙ ap (λ (xs : List ℕ). xs ∷ []) (sym none) in
        let is : is_empty (plane_with d arcs) A r ≡ true = told.0 none in
        let itself : exploded (plane_with d arcs) A r ≡ r ∷ [] = (λ i. cond (is i) (r ∷ []) (parts_of A r)) in
        subst (λ (sets : List (List ℕ)). FollowInOrder (snapped d) arcs label sets (exploded (plane_with d arcs) A r)) (sym one)
        (subst (λ (regions : List Region). FollowInOrder (snapped d) arcs label (set ∷ []) regions) (sym itself) (refl, follow_one (snapped d) arcs label set r follows))

    apart : (set ≡ [] → ⊥) → FollowInOrder (snapped d) arcs label pieces (exploded (plane_with d arcs) A r)
    apart some =
        let is : is_empty (plane_with d arcs) A r ≡ false = false_from_ne_true (is_empty (plane_with d arcs) A r) (λ e. some (told.1 e)) in
        let each_part : exploded (plane_with d arcs) A r ≡ parts_of A r = (λ i. cond (is i) (r ∷ []) (parts_of A r)) in
        subst (λ (regions : List Region). FollowInOrder (snapped d) arcs label pieces regions) (sym each_part) (parts_in_order d arcs faces label walked set inner r follows A counted pieces (are.parts some))
