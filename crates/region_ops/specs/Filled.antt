-- Gaps between sets of faces that clean fills: each goes to one of the sets.
use Rattle.std.specs.Prelude.{◌≡◌, ◌⊎◌, ◌↔◌, ℕ, ◌<◌, ◌++◌, Bool, true, false, ℤ, pos, int_le, nat_lt, List, [], All, Contains, Option, Some, None, length, slice_index_or, slice_set}
use Rattle.std.specs.List.{flat_map}
use Rattle.std.specs.Option.{option_to_list}
use Rattle.std.specs.List.Sorted.{IsStrictlyIncreasing}
use Rattle.lists.specs.Lists.{ascending, joined_up}
use Rattle.plane_model.specs.Arcs.{SignedArc}
use Rattle.plane_model.specs.Points.{Path}
use Rattle.grid_base.specs.declared.kinds.OverlapRule.{OverlapRule}
use Rattle.face_walk.specs.Places.{FaceTable, HasArc, arcs_with_left, face_left_of}
use Rattle.face_sets.specs.Boundary.{face_right_of}
use Rattle.face_sets.specs.Gaps.{AreGaps}
use Rattle.face_sets.specs.Owners.{owners_of}
use Rattle.face_sets.specs.Sets.{area_of}
use Rattle.region_ops.specs.Cleaned.{IsCleaned, IsFirst, ranks_before}
use Rattle.region_ops.specs.Dissolved.{set_at}

-- the faces that any of the sets has, ascending
abbrev pub all_faces : List (List ℕ) → List ℕ
all_faces sets = ascending nat_lt (joined_up sets)

-- some arc has the gap on its left and the set on its right
pub record Borders (faces : FaceTable) (gap set : List ℕ) : Type 0 where
  pub arc : SignedArc
  pub there : HasArc faces arc
  pub left : Contains gap (face_left_of faces.places arc)
  pub right : Contains set (face_right_of faces.places arc)

-- twice the area of the gap is at most `most`
abbrev pub is_filled : FaceTable → ℕ → List ℕ → Bool
is_filled faces most gap = int_le (area_of faces.areas gap) (pos most)

-- The gap goes to set n: what is left of it borders on the gap, and no set of which that is so ranks before it.
pub record GoesTo (rule : OverlapRule) (faces : FaceTable) (sets cleaned : List (List ℕ)) (gap : List ℕ) (n : ℕ) : Type 0 where
  pub there : n < length sets
  pub borders : Borders faces gap (set_at cleaned n)
  pub first : (m : ℕ) → m < length sets → Borders faces gap (set_at cleaned m) → ranks_before rule m (area_of faces.areas (set_at sets m)) n (area_of faces.areas (set_at sets n)) ≡ false

-- face k is in a filled gap that goes to set n
pub record IsGiven (rule : OverlapRule) (most : ℕ) (faces : FaceTable) (sets cleaned gaps : List (List ℕ)) (n k : ℕ) : Type 0 where
  pub gap : List ℕ
  pub listed : Contains gaps gap
  pub small : is_filled faces most gap ≡ true
  pub goes : GoesTo rule faces sets cleaned gap n
  pub has : Contains gap k

-- each set has what is left of it, and the filled gaps between the sets that go to it
pub record IsFilled (rule : OverlapRule) (most : ℕ) (faces : FaceTable) (sets cleaned filled : List (List ℕ)) : Type 0 where
  pub gaps : List (List ℕ)
  pub are_gaps : AreGaps faces (all_faces sets) gaps
  pub count : length filled ≡ length sets
  pub in_order : All IsStrictlyIncreasing filled
  pub has : (n k : ℕ) → n < length sets → Contains (set_at filled n) k ↔ (Contains (set_at cleaned n) k ⊎ IsGiven rule most faces sets cleaned gaps n k)

-- the sets are cleaned, and then gaps of at most an area, doubled, are filled
abbrev pub IsCleanedAndFilled : OverlapRule → ℕ → FaceTable → List (List ℕ) → List (List ℕ) → Type 0
IsCleanedAndFilled rule most faces sets made = (cleaned : List (List ℕ)) × IsCleaned rule faces.areas sets cleaned × IsFilled rule most faces sets cleaned made

-- ---- on the way, with twice the area of each set

-- for each of `count` faces the one set that has it, or none
pub record AreSoleOwners (sets : List (List ℕ)) (count : ℕ) (owners : List (Option ℕ)) : Type 0 where
  pub exact : (k : ℕ) → k < count → option_to_list (slice_index_or owners k None) ≡ owners_of sets k

-- the numbers of the sets across the arcs round a face, arc by arc, and round a gap, face by face
abbrev pub sets_round : List Path → FaceTable → List (List ℕ) → ℕ → List ℕ
sets_round arcs faces cleaned k = flat_map (λ (a : SignedArc). owners_of cleaned (face_right_of faces.places a)) (arcs_with_left faces.places (length arcs) k)

abbrev pub neighbours_of : List Path → FaceTable → List (List ℕ) → List ℕ → List ℕ
neighbours_of arcs faces cleaned gap = flat_map (sets_round arcs faces cleaned) gap

-- the set that a gap goes to, where it is filled and there is one
abbrev pub IsReceiver : OverlapRule → ℕ → List Path → FaceTable → List ℤ → List (List ℕ) → List ℕ → Option ℕ → Type 0
IsReceiver rule most arcs faces areas cleaned gap to =
    ((is_filled faces most gap ≡ false) × (to ≡ None)) ⊎ ((is_filled faces most gap ≡ true) × IsFirst rule areas (neighbours_of arcs faces cleaned gap) to)

-- the faces of a gap appended to the list of the set that it goes to
abbrev pub given : Option ℕ → List ℕ → List (List ℕ) → List (List ℕ)
given None gap lists = lists
given (Some n) gap lists = slice_set lists n (slice_index_or lists n [] ++ gap)

-- for each set the faces of the gaps that go to it
pub record AreGifts (rule : OverlapRule) (most : ℕ) (arcs : List Path) (faces : FaceTable) (areas : List ℤ) (cleaned gaps gifts : List (List ℕ)) : Type 0 where
  pub each : length gifts ≡ length cleaned
  pub has : (n k : ℕ) → n < length cleaned → Contains (set_at gifts n) k ↔ ((gap : List ℕ) × Contains gaps gap × IsReceiver rule most arcs faces areas cleaned gap (Some n) × Contains gap k)

-- each set with the faces of its list, up to a number
pub record AreTogether (cleaned gifts : List (List ℕ)) (count : ℕ) (filled : List (List ℕ)) : Type 0 where
  pub each : length filled ≡ count
  pub are : (n : ℕ) → n < count → set_at filled n ≡ ascending nat_lt (set_at gifts n ++ set_at cleaned n)
