-- Points and sets that match: a set matches a list of points where some of the points are inside it.
use Rattle.std.specs.Prelude.{◌≡◌, ℕ, ◌<◌, Bool, List, All, length, map}
use Rattle.std.specs.List.{AllZip, flat_map, list_any, range_with_len}
use Rattle.lists.specs.Lists.{numbers_where}
use Rattle.plane_model.specs.Points.{GridPoint, Path}
use Rattle.face_walk.specs.Places.{FaceTable}
use Rattle.line_ops.specs.Points.{IsInsideAt}
use Rattle.face_sets.specs.Owners.{owners_of}
use Rattle.spatial_join.specs.Beside.{AreBeside, lists_of}

-- it tells of each set whether the point is inside
abbrev pub TellsInside : List Path → FaceTable → GridPoint → (List ℕ → Bool) → Type 0
TellsInside arcs faces p inside = (set : List ℕ) → IsInsideAt arcs faces p set (inside set)

-- one of them says it of the set
abbrev pub says_some : List (List ℕ → Bool) → List ℕ → Bool
says_some insides set = list_any (λ (inside : List ℕ → Bool). inside set) insides

-- the ascending numbers of the sets that some of the points are inside of
pub record AreSetsAt (arcs : List Path) (faces : FaceTable) (sets : List (List ℕ)) (points : List GridPoint) (matched : List ℕ) : Type 0 where
  pub insides : List (List ℕ → Bool)
  pub tell : AllZip (TellsInside arcs faces) points insides
  pub listed : matched ≡ numbers_where (says_some insides) sets

-- for each list of points the sets that match it
abbrev pub AreMatchedPoints : List Path → FaceTable → List Path → List (List ℕ) → List (List ℕ) → Type 0
AreMatchedPoints arcs faces points sets matches = AllZip (AreSetsAt arcs faces sets) points matches

-- for each set the ascending numbers of the lists of points that match it
pub record AreMatchedSets (arcs : List Path) (faces : FaceTable) (points : List Path) (sets : List (List ℕ)) (matches : List (List ℕ)) : Type 0 where
  pub by_points : List (List ℕ)
  pub matched : AreMatchedPoints arcs faces points sets by_points
  pub listed : matches ≡ map (owners_of by_points) (range_with_len 0 (length sets))

-- ---- on the way: the sets of the faces beside each of some points, one point after the other, by the lists of the
-- sets that have each face
pub record AreFoundAlong (arcs : List Path) (faces : FaceTable) (owners : List (List ℕ)) (points : List GridPoint) (numbers : List ℕ) : Type 0 where
  pub besides : List (List ℕ)
  pub are : AllZip (AreBeside arcs faces) points besides
  pub there : All (All (λ k. k < faces.count)) besides
  pub found : numbers ≡ flat_map (lists_of owners) besides
