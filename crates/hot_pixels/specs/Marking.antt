-- Segments that meet no hot pixels besides those of their ends, and where the hot points are that others meet.
use Rattle.std.specs.Prelude.{◌≡◌, ◌⊎◌, ◌<◌, ℕ, Bool, true, false, not, filter, List, [], ◌∷◌, All, Contains, Option, Some, None, length, slice_get, if◌then◌else◌}
use Rattle.plane_model.specs.Points.{GridPoint, Segment, Path, same_point}
use Rattle.plane_model.specs.Pixel.{meets}
use Rattle.hot_pixels.specs.Spots.{is_end}
use Rattle.hot_pixels.specs.Edges.{HasEdgeAt}
use Rattle.hot_pixels.specs.declared.meetings.Meeting.{Meeting}
use Rattle.hot_pixels.specs.Meetings.{AreBack, IsListed, AreLists}

abbrev pub IsEndOf : Segment → GridPoint → Type 0
IsEndOf s p = (p ≡ s.start) ⊎ (p ≡ s.stop)

-- of these points s meets its ends alone
pub record MeetsEndsAlone (points : List GridPoint) (s : Segment) : Type 0 where
  pub others : (p : GridPoint) → Contains points p → meets s p ≡ true → IsEndOf s p

-- the ends of a segment; one, where they are the same
abbrev pub ends_of : Segment → Path
ends_of s = if same_point s.start s.stop then s.start ∷ [] else s.start ∷ s.stop ∷ []

-- the points that are no ends of a segment
abbrev pub others_of : Segment → List GridPoint → List GridPoint
others_of s points = filter (λ p. not (is_end s p)) points

-- ---- crowds

abbrev pub IsMarked : List Bool → ℕ → Type 0
IsMarked marks i = slice_get marks i ≡ Some true

-- what has a mark keeps it
pub record KeepMarks (old new : List Bool) : Type 0 where
  pub each : length new ≡ length old
  pub kept : (i : ℕ) → IsMarked old i → IsMarked new i

-- of the first `count` lists, the segments of each that is too long have marks
pub record AreCrowdsMarked (count : ℕ) (near : List (List ℕ)) (marks : List Bool) : Type 0 where
  pub all : (place : ℕ) → place < count → (list : List ℕ) → slice_get near place ≡ Some list → 64 < length list → All (IsMarked marks) list

-- ---- where the points are that edges meet besides their ends

-- edge i is of a crowd, and the point is inner; or it is of none, and p is listed for it
abbrev pub IsFound : List Bool → List (Option ℕ) → List Meeting → Type 0 → ℕ → GridPoint → Type 0
IsFound crowded lasts meetings IsInner i p = (IsMarked crowded i × IsInner) ⊎ ((slice_get crowded i ≡ Some false) × IsListed lasts meetings i p)

-- p is listed for edge i, if the edge meets p and doesn't end there
pub record IsGathered (edges : List Segment) (lasts : List (Option ℕ)) (meetings : List Meeting) (p : GridPoint) (i : ℕ) : Type 0 where
  pub seen : (s : Segment) → slice_get edges i ≡ Some s → meets s p ≡ true → IsEndOf s p ⊎ IsListed lasts meetings i p

-- p is found for edge i, if the edge meets p and doesn't end there
pub record IsSeen (edges : List Segment) (crowded : List Bool) (lasts : List (Option ℕ)) (meetings : List Meeting) (is_inner : Bool) (p : GridPoint) (i : ℕ) : Type 0 where
  pub seen : (s : Segment) → slice_get edges i ≡ Some s → meets s p ≡ true → IsEndOf s p ⊎ IsFound crowded lasts meetings (is_inner ≡ true) i p

-- Each of the points that an edge meets besides its ends is found for it. What is listed is some of the points, and met
-- by its edge; what is inner is some of the points.
pub record AreMarks (points : List GridPoint) (edges : List Segment) (crowded : List Bool) (lasts : List (Option ℕ)) (meetings : List Meeting) (inner : List GridPoint) : Type 0 where
  pub seen : (p : GridPoint) → Contains points p → (i : ℕ) (s : Segment) → slice_get edges i ≡ Some s → meets s p ≡ true → IsEndOf s p ⊎ IsFound crowded lasts meetings (Contains inner p) i p
  pub lists : AreLists edges lasts meetings
  pub hot : (m : Meeting) → Contains meetings m → Contains points m.point
  pub inside : (p : GridPoint) → Contains inner p → Contains points p

-- the edge of s is of no crowd and has no meeting
pub record HasClearEdge (edges : List Segment) (crowded : List Bool) (lasts : List (Option ℕ)) (s : Segment) : Type 0 where
  pub number : ℕ
  pub has_edge : HasEdgeAt edges s number
  pub apart : slice_get crowded number ≡ Some false
  pub alone : slice_get lasts number ≡ Some None

-- all these are the ends of a segment, and some points
pub record AreEndsAnd (s : Segment) (points all : List GridPoint) : Type 0 where
  pub from : (g : GridPoint) → Contains all g → IsEndOf s g ⊎ Contains points g
  pub ends : (g : GridPoint) → IsEndOf s g → Contains all g
  pub others : (g : GridPoint) → Contains points g → Contains all g

-- what is looked up for a segment whose edge is number i: its ends, and the points that are listed for the edge, or those
-- of the inner that it meets
abbrev pub AreLookedUp : List Bool → List (Option ℕ) → List Meeting → List GridPoint → Segment → ℕ → List GridPoint → Type 0
AreLookedUp crowded lasts meetings inner s i all =
    ((slice_get crowded i ≡ Some false) × ((last : Option ℕ) (points : List GridPoint) → slice_get lasts i ≡ Some last → AreBack meetings last points → AreEndsAnd s points all))
    ⊎ ((slice_get crowded i ≡ Some false → ⊥) × AreEndsAnd s (filter (meets s) inner) all)
