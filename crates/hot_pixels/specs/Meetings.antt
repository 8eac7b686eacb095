-- Meetings of edges with hot points besides their ends, and how each edge's are listed.
use Rattle.std.specs.Prelude.{◌≡◌, ◌⊎◌, ◌+◌, ◌<◌, ℕ, true, List, [], ◌∷◌, Contains, Option, Some, None, length, slice_get}
use Rattle.plane_model.specs.Points.{GridPoint, Segment}
use Rattle.plane_model.specs.Pixel.{meets}
use Rattle.hot_pixels.specs.declared.meetings.Meeting.{Meeting}

abbrev pub meeting_at : List Meeting → Option ℕ → Option Meeting
meeting_at meetings None = None
meeting_at meetings (Some k) = slice_get meetings k

-- how many meetings there are up to this one
abbrev pub count_to : Option ℕ → ℕ
count_to None = 0
count_to (Some k) = k + 1

-- the points of the meetings from this one back, each followed by the one before
abbrev pub AreBack : List Meeting → Option ℕ → List GridPoint → Type 0
AreBack meetings last [] = last ≡ None
AreBack meetings last (p ∷ rest) =
    (m : Meeting) × (meeting_at meetings last ≡ Some m) × (m.point ≡ p) × (count_to m.before < count_to last) × AreBack meetings m.before rest

-- p is among the points from the last meeting of edge i back
pub record IsListed (lasts : List (Option ℕ)) (meetings : List Meeting) (i : ℕ) (p : GridPoint) : Type 0 where
  pub last : Option ℕ
  pub there : slice_get lasts i ≡ Some last
  pub points : List GridPoint
  pub back : AreBack meetings last points
  pub listed : Contains points p

-- s meets the points from this meeting back
pub record AreMetBack (meetings : List Meeting) (s : Segment) (last : Option ℕ) : Type 0 where
  pub points : List GridPoint
  pub back : AreBack meetings last points
  pub met : (g : GridPoint) → Contains points g → meets s g ≡ true

-- each edge has a last meeting, or none, and meets the points from there back
pub record AreLists (edges : List Segment) (lasts : List (Option ℕ)) (meetings : List Meeting) : Type 0 where
  pub each : length lasts ≡ length edges
  pub met : (i : ℕ) (s : Segment) (last : Option ℕ) → slice_get edges i ≡ Some s → slice_get lasts i ≡ Some last → AreMetBack meetings s last

-- meetings with p are added: what is listed stays so
pub record AddsMeetings (edges : List Segment) (p : GridPoint) (old : List (Option ℕ)) (before : List Meeting) (new : List (Option ℕ)) (after : List Meeting) : Type 0 where
  pub kept : (i : ℕ) (g : GridPoint) → IsListed old before i g → IsListed new after i g
  pub lists : AreLists edges new after
  pub from : (m : Meeting) → Contains after m → Contains before m ⊎ (m.point ≡ p)
