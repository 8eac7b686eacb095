-- Vertices that are nodes whatever their number of links.
use Rattle.std.specs.Prelude.{◌≡◌, ◌⊎◌, ◌+◌, ◌<◌, ℕ, ◌-◌, ◌&&◌, nat_lt, if◌then◌else◌, List, [], ◌∷◌, ◌++◌, Contains, length}
use Rattle.std.specs.List.{flat_map}
use Rattle.std.specs.List.Sorted.{IsPermutation, IsSorted}
use Rattle.lists.specs.Lists.{joined_up}
use Rattle.plane_model.specs.Points.{GridPoint, Path, same_point}
use Rattle.plane_model.specs.Drawing.{Drawing, rings_of}
use Rattle.grid_base.specs.Order.{point_cmp}
use Rattle.arc_table.specs.Direction.{point_at}

-- the points inside a path that have the same point before and after
abbrev pub turns_back : Path → List GridPoint
turns_back [] = []
turns_back (p ∷ []) = []
turns_back (p ∷ q ∷ []) = []
turns_back (p ∷ q ∷ r ∷ rest) = (if same_point p r then q ∷ [] else []) ++ turns_back (q ∷ r ∷ rest)

-- the first and the last point of a path
abbrev pub ends_of : Path → List GridPoint
ends_of [] = []
ends_of (p ∷ rest) = p ∷ point_at (p ∷ rest) (length (p ∷ rest) - 1) ∷ []

-- a closed path of more than two points starts where it has the same point before and after
abbrev pub turns_at_start : Path → List GridPoint
turns_at_start ring = if nat_lt 2 (length ring) && same_point (point_at ring (length ring - 2)) (point_at ring 1) then point_at ring 0 ∷ [] else []

-- where a line starts, ends or turns back
abbrev pub turns_of_line : Path → List GridPoint
turns_of_line line = ends_of line ++ turns_back line

-- where a closed path turns back, read around
abbrev pub turns_of_ring : Path → List GridPoint
turns_of_ring ring = turns_at_start ring ++ turns_back ring

abbrev pub turns_of_drawing : Drawing → List GridPoint
turns_of_drawing d =
    flat_map (λ feature. flat_map (λ polygon. flat_map turns_of_ring polygon) feature) d.polygons
    ++ flat_map (λ feature. flat_map turns_of_line feature) d.lines
    ++ flat_map turns_of_ring d.boxes

-- ---- what it is to be such a vertex

-- p stands inside a path, with one point before and after
pub record TurnsBackAt (path : Path) (p : GridPoint) : Type 0 where
  pub place : ℕ
  pub inside : place + 2 < length path
  pub same : point_at path place ≡ point_at path (place + 2)
  pub here : point_at path (place + 1) ≡ p

-- a closed path starts at p, with one point before and after, read around
pub record TurnsAtStart (ring : Path) (p : GridPoint) : Type 0 where
  pub long : 2 < length ring
  pub same : point_at ring (length ring - 2) ≡ point_at ring 1
  pub here : point_at ring 0 ≡ p

-- a line starts or ends at p
pub record EndsLine (line : Path) (p : GridPoint) : Type 0 where
  pub some : 0 < length line
  pub ends : (point_at line 0 ≡ p) ⊎ (point_at line (length line - 1) ≡ p)

abbrev pub IsLineOf : Drawing → Path → Type 0
IsLineOf d line = Contains (joined_up d.lines) line

-- a ring of a polygon, or a box
abbrev pub IsRingOf : Drawing → Path → Type 0
IsRingOf d ring = Contains (flat_map rings_of d.polygons ++ d.boxes) ring

-- a line starts or ends at p, or a path turns back there
abbrev pub IsTurn : Drawing → GridPoint → Type 0
IsTurn d p =
    ((line : Path) × IsLineOf d line × (EndsLine line p ⊎ TurnsBackAt line p))
    ⊎ ((ring : Path) × IsRingOf d ring × (TurnsAtStart ring p ⊎ TurnsBackAt ring p))

-- ---- in order

-- exactly the turns of a drawing, in order
pub record AreTurns (d : Drawing) (turns : List GridPoint) : Type 0 where
  pub all : IsPermutation (turns_of_drawing d) turns
  pub sorted : IsSorted point_cmp turns
