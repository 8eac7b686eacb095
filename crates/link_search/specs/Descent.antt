-- Going down from a point, bucket by bucket: the topmost link so far, and the point to go on from.
use Rattle.std.specs.Prelude.{◌≡◌, ◌⊎◌, pos, ◌-ℤ◌, ◌≤ℤ◌, true, false, List, Contains, Option, Some, None, ⊤}
use Rattle.plane_model.specs.Points.{GridPoint, at, turn}
use Rattle.plane_model.specs.Parity.{is_below}
use Rattle.plane_model.specs.Below.{is_under}
use Rattle.grid_base.specs.Grid.{Corners, is_on_grid}
use Rattle.link_search.specs.declared.links.ArcLink.{ArcLink}

-- the topmost link so far, if there is one, does not run below k
abbrev pub IsNotAbove : GridPoint → ArcLink → Option ArcLink → Type 0
IsNotAbove p k None = ⊥
IsNotAbove p k (Some l) = is_under (at p) k.link l.link ≡ false

-- it is one of the links, and below p
abbrev pub IsFound : List ArcLink → GridPoint → Option ArcLink → Type 0
IsFound links p None = ⊤
IsFound links p (Some l) = Contains links l × (is_below (at p) l.link ≡ true)

abbrev pub IsBelowPoint : GridPoint → Option ArcLink → Type 0
IsBelowPoint p None = ⊤
IsBelowPoint p (Some l) = is_below (at p) l.link ≡ true

-- the topmost link so far after one link l more
pub record IsUpper (p : GridPoint) (topmost : Option ArcLink) (l : ArcLink) (result : Option ArcLink) : Type 0 where
  pub one : (result ≡ topmost) ⊎ ((result ≡ Some l) × (is_below (at p) l.link ≡ true))
  pub this : is_below (at p) l.link ≡ true → IsNotAbove p l result
  pub kept : (k : ArcLink) → is_below (at p) k.link ≡ true → IsNotAbove p k topmost → IsNotAbove p k result

-- the lowest point of a rectangle that is straight below p, and the one below that
abbrev pub bottom_of : Corners → GridPoint → GridPoint
bottom_of rect p = record { x = p.x; y = rect.low.y }

abbrev pub past_bottom : Corners → GridPoint → GridPoint
past_bottom rect p = record { x = p.x; y = rect.low.y -ℤ pos 1 }

-- the topmost link so far passes through a point or above it
abbrev pub IsSettled : Option ArcLink → GridPoint → Type 0
IsSettled None q = ⊥
IsSettled (Some l) q = turn (at l.link.start) (at l.link.stop) (at q) ≤ℤ pos 0

-- from a rectangle one goes on below it, unless no link further down can be the topmost, or the grid ends
abbrev pub IsNextBelow : Corners → GridPoint → Option ArcLink → Option GridPoint → Type 0
IsNextBelow rect p best None = IsSettled best (bottom_of rect p) ⊎ (is_on_grid (past_bottom rect p) ≡ false)
IsNextBelow rect p best (Some q) = (q ≡ past_bottom rect p) × (is_on_grid (past_bottom rect p) ≡ true)
