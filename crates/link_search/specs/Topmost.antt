-- Which of some links a ray that goes straight down from a point meets first, and the boxes of links.
use Rattle.std.specs.Prelude.{◌≡◌, true, false, List, ◌++◌, Contains, map, Option, Some, None, IsTrue}
use Rattle.plane_model.specs.Points.{GridPoint, Segment, at, is_before}
use Rattle.plane_model.specs.Parity.{is_below}
use Rattle.plane_model.specs.Below.{is_under}
use Rattle.grid_base.specs.Boxes.{box_of}
use Rattle.grid_base.specs.Grid.{Corners, IsOnGrid}
use Rattle.link_search.specs.declared.links.ArcLink.{ArcLink}

-- no link is below p
abbrev pub NoneBelow : List ArcLink → GridPoint → Type 0
NoneBelow links p = (k : ArcLink) → Contains links k → is_below (at p) k.link ≡ false

-- l is below p, and it runs below no other link that is
pub record IsTopmost (links : List ArcLink) (p : GridPoint) (l : ArcLink) : Type 0 where
  pub there : Contains links l
  pub below : is_below (at p) l.link ≡ true
  pub topmost : (k : ArcLink) → Contains links k → is_below (at p) k.link ≡ true → is_under (at p) k.link l.link ≡ false

-- the topmost link below p, just right of it; none exactly where no link is below
abbrev pub IsTopmostBelow : List ArcLink → GridPoint → Option ArcLink → Type 0
IsTopmostBelow links p None = NoneBelow links p
IsTopmostBelow links p (Some l) = IsTopmost links p l

-- where the one is the topmost link below p of some links, the other is that of these links and more
abbrev pub IsTopmostWith : List ArcLink → GridPoint → Option ArcLink → Option ArcLink → Type 0
IsTopmostWith more p topmost result = (links : List ArcLink) → IsTopmostBelow links p topmost → IsTopmostBelow (links ++ more) p result

-- ---- boxes

abbrev pub boxes_of : List ArcLink → List Corners
boxes_of links = map (λ (l : ArcLink). box_of l.link) links

-- both ends lie on the grid, in order
pub record IsOnTheGrid (l : Segment) : Type 0 where
  pub ordered : IsTrue (is_before l.start l.stop)
  pub start : IsOnGrid l.start
  pub stop : IsOnGrid l.stop

abbrev pub HasGridEnds : ArcLink → Type 0
HasGridEnds l = IsOnTheGrid l.link
