-- Links parted again and again, by abscissas and along links, and which of them a search from a point comes to.
use Rattle.std.specs.Prelude.{◌≡◌, ◌⊎◌, ℕ, ℤ, pos, int_lt, int_le, ◌<ℤ◌, ◌≤ℤ◌, Bool, true, false, not, ◌&&◌, List, Contains, Option, Some, None, slice_get, if◌then◌else◌}
use Rattle.plane_model.specs.Points.{GridPoint, Segment, at}
use Rattle.plane_model.specs.Parity.{is_over, is_below}
use Rattle.plane_model.specs.Below.{rise}
use Rattle.link_search.specs.Descent.{IsNotAbove}
use Rattle.link_search.specs.declared.links.ArcLink.{ArcLink}
use Rattle.link_search.specs.declared.link_tree.LinkTree.{LinkTree}
use Rattle.link_search.specs.declared.link_tree.LinkTree.TheVariants as tree

-- few links, by their numbers; those left of an abscissa, and those from there on; those under a link, and those over it
pub data Parts : Type 0 where
  these : List ℕ → Parts
  sides : ℤ → Parts → Parts → Parts
  levels : ℕ → Parts → Parts → Parts

-- the parts that a tree holds
abbrev pub parts_of : LinkTree → Parts
parts_of (tree.Few numbers) = these numbers
parts_of (tree.Beside' x a left b right) = sides x (parts_of left) (parts_of right)
parts_of (tree.Over' j a lower b upper) = levels j (parts_of lower) (parts_of upper)

-- ---- the search

-- a search from p comes to link i, which is k, or to one that doesn't run below k at p
abbrev pub Leads : List ArcLink → GridPoint → ℕ → ArcLink → Parts → Type 0
Leads links p i k (these numbers) = Contains numbers i
Leads links p i k (sides x left right) = (p.x <ℤ x → Leads links p i k left) × (x ≤ℤ p.x → Leads links p i k right)
Leads links p i k (levels j lower upper) = (l : ArcLink) → slice_get links j ≡ Some l → is_over (at p) l.link ≡ true →
    (is_below (at p) l.link ≡ true → Leads links p i k upper ⊎ IsNotAbove p k (Some l)) × (is_below (at p) l.link ≡ false → Leads links p i k lower)

-- a search comes to each of the links with these numbers that is below the point
pub record LeadsToAll (links : List ArcLink) (numbers : List ℕ) (parts : Parts) : Type 0 where
  pub all : (p : GridPoint) (i : ℕ) (k : ArcLink) → Contains numbers i → slice_get links i ≡ Some k → is_below (at p) k.link ≡ true → Leads links p i k parts

-- of lists of numbers, each that has a tree: a search in the tree comes to its links
pub record AreTreesOver (links : List ArcLink) (lists : List (List ℕ)) (trees : List (Option LinkTree)) : Type 0 where
  pub all : (place : ℕ) (tree : LinkTree) (numbers : List ℕ) → slice_get trees place ≡ Some (Some tree) → slice_get lists place ≡ Some numbers → LeadsToAll links numbers (parts_of tree)

-- ---- the parts

-- of two points the one further right, and the one further left
abbrev pub later : GridPoint → GridPoint → GridPoint
later p q = if int_le p.x q.x then q else p

abbrev pub earlier : GridPoint → GridPoint → GridPoint
earlier p q = if int_le p.x q.x then p else q

-- between the later start and the earlier stop, where both links are over an abscissa, l doesn't run below k
abbrev pub runs_over : Segment → Segment → Bool
runs_over l k = int_le (rise (at (later k.start l.start)) l k) (pos 0) && int_le (rise (at (earlier k.stop l.stop)) l k) (pos 0)

-- whether a link belongs to the part left of an abscissa, or from there on, over a link, or under it
abbrev pub starts_before : ℤ → Option ArcLink → Bool
starts_before x None = false
starts_before x (Some k) = int_lt k.link.start.x x

abbrev pub stops_past : ℤ → Option ArcLink → Bool
stops_past x None = false
stops_past x (Some k) = int_lt x k.link.stop.x

abbrev pub comes_over : Segment → Option ArcLink → Bool
comes_over l None = false
comes_over l (Some k) = not (runs_over l k.link)

abbrev pub comes_under : Segment → Option ArcLink → Bool
comes_under l None = false
comes_under l (Some k) = not (runs_over k.link l)
