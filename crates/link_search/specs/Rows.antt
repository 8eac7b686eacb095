-- Links by their starts: those that leave one vertex stand in a row.
use Rattle.std.specs.Prelude.{◌≡◌, ◌⊎◌, ℕ, zero, suc, pos, ◌≤ℤ◌, ◌<◌, ◌≤◌, true, false, not, Bool, List, Contains, length, map, Some, slice_get, slice_index_or, IsTrue}
use Rattle.std.specs.List.Sorted.{IsPermutation, IsSorted}
use Rattle.plane_model.specs.Points.{GridPoint, same_point, is_before, cross}
use Rattle.grid_base.specs.Order.{point_cmp}
use Rattle.link_search.specs.declared.links.ArcLink.{ArcLink}

-- the lesser ends of links, and the greater ones
abbrev pub starts_of : List ArcLink → List GridPoint
starts_of links = map (λ (l : ArcLink). l.link.start) links

abbrev pub stops_of : List ArcLink → List GridPoint
stops_of links = map (λ (l : ArcLink). l.link.stop) links

abbrev pub AreByStart : List ArcLink → Type 0
AreByStart links = IsSorted point_cmp (starts_of links)

-- points in order: the greater ends of the links
pub record AreStops (links : List ArcLink) (points : List GridPoint) : Type 0 where
  pub all : IsPermutation (stops_of links) points
  pub sorted : IsSorted point_cmp points

-- the lesser end of the link at a place
abbrev pub start_at : List ArcLink → ℕ → GridPoint
start_at links i = slice_index_or (starts_of links) i (record { x = pos 0; y = pos 0 })

-- the link before the one at a place leaves another vertex
abbrev pub starts_row : List ArcLink → ℕ → Bool
starts_row links zero = true
starts_row links (suc i) = not (same_point (start_at links i) (start_at links (suc i)))

-- l is one of the links of the row that begins at place i, and turns left to all others
pub record IsFirstOfRow (links : List ArcLink) (i : ℕ) (l : ArcLink) : Type 0 where
  pub there : Contains links l
  pub leaves : l.link.start ≡ start_at links i
  pub first : (j : ℕ) (k : ArcLink) → i ≤ j → slice_get links j ≡ Some k → ((m : ℕ) → i ≤ m → m ≤ j → start_at links m ≡ start_at links i) → pos 0 ≤ℤ cross l.link k.link

-- of two links from one vertex, the one that turns left to the other, and to all to which the first does
pub record IsFirstOfTwo (first next result : ArcLink) : Type 0 where
  pub one : (result ≡ first) ⊎ (result ≡ next)
  pub to_next : pos 0 ≤ℤ cross result.link next.link
  pub to_others : (k : ArcLink) → IsTrue (is_before k.link.start k.link.stop) → pos 0 ≤ℤ cross first.link k.link → pos 0 ≤ℤ cross result.link k.link

-- ---- vertices

-- no link arrives at p from a lesser vertex
abbrev pub IsMinimum : List ArcLink → GridPoint → Type 0
IsMinimum links p = (k : ArcLink) → Contains links k → k.link.stop ≡ p → ⊥

-- whether the link at a place is the first of its row, and no link arrives at its lesser end
pub record IsLowestAt (links : List ArcLink) (i : ℕ) (is_lowest : Bool) : Type 0 where
  pub row : is_lowest ≡ true → starts_row links i ≡ true
  pub vertex : is_lowest ≡ true → IsMinimum links (start_at links i)
  pub no : is_lowest ≡ false → starts_row links i ≡ true → IsMinimum links (start_at links i) → ⊥

-- for each of the first links whether it is
abbrev pub AreLowest : List ArcLink → List Bool → Type 0
AreLowest links lowest = (i : ℕ) → i < length lowest → IsLowestAt links i (slice_index_or lowest i false)

-- of the links that leave p, l is the first counterclockwise from straight down: it turns left to no other
pub record IsFirstFrom (links : List ArcLink) (p : GridPoint) (l : ArcLink) : Type 0 where
  pub there : Contains links l
  pub leaves : l.link.start ≡ p
  pub first : (k : ArcLink) → Contains links k → k.link.start ≡ p → pos 0 ≤ℤ cross l.link k.link
