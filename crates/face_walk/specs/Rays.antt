-- The links of arcs, and the rays that go straight down from vertices.
use Rattle.std.specs.Prelude.{◌≡◌, ℕ, zero, suc, List, [], ◌++◌, filter_map, Contains, All, length, slice_index_or, Option, Some, None, if◌then◌else◌}
use Rattle.std.specs.List.Sorted.{IsPermutation}
use Rattle.plane_model.specs.Points.{GridPoint, Segment, Path, same_point, is_before, link_between}
use Rattle.plane_model.specs.Drawing.{steps}
use Rattle.plane_model.specs.Arcs.{forward, backward}
pub use Rattle.link_search.specs.Rows.{IsFirstFrom, IsMinimum}
pub use Rattle.link_search.specs.Topmost.{IsTopmostBelow}
use Rattle.link_search.specs.PlaceNumbers.{place_of}
use Rattle.link_search.specs.declared.links.ArcLink.{ArcLink}
use Rattle.face_walk.specs.Sectors.{place_right_of}

-- the link of a step of arc n, with the signed arc that goes along it from its lesser end; none of a step that stands still
abbrev pub link_at : ℕ → Segment → Option ArcLink
link_at n s = if same_point s.start s.stop then None else Some (record { link = link_between s; along = if is_before s.start s.stop then forward n else backward n })

abbrev pub links_along : ℕ → Path → List ArcLink
links_along n points = filter_map (link_at n) (steps points)

-- the links of the first n arcs
abbrev pub links_below : List Path → ℕ → List ArcLink
links_below arcs zero = []
links_below arcs (suc n) = links_below arcs n ++ links_along n (slice_index_or arcs n [])

-- exactly the links of all arcs
pub record AreLinksOf (arcs : List Path) (links : List ArcLink) : Type 0 where
  pub all : IsPermutation (links_below arcs (length arcs)) links

-- ---- rays

-- the place that a ray ends at: left of the link that it meets, or outside
abbrev pub place_met : Option ArcLink → ℕ
place_met None = 0
place_met (Some l) = place_of l.along

-- the ray that goes straight down from a vertex that all its links leave, as the place where it ends and that where it starts
pub record IsRay (links : List ArcLink) (p : GridPoint) (ray : ℕ × ℕ) : Type 0 where
  pub vertex : IsMinimum links p
  pub first : ArcLink
  pub is_first : IsFirstFrom links p first
  pub met : Option ArcLink
  pub is_met : IsTopmostBelow links p met
  pub ends : ray.0 ≡ place_met met
  pub starts : ray.1 ≡ place_right_of first.along

-- rays alone, and one from each vertex that all its links leave
pub record AreRays (links : List ArcLink) (rays : List (ℕ × ℕ)) : Type 0 where
  pub each : All (λ ray. (p : GridPoint) × IsRay links p ray) rays
  pub all : (l : ArcLink) → Contains links l → IsMinimum links l.link.start → (ray : ℕ × ℕ) × Contains rays ray × IsRay links l.link.start ray
