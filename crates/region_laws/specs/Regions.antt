-- Sets of faces that follow regions of a drawing.
use Rattle.std.specs.Prelude.{◌↔◌, ℕ, ◌<◌, List, [], Contains, length, slice_index_or}
use Rattle.plane_model.specs.Points.{RationalPoint, Path}
use Rattle.plane_model.specs.Drawing.{Drawing}
use Rattle.plane_model.specs.Sees.{IsOffLinks}
use Rattle.plane_model.specs.Snapped.{links_of}
use Rattle.plane_faces.specs.Places.{Place, IsPlaceOf}
use Rattle.region_model.specs.Region.{Region, Has}

-- a point on no link is in the region exactly if its face, as the label of its place, is in the set
abbrev pub Follows : Drawing → List Path → (Place → ℕ) → List ℕ → Region → Type 0
Follows d arcs label set r = (z : RationalPoint) → IsOffLinks (links_of d) z → (a : Place) → IsPlaceOf (links_of d) z a → Has d arcs r z ↔ Contains set (label a)

-- so it is with each set of a list, whose regions are given by its numbers
abbrev pub FollowEach : Drawing → List Path → (Place → ℕ) → List (List ℕ) → (ℕ → Region) → Type 0
FollowEach d arcs label sets region = (n : ℕ) → n < length sets → Follows d arcs label (slice_index_or sets n []) (region n)
