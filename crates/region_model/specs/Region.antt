-- Regions of a drawing: finite data, and the rational points that each has.
use Rattle.std.specs.Prelude.{◌≡◌, ◌⊎◌, ◌↔◌, ℕ, ◌<◌, ◌≤◌, ◌<ℤ◌, ◌*ℤ◌, true, List, [], ◌∷◌, All, Contains, length, slice_index_or}
use Rattle.std.specs.List.Sorted.{IsStrictlyIncreasing}
use Rattle.plane_model.specs.Points.{RationalPoint, Segment, Path}
use Rattle.plane_model.specs.Drawing.{Drawing}
use Rattle.plane_model.specs.Joined.{AreJoinedIn, IsBoundaryLink, IsPartNumber, IsSeenFrom, links_of_arc}
use Rattle.plane_model.specs.Parity.{feature_holds, rings_hold}
use Rattle.plane_model.specs.Sees.{IsOffLinks}
use Rattle.plane_model.specs.Sides.{Points}
use Rattle.plane_model.specs.Snapped.{links_of}

mutual
  pub data Region : Type 0 where
    -- a polygon feature or a box of the drawing, by its number
    feature : ℕ → Region
    box : ℕ → Region
    -- any of some regions; both of two; the first of two less the second
    any : Regions → Region
    both : Region → Region → Region
    less : Region → Region → Region
    -- a part of a region, and a gap between regions, by its number
    part : Region → ℕ → Region
    gap : Regions → ℕ → Region

  pub data Regions : Type 0 where
    no_regions : Regions
    one_more : Region → Regions → Regions

abbrev pub regions_of : List Region → Regions
regions_of [] = no_regions
regions_of (r ∷ rs) = one_more r (regions_of rs)

abbrev pub any_of : List Region → Region
any_of rs = any (regions_of rs)

abbrev pub gap_of : List Region → ℕ → Region
gap_of rs j = gap (regions_of rs) j

-- ---- parts of a set of points, in order

-- n is the least number of an arc in the boundary of some part of R
abbrev pub IsLeastOfSome : List Segment → List Path → Points → ℕ → Type 0
IsLeastOfSome S arcs R n = (w : RationalPoint) × IsOffLinks S w × R w × IsPartNumber S arcs R w n

-- z is in part j of R: parts are numbered from 0 by the least numbers of arcs in their boundaries, so that just j of
-- these are less than that of the part of z
pub record IsInPart (S : List Segment) (arcs : List Path) (R : Points) (z : RationalPoint) (j : ℕ) : Type 0 where
  pub number : ℕ
  pub is_number : IsPartNumber S arcs R z number
  pub lesser : List ℕ
  pub rising : IsStrictlyIncreasing lesser
  pub are : (n : ℕ) → Contains lesser n ↔ ((n < number) × IsLeastOfSome S arcs R n)
  pub count : length lesser ≡ j

-- ---- gaps: what lies outside R and is joined outside it

-- z is left of every end of a link
abbrev pub IsLeftOfLinks : List Segment → RationalPoint → Type 0
IsLeftOfLinks S z = All (λ (l : Segment). z.X <ℤ (l.start.x *ℤ z.W)) S

-- the points outside R that no closed runs of R's boundary separate from z
abbrev pub GapWith : List Segment → Points → RationalPoint → Points
GapWith S R z w = (R w → ⊥) × AreJoinedIn S R z w

-- some link of arc n is in R's boundary, and some point of the gap that z is in sees it
abbrev pub IsArcOfGap : List Segment → List Path → Points → RationalPoint → ℕ → Type 0
IsArcOfGap S arcs R z n = (l : Segment) × Contains (links_of_arc arcs n) l × IsBoundaryLink S R l × IsSeenFrom S (GapWith S R z) l

-- what z is in is a gap, for none of its points is left of all links; and n is the least number of an arc in its
-- boundary
pub record IsGapNumber (S : List Segment) (arcs : List Path) (R : Points) (z : RationalPoint) (n : ℕ) : Type 0 where
  pub bounded : (w : RationalPoint) → IsOffLinks S w → GapWith S R z w → IsLeftOfLinks S w → ⊥
  pub is_arc : IsArcOfGap S arcs R z n
  pub least : (m : ℕ) → IsArcOfGap S arcs R z m → n ≤ m

abbrev pub IsLeastOfSomeGap : List Segment → List Path → Points → ℕ → Type 0
IsLeastOfSomeGap S arcs R n = (w : RationalPoint) × IsOffLinks S w × (R w → ⊥) × IsGapNumber S arcs R w n

-- z is in gap j of R: gaps are numbered from 0 by the least numbers of arcs in their boundaries
pub record IsInGap (S : List Segment) (arcs : List Path) (R : Points) (z : RationalPoint) (j : ℕ) : Type 0 where
  pub number : ℕ
  pub is_number : IsGapNumber S arcs R z number
  pub lesser : List ℕ
  pub rising : IsStrictlyIncreasing lesser
  pub are : (n : ℕ) → Contains lesser n ↔ ((n < number) × IsLeastOfSomeGap S arcs R n)
  pub count : length lesser ≡ j

-- ---- the points of a region

-- the region r of a drawing with these arcs has the point z, which is on no link
abbrev mutual
  pub Has : Drawing → List Path → Region → RationalPoint → Type 0
  Has d arcs (feature n) z = feature_holds z (slice_index_or d.polygons n []) ≡ true
  Has d arcs (box n) z = rings_hold z (slice_index_or d.boxes n [] ∷ []) ≡ true
  Has d arcs (any rs) z = SomeHas d arcs rs z
  Has d arcs (both r s) z = Has d arcs r z × Has d arcs s z
  Has d arcs (less r s) z = Has d arcs r z × (Has d arcs s z → ⊥)
  Has d arcs (part r j) z = Has d arcs r z × IsInPart (links_of d) arcs (Has d arcs r) z j
  Has d arcs (gap rs j) z = (SomeHas d arcs rs z → ⊥) × IsInGap (links_of d) arcs (SomeHas d arcs rs) z j

  pub SomeHas : Drawing → List Path → Regions → RationalPoint → Type 0
  SomeHas d arcs no_regions z = ⊥
  SomeHas d arcs (one_more r rs) z = Has d arcs r z ⊎ SomeHas d arcs rs z
