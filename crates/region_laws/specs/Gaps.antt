-- Sets of faces follow the gaps between regions.
use Rattle.std.specs.Prelude.{ℕ, ◌<◌, List, All, length}
use Rattle.std.specs.List.{range_with_len}
use Rattle.std.specs.List.Sorted.{IsStrictlyIncreasing}
use Rattle.plane_model.specs.Points.{RationalPoint, Path}
use Rattle.plane_model.specs.Drawing.{Drawing}
use Rattle.plane_model.specs.Sees.{IsOffLinks}
use Rattle.plane_model.specs.Sides.{Points}
use Rattle.plane_model.specs.Snapped.{links_of, snapped}
use Rattle.plane_faces.specs.Places.{Place}
use Rattle.grid_base.specs.declared.kinds.OverlapRule.{OverlapRule}
use Rattle.face_walk.specs.Places.{FaceTable}
use Rattle.face_sets.specs.Gaps.{AreGaps}
use Rattle.face_sets.specs.Sets.{IsSetOf}
use Rattle.region_ops.specs.Filled.{IsCleanedAndFilled, all_faces}
use Rattle.region_model.specs.Region.{Region, GapWith, IsLeftOfLinks, gap_of, regions_of, Has, SomeHas}
use Rattle.region_model.specs.Answers.{Answers, AreRight}
use Rattle.region_model.specs.PolygonCommands.{cleaned_and_filled, regions_at}
use Rattle.region_laws.specs.Regions.{FollowEach}
use Rattle.region_laws.specs.Followed.{IsWalked}
use Rattle.region_laws.specs.Answered.{plane_with}

-- z is shut in by R: of the points outside R that no closed runs of R's boundary separate from z none is left of all
-- links
abbrev pub IsShutIn : Drawing → Points → RationalPoint → Type 0
IsShutIn d R z = (w : RationalPoint) → IsOffLinks (links_of d) w → GapWith (links_of d) R z w → IsLeftOfLinks (links_of d) w → ⊥

-- The sets are those of the gaps between regions, in order: set j follows gap j, each of these gaps has a point and no
-- other has, and each point that no region has and that they shut in is in one of them.
pub record FollowGaps (d : Drawing) (arcs : List Path) (label : Place → ℕ) (gaps : List (List ℕ)) (rs : List Region) : Type 0 where
  pub each : FollowEach d arcs label gaps (gap_of rs)
  pub some : (j : ℕ) → j < length gaps → (z : RationalPoint) × IsOffLinks (links_of d) z × Has d arcs (gap_of rs j) z
  pub only : (j : ℕ) (z : RationalPoint) → IsOffLinks (links_of d) z → Has d arcs (gap_of rs j) z → j < length gaps
  pub all : (z : RationalPoint) → IsOffLinks (links_of d) z → (SomeHas d arcs (regions_of rs) z → ⊥) → IsShutIn d (SomeHas d arcs (regions_of rs)) z → (j : ℕ) × (j < length gaps) × Has d arcs (gap_of rs j) z

-- the gaps of all faces of some sets are those of their regions
abbrev pub GapsAreFollowed : Type 0
GapsAreFollowed = (d : Drawing) (arcs : List Path) (faces : FaceTable) (label : Place → ℕ) → IsWalked d arcs faces label → (sets : List (List ℕ)) → All (IsSetOf faces) sets → (region : ℕ → Region) →
    FollowEach (snapped d) arcs label sets region → (gaps : List (List ℕ)) → AreGaps faces (all_faces sets) gaps → FollowGaps (snapped d) arcs label gaps (regions_at region (range_with_len 0 (length sets)))

-- where answers about the plane are right, sets that are cleaned and filled follow what clean makes of their regions
abbrev pub FilledAsTold : Type 0
FilledAsTold = (d : Drawing) (arcs : List Path) (faces : FaceTable) (label : Place → ℕ) → IsWalked d arcs faces label → (sets : List (List ℕ)) → All IsStrictlyIncreasing sets → All (IsSetOf faces) sets → (region : ℕ → Region) →
    FollowEach (snapped d) arcs label sets region → (A : Answers) → AreRight (plane_with d arcs) A → (rule : OverlapRule) (most : ℕ) (made : List (List ℕ)) → IsCleanedAndFilled rule most faces sets made →
    FollowEach (snapped d) arcs label made (cleaned_and_filled (plane_with d arcs) A rule most region (length sets))
