-- What is left of sets of faces without their islands is what the definition leaves of the regions of a layer.
use Rattle.std.specs.Prelude.{◌↔◌, ℕ, ◌<◌, List, All, length}
use Rattle.plane_model.specs.Points.{Path}
use Rattle.plane_model.specs.Drawing.{Drawing}
use Rattle.plane_model.specs.Snapped.{snapped}
use Rattle.plane_faces.specs.Places.{Place}
use Rattle.face_walk.specs.Places.{FaceTable}
use Rattle.face_sets.specs.Sets.{IsSetOf}
use Rattle.calc_ops.specs.Islands.{AreWithoutIslands}
use Rattle.region_model.specs.Region.{Region, part}
use Rattle.region_model.specs.Answers.{Plane, Answers, HasSome}
use Rattle.region_model.specs.PolygonCommands.{without_islands}
use Rattle.region_laws.specs.Regions.{FollowEach}
use Rattle.region_laws.specs.Followed.{IsWalked}
use Rattle.region_laws.specs.Answered.{TellSides, plane_with}

-- the answers on sides are right for the first `many` regions and their parts, and so are those on how many parts there
-- are
pub record TellParts (P : Plane) (A : Answers) (region : ℕ → Region) (many : ℕ) : Type 0 where
  pub sides : (n : ℕ) → n < many → TellSides P A (region n)
  pub part_sides : (n j : ℕ) → n < many → TellSides P A (part (region n) j)
  pub parts : (n j : ℕ) → n < many → (j < A.parts (region n)) ↔ HasSome P (part (region n) j)

-- ---- law

-- where the sets of a layer follow its regions, what is left of each set without its islands follows what the
-- definition leaves of its region
abbrev pub IslandsAreFollowed : Type 0
IslandsAreFollowed = (d : Drawing) (arcs : List Path) (faces : FaceTable) (label : Place → ℕ) → IsWalked d arcs faces label → (sets : List (List ℕ)) → All (IsSetOf faces) sets → (region : ℕ → Region) →
    FollowEach (snapped d) arcs label sets region → (A : Answers) → TellParts (plane_with d arcs) A region (length sets) →
    (least_area least_links : ℕ) (left : List (List ℕ)) → AreWithoutIslands arcs faces sets least_area least_links (length sets) left →
    FollowEach (snapped d) arcs label left (without_islands (plane_with d arcs) A least_area least_links region (length sets))
