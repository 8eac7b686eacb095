-- Signed arcs that follow each other, and the paths that they are when they are joined.
use Rattle.std.specs.Prelude.{◌≡◌, ℕ, ◌-◌, ◌<◌, Bool, nat_lt, List, [], ◌∷◌, All, length, map}
use Rattle.std.specs.List.{flat_map}
use Rattle.lists.specs.Lists.{ascending}
use Rattle.plane_model.specs.Points.{Path}
use Rattle.plane_model.specs.Arcs.{SignedArc, forward, joined_points, points_of}
use Rattle.plane_model.specs.Drawing.{Drawing}
use Rattle.plane_model.specs.Snapped.{snapped}
use Rattle.arc_table.specs.Direction.{point_at}
use Rattle.arc_table.specs.Nodes.{IsLineOf}
use Rattle.arc_table.specs.PathArcs.{AreArcsOf, ArePathArcs}
use Rattle.line_ops.specs.Runs.{runs_where}
use Rattle.region_model.specs.Answers.{Plane}
use Rattle.region_model.specs.LineCommands.{arcs_used, dissolved_paths}

-- each has a step, and each but the first starts where the one before it ends
abbrev pub AreLinked : List Path → List SignedArc → Type 0
AreLinked arcs [] = Unit {0}
AreLinked arcs (a ∷ []) = 1 < length (points_of arcs a)
AreLinked arcs (a ∷ b ∷ rest) = (1 < length (points_of arcs a)) × (point_at (points_of arcs a) (length (points_of arcs a) - 1) ≡ point_at (points_of arcs b) 0) × AreLinked arcs (b ∷ rest)

-- all of them are among the arcs
abbrev pub AreThere : List Path → List SignedArc → Type 0
AreThere arcs named = All (λ (a : SignedArc). a.arc < length arcs) named

-- the points along each of some paths
abbrev pub points_along : List Path → List (List SignedArc) → List Path
points_along arcs paths = map (joined_points arcs) paths

-- the numbers of the arcs along some paths, ascending, each once
abbrev pub arcs_along : List (List SignedArc) → List ℕ
arcs_along paths = ascending nat_lt (flat_map (map (λ (a : SignedArc). a.arc)) paths)

-- the path along one arc in its direction
abbrev pub along_one : ℕ → List SignedArc
along_one n = forward n ∷ []

-- ---- laws

-- the arcs along a line of a snapped drawing follow each other, and joined they are the line
abbrev pub LinesAreLinked : Type 0
LinesAreLinked = (d : Drawing) (arcs : List Path) → AreArcsOf (snapped d) arcs → (line : Path) → IsLineOf (snapped d) line → 1 < length line → (named : List SignedArc) → AreThere arcs named → ArePathArcs (snapped d) arcs line named →
    AreLinked arcs named × (joined_points arcs named ≡ line)

-- the runs of arcs that follow each other do so too: so what is left of a path by a cut is cut again as a path
abbrev pub RunsAreLinked : Type 0
RunsAreLinked = (arcs : List Path) (test : SignedArc → Bool) (named : List SignedArc) → AreLinked arcs named → All (AreLinked arcs) (runs_where test named)

-- of paths whose arcs follow each other, the arcs that they go along are those that dissolved lines are made of: each
-- once, in its direction, in order of number
abbrev pub LinesAreDissolved : Type 0
LinesAreDissolved = (d : Drawing) (arcs : List Path) → AreArcsOf (snapped d) arcs → (paths : List (List SignedArc)) → All (AreThere arcs) paths → All (AreLinked arcs) paths → (P : Plane) → P.arcs ≡ arcs →
    (arcs_used P (points_along arcs paths) ≡ arcs_along paths) × (dissolved_paths P (points_along arcs paths) ≡ points_along arcs (map along_one (arcs_along paths)))
