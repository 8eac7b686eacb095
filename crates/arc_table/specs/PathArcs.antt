-- The arcs that a path of a drawing goes along.
use Rattle.std.specs.Prelude.{◌≡◌, ◌⊎◌, ◌+◌, ◌<◌, ℕ, false, List, [], ◌++◌, All, length, take, drop}
use Rattle.std.specs.List.{flat_map}
use Rattle.lists.specs.Lists.{tail}
use Rattle.plane_model.specs.Points.{GridPoint, Path, is_before}
use Rattle.plane_model.specs.Drawing.{Drawing, steps}
use Rattle.plane_model.specs.Arcs.{SignedArc, joined_points, points_of}
use Rattle.plane_model.specs.Arrangement.{IsArrangement}
use Rattle.plane_model.specs.Joined.{IsClosed}
use Rattle.plane_model.specs.Snapped.{links_of}
use Rattle.arc_table.specs.Along.{GoAlong}
use Rattle.arc_table.specs.Around.{start_of}
use Rattle.arc_table.specs.Direction.{point_at}
use Rattle.arc_table.specs.Lookup.{HasVertex}
use Rattle.arc_table.specs.Nodes.{IsLineOf, IsRingOf}
use Rattle.arc_table.specs.WholeArcs.{IsPassed, IsNode, IsWholeArc, StartsAtLeast}

-- the whole arcs of a drawing whose links meet at common ends alone
pub record AreArcsOf (d : Drawing) (arcs : List Path) : Type 0 where
  pub long : All (λ arc. 1 < length arc) arcs
  pub arrangement : IsArrangement (links_of d)
  pub links : GoAlong (links_of d) arcs
  pub whole : All (IsWholeArc d) arcs

-- a line of a drawing, or a ring or box, which is closed
abbrev pub IsDrawn : Drawing → Path → Type 0
IsDrawn d path = IsLineOf d path ⊎ (IsRingOf d path × IsClosed path)

-- a closed path gone round from its vertex k on; from vertex 0 on the path itself
abbrev pub round_from : ℕ → Path → Path
round_from k path = drop k path ++ take k (tail path)

-- no vertex of the path is a node, and it goes along one arc, perhaps more than once
pub record IsOneRound (d : Drawing) (path : Path) (named : List SignedArc) : Type 0 where
  pub passed : (k : ℕ) → k < length path → IsPassed d (point_at path k)
  pub one : SignedArc
  pub same : All (λ (a : SignedArc). a ≡ one) named

-- the arcs, joined, are the path from its first node round, or where it has none from one of its vertices; each begins
-- where the one before it ends, so that the steps of the path are theirs
pub record RunsFrom (d : Drawing) (arcs : List Path) (path : Path) (named : List SignedArc) : Type 0 where
  pub first : ℕ
  pub there : first + 1 < length path
  pub passed : (k : ℕ) → k < first → IsPassed d (point_at path k)
  pub node : IsNode d (point_at path first) ⊎ IsOneRound d path named
  pub joined : joined_points arcs named ≡ round_from first path
  pub stepped : steps (round_from first path) ≡ flat_map (λ (a : SignedArc). steps (points_of arcs a)) named

-- the arcs along a path, in order; a single vertex has none
pub record ArePathArcs (d : Drawing) (arcs : List Path) (path : Path) (named : List SignedArc) : Type 0 where
  pub none : length path ≡ 1 → named ≡ []
  pub along : 1 < length path → RunsFrom d arcs path named

-- whatever drawing these are the arcs of, and the path is drawn in
abbrev pub AreArcsAlong : List Path → Path → List SignedArc → Type 0
AreArcsAlong arcs path named = (d : Drawing) → AreArcsOf d arcs → IsDrawn d path → ArePathArcs d arcs path named

-- whatever drawing these are the arcs of, and the path is drawn in: if it passes no node, and arcs without a node start
-- at their least vertices, it is gone along from its least vertex
abbrev pub BeginsAtLeast : List Path → Path → List SignedArc → Type 0
BeginsAtLeast arcs path named = (d : Drawing) → AreArcsOf d arcs → All (StartsAtLeast d) arcs → IsDrawn d path → 1 < length path → IsOneRound d path named →
    All (λ p. is_before p (point_at (joined_points arcs named) 0) ≡ false) path

-- ---- vertices inside arcs

abbrev pub NoneStartsAt : List Path → GridPoint → Type 0
NoneStartsAt arcs p = (a : SignedArc) → a.arc < length arcs → start_of arcs a ≡ p → ⊥

-- whatever drawing these are the arcs of: where no arc starts at p, no other arc than arc n has p as a vertex
abbrev pub IsAloneAt : List Path → GridPoint → ℕ → Type 0
IsAloneAt arcs p n = (d : Drawing) → AreArcsOf d arcs → NoneStartsAt arcs p → (m : ℕ) → m < length arcs → HasVertex arcs m p → m ≡ n
