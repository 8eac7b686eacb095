-- Whole arcs: runs of links from node to node, or closed without a node.
use Rattle.std.specs.Prelude.{◌≡◌, ◌≢◌, ◌⊎◌, ◌+◌, ◌-◌, ◌<◌, ℕ, false, List, Contains, length}
use Rattle.plane_model.specs.Points.{GridPoint, Segment, Path, is_before}
use Rattle.plane_model.specs.Drawing.{Drawing}
use Rattle.plane_model.specs.Snapped.{links_of}
use Rattle.arc_table.specs.Direction.{point_at}
use Rattle.arc_table.specs.Nodes.{IsTurn}

-- the link l starts or ends at p
abbrev pub EndsAt : GridPoint → Segment → Type 0
EndsAt p l = (l.start ≡ p) ⊎ (l.stop ≡ p)

-- just two of the links start or end at p
pub record HasTwoLinks (S : List Segment) (p : GridPoint) : Type 0 where
  pub one : Segment
  pub another : Segment
  pub apart : one ≢ another
  pub one_there : Contains S one
  pub another_there : Contains S another
  pub one_ends : EndsAt p one
  pub another_ends : EndsAt p another
  pub only : (l : Segment) → Contains S l → EndsAt p l → (l ≡ one) ⊎ (l ≡ another)

-- p lies on an arc between its ends: it has just two links, no line starts or ends there, and no path turns back there
pub record IsPassed (d : Drawing) (p : GridPoint) : Type 0 where
  pub two : HasTwoLinks (links_of d) p
  pub plain : IsTurn d p → ⊥

abbrev pub IsNode : Drawing → GridPoint → Type 0
IsNode d p = IsPassed d p → ⊥

-- no vertex inside an arc is a node; its two ends are nodes, or it is closed and its end is no node either
pub record IsWholeArc (d : Drawing) (arc : Path) : Type 0 where
  pub inner : (k : ℕ) → 0 < k → k + 1 < length arc → IsPassed d (point_at arc k)
  pub ends : (IsNode d (point_at arc 0) × IsNode d (point_at arc (length arc - 1))) ⊎ ((point_at arc 0 ≡ point_at arc (length arc - 1)) × IsPassed d (point_at arc 0))

-- an arc that starts at no node, as only a closed one can, starts at its least vertex
abbrev pub StartsAtLeast : Drawing → Path → Type 0
StartsAtLeast d arc = IsPassed d (point_at arc 0) → (k : ℕ) → k < length arc → is_before (point_at arc k) (point_at arc 0) ≡ false
