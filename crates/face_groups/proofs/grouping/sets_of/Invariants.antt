use Rattle.std.proofs.Common.{◌-◌, ◌≤◌, length}
use Rattle.face_groups.specs.Groups.{AreKeySets}
use Rattle.face_groups.proofs.Runs.{IsSplitAt, StandsIn}
use Rattle.face_groups.proofs.grouping.sets_of.Given as goal

abbrev pub invariant-loop-first : goal.invariant-loop-first
invariant-loop-first g l =
    (l.first ≤ length l.faces) × IsSplitAt (g.K.FaceKeys.comes_before l.keys) l.faces l.first × AreKeySets (StandsIn l.faces 0 l.first) (g.K.FaceKeys.comes_before l.keys) l.sets

abbrev pub decreases-loop-first : goal.decreases-loop-first
decreases-loop-first g l = length l.faces - l.first
