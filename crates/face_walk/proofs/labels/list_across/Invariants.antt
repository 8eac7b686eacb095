use Rattle.std.proofs.Common.{◌≡◌, ◌+◌, ◌≤◌, length, take}
use Rattle.face_walk.specs.Holders.{AreAcross}
use Rattle.face_walk.proofs.labels.list_across.Given as goal

abbrev pub invariant-loop-number : goal.invariant-loop-number
invariant-loop-number l = record {
  gone : l.i + l.j ≡ l._number;
  held_within : l.i ≤ length l.held;
  steps_within : l.j ≤ length l.steps;
  across : AreAcross (take l.j l.steps) (take l.i l.held) l.items.items;
}
