use Rattle.std.proofs.Common.{◌≡◌, length}
use Rattle.face_walk.specs.Holders.{AreOwnersOfEach}
use Rattle.face_walk.proofs.labels.owner_lists.Given as goal

abbrev pub invariant-loop-number : goal.invariant-loop-number
invariant-loop-number l = record {
  each : length l.lists ≡ l.count;
  owned : AreOwnersOfEach l.owners l.number l.polygons l.lists;
}
