use Rattle.std.proofs.Common.{◌≡◌, All, length, take}
use Rattle.std.specs.List.Sorted.{IsStrictlyIncreasing}
use Rattle.face_walk.specs.Crossings.{outer_of}
use Rattle.face_walk.specs.Holders.{AreHeldBy}
use Rattle.face_walk.proofs.labels.held_lists.Given as goal

abbrev pub invariant-loop-c : goal.invariant-loop-c
invariant-loop-c l = record {
  each : length l.held ≡ l.f.count;
  held : AreHeldBy l.steps (outer_of l.f) (take l.c-index l.crossings) l.held;
  rising : All IsStrictlyIncreasing l.held;
}
