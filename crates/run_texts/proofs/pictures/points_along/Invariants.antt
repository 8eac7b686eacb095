use Rattle.std.proofs.Common.{◌≡◌, ◌<◌, length, take}
use Rattle.run_texts.specs.Pictures.{points_along}
use Rattle.run_texts.proofs.pictures.points_along.Given as goal

abbrev pub invariant-loop-arc : goal.invariant-loop-arc
invariant-loop-arc l = record {
  along : l.points ≡ points_along l.arcs (take l.arc-index l.path);
  some : 0 < l.arc-index → 0 < length l.points;
}
