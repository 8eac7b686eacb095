use Rattle.std.proofs.Common.{◌≡◌, ◌+◌, take}
use Rattle.std.specs.List.{count_by}
use Rattle.plane_model.specs.Pixel.{meets}
use Rattle.hot_pixels.proofs.near.count_between.Given as goal

abbrev pub invariant-loop-k : goal.invariant-loop-k
invariant-loop-k l = l.count + count_by (meets l.s) (take l.from l.points) ≡ count_by (meets l.s) (take l.k l.points)
