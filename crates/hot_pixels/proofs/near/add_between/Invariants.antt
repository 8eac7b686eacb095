use Rattle.std.proofs.Common.{◌≡◌, take, filter}
use Rattle.plane_model.specs.Pixel.{meets}
use Rattle.hot_pixels.proofs.near.add_between.Given as goal

abbrev pub invariant-loop-k : goal.invariant-loop-k
invariant-loop-k l = l.met.items ≡ filter (meets l.s) (take l.k l.points)
