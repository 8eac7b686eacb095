use Rattle.std.proofs.Common.{◌≡◌, ◌≤◌, length, take}
use Rattle.std.specs.List.{count_by}
use Rattle.plane_model.specs.Pixel.{meets}
use Rattle.hot_pixels.proofs.near.count_near.Given as goal

abbrev pub invariant-loop-step : goal.invariant-loop-step
invariant-loop-step l = (l.at.stop ≤ length l.points) × (l.count ≡ count_by (meets l.s) (take l.at.stop l.points))
