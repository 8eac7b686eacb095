use Rattle.std.proofs.Common.{◌≡◌, ◌≤◌, length, take, filter}
use Rattle.plane_model.specs.Pixel.{meets}
use Rattle.hot_pixels.proofs.near.add_rest.Given as goal

abbrev pub invariant-loop-step : goal.invariant-loop-step
invariant-loop-step l = (l.at.stop ≤ length l.points) × (l.met.items ≡ filter (meets l.s) (take l.at.stop l.points))
