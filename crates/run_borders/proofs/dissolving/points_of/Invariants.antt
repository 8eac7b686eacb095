use Rattle.std.proofs.Common.{◌≡◌, ℕ, take}
use Rattle.std.specs.List.{flat_map}
use Rattle.run_plane.specs.Shapes.{points_in, shape_at}
use Rattle.run_borders.proofs.dissolving.points_of.Given as goal

abbrev pub invariant-loop-member : goal.invariant-loop-member
invariant-loop-member l = l.points ≡ flat_map (λ (n : ℕ). points_in (shape_at l.shapes n)) (take l.member-index l.members)
