use Rattle.std.proofs.Common.{length, ap, sym, subst, ◌∙◌}
use Rattle.plane_model.specs.Points.{Path}
use Rattle.arc_table.specs.Direction.{IsForward}
use Rattle.arc_table.proofs.Turned.{length-in_direction, IsForward-in_direction}
use Rattle.arc_table.proofs.direction.turn_forward.Goals as goal

pub returns-clause-count : goal.returns-clause-count
returns-clause-count c = ap (λ (path : Path). length path) c.turn_by_ends.ensures.exact ∙ length-in_direction c.args.points.now.items

pub returns-clause-forward : goal.returns-clause-forward
returns-clause-forward c = subst IsForward (sym c.turn_by_ends.ensures.exact) (IsForward-in_direction c.args.points.now.items c.requires)
