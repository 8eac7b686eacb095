use Rattle.grid_base.proofs.PointSearch.{point_found, point_misses}
use Rattle.grid_base.proofs.point.has_point.Goals as goal

pub returns-in-Ok-clause-yes : goal.returns-in-Ok-clause-yes
returns-in-Ok-clause-yes c = λ e. point_found c.args.points.now c.args.p c.in-Ok.field-0 c.in-Ok.ensures.bound c.in-Ok.ensures.position

pub returns-in-Err-clause-no : goal.returns-in-Err-clause-no
returns-in-Err-clause-no c = λ e. point_misses c.args.points.now c.args.p c.requires.sorted c.in-Err.field-0 c.in-Err.ensures.position
