use Rattle.std.proofs.Common.{take, map}
use Rattle.plane_model.specs.Points.{link_between}
use Rattle.plane_model.specs.Drawing.{steps}
use Rattle.arc_table.specs.Numbering.{IsNumbering}
use Rattle.arc_table.specs.Order.{GoesAlong}
use Rattle.arc_table.proofs.numbering.number_path.Given as goal

abbrev pub invariant-loop-i : goal.invariant-loop-i
invariant-loop-i l = IsNumbering l.net l.numbering × GoesAlong l.net l.fn.numbering l.numbering (map link_between (steps (take l.i l.path)))
