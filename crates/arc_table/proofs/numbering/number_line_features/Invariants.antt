use Rattle.std.proofs.Common.{take}
use Rattle.std.specs.List.{flat_map}
use Rattle.arc_table.specs.Numbering.{IsNumbering}
use Rattle.arc_table.specs.Order.{GoesAlong, links_stepped}
use Rattle.arc_table.proofs.numbering.number_line_features.Given as goal

abbrev pub invariant-loop-f : goal.invariant-loop-f
invariant-loop-f l = IsNumbering l.net l.numbering × GoesAlong l.net l.fn.numbering l.numbering (links_stepped (flat_map (λ feature. feature) (take l.f l.s.lines)))
