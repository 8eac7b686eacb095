use Rattle.std.proofs.Common.{◌≡◌}
use Rattle.arc_table.specs.Lookup.{inner_below}
use Rattle.arc_table.proofs.vertices.vertices_of.Given as goal

abbrev pub invariant-loop-n : goal.invariant-loop-n
invariant-loop-n l = l.vertices.items ≡ inner_below l.arcs.spans l.n
