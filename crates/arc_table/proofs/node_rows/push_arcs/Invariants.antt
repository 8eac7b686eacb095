use Rattle.std.proofs.Common.{◌≡◌, ◌++◌, map, take}
use Rattle.arc_table.proofs.node_rows.push_arcs.Given as goal

abbrev pub invariant-loop-first : goal.invariant-loop-first
invariant-loop-first l = l.outs.items ≡ l.fn.outs.items ++ map (λ f. f.arc) (take l.first-index l.row)
