use Rattle.std.proofs.Common.{◌≡◌, ◌++◌, take}
use Rattle.run_tables.proofs.table_commands.append_shapes.Given as goal

abbrev pub invariant-loop-shape : goal.invariant-loop-shape
invariant-loop-shape l = l.out.items ≡ l.fn.out.items ++ take l.shape-index l.shapes
