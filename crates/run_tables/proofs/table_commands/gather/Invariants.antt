use Rattle.std.proofs.Common.{◌≡◌, length, map, take}
use Rattle.std.specs.List.{flat_map}
use Rattle.run_tables.specs.Gathering.{all_rows}
use Rattle.run_state.specs.Targets.{targets}
use Rattle.run_tables.proofs.table_commands.gather.Given as goal

abbrev pub invariant-loop-held : goal.invariant-loop-held
invariant-loop-held l = record {
  each : length l.shapes.items ≡ length (all_rows l.tables);
  tables : l.tables ≡ map (λ layer. layer.table) (targets l.target (take l.held-index l.layers));
  shapes : l.shapes.items ≡ flat_map (λ layer. layer.shapes.items) (targets l.target (take l.held-index l.layers));
}
