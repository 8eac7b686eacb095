use Rattle.std.proofs.Common.{◌≡◌, ◌*◌}
use Rattle.synth_model.specs.Draws.{state_after}
use Rattle.run_synth.proofs.CellLemmas.{cells_below}
use Rattle.run_synth.proofs.cells.cells_of.Given as goal

abbrev pub invariant-loop-number : goal.invariant-loop-number
invariant-loop-number l = record {
  drawing : l.drawing ≡ cells_below l.seed l.n l.number;
  state : l.draws.state ≡ state_after l.seed (6 * l.number);
}
