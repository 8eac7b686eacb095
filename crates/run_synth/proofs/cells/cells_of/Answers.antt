use Rattle.std.proofs.Common.{◌≡◌, ◌∙◌, ap, arith, ℕ, ◌+◌, ◌*◌, [], ◌∷◌}
use Rattle.grid_base.specs.Drawn.{without_repeats}
use Rattle.synth_model.specs.Draws.{drawn, state_after}
use Rattle.run_synth.proofs.CellLemmas.{closes, draws_on, next_cell, one_more}
use Rattle.run_synth.proofs.cells.cells_of.Goals as goal

pub add_cell-requires-clause-closed : goal.add_cell-requires-clause-closed
add_cell-requires-clause-closed c =
    let state = c.loop-number.draws.state in
    closes (100 * c.place_of-column.result.0) (100 * c.place_of-column.result.1) (λ (k : ℕ). drawn (state_after state k)) c.in_ok-ring.ring c.in_ok-ring.ensures.exact

pub loop-number-preserved : goal.loop-number-preserved
loop-number-preserved c =
    let seed = c.args.seed in
    let n = c.args.n in
    let number = c.loop-number.number in
    let state = c.loop-number.draws.state in
    let ring = c.in_ok-ring.ring in
    let begun = c.loop-number.invariant.state in
    let place = c.place_of-column.ensures in
    let later : 6 * number + 6 ≡ 6 * (number + 1) = omega arith in
    record {
      drawing = one_more seed n number c.loop-number.drawing c.add_cell.new.drawing ((without_repeats ring ∷ []) ∷ []) c.loop-number.invariant.drawing c.in_ok-add_cell.ensures.added
          (next_cell seed n number state c.place_of-column.result.0 c.place_of-column.result.1 ring begun place.column place.row c.in_ok-ring.ensures.exact);
      state = c.in_ok-ring.ensures.moved ∙ ap (λ (s : ℕ). state_after s 6) begun ∙ draws_on seed (6 * number) 6 ∙ ap (state_after seed) later;
    }
