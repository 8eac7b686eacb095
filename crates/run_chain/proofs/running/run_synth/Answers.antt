use Rattle.std.proofs.Common.{inr, refl, sym, subst, ℕ, ◌*◌, List}
use Rattle.synth_model.specs.Cells.{cells}
use Rattle.run_synth.specs.Told.{IsToldOf}
use Rattle.run_chain.proofs.running.run_synth.Goals as goal

pub returns-in-Ok : goal.returns-in-Ok
returns-in-Ok g c =
    let seed = c.args.seed in
    let n = c.args.n in
    let written = c.in-Err-write_whole.ensures.written in
    record {
      ran = inr (record {
        line = c.as_bytes.result.now;
        of_mosaic = subst (λ (text : List ℕ). IsToldOf (cells seed n) (n * n) text) (sym c.as_bytes.ensures.value) c.in-Ok.ensures.told;
        told = inr (refl, c.in-Err-write_whole.ensures.cause.failed, record { count = written.0; cut = written.1; added = written.2 });
      });
    }
