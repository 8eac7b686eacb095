use Rattle.std.proofs.Common.{sym, subst, ℕ, List, All}
use Rattle.std.specs.Prelude.{IfOk}
use Rattle.face_sets.specs.Sets.{IsSetOf}
use Rattle.run_synth.specs.Told.{AreNumbersOf}
use Rattle.run_synth.proofs.synth.numbers_of.Goals as goal

pub numbers_over-requires : goal.numbers_over-requires
numbers_over-requires c = record { inner = subst (λ (sets : List (List ℕ)). All (IsSetOf c.args.laid.plane.faces) sets) (sym c.in_ok-sets.ensures.all) c.requires.inner }

pub returns : goal.returns
returns c =
    let plane = c.args.laid.plane in
    record { exact = subst (λ (sets : List (List ℕ)). IfOk c.numbers_over.result (AreNumbersOf plane.arcs plane.faces sets c.args.count)) c.in_ok-sets.ensures.all c.numbers_over.ensures.exact }
