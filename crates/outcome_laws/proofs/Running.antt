-- Commands in order give the same outputs and the same end by answers that are alike, and write layers on the plane.
use Rattle.std.proofs.Common.{◌≡◌, refl, ap, ◌∙◌, ℕ, ◌+◌, List, [], ◌∷◌, ◌++◌, Option, Some, None, Result, Ok, Err}
use Rattle.job_terms.specs.declared.job.Command.{Command}
use Rattle.region_model.specs.Answers.{Answers, Plane}
use Rattle.chain_model.specs.Outcome.{Outcome, RefuseWhy, refused}
use Rattle.chain_model.specs.Running.{Output, output_of, run_from}
use Rattle.chain_model.specs.State.{State}
use Rattle.chain_model.specs.Steps.{Stepped, Written, step}
use Rattle.chain_model.specs.Targets.{SourceLayers}
use Rattle.outcome_laws.proofs.Every.{Every}
use Rattle.outcome_laws.proofs.Planes.{IsWalked}
use Rattle.outcome_laws.proofs.Alike.{AreAlike, alike_itself}
use Rattle.outcome_laws.proofs.Stepping.{LayersAreOn, SourcesAreOn, StateIsOn, SteppedIsOn, WrittenIsOn, step_on, step_same}

-- the end of a run: what a step gives, and what comes further
abbrev on_step : (State → List Output × Outcome) → ℕ → Result Stepped RefuseWhy → List Output × Outcome
on_step further n r = elim r [
  | Err why ↦ ([], refused n why)
  | Ok next ↦ (output_of n next.written ++ (further next.state).0, (further next.state).1)
]

further_same : (P : Plane) (f g : State → List Output × Outcome) → ((t : State) → StateIsOn P t → f t ≡ g t) → (n : ℕ) (r : Result Stepped RefuseWhy) → SteppedIsOn P r → on_step f n r ≡ on_step g n r
further_same P f g same n (Err why) on = refl
further_same P f g same n (Ok next) on = ap (λ (told : List Output × Outcome). (output_of n next.written ++ told.0, told.1)) (same next.state on.0)

module _ (P : Plane) (A B : Answers) (walked : IsWalked P) (alike : AreAlike P A B) (sources : SourceLayers) (there : SourcesAreOn P sources) where
  pub run_same : (cs : List Command) (n : ℕ) (s : State) → StateIsOn P s → run_from P A sources n s cs ≡ run_from P B sources n s cs
  run_same [] n s on = refl
  run_same (c ∷ cs) n s on =
      further_same P (λ t. run_from P A sources (n + 1) t cs) (λ t. run_from P B sources (n + 1) t cs) (run_same cs (n + 1)) n (step P A sources s c) (step_on P A B walked alike sources there s on c)
      ∙ ap (on_step (λ t. run_from P B sources (n + 1) t cs) n) (step_same P A B walked alike sources there s on c)

-- ## What they write

abbrev pub OutputIsOn : Plane → Output → Type 0
OutputIsOn P o = LayersAreOn P o.written.layers

module _ (P : Plane) where
  put_out_on : (n : ℕ) (w : Option Written) (outs : List Output) → WrittenIsOn P w → Every (OutputIsOn P) outs → Every (OutputIsOn P) (output_of n w ++ outs)
  put_out_on n None outs on h = h
  put_out_on n (Some w) outs on h = (on, h)

  further_on : (further : State → List Output × Outcome) → ((t : State) → StateIsOn P t → Every (OutputIsOn P) (further t).0) → (n : ℕ) (r : Result Stepped RefuseWhy) → SteppedIsOn P r →
      Every (OutputIsOn P) (on_step further n r).0
  further_on further h n (Err why) on = tt
  further_on further h n (Ok next) on = put_out_on n next.written (further next.state).0 on.1 (h next.state on.0)

  module _ (A : Answers) (walked : IsWalked P) (sources : SourceLayers) (there : SourcesAreOn P sources) where
    pub run_on : (cs : List Command) (n : ℕ) (s : State) → StateIsOn P s → Every (OutputIsOn P) (run_from P A sources n s cs).0
    run_on [] n s on = tt
    run_on (c ∷ cs) n s on = further_on (λ t. run_from P A sources (n + 1) t cs) (run_on cs (n + 1)) n (step P A sources s c) (step_on P A A walked (alike_itself P A) sources there s on c)
