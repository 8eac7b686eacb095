-- Commands in order: what is refused, or failed to be written, is of the command that is answered.
use Rattle.std.proofs.Common.{◌≡◌, ◌⊎◌, inl, inr, ℕ, ◌+◌, suc, List, [], ◌∷◌, slice_get, Some, refl, ap, sym, ◌∙◌, arith, subst}
use Rattle.job_terms.specs.declared.job.Action.{Action}
use Rattle.job_terms.specs.declared.job.Action.TheVariants as action
use Rattle.job_terms.specs.declared.job.Command.{Command}
use Rattle.run_state.specs.Origins.{Base}
use Rattle.run_state.specs.declared.refusal.RefuseWhy.{RefuseWhy}
use Rattle.run_state.specs.declared.state.CommandStop.{CommandStop}
use Rattle.run_state.specs.declared.state.CommandStop.TheVariants as stop
use Rattle.run_state.specs.declared.state.HeldLayer.{HeldLayer}
use Rattle.run_outcome.specs.Ends.{of_command}
use Rattle.run_outcome.specs.declared.outcome.Outcome.{Outcome}
use Rattle.run_outcome.specs.declared.outcome.Outcome.TheVariants as end
use Rattle.run_chain.specs.Effects.{OutsideSeen, CountsGrew}
use Rattle.run_chain.specs.Running.{CommandsRun, EndsWriting, GoesOn}
use Rattle.headline_laws.proofs.Counts.{ActionRose, action_rose, counts_grew}

-- all is done, or memory ran out
abbrev pub DoneOrMemory : Outcome → Type 0
DoneOrMemory end.Done = Unit {0}
DoneOrMemory end.Memory = Unit {0}
DoneOrMemory _ = ⊥

pub done_or_memory_by : (o end' : Outcome) → o ≡ end' → DoneOrMemory end' → DoneOrMemory o
done_or_memory_by o end' e q = subst DoneOrMemory (sym e) q

-- one of the commands is refused; its number counts the `done` ones before them too
pub record RefusedOne (done : ℕ) (cs : List Command) (o : Outcome) : Type 0 where
  pub place : ℕ
  pub command : Command
  pub there : slice_get cs place ≡ Some command
  pub why : RefuseWhy
  pub ends : o ≡ end.Refused (done + (place + 1)) why

-- one of them failed to write
pub record FailedWrite (done : ℕ) (cs : List Command) (before after : OutsideSeen) (o : Outcome) : Type 0 where
  pub place : ℕ
  pub command : Command
  pub there : slice_get cs place ≡ Some command
  pub ends : o ≡ end.WriteFault (done + (place + 1))
  pub rose : ActionRose before after command.action

writing_failed : (base : Base) (n : ℕ) (c : Command) (a : Action) (layers : List HeldLayer) (before after : OutsideSeen) (o : Outcome) → EndsWriting base n c a layers before after o → (o ≡ end.WriteFault n) × ActionRose before after a
writing_failed base n c (action.Write to standard form) layers before after o e = (e.fault, e.rose)
writing_failed base n c (action.Each a) layers before after o e = absurd e
writing_failed base n c (action.Together a) layers before after o e = absurd e

passing_grew : (base : Base) (c : Command) (a : Action) (layers layers' : List HeldLayer) (before after : OutsideSeen) → GoesOn base c a layers layers' before after → CountsGrew before after
passing_grew base c (action.Write to standard form) layers layers' before after g = g.writes.counts
passing_grew base c (action.Each a) layers layers' before after g = subst (λ (s : OutsideSeen). CountsGrew before s) (sym g.kept) (counts_grew before)
passing_grew base c (action.Together a) layers layers' before after g = subst (λ (s : OutsideSeen). CountsGrew before s) (sym g.kept) (counts_grew before)

one_further : (done : ℕ) (c : Command) (cs : List Command) (before middle after : OutsideSeen) (o : Outcome) → CountsGrew before middle → FailedWrite (done + 1) cs middle after o → FailedWrite done (c ∷ cs) before after o
one_further done c cs before middle after o grew f = record {
  place = suc f.place;
  command = f.command;
  there = f.there;
  ends = f.ends ∙ ap (λ (n : ℕ). end.WriteFault n) (omega arith);
  rose = action_rose f.command.action before middle after grew f.rose;
}

one_refused_further : (done : ℕ) (c : Command) (cs : List Command) (o : Outcome) → RefusedOne (done + 1) cs o → RefusedOne done (c ∷ cs) o
one_refused_further done c cs o r = record {
  place = suc r.place;
  command = r.command;
  there = r.there;
  why = r.why;
  ends = r.ends ∙ ap (λ (n : ℕ). end.Refused n r.why) (omega arith);
}

-- how commands end: all are done or memory ran out, or one of them is refused, or fails to write
abbrev pub CommandsEnd : ℕ → List Command → OutsideSeen → OutsideSeen → Outcome → Type 0
CommandsEnd done cs before after o = DoneOrMemory o ⊎ (RefusedOne done cs o ⊎ FailedWrite done cs before after o)

first_stopped : (done : ℕ) (c : Command) (cs : List Command) (before after : OutsideSeen) (o : Outcome) (s : CommandStop) → o ≡ of_command (done + 1) s → CommandsEnd done (c ∷ cs) before after o
first_stopped done c cs before after o (stop.Refused why) e = inr (inl (record { place = 0; command = c; there = refl; why = why; ends = e }))
first_stopped done c cs before after o stop.Memory e = inl (done_or_memory_by o end.Memory e tt)

pub commands_end : (base : Base) (cs : List Command) (done : ℕ) (layers : List HeldLayer) (before after : OutsideSeen) (o : Outcome) → CommandsRun base done layers cs before after o → CommandsEnd done cs before after o
commands_end base [] done layers before after o r = inl (done_or_memory_by o end.Done r.0 tt)
commands_end base (c ∷ cs) done layers before after o (inl (inl s)) = first_stopped done c cs before after o s.stop s.ends
commands_end base (c ∷ cs) done layers before after o (inl (inr w)) =
    let failed : (o ≡ end.WriteFault (done + 1)) × ActionRose before after c.action = writing_failed base (done + 1) c c.action layers before after o w in
    inr (inr (record { place = 0; command = c; there = refl; ends = failed.0; rose = failed.1 }))
commands_end base (c ∷ cs) done layers before after o (inr r) = further (commands_end base cs (done + 1) r.0 r.1 after o r.3)
  where
    further : CommandsEnd (done + 1) cs r.1 after o → CommandsEnd done (c ∷ cs) before after o
    further (inl q) = inl q
    further (inr (inl x)) = inr (inl (one_refused_further done c cs o x))
    further (inr (inr f)) = inr (inr (one_further done c cs before r.1 after o (passing_grew base c c.action layers r.0 before r.1 r.2.goes) f))
