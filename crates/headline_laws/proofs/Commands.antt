-- Commands in order, beside those of the model.
use Rattle.std.proofs.Common.{◌≡◌, ◌⊎◌, inl, inr, refl, sym, ap, ◌∙◌, subst, ℕ, ◌+◌, Bool, List, [], ◌∷◌, ◌++◌, Some, None, Result, Ok, Err}
use Rattle.std.specs.Prelude.{⊤}
use Rattle.std.specs.List.{AllZip}
use Rattle.io_core.specs.Contents.{Content}
use Rattle.table_terms.specs.Names.{Text}
use Rattle.job_terms.specs.declared.job.Action.{Action}
use Rattle.job_terms.specs.declared.job.Action.TheVariants as action
use Rattle.job_terms.specs.declared.job.Command.{Command}
use Rattle.job_terms.specs.declared.job.OutForm.{OutForm}
use Rattle.run_state.specs.Origins.{Base}
use Rattle.run_state.specs.Targets.{targets}
use Rattle.run_state.specs.declared.refusal.RefuseWhy.{RefuseWhy}
use Rattle.run_state.specs.declared.state.CommandStop.{CommandStop}
use Rattle.run_state.specs.declared.state.CommandStop.TheVariants as stop
use Rattle.run_state.specs.declared.state.HeldLayer.{HeldLayer}
use Rattle.run_texts.specs.Written.{OutputSays}
use Rattle.run_outcome.specs.Ends.{of_command}
use Rattle.run_outcome.specs.declared.outcome.Outcome.{Outcome}
use Rattle.run_outcome.specs.declared.outcome.Outcome.TheVariants as end
use Rattle.run_chain.specs.Effects.{OutsideSeen, CutsText, WroteText}
use Rattle.run_chain.specs.Running.{CommandsRun, EndsWriting, GoesOn, StopsBy}
use Rattle.region_model.specs.Answers.{Plane}
use Rattle.chain_model.specs.Headline.{HoldsAfter}
use Rattle.chain_model.specs.Outcome as model
use Rattle.chain_model.specs.Pictures.{IsTextOf}
use Rattle.chain_model.specs.Running.{Begun, Effect, IsEffectOf, Output, output_of, run_from}
use Rattle.chain_model.specs.State.{State}
use Rattle.chain_model.specs.Steps.{Stepped, step}
use Rattle.layer_laws.specs.Reasons.{why_of}
use Rattle.layer_laws.specs.Shown.{View, StateShows, plane_of}
use Rattle.state_laws.specs.Steps.{StepGives, StepRefuses}
use Rattle.headline_laws.specs.Outcomes.{outcome_as}
use Rattle.headline_laws.specs.Refused.{outside_of}
use Rattle.headline_laws.proofs.Unchanged.{unchanged}
use Rattle.headline_laws.specs.ChainSteps.{ActionShows, CommandsShow, WriteGives}
use Rattle.headline_laws.proofs.Effects.{CutOff, cut_off, effect, held_on, place_of, whole_held}

-- done, or refused
abbrev pub IsStated : Outcome → Type 0
IsStated end.Done = ⊤
IsStated (end.Refused n why) = ⊤
IsStated _ = ⊥

module _ (v : View) (base : Base) (begun : Begun) (plane : begun.plane ≡ plane_of v) (places : begun.places ≡ base.places) where
  -- what the model tells of commands: outputs, and an end
  abbrev pub Told : Type 0
  Told = List Output × model.Outcome

  abbrev pub Effects : List Output → List Effect → Type 0
  Effects outputs effects = AllZip (IsEffectOf begun v.answers) outputs effects

  abbrev pub from : ℕ → State → List Command → Told
  from n s cs = run_from (plane_of v) v.answers begun.sources n s cs

  -- ## How commands end

  -- as the model tells
  pub record Whole (told : Told) (before after : OutsideSeen) (o : Outcome) : Type 0 where
    pub stated : IsStated o
    pub effects : List Effect
    pub ends : outcome_as o ≡ told.1
    pub gives : Effects told.0 effects
    pub held : HoldsAfter (outside_of before) (outside_of after) effects

  -- a first part of the outputs is there
  pub record Short (told : Told) (before after : OutsideSeen) : Type 0 where
    pub effects : List Effect
    pub front : List Output
    pub more : List Output
    pub outputs : told.0 ≡ front ++ more
    pub gives : Effects front effects
    pub held : HoldsAfter (outside_of before) (outside_of after) effects

  -- after a first part of the outputs, one is cut off
  pub record Cut (told : Told) (before after : OutsideSeen) (n : ℕ) : Type 0 where
    pub effects : List Effect
    pub last : Effect
    pub front : List Output
    pub output : Output
    pub more : List Output
    pub outputs : told.0 ≡ front ++ output ∷ more
    pub gives : Effects front effects
    pub of_last : IsEffectOf begun v.answers output last
    pub is_last : last.command ≡ n
    pub middle : OutsideSeen
    pub held : HoldsAfter (outside_of before) (outside_of middle) effects
    pub cut : CutOff last middle after

  abbrev pub Ran : Told → OutsideSeen → OutsideSeen → Outcome → Type 0
  Ran told before after o = Whole told before after o ⊎ (((o ≡ end.Memory) × Short told before after) ⊎ ((n : ℕ) × (o ≡ end.WriteFault n) × Cut told before after n))

  -- ## One command

  abbrev by_step : ℕ → List Command → Result Stepped model.RefuseWhy → Told
  by_step n cs r = elim r [
    | Err why ↦ ([], model.refused n why)
    | Ok next ↦ (output_of n next.written ++ (from (n + 1) next.state cs).0, (from (n + 1) next.state cs).1)
  ]

  module _ (n : ℕ) (s : State) (c : Command) (cs : List Command) (before after : OutsideSeen) (o : Outcome) where
    -- by what its step is
    ran_by : (r : Result Stepped model.RefuseWhy) → step (plane_of v) v.answers begun.sources s c ≡ r → Ran (by_step n cs r) before after o → Ran (from n s (c ∷ cs)) before after o
    ran_by r e ran = subst (λ (told : Told). Ran told before after o) (sym (ap (by_step n cs) e)) ran

    refused_so : (why : RefuseWhy) → o ≡ end.Refused n why → after ≡ before → StepRefuses v begun.sources s c why → Ran (from n s (c ∷ cs)) before after o
    refused_so why e kept refuses = ran_by (Err (why_of why)) refuses (inl (record {
      stated = subst IsStated (sym e) tt;
      effects = [];
      ends = ap outcome_as e;
      gives = tt;
      held = unchanged before after kept;
    }))

    no_memory : o ≡ end.Memory → after ≡ before → Ran (from n s (c ∷ cs)) before after o
    no_memory e kept = inr (inl (e, record { effects = []; front = []; more = (from n s (c ∷ cs)).0; outputs = refl; gives = tt; held = unchanged before after kept }))

    module _ (layers : List HeldLayer) where
      stopped : (a : Action) → ActionShows v base layers begun.sources s c a → (why : CommandStop) → StopsBy base c a layers why → o ≡ of_command n why → after ≡ before → Ran (from n s (c ∷ cs)) before after o
      stopped a shows stop.Memory by e kept = no_memory e kept
      stopped (action.Write to standard form) shows (stop.Refused why) by e kept = refused_so why e kept (shows.refused why by)
      stopped (action.Each a) shows (stop.Refused why) by e kept = refused_so why e kept (shows.refused why by.first)
      stopped (action.Together a) shows (stop.Refused why) by e kept = refused_so why e kept (shows.refused why by.first)

  -- ## What goes on

  ran_on : (output : Output) (e : Effect) (told : Told) (before middle after : OutsideSeen) (o : Outcome) → IsEffectOf begun v.answers output e → HoldsAfter (outside_of before) (outside_of middle) (e ∷ []) → Ran told middle after o
      → Ran (output ∷ told.0, told.1) before after o
  ran_on output e told before middle after o is one (inl w) = inl (record { stated = w.stated; effects = e ∷ w.effects; ends = w.ends; gives = (is, w.gives); held = held_on before middle after e w.effects one w.held })
  ran_on output e told before middle after o is one (inr (inl (m, h))) = inr (inl (
    m,
    record {
      effects = e ∷ h.effects;
      front = output ∷ h.front;
      more = h.more;
      outputs = ap (λ (outputs : List Output). output ∷ outputs) h.outputs;
      gives = (is, h.gives);
      held = held_on before middle after e h.effects one h.held;
    },
  ))
  ran_on output e told before middle after o is one (inr (inr (n, m, h))) = inr (inr (
    n,
    m,
    record {
      effects = e ∷ h.effects;
      last = h.last;
      front = output ∷ h.front;
      output = h.output;
      more = h.more;
      outputs = ap (λ (outputs : List Output). output ∷ outputs) h.outputs;
      gives = (is, h.gives);
      of_last = h.of_last;
      is_last = h.is_last;
      middle = h.middle;
      held = held_on before middle h.middle e h.effects one h.held;
      cut = h.cut;
    },
  ))

  module _ (n : ℕ) (s : State) (c : Command) (cs : List Command) (layers : List HeldLayer) (before : OutsideSeen) (o : Outcome) where
    -- ## An output and its effect

    module _ (to : Text) (standard : Bool) (form : OutForm) (g : WriteGives v base layers begun.sources s c to standard form) where
      abbrev output : Output
      output = record { command = n; written = g.written }

      effect_of : (text : Content) → OutputSays base form (targets c.target layers) text → IsEffectOf begun v.answers output (effect n standard to text)
      effect_of text says =
          let here : IsTextOf (plane_of v) v.answers base.places g.written text = g.text text says in
          record {
            command = refl;
            to = ap (place_of standard) (sym g.to_there) ∙ ap (λ (b : Bool). place_of b g.written.to) (sym g.to_stream);
            text = subst (λ (k : ℕ). IsTextOf begun.plane v.answers k g.written text) (sym places) (subst (λ (P : Plane). IsTextOf P v.answers base.places g.written text) (sym plane) here);
          }

      written_on : (middle after : OutsideSeen) (text : Content) → OutputSays base form (targets c.target layers) text → WroteText standard to text before middle → Ran (from (n + 1) s cs) middle after o → Ran (from n s (c ∷ cs)) before after o
      written_on middle after text says wrote ran =
          ran_by n s c cs before after o (Ok (record { state = s; written = Some g.written })) g.gives
          (ran_on output (effect n standard to text) (from (n + 1) s cs) before middle after o (effect_of text says) (whole_held standard n to text before middle wrote) ran)

      written_short : (after : OutsideSeen) (text : Content) → OutputSays base form (targets c.target layers) text → CutsText standard to text before after → o ≡ end.WriteFault n → Ran (from n s (c ∷ cs)) before after o
      written_short after text says cut e =
          ran_by n s c cs before after o (Ok (record { state = s; written = Some g.written })) g.gives (inr (inr (
            n,
            e,
            record {
              effects = [];
              last = effect n standard to text;
              front = [];
              output = output;
              more = (from (n + 1) s cs).0;
              outputs = refl;
              gives = tt;
              of_last = effect_of text says;
              is_last = refl;
              middle = before;
              held = unchanged before before refl;
              cut = cut_off standard n to text before after cut;
            },
          )))

    -- ## Each action

    fails : (a : Action) (after : OutsideSeen) → ActionShows v base layers begun.sources s c a → EndsWriting base n c a layers before after o → Ran (from n s (c ∷ cs)) before after o
    fails (action.Write to standard form) after shows f = written_short to standard form (shows.goes f.accepted) after f.text f.says f.cut f.fault
    fails (action.Each a) after shows f = absurd f
    fails (action.Together a) after shows f = absurd f

    -- the commands after it, over the state that it gives
    abbrev Further : List HeldLayer → OutsideSeen → OutsideSeen → Type 0
    Further layers' middle after = (t : State) → StateShows v layers' t → Ran (from (n + 1) t cs) middle after o

    changed : (layers' : List HeldLayer) (middle after : OutsideSeen) → middle ≡ before → StepGives v begun.sources s c layers' → Further layers' middle after → Ran (from n s (c ∷ cs)) before after o
    changed layers' middle after kept (t, gives, shown) further =
        ran_by n s c cs before after o (Ok (record { state = t; written = None })) gives (subst (λ (x : OutsideSeen). Ran (from (n + 1) t cs) x after o) kept (further t shown))

    goes_on : (a : Action) (layers' : List HeldLayer) (middle after : OutsideSeen) → StateShows v layers s → ActionShows v base layers begun.sources s c a → GoesOn base c a layers layers' before middle → Further layers' middle after → Ran (from n s (c ∷ cs)) before after o
    goes_on (action.Write to standard form) layers' middle after state shows g further =
        written_on to standard form (shows.goes g.accepted) middle after g.writes.text g.writes.says g.writes.wrote (further s (subst (λ (ls : List HeldLayer). StateShows v ls s) (sym g.kept) state))
    goes_on (action.Each a) layers' middle after state shows g further = changed layers' middle after g.kept (shows.goes g.accepted layers' g.changes) further
    goes_on (action.Together a) layers' middle after state shows g further = changed layers' middle after g.kept (shows.goes g.accepted layers' g.changes) further

  -- ## All of them

  pub ran_all : (cs : List Command) (done : ℕ) (layers : List HeldLayer) (s : State) (before after : OutsideSeen) (o : Outcome) → StateShows v layers s → CommandsShow v base begun.sources layers s cs → CommandsRun base done layers cs before after o → Ran (from (done + 1) s cs) before after o
  ran_all [] done layers s before after o state show (e, kept) = inl (record { stated = subst IsStated (sym e) tt; effects = []; ends = ap outcome_as e; gives = tt; held = unchanged before after kept })
  ran_all (c ∷ cs) done layers s before after o state show (inl (inl x)) = stopped (done + 1) s c cs before after o layers c.action show.0 x.stop x.why x.ends x.kept
  ran_all (c ∷ cs) done layers s before after o state show (inl (inr w)) = fails (done + 1) s c cs layers before o c.action after show.0 w
  ran_all (c ∷ cs) done layers s before after o state show (inr (layers', middle, passes, rest)) =
      goes_on (done + 1) s c cs layers before o c.action layers' middle after state show.0 passes.goes (λ t shown. ran_all cs (done + 1) layers' t middle after o shown (show.1 layers' t (before, middle, passes) shown) rest)
