-- The answer of commands binds what is there afterwards.
use Rattle.std.proofs.Common.{◌≡◌, inl, inr, refl, sym, ◌∙◌, subst, ℕ, List, [], ◌∷◌, ◌++◌, Result, Ok, append_assoc}
use Rattle.std.specs.List.{AllZip}
use Rattle.io_core.specs.Contents.{Content, FileMap}
use Rattle.job_terms.specs.declared.job.Chain.{Chain}
use Rattle.job_terms.specs.declared.job.Command.{Command}
use Rattle.job_terms.specs.declared.job.Job.TheVariants as job
use Rattle.cmd_words.specs.Words.{JobWords, Reading}
use Rattle.run_sources.specs.Sources.{SourcesSeen}
use Rattle.run_state.specs.Origins.{Base}
use Rattle.run_state.specs.declared.state.HeldLayer.{HeldLayer}
use Rattle.run_outcome.specs.declared.outcome.Outcome.{Outcome}
use Rattle.run_outcome.specs.declared.outcome.Outcome.TheVariants as end
use Rattle.run_chain.specs.Effects.{OutsideSeen}
use Rattle.plane_model.specs.Arrangement.{IsArrangement}
use Rattle.region_model.specs.Answers.{AreRight, Plane}
use Rattle.word_model.specs.Words.{words_say}
use Rattle.chain_model.specs.Headline.{BeginsLike, Binds}
use Rattle.chain_model.specs.Outcome as model
use Rattle.chain_model.specs.Pictures.{IsTextOf}
use Rattle.chain_model.specs.Running.{Begun, Effect, IsEffectOf, Output, Runs, RunsOrStops, WordsTell, begins, file_of, run_from}
use Rattle.chain_model.specs.Sources.{Readings}
use Rattle.layer_laws.specs.Shown.{View}
use Rattle.layer_laws.proofs.Zipped.{zip_joined}
use Rattle.headline_laws.specs.Outcomes.{outcome_as}
use Rattle.headline_laws.specs.Refused.{outside_of}
use Rattle.headline_laws.proofs.Unchanged.{unchanged}
use Rattle.headline_laws.specs.Ends.{IsAsked}
use Rattle.headline_laws.proofs.Asked.{ChainSaid, chain_said}
use Rattle.headline_laws.specs.Bound.{BeginsSeen, CommandsAreBound}
use Rattle.headline_laws.specs.ChainSteps.{EachHasText}
use Rattle.headline_laws.proofs.Effects.{files_cut, stream_cut}
use Rattle.headline_laws.proofs.Commands.{Cut, IsStated, Ran, Short, Told, Whole, from, ran_all}

module _ (read : Readings) (line : List Content) (c : Chain) (seen : SourcesSeen) (files : FileMap) (bytes : Content) (a : IsAsked read line (job.Chain c) seen files bytes) where
  -- what begins, where its plane is that of the view
  module _ (v : View) (base : Base) (layers : List HeldLayer) (b : Begun) (is : BeginsSeen c v base layers b) (begun : begins read c files bytes ≡ Ok b) (texts : EachHasText v base) where
    abbrev told : Told v base b is.plane is.places
    told = from v base b is.plane is.places 1 b.state b.commands

    -- ## Texts of what is left

    effect_there : (output : Output) → (e : Effect) × IsEffectOf b v.answers output e
    effect_there output =
        let t = texts output.written in (
          record { command = output.command; to = file_of output.written; text = t.0 },
          record {
            command = refl;
            to = refl;
            text = subst (λ (k : ℕ). IsTextOf b.plane v.answers k output.written t.0) (sym is.places) (subst (λ (P : Plane). IsTextOf P v.answers base.places output.written t.0) (sym is.plane) t.1);
          },
        )

    effects_there : (outputs : List Output) → (effects : List Effect) × AllZip (IsEffectOf b v.answers) outputs effects
    effects_there [] = ([], tt)
    effects_there (output ∷ outputs) =
        let first = effect_there output in
        let more = effects_there outputs in
        (first.0 ∷ more.0, (first.1, more.1))

    -- ## What is told

    abbrev Tells : model.Outcome → List Effect → Type 0
    Tells outcome effects = WordsTell read files bytes (words_say read.refusals line) outcome effects

    runs : (outcome : model.Outcome) (effects : List Effect) → outcome ≡ told.1 → AllZip (IsEffectOf b v.answers) told.0 effects → Tells outcome effects
    runs outcome effects ends gives =
        let s : ChainSaid read line c = chain_said read a.right line c a.asked in
        let here : Runs b outcome effects = record {
          answers = v.answers;
          right = subst (λ (P : Plane). AreRight P v.answers) (sym is.plane) is.is_view.right;
          links_meet_at_ends = subst (λ (P : Plane). IsArrangement P.links) (sym is.plane) is.is_view.walked.table.arrangement;
          ends = subst (λ (P : Plane). outcome ≡ (run_from P v.answers b.sources 1 b.state b.commands).1) (sym is.plane) ends;
          gives = subst (λ (P : Plane). AllZip (IsEffectOf b v.answers) (run_from P v.answers b.sources 1 b.state b.commands).0 effects) (sym is.plane) gives;
        } in
        subst (λ (r : Reading JobWords). WordsTell read files bytes r outcome effects) (sym s.said)
        (job.Chain c, s.fits, subst (λ (r : Result Begun model.Outcome). RunsOrStops r outcome effects) (sym begun) here)

    -- a first part of the outputs, each with its effect
    begun_like : (front more : List Output) (effects : List Effect) → told.0 ≡ front ++ more → AllZip (IsEffectOf b v.answers) front effects → BeginsLike read (words_say read.refusals line) files bytes effects
    begun_like front more effects outputs gives =
        let rest = effects_there more in
        record {
          outcome = told.1;
          rest = rest.0;
          told = runs told.1 (effects ++ rest.0) refl (subst (λ (os : List Output). AllZip (IsEffectOf b v.answers) os (effects ++ rest.0)) (sym outputs) (zip_joined (IsEffectOf b v.answers) front effects more rest.0 gives rest.1));
        }

    -- ## What is bound

    module _ (before after : OutsideSeen) where
      abbrev Bound : Outcome → Type 0
      Bound o = Binds read (words_say read.refusals line) files bytes (outside_of before) (outside_of after) (outcome_as o)

      by_whole : (o : Outcome) → Whole v base b is.plane is.places told before after o → IsStated o → Bound o
      by_whole end.Done w stated = record { effects = w.effects; told = runs model.done w.effects w.ends w.gives; held = w.held }
      by_whole (end.Refused n why) w stated = record { effects = w.effects; told = runs (outcome_as (end.Refused n why)) w.effects w.ends w.gives; held = w.held }
      by_whole (end.BadWords n why) w stated = absurd stated
      by_whole (end.ReadFault n) w stated = absurd stated
      by_whole (end.Missing n) w stated = absurd stated
      by_whole (end.TooLong n) w stated = absurd stated
      by_whole (end.BadInput n why) w stated = absurd stated
      by_whole (end.TooDense count) w stated = absurd stated
      by_whole (end.WriteFault n) w stated = absurd stated
      by_whole end.Memory w stated = absurd stated

      by_short : Short v base b is.plane is.places told before after → Bound end.Memory
      by_short h = record { effects = h.effects; begins = inr (begun_like h.front h.more h.effects h.outputs h.gives); held = h.held }

      by_cut : (n : ℕ) → Cut v base b is.plane is.places told before after n → Bound (end.WriteFault n)
      by_cut n h = record {
        effects = h.effects;
        last = h.last;
        begins = begun_like (h.front ++ h.output ∷ []) h.more (h.effects ++ h.last ∷ []) (h.outputs ∙ sym (append_assoc h.front (h.output ∷ []) h.more))
            (zip_joined (IsEffectOf b v.answers) h.front h.effects (h.output ∷ []) (h.last ∷ []) h.gives (h.of_last, tt));
        is_last = h.is_last;
        files = files_cut before h.middle after h.effects h.last h.held h.cut;
        stream = stream_cut before h.middle after h.effects h.last h.held h.cut;
      }

      by_ran : (o : Outcome) → Ran v base b is.plane is.places told before after o → Bound o
      by_ran o (inl w) = by_whole o w w.stated
      by_ran o (inr (inl (e, h))) = subst Bound (sym e) (by_short h)
      by_ran o (inr (inr (n, e, h))) = subst Bound (sym e) (by_cut n h)

pub bound : CommandsAreBound
bound read line c seen files bytes a b begun v base layers is show texts before after o run =
    by_ran read line c seen files bytes a v base layers b is begun texts before after o
    (subst (λ (cs : List Command). Ran v base b is.plane is.places (from v base b is.plane is.places 1 b.state cs) before after o) (sym is.commands)
    (ran_all v base b is.plane is.places c.commands 0 layers b.state before after o is.state show run))

-- where memory runs out before the first command, nothing has changed
pub unbegun : (read : Readings) (line : List Content) (c : Chain) (seen : SourcesSeen) (files : FileMap) (bytes : Content) → IsAsked read line (job.Chain c) seen files bytes → (b : Begun) → begins read c files bytes ≡ Ok b →
    (v : View) (base : Base) (layers : List HeldLayer) → BeginsSeen c v base layers b → EachHasText v base → (before after : OutsideSeen) → after ≡ before → Binds read (words_say read.refusals line) files bytes (outside_of before) (outside_of after) model.memory
unbegun read line c seen files bytes a b begun v base layers is texts before after kept =
    by_short read line c seen files bytes a v base layers b is begun texts before after
    (record { effects = []; front = []; more = (from v base b is.plane is.places 1 b.state b.commands).0; outputs = refl; gives = tt; held = unchanged before after kept })
