-- A step of a command that changes each layer of its target, put together of what it makes of them.
use Rattle.std.proofs.Common.{◌≡◌, ◌⊎◌, inl, inr, refl, sym, ap, ◌∙◌, subst, ℕ, ◌+◌, ◌<◌, ◌≤◌, arith, Bool, true, false, List, length, map, sum_by, nat_lt, Option, Some, None, option_map, Result, Ok, Err, if◌then◌else◌}
use Rattle.std.specs.List.{AllZip}
use Rattle.std.proofs.lemmas.Bool.{lt-ltb, ltb-true}
use Rattle.std.proofs.lemmas.List.{length-map}
use Rattle.lists.specs.Lists.{joined_up}
use Rattle.table_terms.specs.Refusals.{first_refusal, on_ok, unless}
use Rattle.job_terms.specs.declared.job.Action.{Action}
use Rattle.job_terms.specs.declared.job.Action.TheVariants as does
use Rattle.job_terms.specs.declared.job.Command.{Command}
use Rattle.job_terms.specs.declared.job.LayerAction.{LayerAction}
use Rattle.run_plane.specs.declared.layer.Layer.{Layer}
use Rattle.run_state.specs.Origins.{Base}
use Rattle.run_state.specs.Targets as places
use Rattle.run_state.specs.Targets.{has_target, targets}
use Rattle.run_state.specs.declared.refusal.RefuseWhy.{RefuseWhy}
use Rattle.run_state.specs.declared.refusal.RefuseWhy.TheVariants.{NoLayer, TooManyLayers}
use Rattle.run_state.specs.declared.state.HeldLayer.{HeldLayer}
use Rattle.run_steps.specs.Commands.{ChangesEach, PutsFor, PutsOut, Titles}
use Rattle.run_checks.specs.Checks as checks
use Rattle.run_steps.specs.Refusals as run
use Rattle.chain_model.specs.Outcome as state
use Rattle.chain_model.specs.Outcome.{no_layer}
use Rattle.chain_model.specs.State.{State, StateLayer}
use Rattle.chain_model.specs.Targets.{SourceLayers, layers_at, placed, selected, with_outputs}
use Rattle.chain_model.specs.Features.{Outputs}
use Rattle.chain_model.specs.Steps.{Stepped, by_action, changed, each_layer, outputs_of, refused_beside, refused_kinds, refused_for_origin, step, titled}
use Rattle.layer_laws.specs.Shown.{View, LayerShows, StateShows, plane_of}
use Rattle.layer_laws.specs.Placing.{target_outputs}
use Rattle.layer_laws.specs.Reasons.{why_of}
use Rattle.state_laws.specs.Steps.{StepGives, StepRefuses, StepShows}
use Rattle.layer_laws.specs.Targets.{target_numbers}
use Rattle.layer_laws.proofs.Counting.{joined_long, placed_long}
use Rattle.state_laws.proofs.EachLayer.{LayerAlike, MakesTitled, first_stops, none_stops, others_put, outputs_show, targets_put}
use Rattle.layer_laws.proofs.Placed.{counted, placed_outputs_show}
use Rattle.layer_laws.proofs.Targeting.{targets_show}
use Rattle.layer_laws.proofs.Zipped.{zip_weaker}

-- ---- the first of two refusals, and of three

pub first_of_two : (why : RefuseWhy) (a b : Option RefuseWhy) → first_refusal a b ≡ Some why → (a ≡ Some why) ⊎ ((a ≡ None) × (b ≡ Some why))
first_of_two why None b e = inr (refl, e)
first_of_two why (Some w) b e = inl e

pub none_of_two : {E : Type 0} (a b : Option E) → first_refusal a b ≡ None → (a ≡ None) × (b ≡ None)
none_of_two None b e = (refl, e)
none_of_two (Some w) b e = absurd (let some : Some w ≡ None = e in cc)

-- where each is that of the other side, so is the first
pub first_alike : (a b : Option state.RefuseWhy) (c d : Option RefuseWhy) → a ≡ option_map why_of c → b ≡ option_map why_of d → first_refusal a b ≡ option_map why_of (first_refusal c d)
first_alike a b None d e f = ap (λ (o : Option state.RefuseWhy). first_refusal o b) e ∙ f
first_alike a b (Some why) d e f = ap (λ (o : Option state.RefuseWhy). first_refusal o b) e

pub data First (why : RefuseWhy) (a b c : Option RefuseWhy) : Type 0 where
  is_first : a ≡ Some why → First why a b c
  is_second : a ≡ None → b ≡ Some why → First why a b c
  is_third : a ≡ None → b ≡ None → c ≡ Some why → First why a b c

pub which : (why : RefuseWhy) (a b c : Option RefuseWhy) → first_refusal a (first_refusal b c) ≡ Some why → First why a b c
which why (Some w) b c is = is_first is
which why None (Some w) c is = is_second refl is
which why None None c is = is_third refl refl is

pub none_of_three : (a b c : Option RefuseWhy) → first_refusal a (first_refusal b c) ≡ None → (a ≡ None) × (b ≡ None) × (c ≡ None)
none_of_three (Some w) b c is = absurd (let some : Some w ≡ None = is in cc)
none_of_three None (Some w) c is = absurd (let some : Some w ≡ None = is in cc)
none_of_three None None c is = (refl, refl, is)

-- ---- tests that refuse

pub target_there : (b : Bool) → (if b then None else Some NoLayer) ≡ None → b ≡ true
target_there true e = refl
target_there false e = absurd (let w : Some NoLayer ≡ None = e in cc)

pub target_absent : (b : Bool) (why : RefuseWhy) → (if b then None else Some NoLayer) ≡ Some why → (b ≡ false) × (NoLayer ≡ why)
target_absent true why e = absurd (let w : None ≡ Some why = e in cc)
target_absent false why e = (refl, let w : Some NoLayer ≡ Some why = e in cc)

pub too_many_told : (b : Bool) (why : RefuseWhy) → (if b then Some TooManyLayers else None) ≡ Some why → (b ≡ true) × (TooManyLayers ≡ why)
too_many_told true why e = (refl, let w : Some TooManyLayers ≡ Some why = e in cc)
too_many_told false why e = absurd (let w : None ≡ Some why = e in cc)

-- ---- the state's step

-- why the target's layers are refused for their kinds
abbrev pub unfit : SourceLayers → State → Action → List StateLayer → Option state.RefuseWhy
unfit sources s act ls = first_refusal (refused_kinds act ls) (refused_beside sources s act ls)

-- the outputs in their places, under the name of `name=`
abbrev pub put : State → Command → List ℕ → List (List StateLayer) → Result State state.RefuseWhy
put s c ns outs = with_outputs s c.keep ns (map (map (titled c.name)) outs)

abbrev pub changed_by : State → Command → List ℕ → Option state.RefuseWhy → Option state.RefuseWhy → Result (List (List StateLayer)) state.RefuseWhy → Result State state.RefuseWhy
changed_by s c ns source kinds outs = unless (first_refusal source kinds) (on_ok outs (put s c ns))

abbrev pub stepped : Result State state.RefuseWhy → Result Stepped state.RefuseWhy
stepped answer = on_ok answer (λ (t : State). Ok (record { state = t; written = None }))

module _ (v : View) (sources : SourceLayers) (s : State) (c : Command) (act : Action) (does_so : c.action ≡ act)
    (changes : (ns : List ℕ) → by_action (plane_of v) v.answers sources s c ns act ≡ stepped (changed (plane_of v) v.answers sources s c ns)) where
  step_is : step (plane_of v) v.answers sources s c ≡ on_ok (selected s c.target) (λ (ns : List ℕ). by_action (plane_of v) v.answers sources s c ns act)
  step_is = ap (λ (does : Action). on_ok (selected s c.target) (λ (ns : List ℕ). by_action (plane_of v) v.answers sources s c ns does)) does_so

  pub step_refused : (why : state.RefuseWhy) → selected s c.target ≡ Err why → step (plane_of v) v.answers sources s c ≡ Err why
  step_refused why e = step_is ∙ ap (λ (r : Result (List ℕ) state.RefuseWhy). on_ok r (λ (ns : List ℕ). by_action (plane_of v) v.answers sources s c ns act)) e

  pub step_by : (ns : List ℕ) → selected s c.target ≡ Ok ns → step (plane_of v) v.answers sources s c ≡
      stepped (changed_by s c ns (refused_for_origin sources s act) (unfit sources s act (layers_at s ns)) (outputs_of (plane_of v) v.answers sources s act (layers_at s ns)))
  step_by ns e =
      step_is ∙ ap (λ (r : Result (List ℕ) state.RefuseWhy). on_ok r (λ (ns : List ℕ). by_action (plane_of v) v.answers sources s c ns act)) e ∙ changes ns
      ∙ ap (λ (does : Action). stepped (changed_by s c ns (refused_for_origin sources s does) (unfit sources s does (layers_at s ns)) (outputs_of (plane_of v) v.answers sources s does (layers_at s ns)))) does_so

-- ---- a command whose outputs, for each layer, are alike

-- why it is refused before it works, where its target is there
abbrev pub stopped_before : SourceLayers → State → Action → List StateLayer → Option state.RefuseWhy
stopped_before sources s act ls = first_refusal (refused_for_origin sources s act) (unfit sources s act ls)

abbrev pub refused_before : Base → List HeldLayer → LayerAction → List Layer → Option RefuseWhy
refused_before base layers a ts = first_refusal (checks.refused_for_origin base.sources layers a) (checks.refused_kinds base.sources layers a ts)

-- what the state does is what a function makes of each layer, which is alike
pub record IsAlike (v : View) (base : Base) (layers : List HeldLayer) (sources : SourceLayers) (s : State) (c : Command) (a : LayerAction) (f : StateLayer → Outputs) : Type 0 where
  pub stops : has_target c.target layers ≡ true → stopped_before sources s (does.Each a) (layers_at s (target_numbers c.target layers)) ≡ option_map why_of (refused_before base layers a (targets c.target layers))
  pub outputs : refused_for_origin sources s (does.Each a) ≡ None → (ls : List StateLayer) → outputs_of (plane_of v) v.answers sources s (does.Each a) ls ≡ each_layer f ls
  pub pairs : checks.refused_kinds base.sources layers a (targets c.target layers) ≡ None → AllZip (λ (layer : Layer) (l : StateLayer). LayerShows v layer l × LayerAlike v (PutsOut base layers a layer) (run.RefusesLayer base layers a layer) (f l)) (targets c.target layers) (layers_at s (target_numbers c.target layers))
  pub count : (layer : Layer) (l : StateLayer) → LayerShows v layer l → (outs : List StateLayer) → f l ≡ Ok outs → length outs ≡ run.output_count a layer

module _ (v : View) (base : Base) (layers : List HeldLayer) (sources : SourceLayers) (s : State) (h : StateShows v layers s) (c : Command) (a : LayerAction) (does_each : c.action ≡ does.Each a) (f : StateLayer → Outputs) (alike : IsAlike v base layers sources s c a f) where
  abbrev ns : List ℕ
  ns = target_numbers c.target layers

  abbrev ts : List Layer
  ts = targets c.target layers

  abbrev ls : List StateLayer
  ls = layers_at s ns

  abbrev Made : Layer → List Layer → Type 0
  Made layer made = PutsOut base layers a layer made

  abbrev Refuses : Layer → Option RefuseWhy → Type 0
  Refuses layer refusal = run.RefusesLayer base layers a layer refusal

  -- where neither the source nor the kinds are refused
  at_work : (answer : Result (List (List StateLayer)) state.RefuseWhy) → has_target c.target layers ≡ true → refused_before base layers a ts ≡ None → each_layer f ls ≡ answer → step (plane_of v) v.answers sources s c ≡ stepped (on_ok answer (put s c ns))
  at_work answer there none is =
      let fit : stopped_before sources s (does.Each a) ls ≡ None = alike.stops there ∙ ap (option_map why_of) none in
      let made = alike.outputs (none_of_two (refused_for_origin sources s (does.Each a)) (unfit sources s (does.Each a) ls) fit).0 ls ∙ is in
      step_by v sources s c (does.Each a) does_each (λ n. refl) ns ((targets_show v layers s h c.target).there there)
      ∙ (λ i. stepped (unless (fit i) (on_ok (made i) (put s c ns))))

  -- the outputs for the layers of a target, with what is made of them before they have a name
  made_titled : (outputs : List (List Layer)) → AllZip (PutsFor base layers c a) layers outputs → AllZip (MakesTitled v c.name Made Refuses f) ts (target_outputs c.target layers outputs)
  made_titled outputs puts =
      zip_weaker (Titles base layers c a) (MakesTitled v c.name Made Refuses f) (λ layer out titles. record { made = titles.made; makes = titles.puts; are = titles.titled }) ts (target_outputs c.target layers outputs) (targets_put base layers c a layers outputs puts)

  only_alike : checks.refused_kinds base.sources layers a ts ≡ None → AllZip (λ (layer : Layer) (l : StateLayer). LayerAlike v (Made layer) (Refuses layer) (f l)) ts ls
  only_alike kinds = zip_weaker (λ (layer : Layer) (l : StateLayer). LayerShows v layer l × LayerAlike v (Made layer) (Refuses layer) (f l)) (λ (layer : Layer) (l : StateLayer). LayerAlike v (Made layer) (Refuses layer) (f l)) (λ layer l pair. pair.1) ts ls (alike.pairs kinds)

  goes_on : run.RefusesEach base layers c a None → (after : List HeldLayer) → ChangesEach base c a layers after → StepGives v sources s c after
  goes_on none after changes =
      let (target, before) = none_of_two (checks.refused_target c.target layers) (refused_before base layers a ts) none.0 in
      let kinds = (none_of_two (checks.refused_for_origin base.sources layers a) (checks.refused_kinds base.sources layers a ts) before).1 in
      let (outs, is, shown) = outputs_show v c.name Made Refuses f ts ls (only_alike kinds) none.1.0 (target_outputs c.target layers changes.outputs) (made_titled changes.outputs changes.puts) in
      let placed = placed_outputs_show v layers s h c changes.outputs (map (map (titled c.name)) outs) (record { show = shown; all = others_put base layers c a layers changes.outputs changes.puts }) in
      let few : length (places.placed c layers changes.outputs) ≤ 1000 = subst (λ (held : List HeldLayer). length held ≤ 1000) changes.placed changes.few in
      let (t, put_out, shows) = placed.few few in
      (t, at_work (Ok outs) (target_there (has_target c.target layers) target) before is ∙ ap (stepped) put_out, subst (λ (held : List HeldLayer). StateShows v held t) (sym changes.placed) shows)

  -- before it works
  unfit_stops : (why : RefuseWhy) → (checks.refused_target c.target layers ≡ Some why) ⊎ ((checks.refused_target c.target layers ≡ None) × (refused_before base layers a ts ≡ Some why)) → StepRefuses v sources s c why
  unfit_stops why (inl target) =
      let absent = target_absent (has_target c.target layers) why target in
      step_refused v sources s c (does.Each a) does_each (λ n. refl) no_layer ((targets_show v layers s h c.target).absent absent.0) ∙ ap (λ (w : RefuseWhy). Err (why_of w)) absent.1
  unfit_stops why (inr (target, before)) =
      let there : has_target c.target layers ≡ true = target_there (has_target c.target layers) target in
      let unfit : stopped_before sources s (does.Each a) ls ≡ Some (why_of why) = alike.stops there ∙ ap (option_map why_of) before in
      step_by v sources s c (does.Each a) does_each (λ n. refl) ns ((targets_show v layers s h c.target).there there)
      ∙ ap (λ (r : Option state.RefuseWhy). stepped (unless r (on_ok (outputs_of (plane_of v) v.answers sources s (does.Each a) ls) (put s c ns)))) unfit

  -- at work, for a layer of the target or for the number of layers
  work_stops : (why : RefuseWhy) → has_target c.target layers ≡ true → refused_before base layers a ts ≡ None → run.FailsEach base layers c a (Some why) → StepRefuses v sources s c why
  work_stops why there none (inl layer) =
      let kinds = (none_of_two (checks.refused_for_origin base.sources layers a) (checks.refused_kinds base.sources layers a ts) none).1 in
      at_work (Err (why_of why)) there none (first_stops v c.name Made Refuses f ts ls (only_alike kinds) why layer)
  work_stops why there none (inr (layer, count)) =
      let kinds = (none_of_two (checks.refused_for_origin base.sources layers a) (checks.refused_kinds base.sources layers a ts) none).1 in
      let many = too_many_told (nat_lt 1000 (run.stay_count c layers + sum_by (run.output_count a) ts)) why count in
      let (outs, is, long, sum) = none_stops v c.name Made Refuses f (run.output_count a) alike.count ts ls (alike.pairs kinds) layer in
      let named : List (List StateLayer) = map (map (titled c.name)) outs in
      let as_many : length named ≡ length ts = length-map outs (map (titled c.name)) ∙ long in
      let left = placed_long v layers s h c.target c.keep named as_many in
      let put_out : length (joined_up named) ≡ sum_by (run.output_count a) ts = joined_long (titled c.name) outs ∙ sum in
      let past : 1000 < run.stay_count c layers + sum_by (run.output_count a) ts = ltb-true 1000 (run.stay_count c layers + sum_by (run.output_count a) ts) many.0 in
      let more : 1000 < length (placed s c.keep ns named) = omega (arith, left, put_out, past) in
      at_work (Ok outs) there none is
      ∙ ap (λ (b : Bool). stepped (counted (placed s c.keep ns named) b)) (lt-ltb 1000 (length (placed s c.keep ns named)) more)
      ∙ ap (λ (w : RefuseWhy). Err (why_of w)) many.1

  stops : (why : RefuseWhy) → run.RefusesEach base layers c a (Some why) → StepRefuses v sources s c why
  stops why (inl before) = unfit_stops why (first_of_two why (checks.refused_target c.target layers) (refused_before base layers a ts) before)
  stops why (inr (none, fails)) =
      let (target, before) = none_of_two (checks.refused_target c.target layers) (refused_before base layers a ts) none in
      work_stops why (target_there (has_target c.target layers) target) before fails

  pub step_shows : StepShows v base layers sources s c a
  step_shows = record { goes = goes_on; refused = stops }
