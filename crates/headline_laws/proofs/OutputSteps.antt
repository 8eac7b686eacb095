-- The step of an output.
use Rattle.std.proofs.Common.{◌≡◌, refl, sym, ap, ◌∙◌, arith, ℕ, ◌<◌, Bool, true, false, nat_lt, List, [], ◌∷◌, length, Option, Some, None, option_map, Result, Ok, Err, bytes_eq, if◌then◌else◌}
use Rattle.std.specs.List.{AllZip}
use Rattle.std.proofs.lemmas.Bool.{lt-ltb}
use Rattle.std.proofs.lemmas.List.{length-map}
use Rattle.lists.specs.Lists.{each_once}
use Rattle.table_terms.specs.Names.{Text}
use Rattle.table_terms.specs.Refusals.{on_ok, unless}
use Rattle.job_terms.specs.declared.job.Action.{Action}
use Rattle.job_terms.specs.declared.job.Action.TheVariants as does
use Rattle.job_terms.specs.declared.job.Command.{Command}
use Rattle.job_terms.specs.declared.job.OutForm.{OutForm}
use Rattle.job_terms.specs.declared.job.OutForm.TheVariants as form
use Rattle.run_plane.specs.declared.layer.Layer.{Layer}
use Rattle.run_state.specs.Origins.{Base}
use Rattle.run_state.specs.Targets.{has_target, targets}
use Rattle.run_state.specs.declared.refusal.RefuseWhy.{RefuseWhy}
use Rattle.run_state.specs.declared.refusal.RefuseWhy.TheVariants.{NameTwice, NoLayer}
use Rattle.run_state.specs.declared.state.HeldLayer.{HeldLayer}
use Rattle.run_texts.specs.Written.{has_name_twice, names_of_layers, refused_form, refused_names, refused_one, refused_output}
use Rattle.chain_model.specs.Outcome as state
use Rattle.chain_model.specs.Outcome.{name_twice, no_layer}
use Rattle.chain_model.specs.State.{State, StateLayer}
use Rattle.chain_model.specs.Steps.{Stepped, Written, by_action, refused_write, step}
use Rattle.chain_model.specs.Targets.{SourceLayers, layer_names, layers_at, selected}
use Rattle.layer_laws.specs.Shown.{View, LayerShows, StateShows, plane_of}
use Rattle.layer_laws.specs.Reasons.{why_of}
use Rattle.state_laws.specs.Steps.{StepRefuses}
use Rattle.layer_laws.specs.Targets.{target_numbers}
use Rattle.state_laws.proofs.MergeStep.{targets_there}
use Rattle.layer_laws.proofs.Targeting.{targets_show}
use Rattle.layer_laws.proofs.Zipped.{zip_same}
use Rattle.headline_laws.specs.PictureTexts.{OutputStepsShow}
use Rattle.headline_laws.proofs.PictureTexts.{texts_show}
use Rattle.headline_laws.proofs.Twice.{fewer_names}

-- ---- forms

-- where there is a layer, both refuse more than one
one_alike : (v : View) (layers : List Layer) (ls : List StateLayer) → AllZip (LayerShows v) layers ls → 0 < length layers → (if nat_lt 1 (length ls) then Some state.many_layers else None) ≡ option_map why_of (refused_one layers)
one_alike v [] ls show some = absurd (omega arith)
one_alike v (layer ∷ layers) [] show some = absurd show
one_alike v (layer ∷ []) (l ∷ []) show some = refl
one_alike v (layer ∷ []) (l ∷ m ∷ ls) show some = absurd show.1
one_alike v (layer ∷ other ∷ layers) (l ∷ []) show some = absurd show.1
one_alike v (layer ∷ other ∷ layers) (l ∷ m ∷ ls) show some = ap (λ (b : Bool). if b then Some state.many_layers else None) (lt-ltb 1 (length (l ∷ m ∷ ls)) (omega arith))

-- and a name that two layers have
names_alike : (v : View) (layers : List Layer) (ls : List StateLayer) → AllZip (LayerShows v) layers ls → refused_write form.Topo ls ≡ option_map why_of (refused_names layers)
names_alike v layers ls show =
    let same : layer_names ls ≡ names_of_layers layers = sym (zip_same (LayerShows v) (λ (layer : Layer). layer.name) (λ (l : StateLayer). l.name) (λ layer l shown. sym shown.name) layers ls show) in
    let long : length ls ≡ length (layer_names ls) = sym (length-map ls (λ (l : StateLayer). l.name)) in
    ap (λ (n : ℕ). if nat_lt (length (each_once bytes_eq (layer_names ls))) n then Some name_twice else None) long
    ∙ ap (λ (b : Bool). if b then Some name_twice else None) (fewer_names (layer_names ls) ∙ ap has_name_twice same)
    ∙ told (has_name_twice (names_of_layers layers))
  where
    told : (b : Bool) → (if b then Some name_twice else None) ≡ option_map why_of (if b then Some NameTwice else None)
    told true = refl
    told false = refl

form_alike : (v : View) (f : OutForm) (layers : List Layer) (ls : List StateLayer) → AllZip (LayerShows v) layers ls → 0 < length layers → refused_write f ls ≡ option_map why_of (refused_form f layers)
form_alike v form.Geo layers ls show some = one_alike v layers ls show some
form_alike v form.Csv layers ls show some = one_alike v layers ls show some
form_alike v form.Topo layers ls show some = names_alike v layers ls show

-- ---- the step

module _ (v : View) (base : Base) (sources : SourceLayers) (layers : List HeldLayer) (s : State) (h : StateShows v layers s) (c : Command) (to : Text) (standard : Bool) (f : OutForm) (writes : c.action ≡ does.Write to standard f) where
  abbrev ns : List ℕ
  ns = target_numbers c.target layers

  abbrev written : Written
  written = record { to = to; standard = standard; form = f; layers = layers_at s ns }

  abbrev answer : Option state.RefuseWhy → Result Stepped state.RefuseWhy
  answer refusal = unless refusal (Ok (record { state = s; written = Some written }))

  step_is : step (plane_of v) v.answers sources s c ≡ on_ok (selected s c.target) (λ (ns : List ℕ). by_action (plane_of v) v.answers sources s c ns (does.Write to standard f))
  step_is = ap (λ (act : Action). on_ok (selected s c.target) (λ (ns : List ℕ). by_action (plane_of v) v.answers sources s c ns act)) writes

  absent : has_target c.target layers ≡ false → step (plane_of v) v.answers sources s c ≡ Err no_layer
  absent e =
      step_is ∙ ap (λ (r : Result (List ℕ) state.RefuseWhy). on_ok r (λ (ns : List ℕ). by_action (plane_of v) v.answers sources s c ns (does.Write to standard f))) ((targets_show v layers s h c.target).absent e)

  there : has_target c.target layers ≡ true → step (plane_of v) v.answers sources s c ≡ answer (option_map why_of (refused_form f (targets c.target layers)))
  there e =
      step_is ∙ ap (λ (r : Result (List ℕ) state.RefuseWhy). on_ok r (λ (ns : List ℕ). by_action (plane_of v) v.answers sources s c ns (does.Write to standard f))) ((targets_show v layers s h c.target).there e)
      ∙ ap answer (form_alike v f (targets c.target layers) (layers_at s ns) (targets_show v layers s h c.target).show (targets_there c.target layers e))

  goes_on : refused_output c.target f layers ≡ None → step (plane_of v) v.answers sources s c ≡ Ok (record { state = s; written = Some written })
  goes_on = go (has_target c.target layers) refl
    where
      go : (b : Bool) → has_target c.target layers ≡ b → (if b then refused_form f (targets c.target layers) else Some NoLayer) ≡ None → step (plane_of v) v.answers sources s c ≡ Ok (record { state = s; written = Some written })
      go true e none = there e ∙ ap (λ (o : Option RefuseWhy). answer (option_map why_of o)) none
      go false e none = absurd (let some : Some NoLayer ≡ None = none in cc)

  refuses : (why : RefuseWhy) → refused_output c.target f layers ≡ Some why → StepRefuses v sources s c why
  refuses why = go (has_target c.target layers) refl
    where
      go : (b : Bool) → has_target c.target layers ≡ b → (if b then refused_form f (targets c.target layers) else Some NoLayer) ≡ Some why → step (plane_of v) v.answers sources s c ≡ Err (why_of why)
      go true e some = there e ∙ ap (λ (o : Option RefuseWhy). answer (option_map why_of o)) some
      go false e some = let is : NoLayer ≡ why = (let o : Some NoLayer ≡ Some why = some in cc) in absent e ∙ ap (λ (w : RefuseWhy). Err (why_of w)) is

pub output_steps_show : OutputStepsShow
output_steps_show v view base seen sources layers s h c to standard f writes = record {
  goes = λ none. record {
    written = written v base sources layers s h c to standard f writes;
    gives = goes_on v base sources layers s h c to standard f writes none;
    to_there = refl;
    to_stream = refl;
    text = λ text says. texts_show v view base seen (targets c.target layers) (layers_at s (target_numbers c.target layers)) (targets_show v layers s h c.target).show f text says (written v base sources layers s h c to standard f writes) refl refl;
  };
  refused = refuses v base sources layers s h c to standard f writes;
}
