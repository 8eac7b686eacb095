-- Laws of targets and origins: the layers that a command works on, and those that it takes from elsewhere.
use Rattle.std.specs.Prelude.{◌≡◌, ℕ, true, false, List, Ok, Err}
use Rattle.std.specs.List.{AllZip}
use Rattle.lists.specs.Lists.{numbers_where}
use Rattle.job_terms.specs.declared.job.Origin.{Origin}
use Rattle.job_terms.specs.declared.job.Target.{Target}
use Rattle.run_plane.specs.declared.layer.Layer.{Layer}
use Rattle.run_state.specs.Origins as run
use Rattle.run_state.specs.Targets.{first_layers, has_target, is_selected, targets}
use Rattle.run_state.specs.declared.state.HeldLayer.{HeldLayer}
use Rattle.chain_model.specs.Beginning.{first_state}
use Rattle.chain_model.specs.Outcome.{no_layer}
use Rattle.chain_model.specs.State.{State, StateLayer}
use Rattle.chain_model.specs.Targets as state
use Rattle.chain_model.specs.Targets.{SourceLayers, layers_at, selected}
use Rattle.layer_laws.specs.Shown.{View, LayerShows, SourcesShow, StateShows}
use Rattle.layer_laws.specs.Reasons.{AnswerShows}

-- the numbers of the layers that a target selects
abbrev pub target_numbers : Target → List HeldLayer → List ℕ
target_numbers t layers = numbers_where (is_selected t) layers

-- a target that is there selects its layers in the state too, and any other is refused
pub record TargetShows (v : View) (t : Target) (layers : List HeldLayer) (s : State) : Type 0 where
  pub there : has_target t layers ≡ true → selected s t ≡ Ok (target_numbers t layers)
  pub absent : has_target t layers ≡ false → selected s t ≡ Err no_layer
  pub show : AllZip (LayerShows v) (targets t layers) (layers_at s (target_numbers t layers))

abbrev pub TargetsShow : Type 0
TargetsShow = (v : View) (layers : List HeldLayer) (s : State) → StateShows v layers s → (t : Target) → TargetShows v t layers s

-- the layers of a name, or those of a source
abbrev pub OriginsShow : Type 0
OriginsShow = (v : View) (layers : List HeldLayer) (s : State) → StateShows v layers s → (owned : run.Owned) (sources : SourceLayers) → SourcesShow v owned sources → (from : Origin) →
    AllZip (LayerShows v) (run.origin_layers owned layers from) (state.origin_layers sources s from)

-- and the one layer among them, or why there is none
abbrev pub OneLayerShows : Type 0
OneLayerShows = (v : View) (layers : List Layer) (ls : List StateLayer) → AllZip (LayerShows v) layers ls → AnswerShows (LayerShows v) (run.one_layer layers) (state.one_layer ls)

-- ---- the state with which the commands begin: all layers are the target of the first

abbrev pub FirstLayersShow : Type 0
FirstLayersShow = (v : View) (layers : List Layer) (ls : List StateLayer) → AllZip (LayerShows v) layers ls → StateShows v (first_layers layers) (first_state ls)
