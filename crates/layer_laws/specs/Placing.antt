-- Laws of outputs: where the layers go that a command puts out, and how many may be left.
use Rattle.std.specs.Prelude.{◌≡◌, ◌≤◌, ◌<◌, List, [], ◌∷◌, drop, length, if◌then◌else◌, Ok, Err}
use Rattle.std.specs.List.{AllZip}
use Rattle.lists.specs.Lists.{first_or, joined_up}
use Rattle.job_terms.specs.declared.job.Command.{Command}
use Rattle.job_terms.specs.declared.job.Target.{Target}
use Rattle.run_plane.specs.declared.layer.Layer.{Layer}
use Rattle.run_state.specs.Targets.{is_selected, placed}
use Rattle.run_state.specs.declared.state.HeldLayer.{HeldLayer}
use Rattle.chain_model.specs.Outcome.{too_many_layers}
use Rattle.chain_model.specs.State.{State, StateLayer}
use Rattle.chain_model.specs.Targets.{layer_limit, with_outputs}
use Rattle.layer_laws.specs.Shown.{View, LayerShows, StateShows}
use Rattle.layer_laws.specs.Targets.{target_numbers}

-- of the outputs for each layer, those for the layers of a target
abbrev pub target_outputs : Target → List HeldLayer → List (List Layer) → List (List Layer)
target_outputs t [] outputs = []
target_outputs t (held ∷ layers) outputs = if is_selected t held then first_or [] outputs ∷ target_outputs t layers (drop 1 outputs) else target_outputs t layers (drop 1 outputs)

-- outputs for each layer show those for each target, and nothing is put out for any other layer
pub record PutOutShows (v : View) (t : Target) (layers : List HeldLayer) (outputs : List (List Layer)) (outs : List (List StateLayer)) : Type 0 where
  pub show : AllZip (AllZip (LayerShows v)) (target_outputs t layers outputs) outs
  pub all : joined_up (target_outputs t layers outputs) ≡ joined_up outputs

-- with its outputs in their places the state is shown, or refused for the number of its layers
pub record PlacedShows (v : View) (c : Command) (layers : List HeldLayer) (s : State) (outputs : List (List Layer)) (outs : List (List StateLayer)) : Type 0 where
  pub few : length (placed c layers outputs) ≤ layer_limit → (after : State) × (with_outputs s c.keep (target_numbers c.target layers) outs ≡ Ok after) × StateShows v (placed c layers outputs) after
  pub many : layer_limit < length (placed c layers outputs) → with_outputs s c.keep (target_numbers c.target layers) outs ≡ Err too_many_layers

abbrev pub PlacedOutputsShow : Type 0
PlacedOutputsShow = (v : View) (layers : List HeldLayer) (s : State) → StateShows v layers s → (c : Command) (outputs : List (List Layer)) (outs : List (List StateLayer)) → PutOutShows v c.target layers outputs outs → PlacedShows v c layers s outputs outs
