-- Reasons of refusals, and answers of a run beside those of a state.
use Rattle.std.specs.Prelude.{◌≡◌, List, Option, Some, None, Result, Ok, Err}
use Rattle.std.specs.List.{AllZip}
use Rattle.run_plane.specs.declared.layer.Layer.{Layer}
use Rattle.run_state.specs.declared.refusal.RefuseWhy.{RefuseWhy}
use Rattle.run_state.specs.declared.refusal.RefuseWhy.TheVariants as why
use Rattle.chain_model.specs.Outcome as state
use Rattle.chain_model.specs.State.{StateLayer}
use Rattle.chain_model.specs.Features.{Outputs}
use Rattle.layer_laws.specs.Shown.{View, LayerShows}

-- a reason of a run, as a state names it
abbrev pub why_of : RefuseWhy → state.RefuseWhy
why_of why.NoLayer = state.no_layer
why_of why.ManyLayers = state.many_layers
why_of why.WrongKind = state.wrong_kind
why_of why.OneLayer = state.lone_layer
why_of why.NoGroupPoints = state.no_group_points
why_of why.NameTwice = state.name_twice
why_of why.TooManyLayers = state.too_many_layers
why_of (why.Table why) = state.in_table why

-- the state refuses where the run does, for the same reason
abbrev pub RefusedAlike : {T : Type 0} → Option RefuseWhy → Result T state.RefuseWhy → Type 0
RefusedAlike {T} None answer = (made : T) × (answer ≡ Ok made)
RefusedAlike (Some why) answer = answer ≡ Err (why_of why)

-- what a run finds shows what a state has, or both refuse for the same reason
abbrev pub AnswerShows : {T U : Type 0} → (T → U → Type 0) → Result T RefuseWhy → Result U state.RefuseWhy → Type 0
AnswerShows Shows (Ok held) (Ok has) = Shows held has
AnswerShows Shows (Err why) (Err other) = other ≡ why_of why
AnswerShows Shows (Ok held) (Err other) = ⊥
AnswerShows Shows (Err why) (Ok has) = ⊥

-- ---- what a command makes of a layer

-- the layers that a run makes show those of the state's answer
pub record OutputsShow (v : View) (made : List Layer) (answer : Outputs) : Type 0 where
  pub outputs : List StateLayer
  pub answers : answer ≡ Ok outputs
  pub show : AllZip (LayerShows v) made outputs

-- whatever layers a run makes show those of the state's answer, and both refuse for the same reason
pub record MakesAlike (v : View) (Makes : List Layer → Type 0) (refusal : Option RefuseWhy) (answer : Outputs) : Type 0 where
  pub shows : (made : List Layer) → Makes made → OutputsShow v made answer
  pub refused : RefusedAlike refusal answer
