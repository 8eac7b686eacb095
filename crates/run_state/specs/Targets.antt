-- Which layers a command works on, and where the layers go that it puts out.
use Rattle.std.specs.Prelude.{◌≡◌, Bool, true, false, ◌&&◌, List, [], ◌∷◌, ◌++◌, map, filter, drop, Result, Ok, Err, if◌then◌else◌}
use Rattle.std.specs.List.{list_all, list_any, flat_map}
use Rattle.std.specs.Str.{bytes_eq}
use Rattle.lists.specs.Lists.{first_or}
use Rattle.io_core.specs.Contents.{Content}
use Rattle.table_terms.specs.Names.{has_name}
use Rattle.job_terms.specs.declared.job.Target.{Target}
use Rattle.job_terms.specs.declared.job.Target.TheVariants as target
use Rattle.job_terms.specs.declared.job.Command.{Command}
use Rattle.run_plane.specs.declared.layer.Layer.{Layer}
use Rattle.run_state.specs.declared.refusal.RefuseWhy.{RefuseWhy}
use Rattle.run_state.specs.declared.refusal.RefuseWhy.TheVariants.{NoLayer}
use Rattle.run_state.specs.declared.state.HeldLayer.{HeldLayer}
use Rattle.run_state.specs.declared.targets.Wanted.{Wanted}
use Rattle.run_state.specs.declared.targets.Wanted.TheVariants as wanted

-- the command of this target works on the layer: it is a default target, its name is listed, or all are
abbrev pub is_selected : Target → HeldLayer → Bool
is_selected target.Default held = held.is_default
is_selected target.All held = true
is_selected (target.Names listed) held = has_name listed held.layer.name

-- the layers that it works on, in order
abbrev pub targets : Target → List HeldLayer → List Layer
targets t layers = map (λ (held : HeldLayer). held.layer) (filter (is_selected t) layers)

-- the layer has the name, or is of the target
abbrev pub is_wanted : Wanted → HeldLayer → Bool
is_wanted (wanted.Name name) held = bytes_eq name.now held.layer.name
is_wanted (wanted.Target t) held = is_selected t.now held

abbrev pub wanted_layers : Wanted → List HeldLayer → List Layer
wanted_layers w layers = map (λ (held : HeldLayer). held.layer) (filter (is_wanted w) layers)

-- all layers are default targets of the first command
abbrev pub first_layers : List Layer → List HeldLayer
first_layers layers = map (λ (layer : Layer). record { layer = layer; is_default = true }) layers

-- ---- a target that is there

abbrev pub is_layer : List HeldLayer → Content → Bool
is_layer layers name = list_any (λ (held : HeldLayer). bytes_eq name held.layer.name) layers

-- each listed name is the name of a layer
abbrev pub are_layers : Target → List HeldLayer → Bool
are_layers target.Default layers = true
are_layers target.All layers = true
are_layers (target.Names listed) layers = list_all (is_layer layers) listed

-- and some layer is worked on
abbrev pub has_target : Target → List HeldLayer → Bool
has_target t layers = are_layers t layers && list_any (is_selected t) layers

-- a target that isn't there is refused as no layer
abbrev pub TargetAnswers : Target → List HeldLayer → Result (Unit {0}) RefuseWhy → Type 0
TargetAnswers t layers (Ok done) = has_target t layers ≡ true
TargetAnswers t layers (Err why) = (has_target t layers ≡ false) × (why ≡ NoLayer)

-- ---- what is put out

-- the last command put the layer out, so it is a default target
abbrev pub put_out : Layer → HeldLayer
put_out layer = record { layer = layer; is_default = true }

-- the layer stays, and is no default target any more
abbrev pub staying : HeldLayer → HeldLayer
staying held = record { layer = held.layer; is_default = false }

-- what stands in the place of a layer: its outputs, where it is a target
abbrev pub in_place : Target → HeldLayer → List Layer → List HeldLayer
in_place t held outputs = if is_selected t held then map put_out outputs else staying held ∷ []

-- in the place of each layer what stands there, with the outputs for each layer in order
abbrev pub in_places : Target → List HeldLayer → List (List Layer) → List HeldLayer
in_places t [] outputs = []
in_places t (held ∷ layers) outputs = in_place t held (first_or [] outputs) ++ in_places t layers (drop 1 outputs)

-- all layers stay, and the outputs stand after them
abbrev pub after_all : List HeldLayer → List (List Layer) → List HeldLayer
after_all layers outputs = map staying layers ++ flat_map (map put_out) outputs

-- `+` puts the outputs after all layers
abbrev pub placed : Command → List HeldLayer → List (List Layer) → List HeldLayer
placed c layers outputs = if c.keep then after_all layers outputs else in_places c.target layers outputs
