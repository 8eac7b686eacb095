-- What is taken of layers that lie on the plane, and where they are put, keeps them there.
use Rattle.std.proofs.Common.{◌≡◌, ◌∙◌, sym, ap, subst, ℕ, ◌-◌, Bool, true, false, if◌then◌else◌, List, [], ◌∷◌, All, map, Ok}
use Rattle.std.specs.List.{filter, flat_map}
use Rattle.std.proofs.lemmas.List.Elements.{All-append, All-cons, All-filter, All-head, All-map, All-nil, All-tail}
use Rattle.job_terms.specs.declared.job.Command.{Command}
use Rattle.job_terms.specs.declared.job.Target.{Target}
use Rattle.face_sets.specs.Sets.{IsSetOf}
use Rattle.run_plane.specs.OnPlane.{AreLayersOn, AreOn, AreAllOn, IsLayerOn}
use Rattle.run_plane.specs.declared.layer.Layer.{Layer}
use Rattle.run_plane.specs.declared.layer.Shape.{Shape}
use Rattle.run_plane.specs.declared.plane.Plane.{Plane}
use Rattle.run_plane.proofs.OnPlane.{sets_are_inner, sets_on, taken_on}
use Rattle.run_state.specs.FaceSets.{HasSets, face_shapes, sets_in}
use Rattle.run_state.specs.Features.{HasRows, LeavesOut, TakesFeatures, all_numbers}
use Rattle.run_plane.specs.Shapes.{with_geometry}
use Rattle.run_state.specs.OnPlane.{AreHeldOn}
use Rattle.run_state.specs.Origins.{one_layer}
use Rattle.run_state.specs.Targets.{after_all, first_layers, in_place, in_places, is_selected, placed, put_out, staying, targets}
use Rattle.run_state.specs.declared.state.HeldLayer.{HeldLayer}

module _ (plane : Plane) where
  abbrev IsHeldOn : HeldLayer → Type 0
  IsHeldOn held = IsLayerOn plane held.layer

  -- ---- features

  pub rows_on : (layer : Layer) (numbers : List ℕ) (parts : List Shape) (made : Layer) → HasRows layer numbers parts made → AreOn plane parts → IsLayerOn plane made
  rows_on layer numbers parts made h on = subst (AreOn plane) (sym h.shapes) on

  pub features_on : (layer : Layer) (numbers : List ℕ) (made : Layer) → TakesFeatures layer numbers made → IsLayerOn plane layer → IsLayerOn plane made
  features_on layer numbers made h on = subst (AreOn plane) (sym h.shapes) (taken_on plane layer.shapes.items numbers on)

  pub left_on : (layer : Layer) (parts : List Shape) (made : Layer) → LeavesOut layer parts made → AreOn plane parts → IsLayerOn plane made
  left_on layer parts made h on = subst (AreOn plane) (sym h.shapes) (taken_on plane parts (with_geometry parts (all_numbers layer)) on)

  -- ---- sets of faces

  -- those of shapes
  pub sets_inner : (shapes given : List Shape) (sets : List (List ℕ)) → sets ≡ sets_in given → given ≡ shapes → AreOn plane shapes → All (IsSetOf plane.faces) sets
  sets_inner shapes given sets e f on = subst (All (IsSetOf plane.faces)) (sym (e ∙ ap sets_in f)) (sets_are_inner plane shapes on)

  pub has_sets_on : (keeps_empty : Bool) (layer : Layer) (sets : List (List ℕ)) (made : Layer) → HasSets keeps_empty layer sets made → All (IsSetOf plane.faces) sets → IsLayerOn plane made
  has_sets_on true layer sets made h inner = rows_on layer (all_numbers layer) (face_shapes sets) made h (sets_on plane sets inner)
  has_sets_on false layer sets made h inner = left_on layer (face_shapes sets) made h (sets_on plane sets inner)

  -- ---- layers of a state

  pub first_on : (layers : List Layer) → AreLayersOn plane layers → AreHeldOn plane (first_layers layers)
  first_on layers on = All-map IsHeldOn (λ (layer : Layer). record { layer = layer; is_default = true }) layers on

  passed_on : (p : HeldLayer → Bool) (layers : List HeldLayer) → AreHeldOn plane layers → AreLayersOn plane (map (λ (held : HeldLayer). held.layer) (filter p layers))
  passed_on p layers on = All-map (IsLayerOn plane) (λ (held : HeldLayer). held.layer) (filter p layers) (All-filter p IsHeldOn layers on)

  pub all_targets_on : (t : Target) (layers : List HeldLayer) → AreHeldOn plane layers → AreLayersOn plane (targets t layers)
  all_targets_on t layers on = passed_on (is_selected t) layers on

  -- the one layer of a list
  one_on : (layers : List Layer) (layer : Layer) → one_layer layers ≡ Ok layer → AreLayersOn plane layers → IsLayerOn plane layer
  one_on [] layer h on = absurd (cc)
  one_on (first ∷ []) layer h on = subst (IsLayerOn plane) (let e : first ≡ layer = cc in e) (All-head (IsLayerOn plane) first [] on)
  one_on (first ∷ other ∷ rest) layer h on = absurd (cc)

  pub target_on : (t : Target) (layers : List HeldLayer) (layer : Layer) → one_layer (targets t layers) ≡ Ok layer → AreHeldOn plane layers → IsLayerOn plane layer
  target_on t layers layer h on = one_on (targets t layers) layer h (all_targets_on t layers on)

  -- ---- layers put out

  put_out_on : (outputs : List Layer) → AreLayersOn plane outputs → AreHeldOn plane (map put_out outputs)
  put_out_on outputs on = All-map IsHeldOn put_out outputs on

  place_on : (t : Target) (held : HeldLayer) (outputs : List Layer) → IsHeldOn held → AreLayersOn plane outputs → AreHeldOn plane (in_place t held outputs)
  place_on t held outputs on out = go (is_selected t held)
    where
      go : (b : Bool) → AreHeldOn plane (if b then map put_out outputs else staying held ∷ [])
      go true = put_out_on outputs out
      go false = All-cons IsHeldOn (staying held) [] on (All-nil IsHeldOn)

  places_on : (t : Target) (layers : List HeldLayer) (outputs : List (List Layer)) → AreHeldOn plane layers → AreAllOn plane outputs → AreHeldOn plane (in_places t layers outputs)
  places_on t [] outputs on out = All-nil IsHeldOn
  places_on t (held ∷ layers) [] on out =
      All-append IsHeldOn (in_place t held []) (in_places t layers []) (place_on t held [] (All-head IsHeldOn held layers on) (All-nil (IsLayerOn plane)))
      (places_on t layers [] (All-tail IsHeldOn held layers on) out)
  places_on t (held ∷ layers) (first ∷ rest) on out =
      All-append IsHeldOn (in_place t held first) (in_places t layers rest) (place_on t held first (All-head IsHeldOn held layers on) (All-head (AreLayersOn plane) first rest out))
      (places_on t layers rest (All-tail IsHeldOn held layers on) (All-tail (AreLayersOn plane) first rest out))

  after_all_on : (outputs : List (List Layer)) → AreAllOn plane outputs → AreHeldOn plane (flat_map (map put_out) outputs)
  after_all_on [] out = All-nil IsHeldOn
  after_all_on (first ∷ rest) out =
      All-append IsHeldOn (map put_out first) (flat_map (map put_out) rest) (put_out_on first (All-head (AreLayersOn plane) first rest out)) (after_all_on rest (All-tail (AreLayersOn plane) first rest out))

  pub placed_on : (c : Command) (layers : List HeldLayer) (outputs : List (List Layer)) → AreHeldOn plane layers → AreAllOn plane outputs → AreHeldOn plane (placed c layers outputs)
  placed_on c layers outputs on out = go c.keep
    where
      go : (b : Bool) → AreHeldOn plane (if b then after_all layers outputs else in_places c.target layers outputs)
      go true = All-append IsHeldOn (map staying layers) (flat_map (map put_out) outputs) (All-map IsHeldOn staying layers on) (after_all_on outputs out)
      go false = places_on c.target layers outputs on out
