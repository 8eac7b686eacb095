-- What is put out for layers that lie on the plane lies on it.
use Rattle.std.proofs.Common.{ap, sym, subst, List, [], ◌∷◌, Option, replicate}
use Rattle.std.specs.List.{AllZip, position_or_len}
use Rattle.std.proofs.lemmas.List.Elements.{All-append, All-cons, All-head, All-nil, All-replicate, All-tail}
use Rattle.io_core.specs.Contents.{Content}
use Rattle.table_ops.specs.Join.{join_tables}
use Rattle.join_terms.specs.declared.calculations.CalcSpec.{CalcSpec}
use Rattle.join_terms.specs.declared.joins.JoinSpec.{JoinSpec}
use Rattle.job_terms.specs.declared.job.Origin.{Origin}
use Rattle.job_terms.specs.declared.job.Target.{Target}
use Rattle.spatial_join.specs.Joined.{join_matched}
use Rattle.run_plane.specs.OnPlane.{AreAllOn, AreLayersOn, AreOn, IsLayerOn}
use Rattle.run_plane.specs.declared.layer.Layer.{Layer}
use Rattle.run_plane.specs.declared.plane.Plane.{Plane}
use Rattle.run_state.specs.Origins.{Base}
use Rattle.run_state.specs.Targets.{is_selected}
use Rattle.run_state.specs.declared.state.HeldLayer.{HeldLayer}
use Rattle.run_tables.proofs.OnPlane.{given_on}
use Rattle.run_steps.specs.Commands.{IsTitled, Joins, JoinsByPlace, at_first}

module _ (plane : Plane) where
  -- under other names
  pub name_on : (title : Option Content) (made titled : Layer) → IsTitled title made titled → IsLayerOn plane made → IsLayerOn plane titled
  name_on title made titled h on = subst (AreOn plane) (sym (ap (λ shapes. shapes.items) h.shapes)) on

  pub names_on : (title : Option Content) (made titled : List Layer) → AllZip (IsTitled title) made titled → AreLayersOn plane made → AreLayersOn plane titled
  names_on title [] [] h on = All-nil (IsLayerOn plane)
  names_on title [] (t ∷ titled) h on = absurd h
  names_on title (m ∷ made) [] h on = absurd h
  names_on title (m ∷ made) (t ∷ titled) h on =
      All-cons (IsLayerOn plane) t titled (name_on title m t h.0 (All-head (IsLayerOn plane) m made on)) (names_on title made titled h.1 (All-tail (IsLayerOn plane) m made on))

  -- joined with an origin
  pub joins_on : (base : Base) (layers : List HeldLayer) (from : Origin) (spec : JoinSpec) (layer : Layer) → IsLayerOn plane layer → (made : Layer) → Joins base layers from spec layer (made ∷ []) → IsLayerOn plane made
  joins_on base layers from spec layer on made h = given_on plane (join_tables layer.table h.source.table spec) layer on made h.joined

  pub places_join_on : (base : Base) (layers : List HeldLayer) (from : Origin) (spec : CalcSpec) (layer : Layer) → IsLayerOn plane layer → (made : Layer) → JoinsByPlace base layers from spec layer (made ∷ []) → IsLayerOn plane made
  places_join_on base layers from spec layer on made h = given_on plane (join_matched layer.table h.source.table h.matches spec) layer on made h.joined

  -- in the place of the first target
  pub first_place_on : (t : Target) (layers : List HeldLayer) (made : Layer) → IsLayerOn plane made → AreAllOn plane (at_first t layers made)
  first_place_on t layers made on =
      All-append (AreLayersOn plane) (replicate (position_or_len (is_selected t) layers) []) ((made ∷ []) ∷ [])
      (All-replicate (AreLayersOn plane) (position_or_len (is_selected t) layers) [] (All-nil (IsLayerOn plane)))
      (All-cons (AreLayersOn plane) (made ∷ []) [] (All-cons (IsLayerOn plane) made [] on (All-nil (IsLayerOn plane))) (All-nil (AreLayersOn plane)))
