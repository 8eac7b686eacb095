-- What a join by place is refused for, by the rows that match.
use Rattle.std.proofs.Common.{◌≡◌, ℕ, List, None, Some, Result, Ok, Err, refl, sym, subst}
use Rattle.join_terms.specs.declared.calculations.CalcSpec.{CalcSpec}
use Rattle.spatial_join.specs.Joined.{join_matched}
use Rattle.run_plane.specs.declared.layer.Layer.{Layer}
use Rattle.run_plane.specs.declared.plane.Plane.{Plane}
use Rattle.run_tables.specs.Matching.{AreMatches}
use Rattle.run_state.specs.Stops.{StopsAs, StopsFor, table_refusal}
use Rattle.run_state.specs.declared.refusal.RefuseWhy.{RefuseWhy}
use Rattle.run_state.specs.declared.state.CommandStop.{CommandStop}
use Rattle.run_state.specs.declared.state.CommandStop.TheVariants as stop
use Rattle.run_steps.specs.Refusals.{RefusesByPlace}

pub place_stops : (plane : Plane) (source : Layer) (spec : CalcSpec) (layer : Layer) (matches : List (List ℕ)) (s : CommandStop) → AreMatches plane source layer matches →
    StopsFor (table_refusal (join_matched layer.table source.table matches spec)) s → StopsAs (RefusesByPlace plane (Ok source) spec layer) s
place_stops plane source spec layer matches (stop.Refused why) are h = (matches, are, h)
place_stops plane source spec layer matches stop.Memory are h = tt

-- of the layer of an origin that is the answer of a look for it
module _ (plane : Plane) (spec : CalcSpec) (layer : Layer) (answer : Result Layer RefuseWhy) where
  pub source_goes : (source : Layer) → answer ≡ Ok source → RefusesByPlace plane (Ok source) spec layer None → RefusesByPlace plane answer spec layer None
  source_goes source e h = subst (λ (r : Result Layer RefuseWhy). RefusesByPlace plane r spec layer None) (sym e) h

  pub source_stops : (source : Layer) (s : CommandStop) → answer ≡ Ok source → StopsAs (RefusesByPlace plane (Ok source) spec layer) s → StopsAs (RefusesByPlace plane answer spec layer) s
  source_stops source s e h = subst (λ (r : Result Layer RefuseWhy). StopsAs (RefusesByPlace plane r spec layer) s) (sym e) h

  pub no_source : (why : RefuseWhy) → answer ≡ Err why → RefusesByPlace plane answer spec layer (Some why)
  no_source why e = subst (λ (r : Result Layer RefuseWhy). RefusesByPlace plane r spec layer (Some why)) (sym e) refl
