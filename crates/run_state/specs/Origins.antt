-- What the commands of a run stand on, and the layer that a command takes from elsewhere.
use Rattle.std.specs.Prelude.{ℕ, ◌-◌, List, [], ◌∷◌, map, filter, slice_index_or, Option, None, Result, Ok, Err}
use Rattle.std.specs.Str.{bytes_eq}
use Rattle.io_core.specs.Contents.{Content}
use Rattle.job_terms.specs.declared.job.Origin.{Origin}
use Rattle.job_terms.specs.declared.job.Origin.TheVariants as origin
use Rattle.run_plane.specs.declared.layer.Layer.{Layer}
use Rattle.run_plane.specs.declared.plane.Plane.{Plane}
use Rattle.run_state.specs.Stops.{refusal_of}
use Rattle.run_state.specs.declared.base.Base.{Base as Lent}
use Rattle.run_state.specs.declared.refusal.RefuseWhy.{RefuseWhy}
use Rattle.run_state.specs.declared.refusal.RefuseWhy.TheVariants.{NoLayer, ManyLayers}
use Rattle.run_state.specs.declared.state.HeldLayer.{HeldLayer}

-- the layers of each source, in order
abbrev pub Owned : Type 0
Owned = List (List Layer)

-- what the commands of a run stand on: the decimal places of its grid, its plane, and the layers of its sources
pub record Base : Type 0 where
  pub places : ℕ
  pub plane : Plane
  pub sources : Owned

abbrev pub base_of : Lent → Base
base_of under = record { places = under.places; plane = under.plane.now; sources = map (λ own. own.items) under.sources.now }

-- ---- the layer that a command takes from elsewhere

abbrev pub named_layers : Content → List HeldLayer → List Layer
named_layers name layers = map (λ (held : HeldLayer). held.layer) (filter (λ (held : HeldLayer). bytes_eq name held.layer.name) layers)

-- those of a name, or those of the source with this number, from 1
abbrev pub origin_layers : Owned → List HeldLayer → Origin → List Layer
origin_layers sources layers (origin.Layer name) = named_layers name layers
origin_layers sources layers (origin.Source n) = slice_index_or sources (n - 1) []
origin_layers sources layers (origin.Area n) = []

abbrev pub one_layer : List Layer → Result Layer RefuseWhy
one_layer [] = Err NoLayer
one_layer (layer ∷ []) = Ok layer
one_layer (layer ∷ other ∷ rest) = Err ManyLayers

-- why there is no such layer; a box is none, and always is there
abbrev pub refused_origin : Owned → List HeldLayer → Origin → Option RefuseWhy
refused_origin sources layers (origin.Layer name) = refusal_of (one_layer (origin_layers sources layers (origin.Layer name)))
refused_origin sources layers (origin.Source n) = refusal_of (one_layer (origin_layers sources layers (origin.Source n)))
refused_origin sources layers (origin.Area n) = None
