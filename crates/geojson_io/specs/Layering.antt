-- Layers as the reader makes them: kinds added one after another, and a layer split off for each.
use Rattle.std.specs.Prelude.{ℕ, Bool, not, if◌then◌else◌, List, [], ◌∷◌, ◌++◌, filter, Some, None}
use Rattle.lists.specs.Lists.{has}
use Rattle.grid_base.specs.declared.kinds.Kind.{Kind}
use Rattle.geojson_io.specs.LayerContent.{LayerContent}
use Rattle.geojson_io.specs.Layers.{same_kind, kind_of, is_of_kind, layer_among}
use Rattle.geojson_io.specs.declared.reading.features.Feature.{Feature}

-- a kind that is not there yet goes last
abbrev pub add_kind : List Kind → Kind → List Kind
add_kind ks k = if has same_kind ks k then ks else ks ++ k ∷ []

-- the kinds ks, and after them those of the features that are new
abbrev pub kinds_from : List Kind → List Feature → List Kind
kinds_from ks [] = ks
kinds_from ks (f ∷ fs) = kinds_from (elim (kind_of f.shape) [ None ↦ ks | Some k ↦ add_kind ks k ]) fs

abbrev pub is_of_another : Kind → Kind → Feature → Bool
is_of_another first k f = not (is_of_kind first k f)

-- a layer for each kind, of the features that are left
abbrev pub split_layers : List ℕ → Kind → List Kind → List Feature → List LayerContent
split_layers name first [] fs = []
split_layers name first (k ∷ ks) fs = layer_among name first fs k ∷ split_layers name first ks (filter (is_of_another first k) fs)
