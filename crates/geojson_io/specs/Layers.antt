-- Layers: how the features of a file become a layer for each kind.
use Rattle.std.specs.Prelude.{ℕ, Bool, ◌==◌, List, [], ◌∷◌, ◌++◌, map, filter, filter_map, codes, Option, Some, None, Result, Ok}
use Rattle.lists.specs.Lists.{each_once}
use Rattle.json_values.specs.Json.{JsonValue}
use Rattle.json_values.specs.Table.{table_of}
use Rattle.grid_base.specs.declared.kinds.Kind.{Kind}
use Rattle.grid_base.specs.declared.kinds.Kind.TheVariants as kind
use Rattle.geojson_io.specs.Reads.{Fault, on_ok}
use Rattle.geojson_io.specs.LayerContent.{LayerContent}
use Rattle.geojson_io.specs.Features.{features_of}
use Rattle.geojson_io.specs.declared.shape.GeoShape.{GeoShape}
use Rattle.geojson_io.specs.declared.shape.GeoShape.TheVariants as shape
use Rattle.geojson_io.specs.declared.reading.features.Feature.{Feature}

abbrev pub kind_number : Kind → ℕ
kind_number kind.Polygon = 0
kind_number kind.Line = 1
kind_number kind.Point = 2
kind_number kind.Table = 3

abbrev pub same_kind : Kind → Kind → Bool
same_kind j k = kind_number j == kind_number k

abbrev pub kind_of : GeoShape → Option Kind
kind_of shape.Nothing = None
kind_of (shape.Polygons ps) = Some kind.Polygon
kind_of (shape.Lines ps) = Some kind.Line
kind_of (shape.Points ps) = Some kind.Point

-- the kinds in order of first appearance
abbrev pub kinds_of : List Feature → List Kind
kinds_of fs = each_once same_kind (filter_map (λ (f : Feature). kind_of f.shape) fs)

-- a feature of kind k; one without geometry counts as one of the first kind
abbrev pub kind_among : Kind → Option Kind → Kind
kind_among first None = first
kind_among first (Some k) = k

abbrev pub is_of_kind : Kind → Kind → Feature → Bool
is_of_kind first k f = same_kind k (kind_among first (kind_of f.shape))

abbrev pub layer_of : List ℕ → Kind → List Feature → LayerContent
layer_of name k fs = record { name = name; kind = k; table = table_of (map (λ (f : Feature). f.fields) fs); shapes = map (λ (f : Feature). f.shape) fs }

abbrev pub kind_ending : Kind → List ℕ
kind_ending kind.Polygon = codes "-polygon"
kind_ending kind.Line = codes "-line"
kind_ending kind.Point = codes "-point"
kind_ending kind.Table = []

-- the features of one kind, of those with several
abbrev pub layer_among : List ℕ → Kind → List Feature → Kind → LayerContent
layer_among name first fs k = layer_of (name ++ kind_ending k) k (filter (is_of_kind first k) fs)

-- one layer of the name for one kind, one for each of several, and a table where there is no geometry
abbrev pub layers_of_kinds : List ℕ → List Kind → List Feature → List LayerContent
layers_of_kinds name [] fs = layer_of name kind.Table fs ∷ []
layers_of_kinds name (k ∷ []) fs = layer_of name k fs ∷ []
layers_of_kinds name (j ∷ k ∷ ks) fs = map (layer_among name j fs) (j ∷ k ∷ ks)

abbrev pub layers_of : List ℕ → List Feature → List LayerContent
layers_of name fs = layers_of_kinds name (kinds_of fs) fs

-- ## A whole value

-- the layers of a GeoJSON value, with `places` decimal places, or its first fault
abbrev pub read_geojson : ℕ → List ℕ → ℕ → ℕ → JsonValue → Result (List LayerContent) Fault
read_geojson places name positions features j =
    on_ok (features_of places features j positions) (λ (p : List Feature × ℕ). let layers : List LayerContent = layers_of name p.0 in Ok layers)
