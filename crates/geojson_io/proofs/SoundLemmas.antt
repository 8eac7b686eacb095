-- Paths that have points or are closed, and layers of sound features.
use Rattle.std.proofs.Common.{◌≡◌, ◌<◌, ℕ, true, List, [], ◌∷◌, ◌++◌, length, All, filter, sym, arith}
use Rattle.std.specs.Prelude.{slice_index_or}
use Rattle.std.proofs.lemmas.List.Elements.{All-cons, All-nil, All-map, All-filter}
use Rattle.lists.specs.Lists.{last_of}
use Rattle.grid_base.specs.declared.kinds.Kind.{Kind}
use Rattle.grid_base.specs.declared.kinds.Kind.TheVariants as kind
use Rattle.plane_model.specs.Points.{GridPoint, Path}
use Rattle.plane_model.specs.Drawing.{Polygon}
use Rattle.plane_model.specs.Joined.{IsClosed}
use Rattle.plane_model.proofs.PointOrder.{same_point_from}
use Rattle.geojson_io.specs.Positions.{is_closed}
use Rattle.geojson_io.specs.Geometries.{some_points, some_lines, some_polygons}
use Rattle.geojson_io.specs.Layers.{kinds_of, is_of_kind, layer_of, layer_among, layers_of_kinds, layers_of, kind_ending}
use Rattle.geojson_io.specs.declared.reading.features.Feature.{Feature}
use Rattle.geojson_io.specs.Sound.{HasPoints, IsRing, ShapeIsSound, FeatureIsSound, LayerIsSound}

-- ## Paths

pub has_first : (p : GridPoint) (rest : Path) → HasPoints (p ∷ rest)
has_first p rest e = cc

pub has_points : (path : Path) → 0 < length path → HasPoints path
has_points [] l = absurd (omega arith)
has_points (p ∷ rest) l = has_first p rest

-- a path that the test finds closed ends where it starts
pub ends_at_start : (path : Path) → is_closed path ≡ true → IsClosed path
ends_at_start [] e = tt
ends_at_start (p ∷ rest) e = sym (same_point_from p (last_of p rest) e)

-- ## Shapes

pub sound_points : (ps : List GridPoint) → ShapeIsSound (some_points ps)
sound_points [] = tt
sound_points (p ∷ ps) = tt

pub sound_lines : (ls : List Path) → All HasPoints ls → ShapeIsSound (some_lines ls)
sound_lines [] h = tt
sound_lines (l ∷ ls) h = h

pub sound_polygons : (ps : List Polygon) → All (All IsRing) ps → ShapeIsSound (some_polygons ps)
sound_polygons [] h = tt
sound_polygons (p ∷ ps) h = h

-- ## Layers

sound_layer : (name : List ℕ) (k : Kind) (fs : List Feature) → All FeatureIsSound fs → LayerIsSound (layer_of name k fs)
sound_layer name k fs h = All-map ShapeIsSound (λ (f : Feature). f.shape) fs h

among : (name : List ℕ) (first : Kind) (fs : List Feature) → All FeatureIsSound fs → (k : Kind) → LayerIsSound (layer_among name first fs k)
among name first fs h k = sound_layer (name ++ kind_ending k) k (filter (is_of_kind first k) fs) (All-filter (is_of_kind first k) FeatureIsSound fs h)

sound_kinds : (name : List ℕ) (ks : List Kind) (fs : List Feature) → All FeatureIsSound fs → All LayerIsSound (layers_of_kinds name ks fs)
sound_kinds name [] fs h = All-cons LayerIsSound (layer_of name kind.Table fs) [] (sound_layer name kind.Table fs h) (All-nil LayerIsSound)
sound_kinds name (k ∷ []) fs h = All-cons LayerIsSound (layer_of name k fs) [] (sound_layer name k fs h) (All-nil LayerIsSound)
sound_kinds name (j ∷ k ∷ ks) fs h = All-map LayerIsSound (layer_among name j fs) (j ∷ k ∷ ks) (λ i d l. among name j fs h (slice_index_or (j ∷ k ∷ ks) i d))

pub sound_layers : (name : List ℕ) (fs : List Feature) → All FeatureIsSound fs → All LayerIsSound (layers_of name fs)
sound_layers name fs h = sound_kinds name (kinds_of fs) fs h
