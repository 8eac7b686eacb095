-- Laws of commands on lines and points, and of lines between polygons: what a run makes of a layer shows what the
-- state's definitions make of it.
use Rattle.std.specs.Prelude.{◌≡◌, ◌≢◌, ℕ, Bool, List, None}
use Rattle.io_core.specs.Contents.{Content}
use Rattle.grid_base.specs.declared.kinds.Kind.TheVariants as kinds
use Rattle.table_terms.specs.declared.groupings.GroupSpec.{GroupSpec}
use Rattle.table_rows.specs.Columns.{keep_fields}
use Rattle.region_model.specs.Region.{Region}
use Rattle.run_plane.specs.declared.layer.Layer.{Layer}
use Rattle.run_plane.specs.declared.plane.Plane.{Plane}
use Rattle.run_borders.specs.Borders.{AreInnerLines, AreOutlines}
use Rattle.run_shapes.specs.Cutting.{IsCut}
use Rattle.run_borders.specs.Dissolving.{IsGrouped, refused_dissolve}
use Rattle.run_shapes.specs.Exploding.{IsExploded}
use Rattle.run_shapes.specs.declared.cutting.CutKeeps.TheVariants as keeps
use Rattle.run_state.specs.Stops.{table_refusal}
use Rattle.run_tables.specs.Made.{One}
use Rattle.chain_model.specs.State.{StateLayer}
use Rattle.chain_model.specs.Features.{clip_layer, dissolve_layer, erase_layer, explode_layer, inner_lines_layer, lines_layer}
use Rattle.layer_laws.specs.Shown.{View, IsView, FacesShow, LayerShows, plane_of, IsSeenIn}
use Rattle.layer_laws.specs.Reasons.{MakesAlike}

-- ---- laws of layers without polygons

-- cut by the faces of a region they show what the region leaves of the state's layer
abbrev pub ClippedLinesShow : Type 0
ClippedLinesShow = (v : View) → IsView v → (plane : Plane) → IsSeenIn v plane → (cut_set : List ℕ) (r : Region) → FacesShow v cut_set r → (layer : Layer) (l : StateLayer) → LayerShows v layer l → layer.kind ≢ kinds.Polygon →
    MakesAlike v (One (IsCut keeps.Inside plane cut_set layer)) None (clip_layer (plane_of v) v.answers r l)

abbrev pub ErasedLinesShow : Type 0
ErasedLinesShow = (v : View) → IsView v → (plane : Plane) → IsSeenIn v plane → (cut_set : List ℕ) (r : Region) → FacesShow v cut_set r → (layer : Layer) (l : StateLayer) → LayerShows v layer l → layer.kind ≢ kinds.Polygon →
    MakesAlike v (One (IsCut keeps.Outside plane cut_set layer)) None (erase_layer (plane_of v) v.answers r l)

-- each path and each point by itself shows those of the state
abbrev pub ExplodedLinesShow : Type 0
ExplodedLinesShow = (v : View) → (plane : Plane) → (layer : Layer) (l : StateLayer) → LayerShows v layer l → layer.kind ≢ kinds.Polygon → MakesAlike v (One (IsExploded plane layer)) None (explode_layer (plane_of v) v.answers l)

-- grouped features, where they may be grouped, show the groups of the state
abbrev pub GroupedLinesShow : Type 0
GroupedLinesShow = (v : View) → IsView v → (layer : Layer) (l : StateLayer) → LayerShows v layer l → layer.kind ≢ kinds.Polygon → (spec : GroupSpec) (group_points : Bool) →
    MakesAlike v (λ (made : List Layer). (refused_dissolve spec group_points layer ≡ None) × One (IsGrouped spec layer) made) (refused_dissolve spec group_points layer) (dissolve_layer (plane_of v) spec group_points l)

-- ---- laws of lines between polygons

abbrev pub InnerLinesShow : Type 0
InnerLinesShow = (v : View) → IsView v → (plane : Plane) → IsSeenIn v plane → (layer : Layer) (l : StateLayer) → LayerShows v layer l → layer.kind ≡ kinds.Polygon →
    MakesAlike v (One (AreInnerLines plane layer)) None (inner_lines_layer (plane_of v) v.answers l)

-- with the types and ranks of arcs
abbrev pub OutlinesShow : Type 0
OutlinesShow = (v : View) → IsView v → (plane : Plane) → IsSeenIn v plane → (layer : Layer) (l : StateLayer) → LayerShows v layer l → layer.kind ≡ kinds.Polygon → (fields : List Content) →
    MakesAlike v (One (AreOutlines plane fields layer)) (table_refusal (keep_fields layer.table fields)) (lines_layer (plane_of v) v.answers fields l)
