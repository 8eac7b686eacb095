-- Laws of commands on polygons: what a run makes of the sets of faces of a layer shows what the state's definitions
-- make of the regions that they follow, and both are refused alike.
use Rattle.std.specs.Prelude.{◌≡◌, ℕ, ◌<◌, Bool, List, [], ◌∷◌, length, slice_index_or, Option, Some, None, Result, Ok, Err}
use Rattle.std.specs.List.{AllZip}
use Rattle.plane_model.specs.Snapped.{snapped}
use Rattle.grid_base.specs.declared.kinds.Kind.TheVariants as kinds
use Rattle.grid_base.specs.declared.kinds.OverlapRule.{OverlapRule}
use Rattle.table_terms.specs.declared.groupings.GroupSpec.{GroupSpec}
use Rattle.region_model.specs.Region.{Region, box}
use Rattle.job_terms.specs.declared.job.Origin.{Origin}
use Rattle.run_plane.specs.declared.layer.Layer.{Layer}
use Rattle.run_plane.specs.declared.plane.Plane.{Plane}
use Rattle.run_state.specs.Origins.{Base}
use Rattle.run_state.specs.declared.refusal.RefuseWhy.{RefuseWhy}
use Rattle.run_state.specs.declared.state.HeldLayer.{HeldLayer}
use Rattle.run_tables.specs.Made.{One}
use Rattle.run_shapes.specs.Cleaning.{IsCleaned, IsMosaicOf}
use Rattle.run_shapes.specs.Cutting.{IsCut}
use Rattle.run_borders.specs.Dissolving.{IsGrouped, refused_dissolve}
use Rattle.run_shapes.specs.Exploding.{IsExploded}
use Rattle.run_state.specs.FaceSets.{cut_set_of}
use Rattle.run_shapes.specs.Islands.{IsMainland}
use Rattle.run_borders.specs.Uniting.{IsUnited}
use Rattle.run_shapes.specs.declared.cutting.CutKeeps.TheVariants as keeps
use Rattle.run_checks.specs.Checks.{refused_alone, refused_cut}
use Rattle.chain_model.specs.Outcome as state
use Rattle.chain_model.specs.State.{State, StateLayer}
use Rattle.chain_model.specs.Features.{clean_layer, clip_layer, dissolve_layer, erase_layer, explode_layer, islands_layer, mosaic_layer, united_layers}
use Rattle.chain_model.specs.Steps.{origin_region}
use Rattle.chain_model.specs.Targets.{SourceLayers}
use Rattle.layer_laws.specs.Shown.{View, IsView, FacesShow, LayerShows, SourcesShow, StateShows, plane_of, IsSeenIn}
use Rattle.layer_laws.specs.Reasons.{MakesAlike, RefusedAlike, why_of}
use Rattle.layer_laws.specs.Tables.{MergedShows}

-- the plane of a view is seen, where its boxes are as many as the snapped drawing has, and each of them shows its faces
abbrev pub PlanesAreSeen : Type 0
PlanesAreSeen = (v : View) (plane : Plane) → plane.arcs ≡ v.arcs → plane.faces ≡ v.faces → length plane.boxes.items ≡ length (snapped v.drawing).boxes →
    ((n : ℕ) → n < length plane.boxes.items → FacesShow v (slice_index_or plane.boxes.items n []) (box n)) → IsSeenIn v plane

-- the layer shows that of the state, and both have polygons
pub record PolygonsShow (v : View) (layer : Layer) (l : StateLayer) : Type 0 where
  pub shows : LayerShows v layer l
  pub polygons : layer.kind ≡ kinds.Polygon

-- ---- what a command cuts by

-- the faces show the region of the answer, or both are refused for the same reason
pub record CutSetShows (v : View) (refusal : Option RefuseWhy) (cut_set : List ℕ) (answer : Result Region state.RefuseWhy) : Type 0 where
  pub there : refusal ≡ None → (source : Region) × (answer ≡ Ok source) × FacesShow v cut_set source
  pub refused : (why : RefuseWhy) → refusal ≡ Some why → answer ≡ Err (why_of why)

abbrev pub CutSetsShow : Type 0
CutSetsShow = (v : View) → IsView v → (base : Base) → IsSeenIn v base.plane → (sources : SourceLayers) → SourcesShow v base.sources sources → (layers : List HeldLayer) (s : State) → StateShows v layers s → (from : Origin) →
    CutSetShows v (refused_cut base.sources layers from) (cut_set_of base layers from) (origin_region sources s from)

-- ---- clip and erase

abbrev pub ClippedPolygonsShow : Type 0
ClippedPolygonsShow = (v : View) → IsView v → (plane : Plane) → (layer : Layer) (l : StateLayer) → PolygonsShow v layer l → (cut_set : List ℕ) (source : Region) → FacesShow v cut_set source →
    MakesAlike v (One (IsCut keeps.Inside plane cut_set layer)) None (clip_layer (plane_of v) v.answers source l)

abbrev pub ErasedPolygonsShow : Type 0
ErasedPolygonsShow = (v : View) → IsView v → (plane : Plane) → (layer : Layer) (l : StateLayer) → PolygonsShow v layer l → (cut_set : List ℕ) (source : Region) → FacesShow v cut_set source →
    MakesAlike v (One (IsCut keeps.Outside plane cut_set layer)) None (erase_layer (plane_of v) v.answers source l)

-- ---- dissolve

abbrev pub DissolvedPolygonsShow : Type 0
DissolvedPolygonsShow = (v : View) → (layer : Layer) (l : StateLayer) → PolygonsShow v layer l → (spec : GroupSpec) (group_points : Bool) →
    MakesAlike v (One (IsGrouped spec layer)) (refused_dissolve spec group_points layer) (dissolve_layer (plane_of v) spec group_points l)

-- ---- clean

abbrev pub CleanedPolygonsShow : Type 0
CleanedPolygonsShow = (v : View) → IsView v → (plane : Plane) → IsSeenIn v plane → (layer : Layer) (l : StateLayer) → PolygonsShow v layer l → (rule : OverlapRule) (allow_empty : Bool) (gap : ℕ) →
    MakesAlike v (One (IsCleaned rule allow_empty gap plane layer)) None (clean_layer (plane_of v) v.answers rule allow_empty gap l)

-- ---- islands

-- features that are left empty stay, or go with all others without geometry
abbrev pub IslandsShow : Type 0
IslandsShow = (v : View) → IsView v → (plane : Plane) → IsSeenIn v plane → (layer : Layer) (l : StateLayer) → PolygonsShow v layer l → (least_area least_links : ℕ) (remove_empty : Bool) →
    MakesAlike v (One (IsMainland least_area least_links remove_empty plane layer)) None (islands_layer (plane_of v) v.answers least_area least_links remove_empty l)

-- ---- mosaic and explode

abbrev pub MosaicsShow : Type 0
MosaicsShow = (v : View) → IsView v → (plane : Plane) → IsSeenIn v plane → (layer : Layer) (l : StateLayer) → PolygonsShow v layer l → MakesAlike v (One (IsMosaicOf plane layer)) None (mosaic_layer (plane_of v) v.answers l)

abbrev pub ExplodedPolygonsShow : Type 0
ExplodedPolygonsShow = (v : View) → IsView v → (plane : Plane) → IsSeenIn v plane → (layer : Layer) (l : StateLayer) → PolygonsShow v layer l → MakesAlike v (One (IsExploded plane layer)) None (explode_layer (plane_of v) v.answers l)

-- ---- union

-- the union is put out for the first layer, and nothing for the others
abbrev pub UnitedLayersShow : Type 0
UnitedLayersShow = (v : View) → IsView v → (plane : Plane) → IsSeenIn v plane → (first second : Layer) (layers : List Layer) (ls : List StateLayer) → AllZip (PolygonsShow v) (first ∷ second ∷ layers) ls →
    (made : Layer) → IsUnited plane (first ∷ second ∷ layers) made → MergedShows v made (second ∷ layers) (united_layers (plane_of v) v.answers ls)

-- one layer alone is refused, and no others
abbrev pub LoneLayersAreRefused : Type 0
LoneLayersAreRefused = (v : View) (layers : List Layer) (ls : List StateLayer) → AllZip (LayerShows v) layers ls → RefusedAlike (refused_alone layers) (united_layers (plane_of v) v.answers ls)
