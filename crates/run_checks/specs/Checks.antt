-- Why a command that changes layers is refused before it works: for its target, its origin, the kinds of its layers, or
-- their number. The first of these that applies is told.
use Rattle.std.specs.Prelude.{Bool, true, false, not, ◌||◌, List, [], ◌∷◌, Option, Some, None, Result, Ok, Err, if◌then◌else◌}
use Rattle.std.specs.List.{list_all}
use Rattle.grid_base.specs.declared.kinds.Kind.{Kind}
use Rattle.grid_base.specs.declared.kinds.Kind.TheVariants as kinds
use Rattle.job_terms.specs.declared.job.JointAction.{JointAction}
use Rattle.job_terms.specs.declared.job.JointAction.TheVariants as joint
use Rattle.job_terms.specs.declared.job.LayerAction.{LayerAction}
use Rattle.job_terms.specs.declared.job.LayerAction.TheVariants as action
use Rattle.job_terms.specs.declared.job.Origin.{Origin}
use Rattle.job_terms.specs.declared.job.Origin.TheVariants as origin
use Rattle.job_terms.specs.declared.job.Target.{Target}
use Rattle.run_plane.specs.declared.layer.Layer.{Layer}
use Rattle.run_state.specs.Origins.{Owned, one_layer, origin_layers}
use Rattle.run_state.specs.Stops.{refusal_of}
use Rattle.run_state.specs.Targets.{has_target}
use Rattle.run_state.specs.declared.refusal.RefuseWhy.{RefuseWhy}
use Rattle.run_state.specs.declared.refusal.RefuseWhy.TheVariants.{NoLayer, WrongKind, OneLayer}
use Rattle.run_state.specs.declared.state.HeldLayer.{HeldLayer}

-- ---- the target, and the origin

abbrev pub refused_target : Target → List HeldLayer → Option RefuseWhy
refused_target t layers = if has_target t layers then None else Some NoLayer

abbrev pub is_polygon : Kind → Bool
is_polygon kinds.Polygon = true
is_polygon _ = false

-- what a command cuts by is one layer of polygons
abbrev pub refused_polygons : Result Layer RefuseWhy → Option RefuseWhy
refused_polygons (Ok layer) = if is_polygon layer.kind then None else Some WrongKind
refused_polygons (Err why) = Some why

-- or a box, which always is there
abbrev pub refused_cut : Owned → List HeldLayer → Origin → Option RefuseWhy
refused_cut sources layers (origin.Layer name) = refused_polygons (one_layer (origin_layers sources layers (origin.Layer name)))
refused_cut sources layers (origin.Source n) = refused_polygons (one_layer (origin_layers sources layers (origin.Source n)))
refused_cut sources layers (origin.Area n) = None

abbrev pub refused_for_origin : Owned → List HeldLayer → LayerAction → Option RefuseWhy
refused_for_origin sources layers (action.Clip from) = refused_cut sources layers from
refused_for_origin sources layers (action.Erase from) = refused_cut sources layers from
refused_for_origin sources layers (action.Join from spec) = refusal_of (one_layer (origin_layers sources layers from))
refused_for_origin sources layers (action.SpatialJoin from spec) = refusal_of (one_layer (origin_layers sources layers from))
refused_for_origin sources layers _ = None

-- ---- the kinds of the target's layers

abbrev pub has_geometry : Kind → Bool
has_geometry kinds.Table = false
has_geometry _ = true

-- the command takes layers of this kind
abbrev pub takes : LayerAction → Kind → Bool
takes (action.Clip from) k = has_geometry k
takes (action.Erase from) k = has_geometry k
takes (action.Clean rule allow_empty gap) k = is_polygon k
takes action.Mosaic k = is_polygon k
takes action.InnerLines k = is_polygon k
takes (action.Lines fields) k = is_polygon k
takes action.Explode k = has_geometry k
takes (action.FilterIslands least_area least_links remove_empty) k = is_polygon k
takes (action.Filter test invert remove_empty) k = not remove_empty || has_geometry k
takes (action.Dissolve spec group_points) k = true
takes (action.Join from spec) k = true
takes (action.SpatialJoin from spec) k = true
takes (action.FilterFields fields) k = true
takes (action.RenameFields pairs) k = true
takes (action.Split field) k = true
takes (action.Each assigns) k = true
takes (action.Sort key descending) k = true
takes (action.Uniq key most invert) k = true

abbrev pub takes_all : LayerAction → List Layer → Bool
takes_all a layers = list_all (λ (layer : Layer). takes a layer.kind) layers

-- polygons are joined by place with points, and points with polygons; an origin of another kind with no layers
abbrev pub joins_with : Kind → Kind → Bool
joins_with kinds.Polygon kinds.Point = true
joins_with kinds.Point kinds.Polygon = true
joins_with _ _ = false

abbrev pub joins_all : Kind → List Layer → Bool
joins_all source layers = list_all (λ (layer : Layer). joins_with source layer.kind) layers

abbrev pub refused_pairs : Result Layer RefuseWhy → List Layer → Option RefuseWhy
refused_pairs (Ok source) layers = if joins_all source.kind layers then None else Some WrongKind
refused_pairs (Err why) layers = Some why

-- `ts` are the layers of the target
abbrev pub refused_kinds : Owned → List HeldLayer → LayerAction → List Layer → Option RefuseWhy
refused_kinds sources layers (action.SpatialJoin from spec) ts = refused_pairs (one_layer (origin_layers sources layers from)) ts
refused_kinds sources layers a ts = if takes_all a ts then None else Some WrongKind

abbrev pub same_kind : Kind → Kind → Bool
same_kind kinds.Polygon kinds.Polygon = true
same_kind kinds.Line kinds.Line = true
same_kind kinds.Point kinds.Point = true
same_kind kinds.Table kinds.Table = true
same_kind _ _ = false

abbrev pub first_kind : List Layer → Kind
first_kind [] = kinds.Table
first_kind (layer ∷ layers) = layer.kind

-- a command that changes layers together takes layers of this kind, where the first of them is of the kind `first`
abbrev pub takes_beside : JointAction → Kind → Kind → Bool
takes_beside (joint.MergeLayers force) first k = same_kind first k
takes_beside joint.Union first k = is_polygon k

abbrev pub takes_together : JointAction → Kind → List Layer → Bool
takes_together a first layers = list_all (λ (layer : Layer). takes_beside a first layer.kind) layers

abbrev pub refused_mixture : JointAction → List Layer → Option RefuseWhy
refused_mixture a layers = if takes_together a (first_kind layers) layers then None else Some WrongKind

-- ---- how many layers the target has

abbrev pub refused_alone : List Layer → Option RefuseWhy
refused_alone (layer ∷ []) = Some OneLayer
refused_alone _ = None

-- a union is of several layers
abbrev pub refused_number : JointAction → List Layer → Option RefuseWhy
refused_number (joint.MergeLayers force) layers = None
refused_number joint.Union layers = refused_alone layers
