-- One step of a run: the state after a command, or its first refusal.
use Rattle.std.specs.Prelude.{ℕ, Bool, true, not, ◌||◌, nat_lt, List, [], ◌∷◌, map, length, Option, Some, None, Result, Ok, Err, if◌then◌else◌, unwrap_or}
use Rattle.std.specs.Str.{bytes_eq}
use Rattle.lists.specs.Lists.{each_once}
use Rattle.grid_base.specs.declared.kinds.Kind.{Kind}
use Rattle.grid_base.specs.declared.kinds.Kind.TheVariants as kind
use Rattle.geojson_io.specs.Layers.{same_kind}
use Rattle.table_terms.specs.Names.{Text}
use Rattle.table_terms.specs.Refusals.{unless, first_refusal, on_ok}
use Rattle.job_terms.specs.declared.job.Action.{Action}
use Rattle.job_terms.specs.declared.job.Action.TheVariants as action
use Rattle.job_terms.specs.declared.job.LayerAction.TheVariants as each
use Rattle.job_terms.specs.declared.job.JointAction.TheVariants as joint
use Rattle.job_terms.specs.declared.job.Command.{Command}
use Rattle.job_terms.specs.declared.job.Origin.{Origin}
use Rattle.job_terms.specs.declared.job.Origin.TheVariants as origin
use Rattle.job_terms.specs.declared.job.OutForm.{OutForm}
use Rattle.job_terms.specs.declared.job.OutForm.TheVariants as form
use Rattle.region_model.specs.Region.{Region, any_of, box}
use Rattle.region_model.specs.Answers.{Plane, Answers}
use Rattle.chain_model.specs.Outcome.{RefuseWhy, many_layers, wrong_kind, name_twice}
use Rattle.chain_model.specs.State.{State, StateLayer, regions_in}
use Rattle.chain_model.specs.Targets.{SourceLayers, selected, one_layer, origin_layers, layer_names, layers_at, need_kinds, with_outputs}
use Rattle.chain_model.specs.Features

-- ---- origins

-- any of the regions of a polygon layer's features
abbrev pub layer_region : StateLayer → Result Region RefuseWhy
layer_region l = if same_kind l.kind kind.Polygon then Ok (any_of (regions_in l)) else Err wrong_kind

-- the region that clips or erases: a layer's, or a box
abbrev pub origin_region : SourceLayers → State → Origin → Result Region RefuseWhy
origin_region sources s (origin.Area b) = Ok (box b)
origin_region sources s o = on_ok (one_layer (origin_layers sources s o)) layer_region

-- what a join by place takes: a layer of polygons or of points
abbrev pub polygons_or_points : StateLayer → Result StateLayer RefuseWhy
polygons_or_points l = if same_kind l.kind kind.Polygon || same_kind l.kind kind.Point then Ok l else Err wrong_kind

abbrev pub place_origin : SourceLayers → State → Origin → Result StateLayer RefuseWhy
place_origin sources s o = on_ok (one_layer (origin_layers sources s o)) polygons_or_points

-- ---- kinds

abbrev pub has_geometry : Kind → Bool
has_geometry k = not (same_kind k kind.Table)

abbrev pub is_polygon : Kind → Bool
is_polygon k = same_kind k kind.Polygon

-- the kinds that a command takes, among layers of which the first has the kind `first`
abbrev pub takes : Action → Kind → Kind → Bool
takes (action.Each (each.Clip from)) first k = has_geometry k
takes (action.Each (each.Erase from)) first k = has_geometry k
takes (action.Each (each.Clean rule allow_empty gap)) first k = is_polygon k
takes (action.Each each.Mosaic) first k = is_polygon k
takes (action.Each each.InnerLines) first k = is_polygon k
takes (action.Each (each.Lines fields)) first k = is_polygon k
takes (action.Each each.Explode) first k = has_geometry k
takes (action.Each (each.Filter test invert remove_empty)) first k = not remove_empty || has_geometry k
takes (action.Each (each.FilterIslands least_area least_links remove_empty)) first k = is_polygon k
takes (action.Each (each.Dissolve spec group_points)) first k = true
takes (action.Each (each.Join from spec)) first k = true
takes (action.Each (each.SpatialJoin from spec)) first k = true
takes (action.Each (each.FilterFields fields)) first k = true
takes (action.Each (each.RenameFields pairs)) first k = true
takes (action.Each (each.Split field)) first k = true
takes (action.Each (each.Each assigns)) first k = true
takes (action.Each (each.Sort key descending)) first k = true
takes (action.Each (each.Uniq key most invert)) first k = true
takes (action.Together (joint.MergeLayers force)) first k = same_kind first k
takes (action.Together joint.Union) first k = is_polygon k
takes (action.Write to standard form) first k = true

-- ---- outputs

-- the outputs for each layer, in order, up to the first refusal
abbrev pub each_layer : (StateLayer → Features.Outputs) → List StateLayer → Result (List (List StateLayer)) RefuseWhy
each_layer f [] = Ok []
each_layer f (l ∷ ls) = on_ok (f l) (λ (out : List StateLayer). on_ok (each_layer f ls) (λ (outs : List (List StateLayer)). Ok (out ∷ outs)))

-- by the region of an origin
abbrev pub by_origin : SourceLayers → State → Origin → (Region → StateLayer → Features.Outputs) → List StateLayer → Result (List (List StateLayer)) RefuseWhy
by_origin sources s o f ls = on_ok (origin_region sources s o) (λ (r : Region). each_layer (f r) ls)

-- the outputs for the targets
abbrev pub outputs_of : Plane → Answers → SourceLayers → State → Action → List StateLayer → Result (List (List StateLayer)) RefuseWhy
outputs_of P A sources s (action.Each (each.Clip o)) ls = by_origin sources s o (Features.clip_layer P A) ls
outputs_of P A sources s (action.Each (each.Erase o)) ls = by_origin sources s o (Features.erase_layer P A) ls
outputs_of P A sources s (action.Each (each.Dissolve spec group_points)) ls = each_layer (Features.dissolve_layer P spec group_points) ls
outputs_of P A sources s (action.Each (each.Clean rule allow_empty gap)) ls = each_layer (Features.clean_layer P A rule allow_empty gap) ls
outputs_of P A sources s (action.Each each.Mosaic) ls = each_layer (Features.mosaic_layer P A) ls
outputs_of P A sources s (action.Each each.InnerLines) ls = each_layer (Features.inner_lines_layer P A) ls
outputs_of P A sources s (action.Each (each.Lines fields)) ls = each_layer (Features.lines_layer P A fields) ls
outputs_of P A sources s (action.Each each.Explode) ls = each_layer (Features.explode_layer P A) ls
outputs_of P A sources s (action.Each (each.Join o spec)) ls = on_ok (one_layer (origin_layers sources s o)) (λ (l : StateLayer). each_layer (Features.join_layer l spec) ls)
outputs_of P A sources s (action.Each (each.SpatialJoin o spec)) ls = on_ok (place_origin sources s o) (λ (l : StateLayer). each_layer (Features.place_join_layer A l spec) ls)
outputs_of P A sources s (action.Each (each.Filter test invert remove_empty)) ls = each_layer (Features.filter_layer P A test invert remove_empty) ls
outputs_of P A sources s (action.Each (each.FilterFields fields)) ls = each_layer (Features.filter_fields_layer fields) ls
outputs_of P A sources s (action.Each (each.RenameFields pairs)) ls = each_layer (Features.rename_fields_layer pairs) ls
outputs_of P A sources s (action.Each (each.Split field)) ls = each_layer (Features.split_layer field) ls
outputs_of P A sources s (action.Each (each.Each assigns)) ls = each_layer (Features.assign_layer assigns) ls
outputs_of P A sources s (action.Each (each.Sort key descending)) ls = each_layer (Features.sort_layer key descending) ls
outputs_of P A sources s (action.Each (each.Uniq key most invert)) ls = each_layer (Features.uniq_layer key most invert) ls
outputs_of P A sources s (action.Each (each.FilterIslands least_area least_links remove_empty)) ls = each_layer (Features.islands_layer P A least_area least_links remove_empty) ls
outputs_of P A sources s (action.Together (joint.MergeLayers force)) ls = Features.merged_layers force ls
outputs_of P A sources s (action.Together joint.Union) ls = Features.united_layers P A ls
outputs_of P A sources s (action.Write to standard form) ls = Ok []

-- ---- refusals: the origin, then the kinds of the targets, then the layers one by one, then too many layers

abbrev pub refusal_of : {T E : Type 0} → Result T E → Option E
refusal_of (Ok v) = None
refusal_of (Err why) = Some why

abbrev pub refused_for_origin : SourceLayers → State → Action → Option RefuseWhy
refused_for_origin sources s (action.Each (each.Clip o)) = refusal_of (origin_region sources s o)
refused_for_origin sources s (action.Each (each.Erase o)) = refusal_of (origin_region sources s o)
refused_for_origin sources s (action.Each (each.Join o spec)) = refusal_of (one_layer (origin_layers sources s o))
refused_for_origin sources s (action.Each (each.SpatialJoin o spec)) = refusal_of (place_origin sources s o)
refused_for_origin sources s _ = None

abbrev pub first_kind : List StateLayer → Kind
first_kind [] = kind.Table
first_kind (l ∷ ls) = l.kind

abbrev pub refused_kinds : Action → List StateLayer → Option RefuseWhy
refused_kinds a ls = need_kinds (takes a (first_kind ls)) ls

-- a join by place joins points with polygons, and polygons with points
abbrev pub other_kind : Kind → Kind
other_kind k = if same_kind k kind.Polygon then kind.Point else kind.Polygon

abbrev pub refused_pairs : Result StateLayer RefuseWhy → List StateLayer → Option RefuseWhy
refused_pairs (Ok source) ls = need_kinds (same_kind (other_kind source.kind)) ls
refused_pairs (Err why) ls = Some why

abbrev pub refused_beside : SourceLayers → State → Action → List StateLayer → Option RefuseWhy
refused_beside sources s (action.Each (each.SpatialJoin o spec)) ls = refused_pairs (place_origin sources s o) ls
refused_beside sources s _ ls = None

-- an output has the target's name, or that of `name=`
abbrev pub titled : Option Text → StateLayer → StateLayer
titled name l = record l { name = unwrap_or name l.name }

-- the state after a command other than an output
abbrev pub changed : Plane → Answers → SourceLayers → State → Command → List ℕ → Result State RefuseWhy
changed P A sources s c ns =
    unless (first_refusal (refused_for_origin sources s c.action) (first_refusal (refused_kinds c.action (layers_at s ns)) (refused_beside sources s c.action (layers_at s ns))))
    (on_ok (outputs_of P A sources s c.action (layers_at s ns)) (λ (outs : List (List StateLayer)).
    with_outputs s c.keep ns (map (map (titled c.name)) outs)))

-- ---- what an output writes

pub record Written : Type 0 where
  pub to : Text
  -- the standard stream is meant
  pub standard : Bool
  pub form : OutForm
  pub layers : List StateLayer

-- GeoJSON and comma-separated text hold one layer, TopoJSON layers of distinct names
abbrev pub refused_write : OutForm → List StateLayer → Option RefuseWhy
refused_write form.Topo ls = if nat_lt (length (each_once bytes_eq (layer_names ls))) (length ls) then Some name_twice else None
refused_write _ ls = if nat_lt 1 (length ls) then Some many_layers else None

-- ---- the step of a command

pub record Stepped : Type 0 where
  pub state : State
  pub written : Option Written

abbrev pub by_action : Plane → Answers → SourceLayers → State → Command → List ℕ → Action → Result Stepped RefuseWhy
by_action P A sources s c ns (action.Write to standard form) =
    unless (refused_write form (layers_at s ns)) (Ok (record { state = s; written = Some (record { to = to; standard = standard; form = form; layers = layers_at s ns }) }))
by_action P A sources s c ns _ = on_ok (changed P A sources s c ns) (λ (t : State). Ok (record { state = t; written = None }))

-- first the target
abbrev pub step : Plane → Answers → SourceLayers → State → Command → Result Stepped RefuseWhy
step P A sources s c = on_ok (selected s c.target) (λ (ns : List ℕ). by_action P A sources s c ns c.action)
