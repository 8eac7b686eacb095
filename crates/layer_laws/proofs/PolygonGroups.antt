-- Polygons that are dissolved.
use Rattle.std.proofs.Common.{◌≡◌, refl, sym, ap, ◌∙◌, subst, arith, ℕ, ◌<◌, Bool, not, ◌&&◌, List, [], ◌∷◌, length, map, get_or, All, nat_lt, Option, Some, Result, Ok, Err, if◌then◌else◌}
use Rattle.std.specs.List.{AllZip, flat_map}
use Rattle.std.proofs.lemmas.List.{length-map}
use Rattle.std.proofs.lemmas.List.Elements.{All-cons, All-head, All-map, All-nil, All-tail}
use Rattle.lists.specs.Lists.{numbers_where}
use Rattle.lists.proofs.Ascending.{ascending-IsAscending}
use Rattle.grid_base.specs.declared.kinds.Kind.{Kind}
use Rattle.grid_base.specs.declared.kinds.Kind.TheVariants as kinds
use Rattle.json_values.specs.Table.{RowValues, TableContent}
use Rattle.plane_model.specs.Snapped.{snapped}
use Rattle.table_terms.specs.Refusals.{first_refusal, on_ok}
use Rattle.table_terms.specs.declared.groupings.GroupSpec.{GroupSpec}
use Rattle.table_rows.specs.Columns.{cells}
use Rattle.table_rows.specs.Grouping.{field_places, group_rows, groups_by, listed_fields, refused_sums, table_of_groups}
use Rattle.table_rows.specs.Groups.{groups_of, keys_once}
use Rattle.table_rows.specs.Keys.{same_values}
use Rattle.table_rows.specs.Refusals.{refused_item}
use Rattle.table_rows.specs.declared.fault.TableWhy.{TableWhy}
use Rattle.table_rows.specs.declared.group.Grouped.{Grouped}
use Rattle.table_rows.proofs.Numbers.{numbers_where-below}
use Rattle.face_sets.specs.Sets.{IsSetOf}
use Rattle.face_sets.proofs.SetLemmas.{from_ascending, nat_order}
use Rattle.region_ops.specs.Dissolved.{set_at, union_of}
use Rattle.region_ops.proofs.Inner.{unions_inner}
use Rattle.region_model.specs.PolygonCommands.{dissolved}
use Rattle.region_laws.proofs.Sets.{dissolved_sets_are_followed}
use Rattle.run_plane.specs.declared.layer.Layer.{Layer}
use Rattle.run_plane.specs.declared.layer.Shape.{Shape}
use Rattle.run_state.specs.Stops.{table_refusal}
use Rattle.run_state.specs.declared.refusal.RefuseWhy.{RefuseWhy}
use Rattle.run_state.specs.declared.refusal.RefuseWhy.TheVariants.{NoGroupPoints}
use Rattle.run_tables.specs.Made.{One}
use Rattle.run_borders.specs.Dissolving.{IsGrouped, grouped_shapes, is_point, refused_dissolve}
use Rattle.run_state.specs.FaceSets.{face_shapes}
use Rattle.chain_model.specs.State.{StateLayer, region_at, regions_in}
use Rattle.chain_model.specs.Features.{Outputs, dissolve_layer, dissolved_shape, in_layer, just}
use Rattle.run_tables.proofs.Gathering.{answered}
use Rattle.layer_laws.specs.Shown.{View, FacesShow, LayerShows, PolygonShows, ShapeShows, plane_of}
use Rattle.layer_laws.specs.Reasons.{MakesAlike, RefusedAlike}
use Rattle.layer_laws.specs.Polygons.{DissolvedPolygonsShow, PolygonsShow}
use Rattle.layer_laws.proofs.PolygonSets.{all_inner, follow_regions, layer_sets, sets_counted, sets_of}
use Rattle.layer_laws.proofs.Taking.{shapes_in}
use Rattle.layer_laws.proofs.TableCommands.{alike_by, one_shows}

-- ---- groups have numbers of rows

members_below : (keys : List RowValues) → All (All (λ n. n < length keys)) (groups_of keys)
members_below keys = All-map (All (λ n. n < length keys)) (λ (key : RowValues). numbers_where (same_values key) keys) (keys_once keys) (λ k d l. numbers_where-below (same_values (get_or (keys_once keys) k d)) keys)

grouped_below : (t : TableContent) (spec : GroupSpec) (grouped : Grouped) → group_rows t spec ≡ Ok grouped → All (All (λ n. n < length t.rows)) grouped.groups
grouped_below t spec grouped e =
    let same : table_of_groups t spec (groups_by t spec.by) ≡ grouped =
    answered (first_refusal (refused_item t.names [] 0 (listed_fields spec)) (refused_sums t.rows (field_places t spec.sum) (groups_by t spec.by))) (table_of_groups t spec (groups_by t spec.by)) grouped e in
    let keys : List RowValues = map (cells t.names spec.by) t.rows in
    let counted : length keys ≡ length t.rows = length-map t.rows (cells t.names spec.by) in
    subst (λ (g : Grouped). All (All (λ n. n < length t.rows)) g.groups) same (subst (λ (c : ℕ). All (All (λ n. n < c)) (groups_of keys)) counted (members_below keys))

-- ---- the shapes of groups

-- the layer as one of polygons
abbrev polygon_layer : StateLayer → StateLayer
polygon_layer l = record l { kind = kinds.Polygon }

module _ (v : View) (layer : Layer) (l : StateLayer) (h : PolygonsShow v layer l) where
  abbrev sets : List (List ℕ)
  sets = sets_of layer

  is_polygon_layer : l ≡ polygon_layer l
  is_polygon_layer = let e = h.shows.kind ∙ h.polygons in λ i. record l { kind = e i }

  union_shows : (group : List ℕ) → All (λ n. n < length sets) group → FacesShow v (union_of sets group) (dissolved (region_at l) group)
  union_shows group below = record {
    rising = from_ascending (union_of sets group) (ascending-IsAscending nat_lt nat_order (flat_map (set_at sets) group));
    inner = All-head (IsSetOf v.faces) (union_of sets group) [] (unions_inner v.faces sets (group ∷ []) (all_inner v sets (regions_in l) (layer_sets v layer l h)));
    follows = dissolved_sets_are_followed (snapped v.drawing) v.arcs v.label sets (region_at l) (group ∷ []) (follow_regions v layer l h sets (layer_sets v layer l h))
        (All-cons (All (λ n. n < length sets)) group [] below (All-nil (All (λ n. n < length sets)))) 0 (omega arith);
  }

  unions_show : (groups : List (List ℕ)) → All (All (λ n. n < length sets)) groups → AllZip (PolygonShows v) (face_shapes (map (union_of sets) groups)) (map (dissolved_shape (plane_of v) (polygon_layer l)) groups)
  unions_show [] below = tt
  unions_show (group ∷ groups) below = (
    record { set = union_of sets group; region = dissolved (region_at l) group; has = refl; is = refl; shows = union_shows group (All-head (All (λ n. n < length sets)) group groups below) },
    unions_show groups (All-tail (All (λ n. n < length sets)) group groups below),
  )

  -- ---- layers

  abbrev grouped_layer : Grouped → StateLayer
  grouped_layer g = record (polygon_layer l) { table = g.table; shapes = map (dissolved_shape (plane_of v) (polygon_layer l)) g.groups }

  abbrev grouped_by : Result Grouped TableWhy → Outputs
  grouped_by answer = on_ok (in_layer answer) (λ (g : Grouped). just (grouped_layer g))

  grouped_shows : (spec : GroupSpec) (made : Layer) → IsGrouped spec layer made → (m : StateLayer) × (grouped_by (group_rows layer.table spec) ≡ just m) × LayerShows v made m
  grouped_shows spec made is =
      let counted : length layer.table.rows ≡ length sets = sym layer.each ∙ sym (sets_counted layer) in
      let below : All (All (λ n. n < length sets)) is.grouped.groups = subst (λ (c : ℕ). All (All (λ n. n < c)) is.grouped.groups) counted (grouped_below layer.table spec is.grouped is.answers) in
      let shapes : List Shape = grouped_shapes layer.kind layer.shapes.items is.grouped.groups in
      let are : face_shapes (map (union_of sets) is.grouped.groups) ≡ shapes = ap (λ (k : Kind). grouped_shapes k layer.shapes.items is.grouped.groups) (sym h.polygons) in
      let show : AllZip (ShapeShows v layer.kind) shapes (grouped_layer is.grouped).shapes =
      subst (λ (k : Kind). AllZip (ShapeShows v k) shapes (grouped_layer is.grouped).shapes) (sym h.polygons)
      (subst (λ (parts : List Shape). AllZip (PolygonShows v) parts (grouped_layer is.grouped).shapes) are (unions_show is.grouped.groups below)) in (
        grouped_layer is.grouped,
        ap grouped_by is.answers,
        record {
          name = h.shows.name ∙ sym is.name;
          kind = sym (is.kind ∙ h.polygons);
          table = sym is.table;
          shapes = shapes_in v layer made shapes (grouped_layer is.grouped).shapes show is.kind is.shapes;
        },
      )

  groups_refused : (answer : Result Grouped TableWhy) → RefusedAlike (table_refusal answer) (grouped_by answer)
  groups_refused (Ok g) = (grouped_layer g ∷ [], refl)
  groups_refused (Err why) = refl

  groups_alike : (spec : GroupSpec) → MakesAlike v (One (IsGrouped spec layer)) (table_refusal (group_rows layer.table spec)) (grouped_by (group_rows layer.table spec))
  groups_alike spec = record {
    shows = one_shows v (IsGrouped spec layer) (grouped_by (group_rows layer.table spec)) (grouped_shows spec);
    refused = groups_refused (group_rows layer.table spec);
  }

  -- the reason of a run, and the state's answer, where both have polygons
  refusal_by : (spec : GroupSpec) (group_points : Bool) → refused_dissolve spec group_points layer ≡ table_refusal (group_rows layer.table spec)
  refusal_by spec group_points = ap (λ (k : Kind). if is_point k && not group_points then Some NoGroupPoints else table_refusal (group_rows layer.table spec)) h.polygons

  answer_by : (spec : GroupSpec) (group_points : Bool) → dissolve_layer (plane_of v) spec group_points l ≡ grouped_by (group_rows l.table spec)
  answer_by spec group_points = ap (dissolve_layer (plane_of v) spec group_points) is_polygon_layer

pub dissolved_polygons_show : DissolvedPolygonsShow
dissolved_polygons_show v layer l h spec group_points =
    subst (λ (refusal : Option RefuseWhy). MakesAlike v (One (IsGrouped spec layer)) refusal (dissolve_layer (plane_of v) spec group_points l)) (sym (refusal_by v layer l h spec group_points))
    (subst (λ (answer : Outputs). MakesAlike v (One (IsGrouped spec layer)) (table_refusal (group_rows layer.table spec)) answer) (sym (answer_by v layer l h spec group_points))
    (alike_by v (λ (r : Result Grouped TableWhy). One (IsGrouped spec layer)) (grouped_by v layer l h) (group_rows layer.table spec) (group_rows l.table spec)
    (ap (λ (t : TableContent). group_rows t spec) h.shows.table) (groups_alike v layer l h spec)))
