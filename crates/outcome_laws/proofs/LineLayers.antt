-- Commands on layers of lines and points, and those that put out lines or join by place, put out the same by answers
-- that are alike.
use Rattle.std.proofs.Common.{◌≡◌, refl, ℕ, Bool, true, false, List, [], ◌∷◌, map, filter, codes, Option, Some, None, Ok, Err}
use Rattle.std.specs.Prelude.{◌&&◌, not, if◌then◌else◌}
use Rattle.std.specs.List.{flat_map}
use Rattle.plane_model.specs.Points.{GridPoint, Path}
use Rattle.grid_base.specs.declared.kinds.Kind.{Kind}
use Rattle.grid_base.specs.declared.kinds.Kind.TheVariants as kind
use Rattle.geojson_io.specs.Layers.{same_kind}
use Rattle.json_values.specs.Table.{TableContent}
use Rattle.table_terms.specs.Names.{Text}
use Rattle.table_terms.specs.Refusals.{on_ok, unless}
use Rattle.join_terms.specs.declared.calculations.CalcSpec.{CalcSpec}
use Rattle.table_terms.specs.declared.groupings.GroupSpec.{GroupSpec}
use Rattle.table_rows.specs.Grouping.{group_rows}
use Rattle.table_rows.specs.Refusals.{refused_item}
use Rattle.table_rows.specs.declared.fault.TableWhy.{TableWhy}
use Rattle.table_rows.specs.declared.group.Grouped.{Grouped}
use Rattle.spatial_join.specs.Joined.{join_matched}
use Rattle.region_model.specs.Region.{Region}
use Rattle.region_model.specs.Answers.{Answers, Plane}
use Rattle.region_model.specs.LineCommands.{SidedArc, clipped_path, differs, erased_path, inner_lines, is_inner, outer_and_inner}
use Rattle.chain_model.specs.Features.{Outputs, clip_layer, clip_shape, dissolve_layer, dissolved_shape, erase_layer, erase_shape, in_layer, inner_lines_layer, just, line_layer, line_row, lines_layer, matches_of, place_join_layer, with_table}
use Rattle.chain_model.specs.Outcome.{no_group_points}
use Rattle.chain_model.specs.State.{Shape, StateLayer, region, paths, points, no_shape, paths_of, points_of, region_of, regions_in, shape_at}
use Rattle.outcome_laws.proofs.Every.{Every, SameAt, every_all, every_by, every_filter, every_flat, every_map, same_flat, same_map}
use Rattle.outcome_laws.proofs.ArcSteps.{Goes}
use Rattle.outcome_laws.proofs.Planes.{IsVertex, IsWalked}
use Rattle.outcome_laws.proofs.Alike.{AreAlike}
use Rattle.outcome_laws.proofs.Lines.{around_same, clipped_goes, clipped_points_same, clipped_same, dissolved_go, erased_goes, erased_points_same, erased_same, inner_go, lists_same, outer_go, sided_same}
use Rattle.outcome_laws.proofs.Shapes.{AreOne, LayerIsOn, OutputsAreOn, ShapeIsOn, answered_on, one_of, points_on, shapes_on, without_on, without_same}

-- ## Layers that are made of paths and groups, whatever the answers

module _ (P : Plane) where
  paths_on : (l : StateLayer) (table : TableContent) (ps : List Path) → Every (Goes P.links) ps → LayerIsOn P (line_layer l table ps)
  paths_on l table ps h = every_map (Goes P.links) (ShapeIsOn P) (λ (p : Path). paths (p ∷ [])) (λ p g. (g, tt)) ps h

  dissolved_on : IsWalked P → (l : StateLayer) → LayerIsOn P l → (members : List ℕ) → ShapeIsOn P (dissolved_shape P l members)
  dissolved_on walked l h members = go l.kind
    where
      go : (k : Kind) → ShapeIsOn P (dissolved_shape P (record l { kind = k }) members)
      go kind.Polygon = tt
      go kind.Line = dissolved_go P walked (flat_map paths_of (map (shape_at l) members))
      go kind.Point = every_flat (ShapeIsOn P) (IsVertex P) points_of (points_on P) (map (shape_at l) members) (shapes_on P l h members)
      go kind.Table = tt

  pub dissolve_one : IsWalked P → (spec : GroupSpec) (group_points : Bool) → AreOne P (dissolve_layer P spec group_points) (dissolve_layer P spec group_points)
  dissolve_one walked spec group_points = one_of P (dissolve_layer P spec group_points) (λ l h. go l h (same_kind l.kind kind.Point && not group_points))
    where
      groups : StateLayer → Grouped → Outputs
      groups l g = just (record l { table = g.table; shapes = map (dissolved_shape P l) g.groups })

      go : (l : StateLayer) → LayerIsOn P l → (b : Bool) → OutputsAreOn P (if b then Err no_group_points else on_ok (in_layer (group_rows l.table spec)) (groups l))
      go l h true = tt
      go l h false = answered_on P (group_rows l.table spec) (groups l)
          (λ g. (every_map (λ ns. Unit {0}) (ShapeIsOn P) (dissolved_shape P l) (λ ns u. dissolved_on walked l h ns) g.groups (every_all (λ ns. Unit {0}) (λ ns. tt) g.groups), tt))

module _ (P : Plane) (A B : Answers) (alike : AreAlike P A B) where
  -- ## Clip and erase

  clipped_on : (source : Region) (s : Shape) → ShapeIsOn P s → ShapeIsOn P (clip_shape A source s)
  clipped_on source (region r) h = tt
  clipped_on source (paths ps) h = every_flat (Goes P.links) (Goes P.links) (clipped_path A source) (clipped_goes P A source) ps h
  clipped_on source (points ps) h = every_filter (IsVertex P) (A.inside source) ps h
  clipped_on source no_shape h = tt

  erased_on : (source : Region) (s : Shape) → ShapeIsOn P s → ShapeIsOn P (erase_shape A source s)
  erased_on source (region r) h = tt
  erased_on source (paths ps) h = every_flat (Goes P.links) (Goes P.links) (erased_path A source) (erased_goes P A source) ps h
  erased_on source (points ps) h = every_filter (IsVertex P) (λ (p : GridPoint). not (A.inside source p)) ps h
  erased_on source no_shape h = tt

  clip_same : (source : Region) (s : Shape) → ShapeIsOn P s → clip_shape A source s ≡ clip_shape B source s
  clip_same source (region r) h = refl
  clip_same source (paths ps) h = λ i. paths (same_flat (clipped_path A source) (clipped_path B source) ps (every_by (Goes P.links) (SameAt (clipped_path A source) (clipped_path B source)) (clipped_same P A B alike source) ps h) i)
  clip_same source (points ps) h = λ i. points (clipped_points_same P A B alike source ps h i)
  clip_same source no_shape h = refl

  erase_same : (source : Region) (s : Shape) → ShapeIsOn P s → erase_shape A source s ≡ erase_shape B source s
  erase_same source (region r) h = refl
  erase_same source (paths ps) h = λ i. paths (same_flat (erased_path A source) (erased_path B source) ps (every_by (Goes P.links) (SameAt (erased_path A source) (erased_path B source)) (erased_same P A B alike source) ps h) i)
  erase_same source (points ps) h = λ i. points (erased_points_same P A B alike source ps h i)
  erase_same source no_shape h = refl

  -- shapes that are cut one by one, and those left that are not empty
  abbrev cut_shapes : (Shape → Shape) → StateLayer → StateLayer
  cut_shapes cut l = record l { shapes = map cut l.shapes }

  cut_same : (f g : Shape → Shape) → ((s : Shape) → ShapeIsOn P s → f s ≡ g s) → (l : StateLayer) → LayerIsOn P l → cut_shapes f l ≡ cut_shapes g l
  cut_same f g same l h = λ i. record l { shapes = same_map f g l.shapes (every_by (ShapeIsOn P) (SameAt f g) same l.shapes h) i }

  pub clip_one : (source : Region) → AreOne P (clip_layer P A source) (clip_layer P B source)
  clip_one source = record {
    same = λ l h i. just (without_same P A B alike i (cut_same (clip_shape A source) (clip_shape B source) (clip_same source) l h i));
    on = λ l h. (without_on P A (cut_shapes (clip_shape A source) l) (every_map (ShapeIsOn P) (ShapeIsOn P) (clip_shape A source) (clipped_on source) l.shapes h), tt);
  }

  pub erase_one : (source : Region) → AreOne P (erase_layer P A source) (erase_layer P B source)
  erase_one source = record {
    same = λ l h i. just (without_same P A B alike i (cut_same (erase_shape A source) (erase_shape B source) (erase_same source) l h i));
    on = λ l h. (without_on P A (cut_shapes (erase_shape A source) l) (every_map (ShapeIsOn P) (ShapeIsOn P) (erase_shape A source) (erased_on source) l.shapes h), tt);
  }

  -- ## Lines between polygons

  abbrev inner_of : StateLayer → List Path → Outputs
  inner_of l arcs = just (line_layer l (record { names = []; rows = map (λ (p : Path). []) arcs }) arcs)

  pub inner_one : IsWalked P → AreOne P (inner_lines_layer P A) (inner_lines_layer P B)
  inner_one walked = record {
    same = λ l h i. inner_of l (map (λ (a : SidedArc). a.points) (filter is_inner (sided_same P A B alike walked (regions_in l) i)));
    on = λ l h. (paths_on P l (record { names = []; rows = map (λ (p : Path). []) (inner_lines P A (regions_in l)) }) (inner_lines P A (regions_in l)) (inner_go P walked A (regions_in l)), tt);
  }

  abbrev lines_of : List Text → StateLayer → List SidedArc → Outputs
  lines_of fields l arcs = in_layer (unless (refused_item l.table.names [] 0 fields)
      (Ok (line_layer l (record { names = codes "TYPE" ∷ codes "RANK" ∷ []; rows = map (line_row l.table fields) arcs }) (map (λ (a : SidedArc). a.points) arcs) ∷ [])))

  pub lines_one : IsWalked P → (fields : List Text) → AreOne P (lines_layer P A fields) (lines_layer P B fields)
  lines_one walked fields = record {
    same = λ l h i. lines_of fields l (filter differs (sided_same P A B alike walked (regions_in l) i));
    on = λ l h. go l (refused_item l.table.names [] 0 fields);
  }
    where
      table : StateLayer → TableContent
      table l = record { names = codes "TYPE" ∷ codes "RANK" ∷ []; rows = map (line_row l.table fields) (outer_and_inner P A (regions_in l)) }

      lines : StateLayer → List Path
      lines l = map (λ (a : SidedArc). a.points) (outer_and_inner P A (regions_in l))

      go : (l : StateLayer) (why : Option TableWhy) → OutputsAreOn P (in_layer (unless why (Ok (line_layer l (table l) (lines l) ∷ []))))
      go l (Some why) = tt
      go l None = (paths_on P l (table l) (lines l) (every_map (λ (a : SidedArc). Goes P.links a.points) (Goes P.links) (λ (a : SidedArc). a.points) (λ a g. g) (outer_and_inner P A (regions_in l)) (outer_go P walked A (regions_in l))), tt)

  -- ## Joins by place

  matches_same : (others : List Shape) → Every (ShapeIsOn P) others → (s : Shape) → ShapeIsOn P s → matches_of A others s ≡ matches_of B others s
  matches_same others there (region r) h = lists_same P A B alike (map points_of others) r (every_map (ShapeIsOn P) (Every (IsVertex P)) points_of (points_on P) others there)
  matches_same others there (paths ps) h = refl
  matches_same others there (points ps) h = around_same P A B alike (map region_of others) ps h
  matches_same others there no_shape h = refl

  pub place_one : (source : StateLayer) → LayerIsOn P source → (spec : CalcSpec) → AreOne P (place_join_layer A source spec) (place_join_layer B source spec)
  place_one source there spec = record {
    same = λ l h i. with_table l (join_matched l.table source.table (same_map (matches_of A source.shapes) (matches_of B source.shapes) l.shapes (every_by (ShapeIsOn P) (SameAt (matches_of A source.shapes) (matches_of B source.shapes)) (matches_same source.shapes there) l.shapes h) i) spec);
    on = λ l h. answered_on P (join_matched l.table source.table (map (matches_of A source.shapes) l.shapes) spec) (λ (t : TableContent). just (record l { table = t })) (λ t. (h, tt));
  }
