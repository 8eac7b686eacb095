-- What each command makes of one target layer: its output layers, or a refusal.
use Rattle.std.specs.Prelude.{ℕ, ◌+◌, Bool, not, ◌&&◌, ◌||◌, decimal, List, [], ◌∷◌, ◌++◌, map, zip, length, codes, Option, Some, None, Result, Ok, Err, if◌then◌else◌}
use Rattle.std.specs.List.{flat_map, enumerate_from, range_with_len}
use Rattle.lists.specs.Lists.{first_or}
use Rattle.plane_model.specs.Points.{GridPoint, Path}
use Rattle.grid_base.specs.declared.kinds.Kind.{Kind}
use Rattle.grid_base.specs.declared.kinds.Kind.TheVariants as kind
use Rattle.grid_base.specs.declared.kinds.OverlapRule.{OverlapRule}
use Rattle.json_values.specs.Table.{TableContent, RowValues}
use Rattle.numerals.specs.Decimal.{of_grid}
use Rattle.json_values.specs.Value.{same, plain_text}
use Rattle.json_values.specs.declared.value.Value.{Value}
use Rattle.json_values.specs.declared.value.Value.TheVariants as value
use Rattle.geojson_io.specs.Layers.{same_kind}
use Rattle.geojson_io.specs.Texts.{separated}
use Rattle.expr_lang.specs.Tree.{all_assigned, tree_of}
use Rattle.expr_lang.specs.declared.assign.Assign.{Assign}
use Rattle.expr_lang.specs.declared.expr.Expr.{Expr}
use Rattle.table_terms.specs.Names.{Text, cell}
use Rattle.table_rows.specs.Rows.{row_at}
use Rattle.table_terms.specs.Refusals.{unless, on_ok}
use Rattle.table_rows.specs.Refusals.{refused_item}
use Rattle.table_ops.specs.Filtering.{filter_rows}
use Rattle.table_rows.specs.Columns.{keep_fields, rename_fields}
use Rattle.table_rows.specs.Grouping.{group_rows}
use Rattle.table_ops.specs.Join.{join_tables}
use Rattle.table_rows.specs.Splitting.{split_rows}
use Rattle.table_rows.specs.Merge.{merge_tables}
use Rattle.table_rows.specs.declared.fault.TableWhy.{TableWhy}
use Rattle.table_rows.specs.declared.group.Grouped.{Grouped}
use Rattle.join_terms.specs.declared.calculations.CalcSpec.{CalcSpec}
use Rattle.table_terms.specs.declared.renames.Rename.{Rename}
use Rattle.table_terms.specs.declared.groupings.GroupSpec.{GroupSpec}
use Rattle.join_terms.specs.declared.joins.JoinSpec.{JoinSpec}
use Rattle.table_rows.specs.declared.split.SplitItem.{SplitItem}
use Rattle.spatial_join.specs.Joined.{join_matched}
use Rattle.calc_ops.specs.EachRow.{each_rows}
use Rattle.calc_ops.specs.EarlyRows.{uniq_rows}
use Rattle.calc_ops.specs.KeyOrder.{sort_rows}
use Rattle.region_model.specs.Region.{Region}
use Rattle.region_model.specs.Answers.{Plane, Answers, is_nil}
use Rattle.region_model.specs.PolygonCommands as polygon
use Rattle.region_model.specs.LineCommands as line
use Rattle.region_model.specs.PlaceCommands.{around_points, points_inside}
use Rattle.region_model.specs.UnionCommand.{Choice, united}
use Rattle.region_model.specs.LineCommands.{SidedArc}
use Rattle.chain_model.specs.Outcome.{RefuseWhy, lone_layer, no_group_points, in_table}
use Rattle.chain_model.specs.UnionTable.{union_table}
use Rattle.chain_model.specs.State.{StateLayer, Shape, region, paths, points, no_shape, region_of, paths_of, points_of, shape_at, region_at, regions_in, take_features, without_empty}

-- the output layers, or a refusal
abbrev pub Outputs : Type 0
Outputs = Result (List StateLayer) RefuseWhy

abbrev pub just : StateLayer → Outputs
just l = Ok (l ∷ [])

-- a table function's refusal is the command's
abbrev pub in_layer : {T : Type 0} → Result T TableWhy → Result T RefuseWhy
in_layer (Ok v) = Ok v
in_layer (Err why) = Err (in_table why)

-- the layer with the table that a table function answers
abbrev pub with_table : StateLayer → Result TableContent TableWhy → Outputs
with_table l answer = on_ok (in_layer answer) (λ (t : TableContent). just (record l { table = t }))

abbrev pub count_of : StateLayer → ℕ
count_of l = length l.shapes

-- the shapes that a function of features' numbers gives
abbrev pub shapes_by : (ℕ → Region) → StateLayer → List Shape
shapes_by made l = map (λ (n : ℕ). region (made n)) (range_with_len 0 (count_of l))

-- ---- clip and erase

abbrev pub clip_shape : Answers → Region → Shape → Shape
clip_shape A source (region r) = region (polygon.clipped source r)
clip_shape A source (paths ps) = paths (flat_map (line.clipped_path A source) ps)
clip_shape A source (points ps) = points (line.clipped_points A source ps)
clip_shape A source no_shape = no_shape

abbrev pub erase_shape : Answers → Region → Shape → Shape
erase_shape A source (region r) = region (polygon.erased source r)
erase_shape A source (paths ps) = paths (flat_map (line.erased_path A source) ps)
erase_shape A source (points ps) = points (line.erased_points A source ps)
erase_shape A source no_shape = no_shape

abbrev pub clip_layer : Plane → Answers → Region → StateLayer → Outputs
clip_layer P A source l = just (without_empty P A (record l { shapes = map (clip_shape A source) l.shapes }))

abbrev pub erase_layer : Plane → Answers → Region → StateLayer → Outputs
erase_layer P A source l = just (without_empty P A (record l { shapes = map (erase_shape A source) l.shapes }))

-- ---- dissolve

abbrev pub dissolved_shape : Plane → StateLayer → List ℕ → Shape
dissolved_shape P l members = of_kind l.kind
  where
    shapes : List Shape
    shapes = map (shape_at l) members

    of_kind : Kind → Shape
    of_kind kind.Polygon = region (polygon.dissolved (region_at l) members)
    of_kind kind.Line = paths (line.dissolved_paths P (flat_map paths_of shapes))
    of_kind kind.Point = points (flat_map points_of shapes)
    of_kind kind.Table = no_shape

abbrev pub dissolve_layer : Plane → GroupSpec → Bool → StateLayer → Outputs
dissolve_layer P spec group_points l =
    if same_kind l.kind kind.Point && not group_points then Err no_group_points
    else on_ok (in_layer (group_rows l.table spec)) (λ (g : Grouped). just (record l { table = g.table; shapes = map (dissolved_shape P l) g.groups }))

-- ---- clean, mosaic, explode

-- gaps of at most this area, doubled, are filled
abbrev pub clean_layer : Plane → Answers → OverlapRule → Bool → ℕ → StateLayer → Outputs
clean_layer P A rule allow_empty gap l =
    let cleaned : StateLayer = record l { shapes = shapes_by (polygon.cleaned_and_filled P A rule gap (region_at l) (count_of l)) l } in
    just (if allow_empty then cleaned else without_empty P A cleaned)

-- the column `ids` has the numbers, joined by commas
abbrev pub numbers_text : List ℕ → Text
numbers_text ns = separated (codes ",") (map decimal ns)

abbrev pub mosaic_layer : Plane → Answers → StateLayer → Outputs
mosaic_layer P A l =
    let pieces : List (List ℕ × Region) = polygon.mosaic P A (region_at l) (count_of l) in
    just (record l {
      table = record { names = codes "ids" ∷ []; rows = map (λ (m : List ℕ × Region). value.Text (numbers_text m.0) ∷ []) pieces };
      shapes = map (λ (m : List ℕ × Region). region m.1) pieces;
    })

-- one shape for each part, path or point; a feature without geometry stays
abbrev pub or_itself : Shape → List Shape → List Shape
or_itself s [] = s ∷ []
or_itself s (t ∷ ts) = t ∷ ts

abbrev pub exploded_shapes : Plane → Answers → Shape → List Shape
exploded_shapes P A (region r) = map region (polygon.exploded P A r)
exploded_shapes P A (paths ps) = or_itself (paths ps) (map (λ (p : Path). paths (p ∷ [])) ps)
exploded_shapes P A (points ps) = or_itself (points ps) (map (λ (p : GridPoint). points (p ∷ [])) ps)
exploded_shapes P A no_shape = no_shape ∷ []

abbrev pub Feature : Type 0
Feature = RowValues × Shape

abbrev pub explode_layer : Plane → Answers → StateLayer → Outputs
explode_layer P A l =
    let pieces : List Feature = flat_map (λ (f : Feature). map (λ (s : Shape). (f.0, s)) (exploded_shapes P A f.1)) (zip l.table.rows l.shapes) in
    just (record l { table = record { names = l.table.names; rows = map (λ (f : Feature). f.0) pieces }; shapes = map (λ (f : Feature). f.1) pieces })

-- ---- innerlines and lines

abbrev pub line_layer : StateLayer → TableContent → List Path → StateLayer
line_layer l table ps = record l { kind = kind.Line; table = table; shapes = map (λ (p : Path). paths (p ∷ [])) ps }

abbrev pub inner_lines_layer : Plane → Answers → StateLayer → Outputs
inner_lines_layer P A l =
    let arcs : List Path = line.inner_lines P A (regions_in l) in
    just (line_layer l (record { names = []; rows = map (λ (p : Path). []) arcs }) arcs)

-- the first listed field, with its number from n on, whose values differ between two rows
abbrev pub first_difference : TableContent → RowValues → RowValues → ℕ → List Text → Option (ℕ × Text)
first_difference t a b n [] = None
first_difference t a b n (f ∷ fs) = if same (cell t.names f a) (cell t.names f b) then first_difference t a b (n + 1) fs else Some (n, f)

abbrev pub type_and_rank : Text → ℕ → RowValues
type_and_rank type rank = value.Text type ∷ value.Num (of_grid (Rattle.std.specs.Prelude.pos rank) 0) ∷ []

-- TYPE and RANK of an arc, by the lowest features at its sides
abbrev pub line_row : TableContent → List Text → SidedArc → RowValues
line_row t fields a =
    if is_nil a.left || is_nil a.right then type_and_rank (codes "outer") 0
    else elim (first_difference t (row_at t.rows (first_or 0 a.left)) (row_at t.rows (first_or 0 a.right)) 1 fields) [
      | None ↦ type_and_rank (codes "inner") (length fields + 1)
      | Some d ↦ type_and_rank d.1 d.0
    ]

abbrev pub lines_layer : Plane → Answers → List Text → StateLayer → Outputs
lines_layer P A fields l =
    let arcs : List SidedArc = line.outer_and_inner P A (regions_in l) in
    in_layer (unless (refused_item l.table.names [] 0 fields)
    (Ok (line_layer l (record { names = codes "TYPE" ∷ codes "RANK" ∷ []; rows = map (line_row l.table fields) arcs }) (map (λ (a : SidedArc). a.points) arcs) ∷ [])))

-- ---- tables

abbrev pub join_layer : StateLayer → JoinSpec → StateLayer → Outputs
join_layer source spec l = with_table l (join_tables l.table source.table spec)

-- ---- a join by place

-- the numbers of the others that a feature matches
abbrev pub matches_of : Answers → List Shape → Shape → List ℕ
matches_of A others (points ps) = around_points A (map region_of others) ps
matches_of A others (region r) = points_inside A (map points_of others) r
matches_of A others _ = []

abbrev pub place_join_layer : Answers → StateLayer → CalcSpec → StateLayer → Outputs
place_join_layer A source spec l = with_table l (join_matched l.table source.table (map (matches_of A source.shapes) l.shapes) spec)

-- ---- rows that are kept, columns, and layers of some rows

-- the numbers of the rows for which the expression is true, or, inverted, false; without one all of them
abbrev pub kept_numbers : StateLayer → Option Expr → Bool → Result (List ℕ) TableWhy
kept_numbers l None invert = Ok (range_with_len 0 (length l.table.rows))
kept_numbers l (Some e) invert = filter_rows l.table (tree_of e) (not invert)

abbrev pub filter_layer : Plane → Answers → Option Expr → Bool → Bool → StateLayer → Outputs
filter_layer P A test invert remove_empty l = on_ok (in_layer (kept_numbers l test invert)) (λ (ns : List ℕ).
    just (if remove_empty then without_empty P A (take_features l ns) else take_features l ns))

abbrev pub filter_fields_layer : List Text → StateLayer → Outputs
filter_fields_layer fields l = with_table l (keep_fields l.table fields)

abbrev pub rename_fields_layer : List Rename → StateLayer → Outputs
rename_fields_layer pairs l = with_table l (rename_fields l.table pairs)

-- a piece is named by its value, or by the layer's name and its number from 1
abbrev pub split_name : StateLayer → ℕ → Option Value → Text
split_name l n None = l.name ++ codes "-" ++ decimal (n + 1)
split_name l n (Some v) = plain_text v

abbrev pub split_piece : StateLayer → ℕ × SplitItem → StateLayer
split_piece l p = record (take_features l p.1.rows) { name = split_name l p.0 p.1.value }

-- a layer without features is put out as it is
abbrev pub split_layer : Option Text → StateLayer → Outputs
split_layer field l = on_ok (in_layer (split_rows l.table field)) (λ (items : List SplitItem).
    Ok (if is_nil items then l ∷ [] else map (split_piece l) (enumerate_from 0 items)))

-- ---- fields that are set, features in order, and features of early keys

abbrev pub assign_layer : List Assign → StateLayer → Outputs
assign_layer assigns l = with_table l (each_rows l.table (all_assigned assigns))

-- the layer with the features of these numbers
abbrev pub with_features : StateLayer → Result (List ℕ) TableWhy → Outputs
with_features l answer = on_ok (in_layer answer) (λ (ns : List ℕ). just (take_features l ns))

abbrev pub sort_layer : Expr → Bool → StateLayer → Outputs
sort_layer key descending l = with_features l (sort_rows l.table (tree_of key) descending)

abbrev pub uniq_layer : Expr → ℕ → Bool → StateLayer → Outputs
uniq_layer key most invert l = with_features l (uniq_rows l.table (tree_of key) most invert)

-- ---- islands

-- a feature that is left empty stays, or goes with all others without geometry
abbrev pub islands_layer : Plane → Answers → ℕ → ℕ → Bool → StateLayer → Outputs
islands_layer P A least_area least_links remove_empty l =
    let left : StateLayer = record l { shapes = shapes_by (polygon.without_islands P A least_area least_links (region_at l) (count_of l)) l } in
    just (if remove_empty then without_empty P A left else left)

-- ---- layers together

-- all features in order, in a layer like the first; nothing for the others
abbrev pub merged_layers : Bool → List StateLayer → Result (List (List StateLayer)) RefuseWhy
merged_layers force [] = Ok []
merged_layers force (l ∷ ls) = on_ok (in_layer (merge_tables (map (λ (m : StateLayer). m.table) (l ∷ ls)) force)) (λ (t : TableContent).
    Ok ((record l { table = t; shapes = flat_map (λ (m : StateLayer). m.shapes) (l ∷ ls) } ∷ []) ∷ map (λ (m : StateLayer). []) ls))

-- the union, in a layer like the first; nothing for the others, and one layer alone is refused
abbrev pub united_layer : Plane → Answers → List StateLayer → StateLayer → StateLayer
united_layer P A ls l =
    let pieces : List (Choice × Region) = united P A (map regions_in ls) in
    record l {
      table = union_table (map (λ (m : StateLayer). m.table) ls) (map (λ (f : Choice × Region). f.0) pieces);
      shapes = map (λ (f : Choice × Region). region f.1) pieces;
    }

abbrev pub united_layers : Plane → Answers → List StateLayer → Result (List (List StateLayer)) RefuseWhy
united_layers P A [] = Ok []
united_layers P A (l ∷ []) = Err lone_layer
united_layers P A (l ∷ m ∷ ls) = Ok ((united_layer P A (l ∷ m ∷ ls) l ∷ []) ∷ map (λ (k : StateLayer). []) (m ∷ ls))
