-- The shapes of grouped features.
use Rattle.std.specs.Prelude.{◌≡◌, ℕ, nat_lt, Bool, true, false, not, ◌&&◌, List, [], ◌∷◌, map, Option, Some, Ok, if◌then◌else◌}
use Rattle.std.specs.List.{flat_map}
use Rattle.lists.specs.Lists.{ascending}
use Rattle.grid_base.specs.declared.kinds.Kind.{Kind}
use Rattle.grid_base.specs.declared.kinds.Kind.TheVariants as kinds
use Rattle.plane_model.specs.Points.{GridPoint}
use Rattle.plane_model.specs.Arcs.{SignedArc, forward}
use Rattle.region_ops.specs.Dissolved.{union_of}
use Rattle.table_rows.specs.Grouping.{group_rows}
use Rattle.table_rows.specs.declared.group.Grouped.{Grouped}
use Rattle.table_terms.specs.declared.groupings.GroupSpec.{GroupSpec}
use Rattle.run_state.specs.FaceSets.{sets_in, face_shapes}
use Rattle.run_plane.specs.Shapes.{points_in, shape_at}
use Rattle.run_plane.specs.declared.layer.Layer.{Layer}
use Rattle.run_plane.specs.declared.layer.Shape.{Shape}
use Rattle.run_plane.specs.declared.layer.Shape.TheVariants as shape
use Rattle.run_state.specs.Stops.{table_refusal}
use Rattle.run_state.specs.declared.refusal.RefuseWhy.{RefuseWhy}
use Rattle.run_state.specs.declared.refusal.RefuseWhy.TheVariants.{NoGroupPoints}

-- the numbers of the arcs along a path
abbrev pub arcs_along : List SignedArc → List ℕ
arcs_along path = map (λ (a : SignedArc). a.arc) path

-- those along all paths of a shape
abbrev pub arcs_in : Shape → List ℕ
arcs_in shape.Nothing = []
arcs_in (shape.Faces set) = []
arcs_in (shape.Paths paths) = flat_map arcs_along paths
arcs_in (shape.Points points) = []

-- the path along one arc in its direction
abbrev pub path_along : ℕ → List SignedArc
path_along n = forward n ∷ []

-- the arcs of the members, ascending, each once
abbrev pub member_arcs : List Shape → List ℕ → List ℕ
member_arcs shapes members = ascending nat_lt (flat_map (λ (n : ℕ). arcs_in (shape_at shapes n)) members)

-- the points of the members, in order
abbrev pub member_points : List Shape → List ℕ → List GridPoint
member_points shapes members = flat_map (λ (n : ℕ). points_in (shape_at shapes n)) members

-- the shapes of a group of lines and of one of points, by the numbers of its members
abbrev pub line_shape : List Shape → List ℕ → Shape
line_shape shapes members = shape.Paths (map path_along (member_arcs shapes members))

abbrev pub point_shape : List Shape → List ℕ → Shape
point_shape shapes members = shape.Points (member_points shapes members)

abbrev pub no_shape : List ℕ → Shape
no_shape members = shape.Nothing

-- the shapes of groups of features of this kind
abbrev pub grouped_shapes : Kind → List Shape → List (List ℕ) → List Shape
grouped_shapes kinds.Polygon shapes groups = face_shapes (map (union_of (sets_in shapes)) groups)
grouped_shapes kinds.Line shapes groups = map (line_shape shapes) groups
grouped_shapes kinds.Point shapes groups = map (point_shape shapes) groups
grouped_shapes kinds.Table shapes groups = map no_shape groups

-- a row and a shape for each group of rows
pub record IsGrouped (spec : GroupSpec) (layer made : Layer) : Type 0 where
  pub name : made.name ≡ layer.name
  pub kind : made.kind ≡ layer.kind
  pub grouped : Grouped
  pub answers : group_rows layer.table spec ≡ Ok grouped
  pub table : made.table ≡ grouped.table
  pub shapes : made.shapes.items ≡ grouped_shapes layer.kind layer.shapes.items grouped.groups

abbrev pub is_point : Kind → Bool
is_point kinds.Point = true
is_point _ = false

-- why features are not grouped: they are points and no leave is given, or else what their table is refused for
abbrev pub refused_dissolve : GroupSpec → Bool → Layer → Option RefuseWhy
refused_dissolve spec group_points layer =
    if is_point layer.kind && not group_points then Some NoGroupPoints else table_refusal (group_rows layer.table spec)
