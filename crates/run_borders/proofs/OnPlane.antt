-- What commands make of several shapes that lie on the plane lies on it.
use Rattle.std.proofs.Common.{sym, subst, ℕ, ◌<◌, List, [], All, length, map}
use Rattle.std.specs.List.{flat_map}
use Rattle.std.proofs.lemmas.List.Elements.{All-cons, All-map, All-nil, All-weaker}
use Rattle.grid_base.specs.declared.kinds.Kind.{Kind}
use Rattle.grid_base.specs.declared.kinds.Kind.TheVariants as kinds
use Rattle.plane_model.specs.Arcs.{SignedArc, forward}
use Rattle.line_ops.specs.declared.sides.SidedArc.{SidedArc}
use Rattle.region_ops.specs.Dissolved.{union_of}
use Rattle.region_ops.proofs.Inner.{unions_inner}
use Rattle.face_sets.specs.Sets.{IsSetOf}
use Rattle.face_sets.proofs.SetLemmas.{All-ascending}
use Rattle.table_terms.specs.declared.groupings.GroupSpec.{GroupSpec}
use Rattle.union_ops.specs.Union.{IsItemOf}
use Rattle.union_ops.specs.declared.union_lists.UnionItem.{UnionItem}
use Rattle.run_plane.specs.OnPlane.{AreLayersOn, AreOn, IsLayerOn, IsOn}
use Rattle.run_plane.specs.Shapes.{shape_at}
use Rattle.run_plane.specs.declared.layer.Layer.{Layer}
use Rattle.run_plane.specs.declared.layer.Shape.{Shape}
use Rattle.run_plane.specs.declared.layer.Shape.TheVariants as shape
use Rattle.run_plane.specs.declared.plane.Plane.{Plane}
use Rattle.run_plane.proofs.OnPlane.{all_joined, sets_are_inner, sets_on, shape_on}
use Rattle.run_state.specs.FaceSets.{sets_in}
use Rattle.run_borders.specs.Borders.{border_line, line_along}
use Rattle.run_borders.specs.Dissolving.{IsGrouped, arcs_along, arcs_in, grouped_shapes, line_shape, member_arcs, no_shape, path_along, point_shape}
use Rattle.run_borders.specs.Uniting.{item_shape, layer_sets}

module _ (plane : Plane) where
  -- ---- sets

  -- those of layers
  pub layer_sets_inner : (layers : List Layer) → AreLayersOn plane layers → All (All (IsSetOf plane.faces)) (layer_sets layers)
  layer_sets_inner layers on =
      All-map (All (IsSetOf plane.faces)) (λ (layer : Layer). sets_in layer.shapes.items) layers
      (All-weaker (IsLayerOn plane) (λ (layer : Layer). All (IsSetOf plane.faces) (sets_in layer.shapes.items)) (λ layer h. sets_are_inner plane layer.shapes.items h) layers on)

  pub items_on : (layers : List (List (List ℕ))) (items : List UnionItem) → All (IsItemOf plane.faces layers) items → AreOn plane (map item_shape items)
  items_on layers items h = All-map (IsOn plane) item_shape items (All-weaker (IsItemOf plane.faces layers) (λ (item : UnionItem). IsSetOf plane.faces item.set) (λ item p. p.inner) items h)

  -- ---- lines

  abbrev IsThere : SignedArc → Type 0
  IsThere a = a.arc < length plane.arcs

  one_there : (n : ℕ) → n < length plane.arcs → All IsThere (path_along n)
  one_there n l = All-cons IsThere (forward n) [] l (All-nil IsThere)

  line_on : (n : ℕ) → n < length plane.arcs → IsOn plane (line_along n)
  line_on n l = All-cons (All IsThere) (path_along n) [] (one_there n l) (All-nil (All IsThere))

  pub lines_on : (arcs : List ℕ) → All (λ (n : ℕ). n < length plane.arcs) arcs → AreOn plane (map line_along arcs)
  lines_on arcs h = All-map (IsOn plane) line_along arcs (All-weaker (λ (n : ℕ). n < length plane.arcs) (λ (n : ℕ). IsOn plane (line_along n)) line_on arcs h)

  pub borders_on : (arcs : List SidedArc) → All (λ (s : SidedArc). s.arc < length plane.arcs) arcs → AreOn plane (map border_line arcs)
  borders_on arcs h = All-map (IsOn plane) border_line arcs (All-weaker (λ (s : SidedArc). s.arc < length plane.arcs) (λ (s : SidedArc). IsOn plane (border_line s)) (λ s l. line_on s.arc l) arcs h)

  -- ---- groups

  arcs_there : (s : Shape) → IsOn plane s → All (λ (n : ℕ). n < length plane.arcs) (arcs_in s)
  arcs_there shape.Nothing h = All-nil (λ (n : ℕ). n < length plane.arcs)
  arcs_there (shape.Faces set) h = All-nil (λ (n : ℕ). n < length plane.arcs)
  arcs_there (shape.Paths paths) h =
      all_joined (λ (n : ℕ). n < length plane.arcs) arcs_along paths
      (All-weaker (All IsThere) (λ (path : List SignedArc). All (λ (n : ℕ). n < length plane.arcs) (arcs_along path)) (λ path p. All-map (λ (n : ℕ). n < length plane.arcs) (λ (a : SignedArc). a.arc) path p) paths h)
  arcs_there (shape.Points points) h = All-nil (λ (n : ℕ). n < length plane.arcs)

  group_on : (shapes : List Shape) → AreOn plane shapes → (members : List ℕ) → IsOn plane (line_shape shapes members)
  group_on shapes on members =
      All-map (All IsThere) path_along (member_arcs shapes members)
      (All-weaker (λ (n : ℕ). n < length plane.arcs) (λ (n : ℕ). All IsThere (path_along n)) one_there (member_arcs shapes members)
      (All-ascending (λ (n : ℕ). n < length plane.arcs) (flat_map (λ (n : ℕ). arcs_in (shape_at shapes n)) members)
      (all_joined (λ (n : ℕ). n < length plane.arcs) (λ (n : ℕ). arcs_in (shape_at shapes n)) members (λ i d l. arcs_there (shape_at shapes _) (shape_on plane shapes on _)))))

  groups_on : (k : Kind) (shapes : List Shape) (groups : List (List ℕ)) → AreOn plane shapes → AreOn plane (grouped_shapes k shapes groups)
  groups_on kinds.Polygon shapes groups on = sets_on plane (map (union_of (sets_in shapes)) groups) (unions_inner plane.faces (sets_in shapes) groups (sets_are_inner plane shapes on))
  groups_on kinds.Line shapes groups on = All-map (IsOn plane) (line_shape shapes) groups (λ i d l. group_on shapes on _)
  groups_on kinds.Point shapes groups on = All-map (IsOn plane) (point_shape shapes) groups (λ i d l. tt)
  groups_on kinds.Table shapes groups on = All-map (IsOn plane) no_shape groups (λ i d l. tt)

  pub grouped_on : (spec : GroupSpec) (layer made : Layer) → IsGrouped spec layer made → IsLayerOn plane layer → IsLayerOn plane made
  grouped_on spec layer made h on = subst (AreOn plane) (sym h.shapes) (groups_on layer.kind layer.shapes.items h.grouped.groups on)
