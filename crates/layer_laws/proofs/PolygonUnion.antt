-- Layers of polygons that are united.
use Rattle.std.proofs.Common.{◌≡◌, refl, sym, ap, ◌∙◌, subst, ℕ, List, [], ◌∷◌, map, All, Contains, Ok}
use Rattle.std.specs.List.{AllZip}
use Rattle.std.specs.List.Sorted.{IsStrictlyIncreasing}
use Rattle.std.proofs.lemmas.List.Elements.{All-append, All-cons, All-map, All-nil}
use Rattle.std.proofs.lemmas.Simd.{map-map}
use Rattle.lists.proofs.Members.{Contains-head, Contains-later}
use Rattle.grid_base.specs.declared.kinds.Kind.{Kind}
use Rattle.json_values.specs.Table.{TableContent}
use Rattle.plane_model.specs.Snapped.{snapped}
use Rattle.table_rows.specs.Merge.{all_names}
use Rattle.face_walk.specs.Places.{FaceTable}
use Rattle.face_sets.specs.Sets.{IsSetOf}
use Rattle.union_ops.specs.Union.{Group, IsUnion, faces_of, items_of, items_of_groups}
use Rattle.union_ops.specs.UnionTable.{IsUnionTable, union_row}
use Rattle.union_ops.specs.declared.union_lists.UnionItem.{UnionItem}
use Rattle.region_model.specs.Region.{Region}
use Rattle.region_model.specs.UnionCommand.{Choice, union_region, united}
use Rattle.region_laws.specs.Answered.{FollowInOrder}
use Rattle.union_laws.specs.United.{FollowLayers, TellChoices}
use Rattle.union_laws.proofs.UnionTold.{inner_choice, union_as_told}
use Rattle.run_plane.specs.declared.layer.Layer.{Layer}
use Rattle.run_plane.specs.declared.layer.Shape.{Shape}
use Rattle.run_plane.specs.declared.layer.Shape.TheVariants as shape
use Rattle.run_plane.specs.declared.plane.Plane.{Plane}
use Rattle.run_state.specs.FaceSets.{face_shapes}
use Rattle.run_borders.specs.Uniting.{IsUnited, item_shape, layer_tables}
use Rattle.run_borders.specs.Uniting as run
use Rattle.chain_model.specs.State as state
use Rattle.chain_model.specs.State.{StateLayer, regions_in}
use Rattle.chain_model.specs.Features.{united_layer}
use Rattle.chain_model.specs.UnionTable.{union_table, with_new_names}
use Rattle.layer_laws.specs.Shown.{View, IsView, FacesShow, LayerShows, PolygonShows, ShapeShows, plane_of, IsSeenIn}
use Rattle.layer_laws.specs.Polygons.{LoneLayersAreRefused, PolygonsShow, UnitedLayersShow}
use Rattle.layer_laws.proofs.PolygonNames.{names_made_new}
use Rattle.layer_laws.proofs.PolygonParts.{parts_inner}
use Rattle.layer_laws.proofs.PolygonSets.{all_inner, follow_in_order, layer_sets, sets_of, shapes_show, show_in_order}
use Rattle.layer_laws.proofs.Zipped.{zip_map, zip_same}

-- ---- the sets of a union

module _ (P : List ℕ → Type 0) where
  all_items : (groups : List Group) → ((g : Group) → Contains groups g → All P g.parts) → All (λ (item : UnionItem). P item.set) (items_of_groups groups)
  all_items [] each = All-nil (λ (item : UnionItem). P item.set)
  all_items (g ∷ groups) each =
      All-append (λ (item : UnionItem). P item.set) (items_of g.choice g.parts) (items_of_groups groups)
      (All-map (λ (item : UnionItem). P item.set) (λ (set : List ℕ). record { choice = g.choice; set = set }) g.parts (each g (Contains-head g groups)))
      (all_items groups (λ other c. each other (Contains-later g groups other c)))

  all_of_union : (faces : FaceTable) (layers : List (List (List ℕ))) (items : List UnionItem) (is : IsUnion faces layers items) → ((g : Group) → Contains is.groups g → All P g.parts) → All P (map (λ (item : UnionItem). item.set) items)
  all_of_union faces layers items is each =
      All-map P (λ (item : UnionItem). item.set) items (subst (All (λ (item : UnionItem). P item.set)) (sym is.listed) (all_items is.groups each))

-- ---- layers that are united

abbrev choice_of : UnionItem → Choice
choice_of item = item.choice

abbrev set_of : UnionItem → List ℕ
set_of item = item.set

abbrev choice_made : Choice × Region → Choice
choice_made m = m.0

abbrev region_made : Choice × Region → Region
region_made m = m.1

module _ (v : View) (view : IsView v) (plane : Plane) (seen : IsSeenIn v plane) where
  all_sets_inner : (layers : List Layer) (ls : List StateLayer) → AllZip (PolygonsShow v) layers ls → All (All (IsSetOf v.faces)) (run.layer_sets layers)
  all_sets_inner [] [] z = All-nil (All (IsSetOf v.faces))
  all_sets_inner [] (l ∷ ls) z = absurd z
  all_sets_inner (layer ∷ layers) [] z = absurd z
  all_sets_inner (layer ∷ layers) (l ∷ ls) z =
      All-cons (All (IsSetOf v.faces)) (sets_of layer) (run.layer_sets layers) (all_inner v (sets_of layer) (regions_in l) (layer_sets v layer l z.0)) (all_sets_inner layers ls z.1)

  module _ (layers : List Layer) (ls : List StateLayer) (z : AllZip (PolygonsShow v) layers ls) where
    abbrev sets : List (List (List ℕ))
    sets = run.layer_sets layers

    abbrev regions : List (List Region)
    regions = map regions_in ls

    abbrev pieces : List (Choice × Region)
    pieces = united (plane_of v) v.answers regions

    follow : FollowLayers (snapped v.drawing) v.arcs v.label sets regions
    follow = zip_map (PolygonsShow v) (FollowInOrder (snapped v.drawing) v.arcs v.label) (λ (layer : Layer). sets_of layer) regions_in (λ layer l h.
        follow_in_order v (sets_of layer) (regions_in l) (layer_sets v layer l h)) layers ls z

    tell : TellChoices (plane_of v) v.answers regions
    tell = record { sides = λ c. view.right.sides (union_region regions c); parts = λ c j. view.right.parts (union_region regions c) j }

    module _ (items : List UnionItem) (is : IsUnion v.faces sets items) where
      told : (map choice_of items ≡ map choice_made pieces) × FollowInOrder (snapped v.drawing) v.arcs v.label (map set_of items) (map region_made pieces)
      told = union_as_told v.drawing v.arcs v.faces v.label view.walked sets (all_sets_inner layers ls z) regions follow v.answers tell items is

      united_shown : AllZip (FacesShow v) (map set_of items) (map region_made pieces)
      united_shown = show_in_order v (map set_of items) (map region_made pieces) (all_of_union IsStrictlyIncreasing v.faces sets items is (λ g c. (is.parts g c).ascending))
          (all_of_union (IsSetOf v.faces) v.faces sets items is (λ g c.
          parts_inner v.faces (faces_of sets v.faces.count g.choice) g.parts
          (inner_choice v.drawing v.arcs v.faces v.label view.walked sets (all_sets_inner layers ls z) regions follow g.choice (is.some g c)) (is.parts g c)))
          told.1.0 told.1.1

      united_shapes : AllZip (PolygonShows v) (map item_shape items) (map (λ (f : Choice × Region). state.region f.1) pieces)
      united_shapes =
          subst (λ (parts : List Shape). AllZip (PolygonShows v) parts (map (λ (f : Choice × Region). state.region f.1) pieces)) (map-map shape.Faces set_of items)
          (subst (AllZip (PolygonShows v) (face_shapes (map set_of items))) (map-map state.region region_made pieces) (shapes_show v (map set_of items) (map region_made pieces) united_shown))

      -- the columns, and a row for each item
      united_tables : (t : TableContent) → IsUnionTable (layer_tables layers) items t → union_table (map (λ (l : StateLayer). l.table) ls) (map choice_made pieces) ≡ t
      united_tables t table =
          let tables : map (λ (l : StateLayer). l.table) ls ≡ layer_tables layers =
          sym (zip_same (PolygonsShow v) (λ (layer : Layer). layer.table) (λ (l : StateLayer). l.table) (λ layer l h. sym h.shows.table) layers ls z) in
          let names : t.names ≡ with_new_names [] (all_names (layer_tables layers)) = names_made_new (all_names (layer_tables layers)) t.names table.names in
          let rows : t.rows ≡ map (union_row (layer_tables layers)) (map choice_made pieces) =
          table.rows ∙ sym (map-map (union_row (layer_tables layers)) choice_of items) ∙ ap (map (union_row (layer_tables layers))) told.0 in
          ap (λ (ts : List TableContent). union_table ts (map choice_made pieces)) tables ∙ sym (λ i. record { names = names i; rows = rows i })

    united_shows : (first : Layer) (l : StateLayer) → PolygonsShow v first l → (made : Layer) (is : IsUnited plane layers made) → is.first ≡ first → LayerShows v made (united_layer (plane_of v) v.answers ls l)
    united_shows first l h made is begins =
        let are : IsUnion v.faces sets is.items = subst (λ (faces : FaceTable). IsUnion faces sets is.items) seen.faces is.are in
        let shapes : List state.Shape = map (λ (f : Choice × Region). state.region f.1) pieces in
        record {
          name = h.shows.name ∙ ap (λ (layer : Layer). layer.name) (sym begins) ∙ sym is.name;
          kind = h.shows.kind ∙ h.polygons ∙ sym is.kind;
          table = united_tables is.items are made.table is.table;
          shapes = subst (λ (k : Kind). AllZip (ShapeShows v k) made.shapes.items shapes) (sym is.kind) (subst (λ (parts : List Shape). AllZip (PolygonShows v) parts shapes) (sym is.shapes) (united_shapes is.items are));
        }

nothing_alike : (v : View) (layers : List Layer) (ls : List StateLayer) → AllZip (PolygonsShow v) layers ls → ◌≡◌ {A = List (List StateLayer)} (map (λ (l : StateLayer). []) ls) (map (λ (layer : Layer). []) layers)
nothing_alike v [] [] z = refl
nothing_alike v [] (l ∷ ls) z = absurd z
nothing_alike v (layer ∷ layers) [] z = absurd z
nothing_alike v (layer ∷ layers) (l ∷ ls) z = ap (λ (more : List (List StateLayer)). [] ∷ more) (nothing_alike v layers ls z.1)

pub united_layers_show : UnitedLayersShow
united_layers_show v view plane seen first second layers [] z made is = absurd z
united_layers_show v view plane seen first second layers (l ∷ []) z made is = absurd z.1
united_layers_show v view plane seen first second layers (l ∷ m ∷ ls) z made is =
    let same : is.first ≡ first = (let e = is.begins in cc) in
    record {
      merged = united_layer (plane_of v) v.answers (l ∷ m ∷ ls) l;
      answers = ap (λ (more : List (List StateLayer)). Ok ((united_layer (plane_of v) v.answers (l ∷ m ∷ ls) l ∷ []) ∷ more)) (nothing_alike v (second ∷ layers) (m ∷ ls) z.1);
      shows = united_shows v view plane seen (first ∷ second ∷ layers) (l ∷ m ∷ ls) z first l z.0 made is same;
    }

pub lone_layers_are_refused : LoneLayersAreRefused
lone_layers_are_refused v [] [] z = ([], refl)
lone_layers_are_refused v [] (l ∷ ls) z = absurd z
lone_layers_are_refused v (layer ∷ layers) [] z = absurd z
lone_layers_are_refused v (layer ∷ []) (l ∷ []) z = refl
lone_layers_are_refused v (layer ∷ []) (l ∷ m ∷ ls) z = absurd z.1
lone_layers_are_refused v (layer ∷ other ∷ layers) (l ∷ []) z = absurd z.1
lone_layers_are_refused v (layer ∷ other ∷ layers) (l ∷ m ∷ ls) z = ((united_layer (plane_of v) v.answers (l ∷ m ∷ ls) l ∷ []) ∷ map (λ (k : StateLayer). []) (m ∷ ls), refl)
