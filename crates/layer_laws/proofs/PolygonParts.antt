-- The parts of sets of faces, as features of their own.
use Rattle.std.proofs.Common.{◌≡◌, refl, sym, ap, ◌∙◌, subst, arith, ℕ, suc, ◌+◌, ◌<◌, inl, inr, List, [], ◌∷◌, ◌++◌, append-nil, length, map, zip, get_or, All, Contains, decimal, codes}
use Rattle.std.specs.List.{AllZip, enumerate_from, flat_map}
use Rattle.std.specs.List.Sorted.{IsStrictlyIncreasing}
use Rattle.std.proofs.lemmas.List.Elements.{All-append, All-cons, All-contains, All-map, All-nil, All-weaker}
use Rattle.std.proofs.lemmas.Simd.{map-map}
use Rattle.lists.proofs.Members.{Contains-head, Contains-later}
use Rattle.grid_base.specs.declared.kinds.Kind.{Kind}
use Rattle.geojson_io.specs.Texts.{separated}
use Rattle.json_values.specs.Table.{RowValues, TableContent}
use Rattle.json_values.specs.declared.value.Value.TheVariants as value
use Rattle.plane_model.specs.Snapped.{snapped}
use Rattle.table_terms.specs.Names.{Text}
use Rattle.table_rows.specs.Rows.{row_at, take_rows}
use Rattle.face_walk.specs.Places.{FaceTable}
use Rattle.face_sets.specs.Joined.{AreParts}
use Rattle.face_sets.specs.Parts.{IsPieceOf}
use Rattle.face_sets.specs.Sets.{IsInnerFace, IsSetOf}
use Rattle.region_ops.specs.Exploded.{ArePieces, items_of}
use Rattle.region_ops.specs.Exploded as exploding
use Rattle.region_ops.specs.Mosaic.{Group, IsMosaic, items_of_groups}
use Rattle.region_ops.specs.Mosaic as mosaics
use Rattle.region_ops.specs.declared.item_lists.MosaicItem.{MosaicItem}
use Rattle.region_ops.specs.declared.item_lists.PartItem.{PartItem}
use Rattle.region_model.specs.Region.{Region}
use Rattle.region_model.specs.PolygonCommands.{exactly, exploded, mosaic}
use Rattle.region_laws.specs.Answered.{FollowInOrder}
use Rattle.region_laws.proofs.Answered.{exploded_as_told, nil_or_not}
use Rattle.region_laws.proofs.Mosaics.{faces_inner}
use Rattle.region_laws.proofs.MosaicTold.{mosaic_as_told}
use Rattle.run_plane.specs.declared.layer.Layer.{Layer}
use Rattle.run_plane.specs.declared.layer.Shape.{Shape}
use Rattle.run_plane.specs.declared.layer.Shape.TheVariants as shape
use Rattle.run_plane.specs.declared.plane.Plane.{Plane}
use Rattle.run_shapes.specs.Cleaning.{IsMosaicOf, after_comma, ids_row, ids_text, piece_shape}
use Rattle.run_shapes.specs.Exploding as run
use Rattle.run_shapes.specs.Exploding.{ArePartsOf, part_shape}
use Rattle.run_state.specs.FaceSets.{face_shapes}
use Rattle.chain_model.specs.State as state
use Rattle.chain_model.specs.State.{StateLayer, region_at, region_of, regions_in}
use Rattle.chain_model.specs.Features.{Feature, count_of, explode_layer, exploded_shapes, mosaic_layer, numbers_text}
use Rattle.layer_laws.specs.Shown.{View, IsView, FacesShow, LayerShows, PolygonShows, ShapeShows, plane_of, IsSeenIn}
use Rattle.layer_laws.specs.Polygons.{ExplodedPolygonsShow, MosaicsShow, PolygonsShow}
use Rattle.layer_laws.proofs.PolygonSets.{all_inner, follow_regions, is_region, layer_sets, polygons_show, sets_many, sets_of, shapes_show, show_in_order}
use Rattle.layer_laws.proofs.Taking.{shapes_in}
use Rattle.layer_laws.proofs.TableCommands.{one_shows}
use Rattle.layer_laws.proofs.Zipped.{zip_joined, zip_long, zip_map, zip_same}

-- ---- parts of a set

pub parts_inner : (faces : FaceTable) (set : List ℕ) (parts : List (List ℕ)) → IsSetOf faces set → AreParts faces set parts → All (IsSetOf faces) parts
parts_inner faces set parts inner are =
    All-weaker (IsPieceOf set) (IsSetOf faces) (λ piece of. All-weaker (Contains set) (IsInnerFace faces) (λ k c. All-contains (IsInnerFace faces) set k inner c) piece of.faces) parts are.divided.faces

-- ---- the numbers of a piece as text

commas_alike : (first : Text) (ns : List ℕ) → first ++ flat_map after_comma ns ≡ separated (codes ",") (first ∷ map decimal ns)
commas_alike first [] = append-nil first
commas_alike first (n ∷ ns) = ap (λ (rest : Text). first ++ (codes "," ++ rest)) (commas_alike (decimal n) ns)

ids_alike : (ns : List ℕ) → ids_text ns ≡ numbers_text ns
ids_alike [] = refl
ids_alike (n ∷ ns) = commas_alike (decimal n) ns

abbrev row_by : (List ℕ → Text) → List ℕ → RowValues
row_by text ns = value.Text (text ns) ∷ []

-- ---- the sets of a mosaic

module _ (P : List ℕ → Type 0) where
  all_items : (groups : List Group) → ((g : Group) → Contains groups g → All P g.parts) → All (λ (item : MosaicItem). P item.set) (items_of_groups groups)
  all_items [] each = All-nil (λ (item : MosaicItem). P item.set)
  all_items (g ∷ groups) each =
      All-append (λ (item : MosaicItem). P item.set) (mosaics.items_of g.ids g.parts) (items_of_groups groups)
      (All-map (λ (item : MosaicItem). P item.set) (λ (set : List ℕ). record { ids = g.ids; set = set }) g.parts (each g (Contains-head g groups)))
      (all_items groups (λ other c. each other (Contains-later g groups other c)))

  all_of_mosaic : (faces : FaceTable) (sets : List (List ℕ)) (items : List MosaicItem) (is : IsMosaic faces sets items) → ((g : Group) → Contains is.groups g → All P g.parts) → All P (map (λ (item : MosaicItem). item.set) items)
  all_of_mosaic faces sets items is each =
      All-map P (λ (item : MosaicItem). item.set) items (subst (All (λ (item : MosaicItem). P item.set)) (sym is.listed) (all_items is.groups each))

-- ---- a layer that becomes a mosaic

abbrev ids_of : MosaicItem → List ℕ
ids_of item = item.ids

abbrev set_of : MosaicItem → List ℕ
set_of item = item.set

abbrev numbers_of : List ℕ × Region → List ℕ
numbers_of m = m.0

abbrev region_of_piece : List ℕ × Region → Region
region_of_piece m = m.1

module _ (v : View) (view : IsView v) (plane : Plane) (seen : IsSeenIn v plane) (layer : Layer) (l : StateLayer) (h : PolygonsShow v layer l) where
  abbrev sets : List (List ℕ)
  sets = sets_of layer

  shown : AllZip (FacesShow v) sets (regions_in l)
  shown = layer_sets v layer l h

  abbrev pieces : List (List ℕ × Region)
  pieces = mosaic (plane_of v) v.answers (region_at l) (count_of l)

  mosaic_told : (items : List MosaicItem) → IsMosaic v.faces sets items → (map ids_of items ≡ map numbers_of pieces) × FollowInOrder (snapped v.drawing) v.arcs v.label (map set_of items) (map region_of_piece pieces)
  mosaic_told items is =
      subst (λ (many : ℕ). (map ids_of items ≡ map numbers_of (mosaic (plane_of v) v.answers (region_at l) many)) × FollowInOrder (snapped v.drawing) v.arcs v.label (map set_of items) (map region_of_piece (mosaic (plane_of v) v.answers (region_at l) many)))
      (sets_many v layer l h)
      (mosaic_as_told v.drawing v.arcs v.faces v.label view.walked sets (all_inner v sets (regions_in l) shown) (region_at l) (follow_regions v layer l h sets shown) v.answers
      (λ numbers. view.right.sides (exactly (region_at l) (length sets) numbers)) (λ numbers j. view.right.parts (exactly (region_at l) (length sets) numbers) j) items is)

  mosaic_shown : (items : List MosaicItem) → IsMosaic v.faces sets items → AllZip (FacesShow v) (map set_of items) (map region_of_piece pieces)
  mosaic_shown items is =
      let told = mosaic_told items is in
      show_in_order v (map set_of items) (map region_of_piece pieces) (all_of_mosaic IsStrictlyIncreasing v.faces sets items is (λ g c. (is.parts g c).ascending))
      (all_of_mosaic (IsSetOf v.faces) v.faces sets items is (λ g c.
      parts_inner v.faces (mosaics.faces_of sets v.faces.count g.ids) g.parts
      (faces_inner v.drawing v.arcs v.faces v.label view.walked sets (all_inner v sets (regions_in l) shown) (region_at l) (follow_regions v layer l h sets shown) g.ids (is.some g c)) (is.parts g c)))
      told.1.0 told.1.1

  abbrev mosaic_of : StateLayer
  mosaic_of = record l {
    table = record { names = codes "ids" ∷ []; rows = map (λ (m : List ℕ × Region). value.Text (numbers_text m.0) ∷ []) pieces };
    shapes = map (λ (m : List ℕ × Region). state.region m.1) pieces;
  }

  rows_alike : (items : List MosaicItem) → IsMosaic v.faces sets items → map ids_row items ≡ mosaic_of.table.rows
  rows_alike items is =
      sym (map-map (row_by ids_text) ids_of items) ∙ ap (map (row_by ids_text)) (mosaic_told items is).0 ∙ map-map (row_by ids_text) numbers_of pieces
      ∙ (λ i. map (λ (m : List ℕ × Region). row_by (λ (ns : List ℕ). ids_alike ns i) m.0) pieces)

  shapes_alike : (items : List MosaicItem) → IsMosaic v.faces sets items → AllZip (PolygonShows v) (map piece_shape items) mosaic_of.shapes
  shapes_alike items is =
      subst (λ (parts : List Shape). AllZip (PolygonShows v) parts mosaic_of.shapes) (map-map shape.Faces set_of items)
      (subst (λ (shapes : List state.Shape). AllZip (PolygonShows v) (face_shapes (map set_of items)) shapes) (map-map state.region region_of_piece pieces)
      (shapes_show v (map set_of items) (map region_of_piece pieces) (mosaic_shown items is)))

  mosaic_shows : (made : Layer) → IsMosaicOf plane layer made → LayerShows v made mosaic_of
  mosaic_shows made is =
      let are : IsMosaic v.faces sets is.pieces = subst (λ (faces : FaceTable). IsMosaic faces sets is.pieces) seen.faces is.are in
      let show : AllZip (ShapeShows v layer.kind) (map piece_shape is.pieces) mosaic_of.shapes =
      subst (λ (k : Kind). AllZip (ShapeShows v k) (map piece_shape is.pieces) mosaic_of.shapes) (sym h.polygons) (shapes_alike is.pieces are) in
      record {
        name = h.shows.name ∙ sym is.name;
        kind = h.shows.kind ∙ h.polygons ∙ sym is.kind;
        table = sym (is.table ∙ ap (λ (rows : List RowValues). record { names = codes "ids" ∷ []; rows = rows }) (rows_alike is.pieces are));
        shapes = shapes_in v layer made (map piece_shape is.pieces) mosaic_of.shapes show (is.kind ∙ sym h.polygons) is.shapes;
      }

pub mosaics_show : MosaicsShow
mosaics_show v view plane seen layer l h = record {
  shows = one_shows v (IsMosaicOf plane layer) (mosaic_layer (plane_of v) v.answers l) (λ made is. (mosaic_of v view plane seen layer l h, refl, mosaic_shows v view plane seen layer l h made is));
  refused = (mosaic_of v view plane seen layer l h ∷ [], refl);
}

-- ---- the pieces of a set

module _ (v : View) (view : IsView v) where
  abbrev exploded_of : state.Shape → List state.Shape
  exploded_of s = exploded_shapes (plane_of v) v.answers s

  pieces_rise : (set : List ℕ) (sets : List (List ℕ)) → ArePieces v.faces set sets → All IsStrictlyIncreasing sets
  pieces_rise set sets are = elim (nil_or_not set) [
    | inl none ↦ subst (All IsStrictlyIncreasing) (sym (are.empty none)) nothing_rises
    | inr some ↦ (are.parts some).ascending
  ]
    where
      nothing_rises : All IsStrictlyIncreasing ([] ∷ [])
      nothing_rises = All-cons IsStrictlyIncreasing [] [] (λ k l. absurd (omega arith)) (All-nil IsStrictlyIncreasing)

  pieces_inner : (set : List ℕ) (sets : List (List ℕ)) → IsSetOf v.faces set → ArePieces v.faces set sets → All (IsSetOf v.faces) sets
  pieces_inner set sets inner are = elim (nil_or_not set) [
    | inl none ↦ subst (All (IsSetOf v.faces)) (sym (are.empty none)) (All-cons (IsSetOf v.faces) [] [] (All-nil (IsInnerFace v.faces)) (All-nil (IsSetOf v.faces)))
    | inr some ↦ parts_inner v.faces set sets inner (are.parts some)
  ]

  pieces_show : (set : List ℕ) (r : Region) → FacesShow v set r → (sets : List (List ℕ)) → ArePieces v.faces set sets → AllZip (PolygonShows v) (face_shapes sets) (exploded_of (state.region r))
  pieces_show set r h sets are =
      let told = exploded_as_told v.drawing v.arcs v.faces v.label view.walked set h.inner r h.follows v.answers (view.right.sides r) (λ j. view.right.parts r j) sets are in
      shapes_show v sets (exploded (plane_of v) v.answers r) (show_in_order v sets (exploded (plane_of v) v.answers r) (pieces_rise set sets are) (pieces_inner set sets h.inner are) told.0 told.1)

  -- each set in pieces, for each shape
  abbrev PiecesShow : List (List ℕ) → state.Shape → Type 0
  PiecesShow sets s = AllZip (PolygonShows v) (face_shapes sets) (exploded_of s)

  all_pieces_show : (held : List Shape) (sets : List (List ℕ)) (ss : List state.Shape) (pieces : List (List (List ℕ))) → AllZip (PolygonShows v) held ss → AllZip (FacesShow v) sets (map region_of ss) → length pieces ≡ length sets →
      ((n : ℕ) → n < length sets → ArePieces v.faces (get_or sets n []) (get_or pieces n [])) → AllZip PiecesShow pieces ss
  all_pieces_show held [] [] [] polygons z many are = tt
  all_pieces_show held [] [] (p ∷ pieces) polygons z many are = absurd (omega (arith, many))
  all_pieces_show held [] (s ∷ ss) pieces polygons z many are = absurd z
  all_pieces_show held (set ∷ sets) [] pieces polygons z many are = absurd z
  all_pieces_show held (set ∷ sets) (s ∷ ss) [] polygons z many are = absurd (omega (arith, many))
  all_pieces_show [] (set ∷ sets) (s ∷ ss) (p ∷ pieces) polygons z many are = absurd polygons
  all_pieces_show (first ∷ held) (set ∷ sets) (s ∷ ss) (p ∷ pieces) polygons z many are = (
    subst (PiecesShow p) (sym (is_region v first s polygons.0)) (pieces_show set (region_of s) z.0 p (are 0 (omega arith))),
    all_pieces_show held sets ss pieces polygons.1 z.1 (omega (arith, many)) (λ n l. are (suc n) (omega arith)),
  )

  -- ---- features of pieces

  module _ (all : List RowValues) where
    -- the row of its feature, and its shape
    abbrev ItemShows : PartItem → Feature → Type 0
    ItemShows item f = (row_at all item.feature ≡ f.0) × PolygonShows v (part_shape item) f.1

    items_show : (n : ℕ) (row : RowValues) → row_at all n ≡ row → (sets : List (List ℕ)) (ss : List state.Shape) → AllZip (PolygonShows v) (face_shapes sets) ss → AllZip ItemShows (items_of n sets) (map (λ (s : state.Shape). (row, s)) ss)
    items_show n row is [] [] z = tt
    items_show n row is [] (s ∷ ss) z = absurd z
    items_show n row is (set ∷ more) [] z = absurd z
    items_show n row is (set ∷ more) (s ∷ ss) z = ((is, z.0), items_show n row is more ss z.1)

    abbrev in_pieces : Feature → List Feature
    in_pieces f = map (λ (s : state.Shape). (f.0, s)) (exploded_of f.1)

    abbrev items_in : ℕ × List (List ℕ) → List PartItem
    items_in f = items_of f.0 f.1

    features_show : (n : ℕ) (pieces : List (List (List ℕ))) (rows : List RowValues) (ss : List state.Shape) → AllZip PiecesShow pieces ss → length rows ≡ length ss → ((k : ℕ) → k < length rows → row_at all (n + k) ≡ get_or rows k []) →
        AllZip ItemShows (flat_map items_in (enumerate_from n pieces)) (flat_map in_pieces (zip rows ss))
    features_show n [] rows (s ∷ ss) z many at = absurd z
    features_show n (p ∷ pieces) rows [] z many at = absurd z
    features_show n [] [] [] z many at = tt
    features_show n [] (row ∷ rows) [] z many at = absurd (omega (arith, many))
    features_show n (p ∷ pieces) [] (s ∷ ss) z many at = absurd (omega (arith, many))
    features_show n (p ∷ pieces) (row ∷ rows) (s ∷ ss) z many at =
        let first : n + 0 ≡ n = omega arith in
        zip_joined ItemShows (items_of n p) (in_pieces (row, s)) (flat_map items_in (enumerate_from (n + 1) pieces)) (flat_map in_pieces (zip rows ss))
        (items_show n row (ap (row_at all) (sym first) ∙ at 0 (omega arith)) p (exploded_of s) z.0)
        (features_show (n + 1) pieces rows ss z.1 (omega (arith, many)) (λ k below. let further : n + 1 + k ≡ n + suc k = omega arith in ap (row_at all) further ∙ at (suc k) (omega arith)))

-- ---- a layer in pieces

module _ (v : View) (view : IsView v) (plane : Plane) (seen : IsSeenIn v plane) (layer : Layer) (l : StateLayer) (h : PolygonsShow v layer l) where
  abbrev exploded_features : List Feature
  exploded_features = flat_map (λ (f : Feature). map (λ (s : state.Shape). (f.0, s)) (exploded_shapes (plane_of v) v.answers f.1)) (zip l.table.rows l.shapes)

  abbrev exploded_layer : StateLayer
  exploded_layer = record l { table = record { names = l.table.names; rows = map (λ (f : Feature). f.0) exploded_features }; shapes = map (λ (f : Feature). f.1) exploded_features }

  items_alike : (items : List PartItem) → exploding.IsExploded v.faces (sets_of layer) items → AllZip (ItemShows v view l.table.rows) items exploded_features
  items_alike items is =
      let many : length l.table.rows ≡ length l.shapes = ap (λ (t : TableContent). length t.rows) h.shows.table ∙ sym layer.each ∙ zip_long (PolygonShows v) layer.shapes.items l.shapes (polygons_show v layer l h) in
      subst (λ (those : List PartItem). AllZip (ItemShows v view l.table.rows) those exploded_features) (sym is.listed)
      (features_show v view l.table.rows 0 is.pieces l.table.rows l.shapes
      (all_pieces_show v view layer.shapes.items (sets_of layer) l.shapes is.pieces (polygons_show v layer l h) (layer_sets v layer l h) is.each is.are) many (λ k below. let start : 0 + k ≡ k = omega arith in ap (row_at l.table.rows) start))

  exploded_shows : (made : Layer) → run.IsExploded plane layer made → LayerShows v made exploded_layer
  exploded_shows made is =
      let are : ArePartsOf plane layer.shapes.items is.numbers is.pieces = subst (λ (k : Kind). run.ArePieces k plane layer.shapes.items is.numbers is.pieces) h.polygons is.are in
      let zipped = items_alike are.items (subst (λ (faces : FaceTable). exploding.IsExploded faces (sets_of layer) are.items) seen.faces are.parts) in
      let rows : map (row_at l.table.rows) is.numbers ≡ map (λ (f : Feature). f.0) exploded_features =
      ap (map (row_at l.table.rows)) are.numbered ∙ map-map (row_at l.table.rows) (λ (item : PartItem). item.feature) are.items
      ∙ zip_same (ItemShows v view l.table.rows) (λ (item : PartItem). row_at l.table.rows item.feature) (λ (f : Feature). f.0) (λ item f both. both.0) are.items exploded_features zipped in
      let shapes : AllZip (PolygonShows v) is.pieces exploded_layer.shapes =
      subst (λ (parts : List Shape). AllZip (PolygonShows v) parts exploded_layer.shapes) (sym are.shown)
      (zip_map (ItemShows v view l.table.rows) (PolygonShows v) part_shape (λ (f : Feature). f.1) (λ item f both. both.1) are.items exploded_features zipped) in
      record {
        name = h.shows.name ∙ sym is.has.name;
        kind = h.shows.kind ∙ sym is.has.kind;
        table = ap (λ (those : List RowValues). record { names = l.table.names; rows = those }) (sym rows) ∙ ap (λ (t : TableContent). take_rows t is.numbers) h.shows.table ∙ sym is.has.table;
        shapes = shapes_in v layer made is.pieces exploded_layer.shapes (subst (λ (k : Kind). AllZip (ShapeShows v k) is.pieces exploded_layer.shapes) (sym h.polygons) shapes) is.has.kind is.has.shapes;
      }

pub exploded_polygons_show : ExplodedPolygonsShow
exploded_polygons_show v view plane seen layer l h = record {
  shows = one_shows v (run.IsExploded plane layer) (explode_layer (plane_of v) v.answers l) (λ made is. (exploded_layer v view plane seen layer l h, refl, exploded_shows v view plane seen layer l h made is));
  refused = (exploded_layer v view plane seen layer l h ∷ [], refl);
}
