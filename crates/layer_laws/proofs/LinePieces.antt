-- Each path and each point by itself.
use Rattle.std.proofs.Common.{◌≡◌, refl, sym, ap, ◌∙◌, subst, arith, ℕ, zero, suc, ◌+◌, ◌<◌, List, [], ◌∷◌, ◌++◌, All, Contains, length, map, replicate, zip}
use Rattle.std.specs.List.{AllZip, enumerate_from, flat_map}
use Rattle.std.proofs.lemmas.List.{map-append}
use Rattle.std.proofs.lemmas.List.Elements.{All-cons, All-head, All-nil, All-tail}
use Rattle.plane_model.specs.Points.{GridPoint, Path}
use Rattle.plane_model.specs.Arcs.{SignedArc, joined_points}
use Rattle.plane_model.specs.Drawing.{vertices_of}
use Rattle.plane_model.specs.Snapped.{snapped}
use Rattle.grid_base.specs.declared.kinds.Kind.{Kind}
use Rattle.grid_base.specs.declared.kinds.Kind.TheVariants as kinds
use Rattle.json_values.specs.Table.{RowValues, TableContent}
use Rattle.table_rows.specs.Rows.{row_at}
use Rattle.line_laws.specs.Linked.{AreLinked, AreThere, points_along}
use Rattle.run_plane.specs.declared.layer.Layer.{Layer}
use Rattle.run_plane.specs.declared.layer.Shape.{Shape}
use Rattle.run_plane.specs.declared.plane.Plane.{Plane}
use Rattle.run_shapes.specs.Exploding.{ArePieces, AreSplitOf, IsExploded, one_path, one_point, repeated, split_paths, split_points, split_shape}
use Rattle.chain_model.specs.State as state
use Rattle.chain_model.specs.State.{StateLayer}
use Rattle.chain_model.specs.Features.{Feature, exploded_shapes, just}
use Rattle.layer_laws.specs.Shown.{View, AreVertices, LayerShows, LineShows, PointsShow, ShapeShows, plane_of}
use Rattle.layer_laws.specs.Lines.{ExplodedLinesShow}
use Rattle.layer_laws.proofs.TableCommands.{one_shows}
use Rattle.layer_laws.proofs.Taking.{rows_show}
use Rattle.layer_laws.proofs.Zipped.{zip_flat_map, zip_long, zip_weaker}

-- ---- a row for each piece

same_row : {A : Type 0} (row : RowValues) (xs : List A) → map (λ (f : RowValues × A). f.0) (map (λ (x : A). (row, x)) xs) ≡ replicate (length xs) row
same_row row [] = refl
same_row row (x ∷ xs) = ap (λ (rest : List RowValues). row ∷ rest) (same_row row xs)

same_pieces : {A : Type 0} (row : RowValues) (xs : List A) → map (λ (f : RowValues × A). f.1) (map (λ (x : A). (row, x)) xs) ≡ xs
same_pieces row [] = refl
same_pieces {A} row (x ∷ xs) = ap (λ (rest : List A). x ∷ rest) (same_pieces row xs)

repeated_at : (all : List RowValues) (count n : ℕ) → map (row_at all) (replicate count n) ≡ replicate count (row_at all n)
repeated_at all zero n = refl
repeated_at all (suc count) n = ap (λ (rest : List RowValues). row_at all n ∷ rest) (repeated_at all count n)

-- the pieces of features
abbrev pub pieces_of : (state.Shape → List state.Shape) → List Feature → List Feature
pieces_of pieces features = flat_map (λ (f : Feature). map (λ (s : state.Shape). (f.0, s)) (pieces f.1)) features

module _ (pieces : state.Shape → List state.Shape) where
  shapes_of_pieces : (rows : List RowValues) (shapes : List state.Shape) → length rows ≡ length shapes → map (λ (f : Feature). f.1) (pieces_of pieces (zip rows shapes)) ≡ flat_map pieces shapes
  shapes_of_pieces [] [] many = refl
  shapes_of_pieces [] (s ∷ shapes) many = absurd (omega (arith, many))
  shapes_of_pieces (row ∷ rows) [] many = absurd (omega (arith, many))
  shapes_of_pieces (row ∷ rows) (s ∷ shapes) many =
      let here = same_pieces row (pieces s) in
      let rest = shapes_of_pieces rows shapes (omega (arith, many)) in
      map-append (λ (f : Feature). f.1) (map (λ (s : state.Shape). (row, s)) (pieces s)) (pieces_of pieces (zip rows shapes)) ∙ (λ i. here i ++ rest i)

  -- the rows of the numbers of the features that the pieces are of
  rows_of_pieces : (all : List RowValues) (n : ℕ) (rows : List RowValues) (held : List Shape) (shapes : List state.Shape) → length rows ≡ length shapes → AllZip (λ (h : Shape) (s : state.Shape). length (split_shape h) ≡ length (pieces s)) held shapes →
      ((k : ℕ) → k < length rows → row_at all (n + k) ≡ row_at rows k) → map (row_at all) (flat_map repeated (enumerate_from n held)) ≡ map (λ (f : Feature). f.0) (pieces_of pieces (zip rows shapes))
  rows_of_pieces all n [] [] [] many each at = refl
  rows_of_pieces all n [] [] (s ∷ shapes) many each at = absurd each
  rows_of_pieces all n [] (h ∷ held) [] many each at = absurd each
  rows_of_pieces all n [] (h ∷ held) (s ∷ shapes) many each at = absurd (omega (arith, many))
  rows_of_pieces all n (row ∷ rows) held [] many each at = absurd (omega (arith, many))
  rows_of_pieces all n (row ∷ rows) [] (s ∷ shapes) many each at = absurd each
  rows_of_pieces all n (row ∷ rows) (h ∷ held) (s ∷ shapes) many each at =
      let start : n ≡ n + 0 = omega arith in
      let first : row_at all n ≡ row = ap (row_at all) start ∙ at 0 (omega arith) in
      let here : map (row_at all) (replicate (length (split_shape h)) n) ≡ map (λ (f : Feature). f.0) (map (λ (s : state.Shape). (row, s)) (pieces s)) =
      repeated_at all (length (split_shape h)) n ∙ (λ i. replicate (each.0 i) (first i)) ∙ sym (same_row row (pieces s)) in
      let rest = rows_of_pieces all (n + 1) rows held shapes (omega (arith, many)) each.1 (λ k l. let further : n + 1 + k ≡ n + suc k = omega arith in ap (row_at all) further ∙ at (suc k) (omega (arith, l))) in
      map-append (row_at all) (replicate (length (split_shape h)) n) (flat_map repeated (enumerate_from (n + 1) held))
      ∙ (λ i. here i ++ rest i)
      ∙ sym (map-append (λ (f : Feature). f.0) (map (λ (s : state.Shape). (row, s)) (pieces s)) (pieces_of pieces (zip rows shapes)))

-- ---- shapes

module _ (v : View) where
  abbrev state_pieces : state.Shape → List state.Shape
  state_pieces s = exploded_shapes (plane_of v) v.answers s

  abbrev path_alone : Path → state.Shape
  path_alone path = state.paths (path ∷ [])

  abbrev point_alone : GridPoint → state.Shape
  point_alone p = state.points (p ∷ [])

  each_path : (named : List (List SignedArc)) → All (AreThere v.arcs) named → All (AreLinked v.arcs) named → AllZip (LineShows v) (map one_path named) (map path_alone (points_along v.arcs named))
  each_path [] there linked = tt
  each_path (a ∷ named) there linked = (
    record {
      named = a ∷ [];
      paths = joined_points v.arcs a ∷ [];
      has = refl;
      is = refl;
      shows = record {
        there = All-cons (AreThere v.arcs) a [] (All-head (AreThere v.arcs) a named there) (All-nil (AreThere v.arcs));
        linked = All-cons (AreLinked v.arcs) a [] (All-head (AreLinked v.arcs) a named linked) (All-nil (AreLinked v.arcs));
        along = refl;
      };
    },
    each_path named (All-tail (AreThere v.arcs) a named there) (All-tail (AreLinked v.arcs) a named linked),
  )

  paths_split : (named : List (List SignedArc)) → All (AreThere v.arcs) named → All (AreLinked v.arcs) named → AllZip (LineShows v) (split_paths named) (state_pieces (state.paths (points_along v.arcs named)))
  paths_split [] there linked = (record { named = []; paths = []; has = refl; is = refl; shows = record { there = there; linked = linked; along = refl } }, tt)
  paths_split (a ∷ named) there linked = each_path (a ∷ named) there linked

  line_split : (held : Shape) (s : state.Shape) → LineShows v held s → AllZip (LineShows v) (split_shape held) (state_pieces s)
  line_split held s h =
      subst (λ (s : state.Shape). AllZip (LineShows v) (split_shape held) (state_pieces s)) (ap state.paths (sym h.shows.along) ∙ sym h.is)
      (subst (λ (held : Shape). AllZip (LineShows v) (split_shape held) (state_pieces (state.paths (points_along v.arcs h.named)))) (sym h.has) (paths_split h.named h.shows.there h.shows.linked))

  abbrev IsVertex : GridPoint → Type 0
  IsVertex p = Contains (vertices_of (snapped v.drawing)) p

  each_point : (points : List GridPoint) → AreVertices v points → AllZip (PointsShow v) (map one_point points) (map point_alone points)
  each_point [] vertices = tt
  each_point (p ∷ points) vertices = (
    record { points = p ∷ []; has = refl; is = refl; vertices = All-cons IsVertex p [] (All-head IsVertex p points vertices) (All-nil IsVertex) },
    each_point points (All-tail IsVertex p points vertices),
  )

  points_split : (points : List GridPoint) → AreVertices v points → AllZip (PointsShow v) (split_points points) (state_pieces (state.points points))
  points_split [] vertices = (record { points = []; has = refl; is = refl; vertices = vertices }, tt)
  points_split (p ∷ points) vertices = each_point (p ∷ points) vertices

  point_split : (held : Shape) (s : state.Shape) → PointsShow v held s → AllZip (PointsShow v) (split_shape held) (state_pieces s)
  point_split held s h =
      subst (λ (s : state.Shape). AllZip (PointsShow v) (split_shape held) (state_pieces s)) (sym h.is)
      (subst (λ (held : Shape). AllZip (PointsShow v) (split_shape held) (state_pieces (state.points h.points))) (sym h.has) (points_split h.points h.vertices))

  shape_split : (k : Kind) → (k ≡ kinds.Polygon → ⊥) → (held : Shape) (s : state.Shape) → ShapeShows v k held s → AllZip (ShapeShows v k) (split_shape held) (state_pieces s)
  shape_split kinds.Polygon other held s h = absurd (other refl)
  shape_split kinds.Line other held s h = line_split held s h
  shape_split kinds.Point other held s h = point_split held s h
  shape_split kinds.Table other held s h =
      subst (λ (s : state.Shape). AllZip (ShapeShows v kinds.Table) (split_shape held) (state_pieces s)) (sym h.is)
      (subst (λ (held : Shape). AllZip (ShapeShows v kinds.Table) (split_shape held) (state.no_shape ∷ [])) (sym h.has) (record { has = refl; is = refl }, tt))

  -- ---- layers

  split_of : (k : Kind) → (k ≡ kinds.Polygon → ⊥) → (plane : Plane) (shapes : List Shape) (numbers : List ℕ) (pieces : List Shape) → ArePieces k plane shapes numbers pieces → AreSplitOf shapes numbers pieces
  split_of kinds.Polygon other plane shapes numbers pieces are = absurd (other refl)
  split_of kinds.Line other plane shapes numbers pieces are = are
  split_of kinds.Point other plane shapes numbers pieces are = are
  split_of kinds.Table other plane shapes numbers pieces are = are

  abbrev exploded_features : StateLayer → List Feature
  exploded_features l = pieces_of state_pieces (zip l.table.rows l.shapes)

  abbrev exploded_of : StateLayer → StateLayer
  exploded_of l = record l { table = record { names = l.table.names; rows = map (λ (f : Feature). f.0) (exploded_features l) }; shapes = map (λ (f : Feature). f.1) (exploded_features l) }

  pieces_show : (layer : Layer) (l : StateLayer) → LayerShows v layer l → (layer.kind ≡ kinds.Polygon → ⊥) → (plane : Plane) (made : Layer) → IsExploded plane layer made → LayerShows v made (exploded_of l)
  pieces_show layer l h other plane made is =
      let split = split_of layer.kind other plane layer.shapes.items is.numbers is.pieces is.are in
      let zipped = zip_long (ShapeShows v layer.kind) layer.shapes.items l.shapes h.shapes in
      let counted : length l.table.rows ≡ length l.shapes = ap (λ (t : TableContent). length t.rows) h.table ∙ sym layer.each ∙ zipped in
      let show : AllZip (ShapeShows v layer.kind) (flat_map split_shape layer.shapes.items) (flat_map state_pieces l.shapes) =
      zip_flat_map (ShapeShows v layer.kind) (ShapeShows v layer.kind) split_shape state_pieces (shape_split layer.kind other) layer.shapes.items l.shapes h.shapes in
      let as_long : AllZip (λ (held : Shape) (s : state.Shape). length (split_shape held) ≡ length (state_pieces s)) layer.shapes.items l.shapes =
      zip_weaker (ShapeShows v layer.kind) (λ (held : Shape) (s : state.Shape). length (split_shape held) ≡ length (state_pieces s))
      (λ held s shows. zip_long (ShapeShows v layer.kind) (split_shape held) (state_pieces s) (shape_split layer.kind other held s shows)) layer.shapes.items l.shapes h.shapes in
      let shapes : flat_map state_pieces l.shapes ≡ map (λ (f : Feature). f.1) (exploded_features l) = sym (shapes_of_pieces state_pieces l.table.rows l.shapes counted) in
      let rows : map (row_at l.table.rows) is.numbers ≡ map (λ (f : Feature). f.0) (exploded_features l) =
      ap (map (row_at l.table.rows)) split.numbered ∙ rows_of_pieces state_pieces l.table.rows 0 l.table.rows layer.shapes.items l.shapes counted as_long (λ k below. let start : 0 + k ≡ k = omega arith in ap (row_at l.table.rows) start) in
      let held : AllZip (ShapeShows v layer.kind) is.pieces (map (λ (f : Feature). f.1) (exploded_features l)) =
      subst (λ (pieces : List Shape). AllZip (ShapeShows v layer.kind) pieces (map (λ (f : Feature). f.1) (exploded_features l))) (sym split.shown)
      (subst (λ (shapes : List state.Shape). AllZip (ShapeShows v layer.kind) (flat_map split_shape layer.shapes.items) shapes) shapes show) in
      subst (λ (rows : List RowValues). LayerShows v made (record l { table = record { names = l.table.names; rows = rows }; shapes = map (λ (f : Feature). f.1) (exploded_features l) })) rows
      (rows_show v layer l h is.numbers is.pieces (map (λ (f : Feature). f.1) (exploded_features l)) held made is.has)

pub exploded_lines_show : ExplodedLinesShow
exploded_lines_show v plane layer l h other = record {
  shows = one_shows v (IsExploded plane layer) (just (exploded_of v l)) (λ made is. (exploded_of v l, refl, pieces_show v layer l h other plane made is));
  refused = (exploded_of v l ∷ [], refl);
}
