-- What a run begins with, kind by kind, layer by layer, source by source.
use Rattle.std.proofs.Common.{◌≡◌, ◌⊎◌, inl, inr, refl, sym, ap, ◌∙◌, subst, arith, ℕ, ◌+◌, ◌<◌, ◌≤◌, List, [], ◌∷◌, ◌++◌, All, Contains, length, map, drop, get_or, filter, append_assoc, if◌then◌else◌}
use Rattle.std.specs.Prelude.{⊤}
use Rattle.std.specs.List.{AllZip, enumerate_from, flat_map, range_with_len}
use Rattle.std.proofs.lemmas.Bool.{cases_lt, ltb-true}
use Rattle.std.proofs.lemmas.List.{append-nil, drop-drop, get_or-drop, get_or_past, length-append, length-map, map-append}
use Rattle.std.proofs.lemmas.List.Concat.{flat_map-append}
use Rattle.std.proofs.lemmas.List.Elements.{All-cons, All-head, All-nil, All-tail, Contains-append_left, Contains-append_right, Contains-get_or}
use Rattle.lists.specs.Lists.{joined_up}
use Rattle.lists.proofs.Members.{Contains-flat_map, Contains-head, Contains-joined_up, Contains-later, Contains-map, filter-Contains}
use Rattle.plane_model.specs.Points.{GridPoint, Path}
use Rattle.plane_model.specs.Arcs.{SignedArc}
use Rattle.plane_model.specs.Drawing.{Drawing, paths_of}
use Rattle.plane_model.specs.Snapped.{snapped, snapped_path}
use Rattle.plane_model.specs.Hot.{hot_points}
use Rattle.arc_table.specs.Nodes.{IsLineOf as IsDrawnLine}
use Rattle.grid_base.specs.Grid.{Corners}
use Rattle.grid_base.specs.declared.kinds.Kind.{Kind}
use Rattle.grid_base.specs.declared.kinds.Kind.TheVariants as kinds
use Rattle.geojson_io.specs.LayerContent.{LayerContent}
use Rattle.geojson_io.specs.Layers.{same_kind}
use Rattle.geojson_io.specs.declared.shape.GeoShape.{GeoShape}
use Rattle.geojson_io.specs.declared.shape.GeoShape.TheVariants as geo
use Rattle.job_terms.specs.declared.job.Owner.{Owner}
use Rattle.job_terms.specs.declared.job.Owner.TheVariants as owner
use Rattle.job_terms.specs.declared.job.SourceWord.{SourceWord}
use Rattle.face_walk.specs.Holders.{list_at}
use Rattle.region_model.specs.Region.{feature}
use Rattle.line_laws.specs.Linked.{AreLinked, AreThere}
use Rattle.line_laws.proofs.LinkedArcs.{lines_are_linked}
use Rattle.run_plane.specs.LineArcs.{AreArcsOfPath, AreLineArcs, has_links}
use Rattle.run_plane.specs.declared.layer.Layer.{Layer}
use Rattle.run_plane.specs.declared.layer.Shape.{Shape}
use Rattle.run_plane.specs.declared.layer.Shape.TheVariants as shape
use Rattle.run_beginning.specs.Drawing as run
use Rattle.run_beginning.specs.BegunLayers.{AreBegun, AreBegunOfEach, AreShapes, IsBegunLayer, IsLineOf, Left, left_after, left_after_all, face_shape, imported, line_count, of_command, of_import, owned, point_shape, polygon_count, row_shape}
use Rattle.chain_model.specs.State as state
use Rattle.chain_model.specs.State.{StateLayer}
use Rattle.chain_model.specs.Beginning as state_of
use Rattle.chain_model.specs.Beginning.{command_layers, count_of, first_layer, first_layers, first_shape, first_sources, import_layers, is_import, shapes_of}
use Rattle.layer_laws.specs.Shown.{View, IsView, ArcsShow, AreVertices, FacesShow, LayerShows, ShapeShows, SourcesShow, plane_of}
use Rattle.layer_laws.specs.Views.{IsViewOf, ShowEach}
use Rattle.layer_laws.specs.Beginnings.{BeginningShows, BeginningsShow, DrawingsAreOne, drawing_by, owners_of}
use Rattle.layer_laws.proofs.Views.{views_exist}
use Rattle.layer_laws.proofs.Zipped.{zip_joined}

-- ---- the drawing

polygons_alike : (s : GeoShape) → run.polygons_of s ≡ state_of.polygons_of s
polygons_alike (geo.Polygons polygons) = refl
polygons_alike geo.Nothing = refl
polygons_alike (geo.Lines lines) = refl
polygons_alike (geo.Points points) = refl

lines_alike : (s : GeoShape) → run.lines_of s ≡ state_of.lines_of s
lines_alike (geo.Polygons polygons) = refl
lines_alike geo.Nothing = refl
lines_alike (geo.Lines lines) = refl
lines_alike (geo.Points points) = refl

points_alike : (s : GeoShape) → run.points_of s ≡ state_of.points_of s
points_alike (geo.Polygons polygons) = refl
points_alike geo.Nothing = refl
points_alike (geo.Lines lines) = refl
points_alike (geo.Points points) = refl

maps_alike : {A B : Type 0} (f g : A → B) → ((x : A) → f x ≡ g x) → (xs : List A) → map f xs ≡ map g xs
maps_alike f g same [] = refl
maps_alike f g same (x ∷ xs) = λ i. same x i ∷ maps_alike f g same xs i

-- the features of a layer of one of the kinds are those of its shapes if it is of this kind, else none
module _ {A : Type 0} (k : Kind) (features : Kind → List GeoShape → List A) (made : GeoShape → A) (same : (j : Kind) (given : List GeoShape) → features j given ≡ map made (if same_kind j k then given else [])) where
  drawn_alike : (ls : List LayerContent) → flat_map (λ (l : LayerContent). features l.kind l.shapes) ls ≡ map made (shapes_of k ls)
  drawn_alike [] = refl
  drawn_alike (l ∷ ls) =
      let here = same l.kind l.shapes in
      let rest = drawn_alike ls in
      (λ i. here i ++ rest i) ∙ sym (map-append made (if same_kind l.kind k then l.shapes else []) (shapes_of k ls))

polygons_drawn : (j : Kind) (given : List GeoShape) → run.polygon_features j given ≡ map state_of.polygons_of (if same_kind j kinds.Polygon then given else [])
polygons_drawn kinds.Polygon given = maps_alike run.polygons_of state_of.polygons_of polygons_alike given
polygons_drawn kinds.Line given = refl
polygons_drawn kinds.Point given = refl
polygons_drawn kinds.Table given = refl

lines_drawn : (j : Kind) (given : List GeoShape) → run.line_features j given ≡ map state_of.lines_of (if same_kind j kinds.Line then given else [])
lines_drawn kinds.Polygon given = refl
lines_drawn kinds.Line given = maps_alike run.lines_of state_of.lines_of lines_alike given
lines_drawn kinds.Point given = refl
lines_drawn kinds.Table given = refl

points_drawn : (j : Kind) (given : List GeoShape) → run.point_features j given ≡ map state_of.points_of (if same_kind j kinds.Point then given else [])
points_drawn kinds.Polygon given = refl
points_drawn kinds.Line given = refl
points_drawn kinds.Point given = maps_alike run.points_of state_of.points_of points_alike given
points_drawn kinds.Table given = refl

pub drawings_are_one : DrawingsAreOne
drawings_are_one ls corners =
    let polygons = drawn_alike kinds.Polygon run.polygon_features state_of.polygons_of polygons_drawn ls in
    let lines = drawn_alike kinds.Line run.line_features state_of.lines_of lines_drawn ls in
    let points = drawn_alike kinds.Point run.point_features state_of.points_of points_drawn ls in
    λ i. record { polygons = polygons i; lines = lines i; points = points i; boxes = run.drawn_boxes corners }

-- ---- numbers of features

counted : (k : Kind) (xs ys : List LayerContent) → count_of k (xs ++ ys) ≡ count_of k xs + count_of k ys
counted k xs ys = ap length (flat_map-append (λ (l : LayerContent). if same_kind l.kind k then l.shapes else []) xs ys) ∙ length-append (shapes_of k xs) (shapes_of k ys)

one_counted : (k : Kind) (l : LayerContent) → count_of k (l ∷ []) ≡ length (if same_kind l.kind k then l.shapes else [])
one_counted k l =
    let both = length-append (if same_kind l.kind k then l.shapes else []) [] in
    omega (arith, both)

polygons_counted : (k : Kind) (given : List GeoShape) → length (if same_kind k kinds.Polygon then given else []) ≡ polygon_count k (length given)
polygons_counted kinds.Polygon given = refl
polygons_counted kinds.Line given = refl
polygons_counted kinds.Point given = refl
polygons_counted kinds.Table given = refl

lines_counted : (k : Kind) (given : List GeoShape) → length (if same_kind k kinds.Line then given else []) ≡ line_count k (length given)
lines_counted kinds.Polygon given = refl
lines_counted kinds.Line given = refl
lines_counted kinds.Point given = refl
lines_counted kinds.Table given = refl

module _ (v : View) (view : IsView v) (features : List (List ℕ)) (show : ShowEach v features feature) where
  abbrev all_lines : List (List Path)
  all_lines = (snapped v.drawing).lines

  -- what is left of the features after some layers
  pub record IsLeft (before : List LayerContent) (left : Left) : Type 0 where
    pub faces : left.faces ≡ drop (count_of kinds.Polygon before) features
    pub lines : left.lines ≡ drop (count_of kinds.Line before) all_lines

  is_left_after : (before : List LayerContent) (left : Left) → IsLeft before left → (l : LayerContent) → IsLeft (before ++ l ∷ []) (left_after l left)
  is_left_after before left is l =
      let polygons = counted kinds.Polygon before (l ∷ []) in
      let lines = counted kinds.Line before (l ∷ []) in
      let of_polygons : count_of kinds.Polygon (l ∷ []) ≡ polygon_count l.kind (length l.shapes) = one_counted kinds.Polygon l ∙ polygons_counted l.kind l.shapes in
      let of_lines : count_of kinds.Line (l ∷ []) ≡ line_count l.kind (length l.shapes) = one_counted kinds.Line l ∙ lines_counted l.kind l.shapes in
      let here : count_of kinds.Polygon before + polygon_count l.kind (length l.shapes) ≡ count_of kinds.Polygon (before ++ l ∷ []) = omega (arith, polygons, of_polygons) in
      let there : count_of kinds.Line before + line_count l.kind (length l.shapes) ≡ count_of kinds.Line (before ++ l ∷ []) = omega (arith, lines, of_lines) in
      record {
        faces = ap (drop (polygon_count l.kind (length l.shapes))) is.faces ∙ drop-drop (polygon_count l.kind (length l.shapes)) (count_of kinds.Polygon before) features ∙ ap (λ (n : ℕ). drop n features) here;
        lines = ap (drop (line_count l.kind (length l.shapes))) is.lines ∙ drop-drop (line_count l.kind (length l.shapes)) (count_of kinds.Line before) all_lines ∙ ap (λ (n : ℕ). drop n all_lines) there;
      }

  is_left_after_all : (ls before : List LayerContent) (left : Left) → IsLeft before left → IsLeft (before ++ ls) (left_after_all ls left)
  is_left_after_all [] before left is = subst (λ (b : List LayerContent). IsLeft b left) (sym (append-nil before)) is
  is_left_after_all (l ∷ ls) before left is =
      subst (λ (b : List LayerContent). IsLeft b (left_after_all ls (left_after l left))) (append_assoc before (l ∷ []) ls) (is_left_after_all ls (before ++ l ∷ []) (left_after l left) (is_left_after before left is l))

  -- ---- polygons

  abbrev first_of : Kind → ℕ × GeoShape → state.Shape
  first_of k s = first_shape (plane_of v) k s.0 s.1

  polygons_show : (given : List GeoShape) (m n i : ℕ) → n ≡ m + i → n + length given ≤ length features →
      AllZip (ShapeShows v kinds.Polygon) (map (face_shape (drop m features)) (range_with_len i (length given))) (map (first_of kinds.Polygon) (enumerate_from n given))
  polygons_show [] m n i same room = tt
  polygons_show (s ∷ given) m n i same room =
      let at : list_at (drop m features) i ≡ list_at features n = get_or-drop m features i [] ∙ ap (list_at features) (sym same) in (
        record { set = list_at (drop m features) i; region = feature n; has = refl; is = refl; shows = subst (λ (set : List ℕ). FacesShow v set (feature n)) (sym at) (show n (omega (arith, room))) },
        polygons_show given m (n + 1) (i + 1) (omega (arith, same)) (omega (arith, room)),
      )

  -- ---- lines

  -- lines of the drawing with a link, and arcs along them
  lines_link : (lines : List Path) → All (λ (line : Path). IsDrawnLine (snapped v.drawing) line × (1 < length line)) lines → (named : List (List SignedArc)) → AllZip (AreArcsOfPath v.arcs) lines named → ArcsShow v named lines
  lines_link [] drawn [] along = record { there = All-nil (AreThere v.arcs); linked = All-nil (AreLinked v.arcs); along = refl }
  lines_link [] drawn (a ∷ named) along = absurd along
  lines_link (line ∷ lines) drawn [] along = absurd along
  lines_link (line ∷ lines) drawn (a ∷ named) along =
      let (is, long) = All-head (λ (line : Path). IsDrawnLine (snapped v.drawing) line × (1 < length line)) line lines drawn in
      let (linked, joined) = lines_are_linked v.drawing v.arcs view.walked.table line is long a along.0.there (along.0.along (snapped v.drawing) view.walked.table (inl is)) in
      let rest = lines_link lines (All-tail (λ (line : Path). IsDrawnLine (snapped v.drawing) line × (1 < length line)) line lines drawn) named along.1 in
      record {
        there = All-cons (AreThere v.arcs) a named along.0.there rest.there;
        linked = All-cons (AreLinked v.arcs) a named linked rest.linked;
        along = λ i. sym joined i ∷ rest.along i;
      }

  line_drawn : (n : ℕ) → All (λ (line : Path). IsDrawnLine (snapped v.drawing) line × (1 < length line)) (filter has_links (get_or all_lines n []))
  line_drawn n k d l = go (cases_lt n (length all_lines))
    where
      line : Path
      line = get_or (filter has_links (get_or all_lines n [])) k d

      go : (n < length all_lines) ⊎ (length all_lines ≤ n) → IsDrawnLine (snapped v.drawing) line × (1 < length line)
      go (inl below) =
          let (there, long) = filter-Contains has_links (get_or all_lines n []) line (Contains-get_or (filter has_links (get_or all_lines n [])) k d l) in
          (Contains-joined_up all_lines (get_or all_lines n []) line (Contains-get_or all_lines n [] below) there, ltb-true 1 (length line) long)
      go (inr past) = absurd (let none : length (filter has_links (get_or all_lines n [])) ≡ 0 = ap (λ (lines : List Path). length (filter has_links lines)) (get_or_past all_lines n [] past) in omega (arith, none, l))

  line_shows : (m n i : ℕ) → n ≡ m + i → (held : Shape) → IsLineOf v.arcs (drop m all_lines) i held → ShapeShows v kinds.Line held (state.paths (filter has_links (get_or all_lines n [])))
  line_shows m n i same (shape.Paths named) along =
      let at : get_or (drop m all_lines) i [] ≡ get_or all_lines n [] = get_or-drop m all_lines i [] ∙ ap (λ (k : ℕ). get_or all_lines k []) (sym same) in
      record {
        named = named;
        paths = filter has_links (get_or all_lines n []);
        has = refl;
        is = refl;
        shows = lines_link (filter has_links (get_or all_lines n [])) (line_drawn n) named (subst (λ (lines : List Path). AreLineArcs v.arcs lines named) at along);
      }
  line_shows m n i same shape.Nothing along = absurd along
  line_shows m n i same (shape.Faces set) along = absurd along
  line_shows m n i same (shape.Points points) along = absurd along

  lines_show : (given : List GeoShape) (held : List Shape) (m n i : ℕ) → n ≡ m + i → AllZip (IsLineOf v.arcs (drop m all_lines)) (range_with_len i (length given)) held →
      AllZip (ShapeShows v kinds.Line) held (map (first_of kinds.Line) (enumerate_from n given))
  lines_show [] [] m n i same along = tt
  lines_show [] (h ∷ held) m n i same along = absurd along
  lines_show (s ∷ given) [] m n i same along = absurd along
  lines_show (s ∷ given) (h ∷ held) m n i same along = (line_shows m n i same h along.0, lines_show given held m (n + 1) (i + 1) (omega (arith, same)) along.1)

  -- ---- points and rows

  abbrev HasVertices : GeoShape → Type 0
  HasVertices s = AreVertices v (state_of.points_of s)

  points_show : (given : List GeoShape) (n : ℕ) → All HasVertices given → AllZip (ShapeShows v kinds.Point) (map point_shape given) (map (first_of kinds.Point) (enumerate_from n given))
  points_show [] n there = tt
  points_show (s ∷ given) n there = (
    record { points = state_of.points_of s; has = ap shape.Points (points_alike s); is = refl; vertices = All-head HasVertices s given there },
    points_show given (n + 1) (All-tail HasVertices s given there),
  )

  rows_show : (given : List GeoShape) (n : ℕ) → AllZip (ShapeShows v kinds.Table) (map row_shape given) (map (first_of kinds.Table) (enumerate_from n given))
  rows_show [] n = tt
  rows_show (s ∷ given) n = (record { has = refl; is = refl }, rows_show given (n + 1))

  -- ---- layers

  -- the shapes of a layer of this kind stand in the drawing
  abbrev AreDrawn : Kind → List GeoShape → ℕ → Type 0
  AreDrawn kinds.Polygon given n = n + length given ≤ length features
  AreDrawn kinds.Line given n = ⊤
  AreDrawn kinds.Point given n = All HasVertices given
  AreDrawn kinds.Table given n = ⊤

  shapes_show : (k : Kind) (before : List LayerContent) (left : Left) → IsLeft before left → (given : List GeoShape) (held : List Shape) → AreShapes v.arcs left k given held →
      AreDrawn k given (count_of k before) → AllZip (ShapeShows v k) held (map (first_of k) (enumerate_from (count_of k before) given))
  shapes_show kinds.Polygon before left is given held are drawn =
      let n : ℕ = count_of kinds.Polygon before in
      subst (λ (begun : List Shape). AllZip (ShapeShows v kinds.Polygon) begun (map (first_of kinds.Polygon) (enumerate_from n given)))
      (ap (λ (sets : List (List ℕ)). map (face_shape sets) (range_with_len 0 (length given))) (sym is.faces) ∙ sym are)
      (polygons_show given n n 0 (omega arith) drawn)
  shapes_show kinds.Line before left is given held are drawn =
      let n : ℕ = count_of kinds.Line before in
      lines_show given held n n 0 (omega arith) (subst (λ (lines : List (List Path)). AllZip (IsLineOf v.arcs lines) (range_with_len 0 (length given)) held) is.lines are)
  shapes_show kinds.Point before left is given held are drawn =
      subst (λ (begun : List Shape). AllZip (ShapeShows v kinds.Point) begun (map (first_of kinds.Point) (enumerate_from (count_of kinds.Point before) given))) (sym are)
      (points_show given (count_of kinds.Point before) drawn)
  shapes_show kinds.Table before left is given held are drawn =
      subst (λ (begun : List Shape). AllZip (ShapeShows v kinds.Table) begun (map (first_of kinds.Table) (enumerate_from (count_of kinds.Table before) given))) (sym are)
      (rows_show given (count_of kinds.Table before))

  layer_shows : (before : List LayerContent) (left : Left) → IsLeft before left → (l : LayerContent) → AreDrawn l.kind l.shapes (count_of l.kind before) → (held : Layer) → IsBegunLayer v.arcs left l held →
      LayerShows v held (first_layer (plane_of v) before l)
  layer_shows before left is l drawn held begun = record {
    name = sym begun.name;
    kind = sym begun.kind;
    table = sym begun.table;
    shapes = subst (λ (k : Kind). AllZip (ShapeShows v k) held.shapes.items (map (first_of l.kind) (enumerate_from (count_of l.kind before) l.shapes))) (sym begun.kind)
        (shapes_show l.kind before left is l.shapes held.shapes.items begun.shapes drawn);
  }

  module _ (total : List LayerContent) (whole : count_of kinds.Polygon total ≡ length features) (vertices : (l : LayerContent) → Contains total l → l.kind ≡ kinds.Point → All HasVertices l.shapes) where
    abbrev RoomFor : List LayerContent → List LayerContent → Type 0
    RoomFor before ls = count_of kinds.Polygon before + count_of kinds.Polygon ls ≤ length features

    first_counted : (l : LayerContent) (ls : List LayerContent) → count_of kinds.Polygon (l ∷ ls) ≡ polygon_count l.kind (length l.shapes) + count_of kinds.Polygon ls
    first_counted l ls =
        let both = length-append (if same_kind l.kind kinds.Polygon then l.shapes else []) (shapes_of kinds.Polygon ls) in
        let own = polygons_counted l.kind l.shapes in
        omega (arith, both, own)

    drawn_of : (before : List LayerContent) (l : LayerContent) → Contains total l → count_of kinds.Polygon before + polygon_count l.kind (length l.shapes) ≤ length features → AreDrawn l.kind l.shapes (count_of l.kind before)
    drawn_of before l there room = go l.kind refl
      where
        as_its_kind : (k : Kind) → l.kind ≡ k → AreDrawn k l.shapes (count_of k before) → AreDrawn l.kind l.shapes (count_of l.kind before)
        as_its_kind k e drawn = subst (λ (j : Kind). AreDrawn j l.shapes (count_of j before)) (sym e) drawn

        go : (k : Kind) → l.kind ≡ k → AreDrawn l.kind l.shapes (count_of l.kind before)
        go kinds.Polygon e = as_its_kind kinds.Polygon e (subst (λ (k : Kind). count_of kinds.Polygon before + polygon_count k (length l.shapes) ≤ length features) e room)
        go kinds.Line e = as_its_kind kinds.Line e tt
        go kinds.Point e = as_its_kind kinds.Point e (vertices l there e)
        go kinds.Table e = as_its_kind kinds.Table e tt

    room_after : (before : List LayerContent) (l : LayerContent) (ls : List LayerContent) → RoomFor before (l ∷ ls) → RoomFor (before ++ l ∷ []) ls
    room_after before l ls room =
        let first = first_counted l ls in
        let one = first_counted l [] in
        let both = counted kinds.Polygon before (l ∷ []) in
        omega (arith, first, one, both, room)

    layers_show : (ls before : List LayerContent) (left : Left) → IsLeft before left → ((l : LayerContent) → Contains ls l → Contains total l) → RoomFor before ls →
        (held : List Layer) → AreBegun v.arcs left ls held → AllZip (LayerShows v) held (first_layers (plane_of v) before ls)
    layers_show [] before left is within room [] begun = tt
    layers_show [] before left is within room (h ∷ held) begun = absurd begun
    layers_show (l ∷ ls) before left is within room [] begun = absurd begun
    layers_show (l ∷ ls) before left is within room (h ∷ held) begun =
        let first = first_counted l ls in (
          layer_shows before left is l (drawn_of before l (within l (Contains-head l ls)) (omega (arith, first, room))) h begun.0,
          layers_show ls (before ++ l ∷ []) (left_after l left) (is_left_after before left is l) (λ m c. within m (Contains-later l ls m c)) (room_after before l ls room) held begun.1,
        )

    sources_show : (given : List (List LayerContent)) (before : List LayerContent) (left : Left) → IsLeft before left → ((l : LayerContent) → Contains (joined_up given) l → Contains total l) → RoomFor before (joined_up given) →
        (held : List (List Layer)) → AreBegunOfEach v.arcs left given held → SourcesShow v held (first_sources (plane_of v) before given)
    sources_show [] before left is within room [] begun = tt
    sources_show [] before left is within room (h ∷ held) begun = absurd begun
    sources_show (ls ∷ given) before left is within room [] begun = absurd begun
    sources_show (ls ∷ given) before left is within room (h ∷ held) begun =
        let all = counted kinds.Polygon ls (joined_up given) in
        let both = counted kinds.Polygon before ls in (
          layers_show ls before left is (λ l c. within l (Contains-append_left ls (joined_up given) l c)) (omega (arith, all, room)) h begun.0,
          sources_show given (before ++ ls) (left_after_all ls left) (is_left_after_all ls before left is) (λ l c. within l (Contains-append_right ls (joined_up given) l c)) (omega (arith, all, both, room)) held begun.1,
        )

  -- ---- the drawing has their features

  module _ (total : List LayerContent) (corners : List Corners) (drawn : v.drawing ≡ state_of.drawing_of total corners) where
    vertices_drawn : (l : LayerContent) → Contains total l → l.kind ≡ kinds.Point → All HasVertices l.shapes
    vertices_drawn l there e k d below i p inside =
        let s : GeoShape = get_or l.shapes k d in
        let own : Contains (if same_kind l.kind kinds.Point then l.shapes else []) s = subst (λ (j : Kind). Contains (if same_kind j kinds.Point then l.shapes else []) s) (sym e) (Contains-get_or l.shapes k d below) in
        let listed : Contains (shapes_of kinds.Point total) s = Contains-flat_map (λ (m : LayerContent). if same_kind m.kind kinds.Point then m.shapes else []) total l s there own in
        let point : GridPoint = get_or (state_of.points_of s) i p in
        let drawn_there : Contains (joined_up (map state_of.points_of (shapes_of kinds.Point total))) point =
        Contains-joined_up (map state_of.points_of (shapes_of kinds.Point total)) (state_of.points_of s) point (Contains-map state_of.points_of (shapes_of kinds.Point total) s listed) (Contains-get_or (state_of.points_of s) i p inside) in
        Contains-append_right (joined_up (paths_of (snapped v.drawing))) (joined_up v.drawing.points) point
        (subst (λ (drawing : Drawing). Contains (joined_up drawing.points) point) (sym drawn) drawn_there)

    all_counted : length features ≡ length (snapped v.drawing).polygons → count_of kinds.Polygon total ≡ length features
    all_counted each =
        let by_feature = length-map v.drawing.polygons (map (map (snapped_path (hot_points v.drawing)))) in
        let same : length v.drawing.polygons ≡ length (map state_of.polygons_of (shapes_of kinds.Polygon total)) = ap (λ (drawing : Drawing). length drawing.polygons) drawn in
        let of_shapes = length-map (shapes_of kinds.Polygon total) state_of.polygons_of in
        omega (arith, each, by_feature, same, of_shapes)

-- ---- the layers of the import, and those of sources for commands

module _ (v : View) where
  imports_show : (words : List SourceWord) (held : List (List Layer)) (sources : List (List StateLayer)) → SourcesShow v held sources → AllZip (LayerShows v) (imported (owners_of words) held) (import_layers words sources)
  imports_show [] held sources show = tt
  imports_show (word ∷ words) [] [] show = tt
  imports_show (word ∷ words) [] (s ∷ sources) show = absurd show
  imports_show (word ∷ words) (h ∷ held) [] show = absurd show
  imports_show (word ∷ words) (h ∷ held) (s ∷ sources) show =
      zip_joined (LayerShows v) (of_import word.owner h) (if is_import word.owner then s else []) (imported (owners_of words) held) (import_layers words sources) (go word.owner) (imports_show words held sources show.1)
    where
      go : (o : Owner) → AllZip (LayerShows v) (of_import o h) (if is_import o then s else [])
      go owner.Import = show.0
      go (owner.Command n) = tt

  commands_show : (words : List SourceWord) (held : List (List Layer)) (sources : List (List StateLayer)) → SourcesShow v held sources → SourcesShow v (owned (owners_of words) held) (command_layers words sources)
  commands_show [] held sources show = tt
  commands_show (word ∷ words) [] [] show = tt
  commands_show (word ∷ words) [] (s ∷ sources) show = absurd show
  commands_show (word ∷ words) (h ∷ held) [] show = absurd show
  commands_show (word ∷ words) (h ∷ held) (s ∷ sources) show = (go word.owner, commands_show words held sources show.1)
    where
      go : (o : Owner) → AllZip (LayerShows v) (of_command o h) (if is_import o then [] else s)
      go owner.Import = tt
      go (owner.Command n) = show.0

pub beginnings_show : BeginningsShow
beginnings_show given corners words arcs faces boxes layers sources over = go (views_exist (drawing_by given corners) arcs faces boxes over.features over.laid)
  where
    total : List LayerContent
    total = joined_up given

    held : List (List Layer)
    held = over.begun.begun

    all_show : (v : View) → IsViewOf (drawing_by given corners) arcs faces boxes over.features v → SourcesShow v held (first_sources (plane_of v) [] given)
    all_show v is =
        let drawn : v.drawing ≡ state_of.drawing_of total corners = is.of_drawing ∙ drawings_are_one total corners in
        let by_arcs : AreBegunOfEach v.arcs (record { faces = over.features; lines = (snapped (drawing_by given corners)).lines }) given held =
        subst (λ (table : List Path). AreBegunOfEach table (record { faces = over.features; lines = (snapped (drawing_by given corners)).lines }) given held) (sym is.of_arcs) over.begun.each in
        let begun : AreBegunOfEach v.arcs (record { faces = over.features; lines = (snapped v.drawing).lines }) given held =
        subst (λ (d : Drawing). AreBegunOfEach v.arcs (record { faces = over.features; lines = (snapped d).lines }) given held) (sym is.of_drawing) by_arcs in
        let each : length over.features ≡ length (snapped v.drawing).polygons = over.laid.held.of_features.each ∙ ap (λ (d : Drawing). length (snapped d).polygons) (sym is.of_drawing) in
        let whole = all_counted v is.is_view over.features is.of_features total corners drawn each in
        sources_show v is.is_view over.features is.of_features total whole (vertices_drawn v is.is_view over.features is.of_features total corners drawn) given [] (record { faces = over.features; lines = (snapped v.drawing).lines })
        (record { faces = refl; lines = refl }) (λ l c. c) (omega (arith, whole)) held begun

    go : (v : View) × IsViewOf (drawing_by given corners) arcs faces boxes over.features v → (v : View) × IsViewOf (drawing_by given corners) arcs faces boxes over.features v × BeginningShows v words given layers sources
    go (v, is) =
        let show = all_show v is in (
          v,
          is,
          record {
            imports = subst (λ (ls : List Layer). AllZip (LayerShows v) ls (import_layers words (first_sources (plane_of v) [] given))) (sym over.begun.of_imports) (imports_show v words held (first_sources (plane_of v) [] given) show);
            commands = subst (λ (held : List (List Layer)). SourcesShow v held (command_layers words (first_sources (plane_of v) [] given))) (sym over.begun.of_commands) (commands_show v words held (first_sources (plane_of v) [] given) show);
          },
        )
