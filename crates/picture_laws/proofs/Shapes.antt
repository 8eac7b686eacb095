-- Shapes drawn as points show those of the state, and name the arcs that they are traced as.
use Rattle.std.proofs.Common.{◌≡◌, refl, sym, ap, ◌∙◌, subst, ℕ, Bool, true, false, List, [], ◌∷◌, map, length, All, AllPairs}
use Rattle.std.specs.Prelude.{◌↔◌, MatchBool}
use Rattle.std.proofs.lemmas.Bool.{false_from_ne_true}
use Rattle.plane_model.specs.Points.{GridPoint, Path}
use Rattle.plane_model.specs.Arcs.{SignedArc, signed_arcs}
use Rattle.plane_model.specs.Drawing.{Polygon}
use Rattle.plane_model.specs.Snapped.{links_of, snapped}
use Rattle.grid_base.specs.declared.kinds.Kind.{Kind}
use Rattle.grid_base.specs.declared.kinds.Kind.TheVariants as kinds
use Rattle.geojson_io.specs.Geometries.{some_lines, some_points}
use Rattle.geojson_io.specs.declared.shape.GeoShape.{GeoShape}
use Rattle.geojson_io.specs.declared.shape.GeoShape.TheVariants as geo
use Rattle.topo_io.specs.declared.arc_layer.ArcShape.{ArcShape}
use Rattle.topo_io.specs.declared.arc_layer.ArcShape.TheVariants as arcs
use Rattle.arc_table.specs.Around.{start_of}
use Rattle.face_walk.specs.Places.{FaceTable}
use Rattle.ring_trace.specs.Pairing.{stop_of}
use Rattle.ring_trace.specs.Traced.{HasPolygonsOfParts, UsesBoundary}
use Rattle.ring_trace.specs.Turns.{MayStandBefore}
use Rattle.ring_trace.specs.Ways.{IsSimpleRing}
use Rattle.region_model.specs.Region.{Region}
use Rattle.region_model.specs.Answers.{is_empty}
use Rattle.region_model.specs.Printed.{Fits}
use Rattle.region_laws.proofs.Answered.{emptiness_is_told}
use Rattle.run_plane.specs.declared.layer.Shape.{Shape}
use Rattle.run_plane.specs.declared.layer.Shape.TheVariants as shape
use Rattle.run_plane.specs.declared.plane.Plane.{Plane}
use Rattle.run_texts.specs.Pictures.{IsDrawn, on_grid, points_along}
use Rattle.run_texts.specs.Tracing.{AreRingsOf, AreTraced, IsTraced, lines_along, points_alone}
use Rattle.chain_model.specs.State as state
use Rattle.chain_model.specs.Pictures.{ShowsRegion, ShowsShape, shape_in_arcs}
use Rattle.layer_laws.specs.Shown.{View, IsView, IsSeenIn, ArcsShow, FacesShow, ShapeShows, plane_of}
use Rattle.picture_laws.specs.Drawn.{DrawnShapesNameArcs, RegionsAreDrawn, ShapesAreDrawn}
use Rattle.picture_laws.proofs.Traced.{paths_joined, paths_named, rings_fit, rings_named}

-- ---- nothing, or something

empty_shows : (v : View) (r : Region) (s : GeoShape) → is_empty (plane_of v) v.answers r ≡ true → s ≡ geo.Nothing → ShowsRegion (plane_of v) v.answers r s
empty_shows v r s e is = subst (λ (b : Bool). MatchBool b (s ≡ geo.Nothing) ((polygons : List Polygon) × (s ≡ geo.Polygons polygons) × Fits (plane_of v) v.answers r polygons)) (sym e) is

some_show : (v : View) (r : Region) (s : GeoShape) → is_empty (plane_of v) v.answers r ≡ false → (polygons : List Polygon) → s ≡ geo.Polygons polygons → Fits (plane_of v) v.answers r polygons → ShowsRegion (plane_of v) v.answers r s
some_show v r s e polygons is fit =
    subst (λ (b : Bool). MatchBool b (s ≡ geo.Nothing) ((polygons : List Polygon) × (s ≡ geo.Polygons polygons) × Fits (plane_of v) v.answers r polygons)) (sym e) (polygons, is, fit)

lines_drawn : (table : List Path) (named : List (List SignedArc)) → on_grid table (lines_along named) ≡ some_lines (map (points_along table) named)
lines_drawn table [] = refl
lines_drawn table (path ∷ paths) = refl

points_drawn : (table : List Path) (points : List GridPoint) → on_grid table (points_alone points) ≡ some_points points
points_drawn table [] = refl
points_drawn table (point ∷ points) = refl

points_stay : (table : List Path) (points : List GridPoint) → shape_in_arcs table (on_grid table (points_alone points)) ≡ points_alone points
points_stay table [] = refl
points_stay table (point ∷ points) = refl

lines_stay : (table : List Path) (named : List (List SignedArc)) → map (signed_arcs table) (map (points_along table) named) ≡ named → shape_in_arcs table (on_grid table (lines_along named)) ≡ lines_along named
lines_stay table [] e = refl
lines_stay table (path ∷ paths) e = ap arcs.Lines e

module _ (v : View) (view : IsView v) (plane : Plane) (seen : IsSeenIn v plane) where
  -- what is said of the arcs and faces of the plane is said of those of the view
  in_view : (P : List Path → FaceTable → Type 0) → P plane.arcs plane.faces → P v.arcs v.faces
  in_view P h = subst (λ (faces : FaceTable). P v.arcs faces) seen.faces (subst (λ (table : List Path). P table plane.faces) seen.arcs h)

  on_plane : (P : List Path → Type 0) → P v.arcs → P plane.arcs
  on_plane P h = subst P (sym seen.arcs) h

  -- ---- sets of faces

  module _ (set : List ℕ) (r : Region) (shows : FacesShow v set r) (polygons : List (List (List SignedArc))) (rings : AreRingsOf plane set polygons) where
    abbrev boundary : UsesBoundary v.faces.places (length v.arcs) set polygons
    boundary = in_view (λ (table : List Path) (faces : FaceTable). UsesBoundary faces.places (length table) set polygons) rings.boundary

    abbrev simple : All (All (IsSimpleRing (start_of v.arcs) (stop_of v.arcs))) polygons
    simple = in_view (λ (table : List Path) (faces : FaceTable). All (All (IsSimpleRing (start_of table) (stop_of table))) polygons) rings.simple

    abbrev in_order : All (AllPairs (MayStandBefore v.arcs)) polygons
    in_order = in_view (λ (table : List Path) (faces : FaceTable). All (AllPairs (MayStandBefore table)) polygons) rings.in_order

    abbrev of_parts : HasPolygonsOfParts v.faces (length v.arcs) set polygons
    of_parts = in_view (λ (table : List Path) (faces : FaceTable). HasPolygonsOfParts faces (length table) set polygons) rings.of_parts

    set_fits : Fits (plane_of v) v.answers r (map (map (points_along plane.arcs)) polygons)
    set_fits =
        on_plane (λ (table : List Path). Fits (plane_of v) v.answers r (map (map (points_along table)) polygons))
        (rings_fit v.drawing v.arcs v.faces v.label view.walked set shows.inner polygons boundary simple rings.least_first in_order of_parts r shows.follows v.answers view.right)

    set_named : map (map (signed_arcs plane.arcs)) (map (map (points_along plane.arcs)) polygons) ≡ polygons
    set_named =
        on_plane (λ (table : List Path). map (map (signed_arcs table)) (map (map (points_along table)) polygons) ≡ polygons)
        (rings_named v.drawing v.arcs v.faces v.label view.walked set shows.inner polygons boundary simple rings.least_first in_order of_parts)

  emptiness : (set : List ℕ) (r : Region) → FacesShow v set r → (set ≡ []) ↔ (is_empty (plane_of v) v.answers r ≡ true)
  emptiness set r shows = emptiness_is_told v.drawing v.arcs v.faces v.label view.walked set shows.inner r shows.follows v.answers (view.right.sides r)

  pub region_drawn : (set : List ℕ) (r : Region) → FacesShow v set r → (drawn : GeoShape) → IsDrawn plane (shape.Faces set) drawn → ShowsRegion (plane_of v) v.answers r drawn
  region_drawn [] r shows drawn h = empty_shows v r drawn ((emptiness [] r shows).0 refl) (h.is ∙ ap (on_grid plane.arcs) h.traces)
  region_drawn (face ∷ faces) r shows drawn h =
      let has = h.traces in
      some_show v r drawn
      (false_from_ne_true (is_empty (plane_of v) v.answers r) (λ e. let none : face ∷ faces ≡ [] = (emptiness (face ∷ faces) r shows).1 e in cc))
      (map (map (points_along plane.arcs)) has.polygons) (h.is ∙ ap (on_grid plane.arcs) has.is) (set_fits (face ∷ faces) r shows has.polygons has.rings)

  region_named : (set : List ℕ) (r : Region) → FacesShow v set r → (traced : ArcShape) → AreTraced plane set traced → shape_in_arcs plane.arcs (on_grid plane.arcs traced) ≡ traced
  region_named [] r shows traced is = subst (λ (t : ArcShape). shape_in_arcs plane.arcs (on_grid plane.arcs t) ≡ t) (sym is) refl
  region_named (face ∷ faces) r shows traced has =
      subst (λ (t : ArcShape). shape_in_arcs plane.arcs (on_grid plane.arcs t) ≡ t) (sym has.is)
      (ap arcs.Polygons (set_named (face ∷ faces) r shows has.polygons has.rings))

  -- ---- paths

  paths_drawn : (named : List (List SignedArc)) (paths : List Path) → ArcsShow v named paths → map (points_along plane.arcs) named ≡ paths
  paths_drawn named paths h = on_plane (λ (table : List Path). map (points_along table) named ≡ paths) (paths_joined v.arcs named h.linked ∙ sym h.along)

  paths_back : (named : List (List SignedArc)) (paths : List Path) → ArcsShow v named paths → map (signed_arcs plane.arcs) (map (points_along plane.arcs) named) ≡ named
  paths_back named paths h =
      on_plane (λ (table : List Path). map (signed_arcs table) (map (points_along table) named) ≡ named)
      (paths_named (links_of (snapped v.drawing)) view.walked.table.arrangement v.arcs view.walked.table.long view.walked.table.links named h.there h.linked)

  -- ---- shapes

  pub shape_drawn : (k : Kind) (held : Shape) (s : state.Shape) → ShapeShows v k held s → (drawn : GeoShape) → IsDrawn plane held drawn → ShowsShape (plane_of v) v.answers s drawn
  shape_drawn kinds.Polygon held s h drawn is =
      subst (λ (t : state.Shape). ShowsShape (plane_of v) v.answers t drawn) (sym h.is)
      (region_drawn h.set h.region h.shows drawn (subst (λ (x : Shape). IsDrawn plane x drawn) h.has is))
  shape_drawn kinds.Line held s h drawn is =
      let d : IsDrawn plane (shape.Paths h.named) drawn = subst (λ (x : Shape). IsDrawn plane x drawn) h.has is in
      subst (λ (t : state.Shape). ShowsShape (plane_of v) v.answers t drawn) (sym h.is)
      (d.is ∙ ap (on_grid plane.arcs) d.traces ∙ lines_drawn plane.arcs h.named ∙ ap some_lines (paths_drawn h.named h.paths h.shows))
  shape_drawn kinds.Point held s h drawn is =
      let d : IsDrawn plane (shape.Points h.points) drawn = subst (λ (x : Shape). IsDrawn plane x drawn) h.has is in
      subst (λ (t : state.Shape). ShowsShape (plane_of v) v.answers t drawn) (sym h.is) (d.is ∙ ap (on_grid plane.arcs) d.traces ∙ points_drawn plane.arcs h.points)
  shape_drawn kinds.Table held s h drawn is =
      let d : IsDrawn plane shape.Nothing drawn = subst (λ (x : Shape). IsDrawn plane x drawn) h.has is in
      subst (λ (t : state.Shape). ShowsShape (plane_of v) v.answers t drawn) (sym h.is) (d.is ∙ ap (on_grid plane.arcs) d.traces)

  pub shape_named : (k : Kind) (held : Shape) (s : state.Shape) → ShapeShows v k held s → (traced : ArcShape) → IsTraced plane held traced → shape_in_arcs plane.arcs (on_grid plane.arcs traced) ≡ traced
  shape_named kinds.Polygon held s h traced is = region_named h.set h.region h.shows traced (subst (λ (x : Shape). IsTraced plane x traced) h.has is)
  shape_named kinds.Line held s h traced is =
      let t : IsTraced plane (shape.Paths h.named) traced = subst (λ (x : Shape). IsTraced plane x traced) h.has is in
      subst (λ (t : ArcShape). shape_in_arcs plane.arcs (on_grid plane.arcs t) ≡ t) (sym t) (lines_stay plane.arcs h.named (paths_back h.named h.paths h.shows))
  shape_named kinds.Point held s h traced is =
      let t : IsTraced plane (shape.Points h.points) traced = subst (λ (x : Shape). IsTraced plane x traced) h.has is in
      subst (λ (t : ArcShape). shape_in_arcs plane.arcs (on_grid plane.arcs t) ≡ t) (sym t) (points_stay plane.arcs h.points)
  shape_named kinds.Table held s h traced is =
      let t : IsTraced plane shape.Nothing traced = subst (λ (x : Shape). IsTraced plane x traced) h.has is in
      subst (λ (t : ArcShape). shape_in_arcs plane.arcs (on_grid plane.arcs t) ≡ t) (sym t) refl

-- ---- laws

pub regions_are_drawn : RegionsAreDrawn
regions_are_drawn v view plane seen set r shows drawn is = region_drawn v view plane seen set r shows drawn is

pub shapes_are_drawn : ShapesAreDrawn
shapes_are_drawn v view plane seen k held s h drawn is = shape_drawn v view plane seen k held s h drawn is

pub drawn_shapes_name_arcs : DrawnShapesNameArcs
drawn_shapes_name_arcs v view plane seen k held s h traced is = shape_named v view plane seen k held s h traced is
