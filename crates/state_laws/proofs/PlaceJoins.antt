-- Joins by place: points in polygons.
use Rattle.std.proofs.Common.{◌≡◌, refl, sym, ap, ◌∙◌, subst, ℕ, true, List, [], ◌∷◌, All, Contains, map, true≢false}
use Rattle.std.specs.List.{AllZip}
use Rattle.std.proofs.lemmas.List.Elements.{All-cons, All-nil}
use Rattle.plane_model.specs.Points.{Path}
use Rattle.plane_model.specs.Drawing.{vertices_of}
use Rattle.plane_model.specs.Snapped.{snapped}
use Rattle.face_walk.specs.Places.{FaceTable}
use Rattle.grid_base.specs.declared.kinds.Kind.{Kind}
use Rattle.grid_base.specs.declared.kinds.Kind.TheVariants as kinds
use Rattle.spatial_join.specs.Joined.{join_matched}
use Rattle.spatial_join.specs.Matches.{AreMatchedPoints, AreMatchedSets}
use Rattle.region_model.specs.Region.{Region}
use Rattle.region_model.specs.PlaceCommands.{around_points, points_inside}
use Rattle.place_laws.specs.Matched.{IsToldInside}
use Rattle.place_laws.proofs.MatchLaws.{points_are_matched, sets_are_matched}
use Rattle.run_plane.specs.Shapes.{points_in}
use Rattle.run_plane.specs.declared.layer.Shape.{Shape}
use Rattle.run_plane.specs.declared.plane.Plane.{Plane}
use Rattle.run_state.specs.FaceSets.{sets_in}
use Rattle.run_tables.specs.Matching.{AreMatchesOf, point_lists}
use Rattle.run_checks.specs.Checks.{joins_with}
use Rattle.chain_model.specs.State as state
use Rattle.chain_model.specs.Features.{matches_of}
use Rattle.layer_laws.specs.Shown.{View, IsView, AreVertices, FacesShow, PointsShow, PolygonShows, ShapeShows, IsSeenIn}
use Rattle.state_laws.specs.Places.{PlaceJoinsShow}
use Rattle.layer_laws.proofs.PolygonSets.{sets_show}
use Rattle.layer_laws.proofs.TableCommands.{tables_show}
use Rattle.layer_laws.proofs.Views.{view_faces}
use Rattle.layer_laws.proofs.Zipped.{zip_same, zip_weaker}

module _ (v : View) (view : IsView v) (plane : Plane) (seen : IsSeenIn v plane) where
  abbrev SetTold : List ℕ → Region → Type 0
  SetTold set r = IsToldInside v.drawing v.arcs v.label v.answers set r

  sets_told : (held : List Shape) (shapes : List state.Shape) → AllZip (PolygonShows v) held shapes → AllZip SetTold (sets_in held) (map state.region_of shapes)
  sets_told held shapes show =
      zip_weaker (FacesShow v) SetTold (λ set r h. record { follows = h.follows; inside = view.right.inside r }) (sets_in held) (map state.region_of shapes) (sets_show v held shapes show)

  -- ---- points

  points_same : (held : List Shape) (shapes : List state.Shape) → AllZip (PointsShow v) held shapes → point_lists held ≡ map state.points_of shapes
  points_same held shapes show = zip_same (PointsShow v) points_in state.points_of (λ h s shows. ap points_in shows.has ∙ sym (ap state.points_of shows.is)) held shapes show

  points_there : (held : List Shape) (shapes : List state.Shape) → AllZip (PointsShow v) held shapes → All (All (Contains (vertices_of (snapped v.drawing)))) (point_lists held)
  points_there [] [] show = All-nil (AreVertices v)
  points_there [] (s ∷ shapes) show = absurd show
  points_there (h ∷ held) [] show = absurd show
  points_there (h ∷ held) (s ∷ shapes) show =
      All-cons (AreVertices v) (points_in h) (point_lists held) (subst (λ (h : Shape). AreVertices v (points_in h)) (sym show.0.has) show.0.vertices) (points_there held shapes show.1)

  -- ---- matches

  abbrev matched_of : List state.Shape → state.Shape → List ℕ
  matched_of others s = matches_of v.answers others s

  by_regions : (others : List state.Shape) (held : List Shape) (shapes : List state.Shape) → AllZip (PolygonShows v) held shapes → map (points_inside v.answers (map state.points_of others)) (map state.region_of shapes) ≡ map (matched_of others) shapes
  by_regions others [] [] show = refl
  by_regions others [] (s ∷ shapes) show = absurd show
  by_regions others (h ∷ held) [] show = absurd show
  by_regions others (h ∷ held) (s ∷ shapes) show =
      let here : points_inside v.answers (map state.points_of others) (state.region_of s) ≡ matched_of others s =
      ap (λ (t : state.Shape). points_inside v.answers (map state.points_of others) (state.region_of t)) show.0.is ∙ sym (ap (matched_of others) show.0.is) in
      let rest = by_regions others held shapes show.1 in
      λ i. here i ∷ rest i

  by_points : (others : List state.Shape) (held : List Shape) (shapes : List state.Shape) → AllZip (PointsShow v) held shapes → map (around_points v.answers (map state.region_of others)) (map state.points_of shapes) ≡ map (matched_of others) shapes
  by_points others [] [] show = refl
  by_points others [] (s ∷ shapes) show = absurd show
  by_points others (h ∷ held) [] show = absurd show
  by_points others (h ∷ held) (s ∷ shapes) show =
      let here : around_points v.answers (map state.region_of others) (state.points_of s) ≡ matched_of others s =
      ap (λ (t : state.Shape). around_points v.answers (map state.region_of others) (state.points_of t)) show.0.is ∙ sym (ap (matched_of others) show.0.is) in
      let rest = by_points others held shapes show.1 in
      λ i. here i ∷ rest i

  module _ (held others : List Shape) (shapes other_shapes : List state.Shape) (matches : List (List ℕ)) where
    polygons_matched : AllZip (PolygonShows v) held shapes → AllZip (PointsShow v) others other_shapes → AreMatchedSets plane.arcs plane.faces (point_lists others) (sets_in held) matches → matches ≡ map (matched_of other_shapes) shapes
    polygons_matched show other_show are =
        sets_are_matched v.drawing v.arcs v.faces v.label (view_faces v view) v.answers (sets_in held) (map state.region_of shapes) (sets_told held shapes show) (point_lists others) (points_there others other_shapes other_show) matches
        (subst (λ (faces : FaceTable). AreMatchedSets v.arcs faces (point_lists others) (sets_in held) matches) seen.faces
        (subst (λ (arcs : List Path). AreMatchedSets arcs plane.faces (point_lists others) (sets_in held) matches) seen.arcs are))
        ∙ ap (λ (points : List Path). map (points_inside v.answers points) (map state.region_of shapes)) (points_same others other_shapes other_show)
        ∙ by_regions other_shapes held shapes show

    points_matched : AllZip (PointsShow v) held shapes → AllZip (PolygonShows v) others other_shapes → AreMatchedPoints plane.arcs plane.faces (point_lists held) (sets_in others) matches → matches ≡ map (matched_of other_shapes) shapes
    points_matched show other_show are =
        points_are_matched v.drawing v.arcs v.faces v.label (view_faces v view) v.answers (sets_in others) (map state.region_of other_shapes) (sets_told others other_shapes other_show) (point_lists held) (points_there held shapes show) matches
        (subst (λ (faces : FaceTable). AreMatchedPoints v.arcs faces (point_lists held) (sets_in others) matches) seen.faces
        (subst (λ (arcs : List Path). AreMatchedPoints arcs plane.faces (point_lists held) (sets_in others) matches) seen.arcs are))
        ∙ ap (map (around_points v.answers (map state.region_of other_shapes))) (points_same held shapes show)
        ∙ by_points other_shapes held shapes show

    matched : (j k : Kind) → joins_with j k ≡ true → AllZip (ShapeShows v k) held shapes → AllZip (ShapeShows v j) others other_shapes → AreMatchesOf k plane others held matches → matches ≡ map (matched_of other_shapes) shapes
    matched kinds.Point kinds.Polygon fit show other_show are = polygons_matched show other_show are
    matched kinds.Polygon kinds.Point fit show other_show are = points_matched show other_show are
    matched kinds.Polygon kinds.Polygon fit show other_show are = absurd (true≢false (sym fit))
    matched kinds.Polygon kinds.Line fit show other_show are = absurd (true≢false (sym fit))
    matched kinds.Polygon kinds.Table fit show other_show are = absurd (true≢false (sym fit))
    matched kinds.Point kinds.Point fit show other_show are = absurd (true≢false (sym fit))
    matched kinds.Point kinds.Line fit show other_show are = absurd (true≢false (sym fit))
    matched kinds.Point kinds.Table fit show other_show are = absurd (true≢false (sym fit))
    matched kinds.Line k fit show other_show are = absurd (true≢false (sym fit))
    matched kinds.Table k fit show other_show are = absurd (true≢false (sym fit))

pub place_joins_show : PlaceJoinsShow
place_joins_show v view plane seen layer source l m h k fit spec matches are =
    let same : matches ≡ map (matches_of v.answers m.shapes) l.shapes = matched v view plane seen layer.shapes.items source.shapes.items l.shapes m.shapes matches source.kind layer.kind fit h.shapes k.shapes are in
    let matching = sym same in
    tables_show v layer l h (join_matched layer.table source.table matches spec) (join_matched l.table m.table (map (matches_of v.answers m.shapes) l.shapes) spec) (λ i. join_matched (h.table i) (k.table i) (matching i) spec)
