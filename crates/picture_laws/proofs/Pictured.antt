-- Each region of a view has polygons that fit it, and each layer has a picture.
use Rattle.std.proofs.Common.{◌≡◌, refl, sym, Bool, true, false, List, [], ◌∷◌, map, subst}
use Rattle.std.specs.Prelude.{MatchBool}
use Rattle.std.specs.List.{AllZip}
use Rattle.plane_model.specs.Drawing.{Polygon}
use Rattle.geojson_io.specs.Geometries.{some_lines, some_points}
use Rattle.geojson_io.specs.LayerContent.{LayerContent}
use Rattle.geojson_io.specs.declared.shape.GeoShape.{GeoShape}
use Rattle.geojson_io.specs.declared.shape.GeoShape.TheVariants as geo
use Rattle.region_model.specs.Region.{Region}
use Rattle.region_model.specs.Answers.{is_empty}
use Rattle.region_model.specs.Printed.{Fits}
use Rattle.region_laws.proofs.SetsExist.{regions_have_sets}
use Rattle.run_texts.specs.Pictures.{points_along}
use Rattle.chain_model.specs.Pictures.{Shows, ShowsRegion, ShowsShape}
use Rattle.chain_model.specs.State as state
use Rattle.chain_model.specs.State.{StateLayer}
use Rattle.layer_laws.specs.Shown.{View, IsView, plane_of}
use Rattle.picture_laws.specs.Pictured.{EachLayerIsPictured, EachRegionIsPictured}
use Rattle.picture_laws.proofs.Rings.{polygons_exist}
use Rattle.picture_laws.proofs.Traced.{rings_fit}

pub each_region_is_pictured : EachRegionIsPictured
each_region_is_pictured v view r =
    let (set, rising, inner, follows) = regions_have_sets v.drawing v.arcs v.faces v.label view.walked view.labels view.held r in
    let (polygons, h) = polygons_exist v.drawing v.arcs v.faces v.label view.walked set rising inner in (
      map (map (points_along v.arcs)) polygons,
      rings_fit v.drawing v.arcs v.faces v.label view.walked set inner polygons h.boundary h.simple h.least_first h.in_order h.of_parts r follows v.answers view.right,
    )

module _ (v : View) (view : IsView v) where
  region_shape : (r : Region) → (b : Bool) → is_empty (plane_of v) v.answers r ≡ b → (s : GeoShape) × ShowsRegion (plane_of v) v.answers r s
  region_shape r true e = (geo.Nothing, subst (λ (b : Bool). MatchBool b (geo.Nothing ≡ geo.Nothing) ((polygons : List Polygon) × (geo.Nothing ≡ geo.Polygons polygons) × Fits (plane_of v) v.answers r polygons)) (sym e) refl)
  region_shape r false e =
      let (polygons, fit) = each_region_is_pictured v view r in
      let s : GeoShape = geo.Polygons polygons in
      (s, subst (λ (b : Bool). MatchBool b (s ≡ geo.Nothing) ((ps : List Polygon) × (s ≡ geo.Polygons ps) × Fits (plane_of v) v.answers r ps)) (sym e) (polygons, refl, fit))

  shape_of : (s : state.Shape) → (drawn : GeoShape) × ShowsShape (plane_of v) v.answers s drawn
  shape_of (state.region r) = region_shape r (is_empty (plane_of v) v.answers r) refl
  shape_of (state.paths ps) = (some_lines ps, refl)
  shape_of (state.points ps) = (some_points ps, refl)
  shape_of state.no_shape = (geo.Nothing, refl)

  shapes_of : (ss : List state.Shape) → (drawn : List GeoShape) × AllZip (ShowsShape (plane_of v) v.answers) ss drawn
  shapes_of [] = ([], tt)
  shapes_of (s ∷ ss) =
      let (drawn, shows) = shape_of s in
      let (more, show) = shapes_of ss in
      (drawn ∷ more, (shows, show))

  picture_of : (l : StateLayer) → (picture : LayerContent) × Shows (plane_of v) v.answers l picture
  picture_of l =
      let (drawn, show) = shapes_of l.shapes in
      (record { name = l.name; kind = l.kind; table = l.table; shapes = drawn }, record { name = refl; kind = refl; table = refl; shapes = show })

  pub all_pictured : (ls : List StateLayer) → (pictures : List LayerContent) × AllZip (Shows (plane_of v) v.answers) ls pictures
  all_pictured [] = ([], tt)
  all_pictured (l ∷ ls) =
      let (picture, shows) = picture_of l in
      let (pictures, show) = all_pictured ls in
      (picture ∷ pictures, (shows, show))

pub each_layer_is_pictured : EachLayerIsPictured
each_layer_is_pictured v view l = picture_of v view l
