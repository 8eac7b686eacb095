-- Laws of what is drawn: shapes that a run draws, as arcs and as points, show those of the state.
use Rattle.std.specs.Prelude.{◌≡◌, ℕ, List}
use Rattle.plane_model.specs.Points.{Path}
use Rattle.plane_model.specs.Arcs.{SignedArc, joined_points}
use Rattle.grid_base.specs.declared.kinds.Kind.{Kind}
use Rattle.geojson_io.specs.LayerContent.{LayerContent}
use Rattle.geojson_io.specs.declared.shape.GeoShape.{GeoShape}
use Rattle.topo_io.specs.ArcLayerContent.{ArcLayerContent}
use Rattle.topo_io.specs.declared.arc_layer.ArcShape.{ArcShape}
use Rattle.line_laws.specs.Linked.{AreLinked}
use Rattle.region_model.specs.Region.{Region}
use Rattle.run_plane.specs.declared.layer.Layer.{Layer}
use Rattle.run_plane.specs.declared.layer.Shape.{Shape}
use Rattle.run_plane.specs.declared.layer.Shape.TheVariants as shape
use Rattle.run_plane.specs.declared.plane.Plane.{Plane}
use Rattle.run_texts.specs.Pictures.{IsDrawn, IsPicture, on_grid, points_along}
use Rattle.run_texts.specs.Tracing.{IsTraced, IsTracedLayer}
use Rattle.chain_model.specs.State as state
use Rattle.chain_model.specs.State.{StateLayer}
use Rattle.chain_model.specs.Pictures.{Shows, ShowsRegion, ShowsShape, in_arcs, shape_in_arcs}
use Rattle.layer_laws.specs.Shown.{View, IsView, IsSeenIn, FacesShow, LayerShows, ShapeShows, plane_of}

-- ---- paths

-- arcs that follow each other are drawn as the path that they are when they are joined
abbrev pub PathsAreJoined : Type 0
PathsAreJoined = (arcs : List Path) (named : List SignedArc) → AreLinked arcs named → points_along arcs named ≡ joined_points arcs named

-- ---- shapes

-- a set of faces is drawn as polygons that fit the region that it shows, or as nothing where the region is empty
abbrev pub RegionsAreDrawn : Type 0
RegionsAreDrawn = (v : View) → IsView v → (plane : Plane) → IsSeenIn v plane → (set : List ℕ) (r : Region) → FacesShow v set r → (drawn : GeoShape) → IsDrawn plane (shape.Faces set) drawn → ShowsRegion (plane_of v) v.answers r drawn

-- so any shape is drawn as what it shows
abbrev pub ShapesAreDrawn : Type 0
ShapesAreDrawn = (v : View) → IsView v → (plane : Plane) → IsSeenIn v plane → (k : Kind) (held : Shape) (s : state.Shape) → ShapeShows v k held s → (drawn : GeoShape) → IsDrawn plane held drawn → ShowsShape (plane_of v) v.answers s drawn

-- drawn as points it names the arcs that it is traced as
abbrev pub DrawnShapesNameArcs : Type 0
DrawnShapesNameArcs = (v : View) → IsView v → (plane : Plane) → IsSeenIn v plane → (k : Kind) (held : Shape) (s : state.Shape) → ShapeShows v k held s → (traced : ArcShape) → IsTraced plane held traced →
    shape_in_arcs plane.arcs (on_grid plane.arcs traced) ≡ traced

-- ---- layers

-- the picture of a layer shows the state's layer
abbrev pub PicturesShow : Type 0
PicturesShow = (v : View) → IsView v → (plane : Plane) → IsSeenIn v plane → (layer : Layer) (l : StateLayer) → LayerShows v layer l → (picture : LayerContent) → IsPicture plane layer picture → Shows (plane_of v) v.answers l picture

-- a layer in arcs is that of a picture, which shows the state's layer
pub record IsOfPicture (v : View) (l : StateLayer) (traced : ArcLayerContent) : Type 0 where
  pub picture : LayerContent
  pub shows : Shows (plane_of v) v.answers l picture
  pub is : in_arcs v.arcs picture ≡ traced

abbrev pub TracedLayersShow : Type 0
TracedLayersShow = (v : View) → IsView v → (plane : Plane) → IsSeenIn v plane → (layer : Layer) (l : StateLayer) → LayerShows v layer l → (traced : ArcLayerContent) → IsTracedLayer plane layer traced → IsOfPicture v l traced
