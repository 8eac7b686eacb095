-- Layers that a run holds show layers of a state: rows are the same, sets of faces follow regions, signed arcs run
-- along paths, points are the points.
use Rattle.std.specs.Prelude.{◌≡◌, ℕ, List, [], All, Contains, slice_index_or}
use Rattle.std.specs.List.{AllZip}
use Rattle.std.specs.List.Sorted.{IsStrictlyIncreasing}
use Rattle.lists.specs.Lists.{numbers_where}
use Rattle.plane_model.specs.Points.{GridPoint, Path}
use Rattle.plane_model.specs.Arcs.{SignedArc}
use Rattle.plane_model.specs.Drawing.{Drawing, vertices_of}
use Rattle.plane_model.specs.Snapped.{snapped}
use Rattle.plane_faces.specs.Places.{Place}
use Rattle.grid_base.specs.declared.kinds.Kind.{Kind}
use Rattle.grid_base.specs.declared.kinds.Kind.TheVariants as kinds
use Rattle.face_walk.specs.Holders.{AreHolders, HolderTable}
use Rattle.face_walk.specs.Places.{FaceTable}
use Rattle.face_sets.specs.Sets.{IsSetOf}
use Rattle.region_model.specs.Region.{Region, box}
use Rattle.region_model.specs.Answers.{Plane, Answers, AreRight}
use Rattle.region_laws.specs.Regions.{Follows}
use Rattle.region_laws.specs.Followed.{IsWalked}
use Rattle.region_laws.specs.Answered.{plane_with}
use Rattle.line_laws.specs.Linked.{AreLinked, AreThere, points_along}
use Rattle.run_plane.specs.declared.layer.Layer.{Layer}
use Rattle.run_plane.specs.declared.layer.Shape.{Shape}
use Rattle.run_plane.specs.declared.layer.Shape.TheVariants as shape
use Rattle.run_plane.specs.declared.plane.Plane.{Plane as RunPlane}
use Rattle.run_state.specs.declared.state.HeldLayer.{HeldLayer}
use Rattle.chain_model.specs.State as state
use Rattle.chain_model.specs.State.{State, StateLayer}

-- what layers are seen by: the drawing of a run, the arcs and the faces of its snapped drawing, the face of each place,
-- and answers about regions
pub record View : Type 0 where
  pub drawing : Drawing
  pub arcs : List Path
  pub faces : FaceTable
  pub label : Place → ℕ
  pub answers : Answers

abbrev pub plane_of : View → Plane
plane_of v = plane_with v.drawing v.arcs

-- the arcs, faces and labels are those of the drawing, each face has its holders, and the answers are right
pub record IsView (v : View) : Type 0 where
  pub walked : IsWalked v.drawing v.arcs v.faces v.label
  pub labels : HolderTable
  pub held : AreHolders v.arcs (snapped v.drawing) v.faces labels
  pub right : AreRight (plane_of v) v.answers

-- ---- shapes

-- a set of inner faces, ascending, that follows the region
pub record FacesShow (v : View) (set : List ℕ) (r : Region) : Type 0 where
  pub rising : IsStrictlyIncreasing set
  pub inner : IsSetOf v.faces set
  pub follows : Follows (snapped v.drawing) v.arcs v.label set r

-- a run's plane has the arcs and the faces of the view, and the faces that a box holds show the box: none, past the
-- last
pub record IsSeenIn (v : View) (plane : RunPlane) : Type 0 where
  pub arcs : plane.arcs ≡ v.arcs
  pub faces : plane.faces ≡ v.faces
  pub boxes : (n : ℕ) → FacesShow v (slice_index_or plane.boxes.items n []) (box n)

-- arcs that follow each other along the paths
pub record ArcsShow (v : View) (named : List (List SignedArc)) (paths : List Path) : Type 0 where
  pub there : All (AreThere v.arcs) named
  pub linked : All (AreLinked v.arcs) named
  pub along : paths ≡ points_along v.arcs named

-- vertices of the snapped drawing
abbrev pub AreVertices : View → List GridPoint → Type 0
AreVertices v points = All (Contains (vertices_of (snapped v.drawing))) points

pub record PolygonShows (v : View) (held : Shape) (s : state.Shape) : Type 0 where
  pub set : List ℕ
  pub region : Region
  pub has : held ≡ shape.Faces set
  pub is : s ≡ state.region region
  pub shows : FacesShow v set region

pub record LineShows (v : View) (held : Shape) (s : state.Shape) : Type 0 where
  pub named : List (List SignedArc)
  pub paths : List Path
  pub has : held ≡ shape.Paths named
  pub is : s ≡ state.paths paths
  pub shows : ArcsShow v named paths

pub record PointsShow (v : View) (held : Shape) (s : state.Shape) : Type 0 where
  pub points : List GridPoint
  pub has : held ≡ shape.Points points
  pub is : s ≡ state.points points
  pub vertices : AreVertices v points

pub record NothingShows (held : Shape) (s : state.Shape) : Type 0 where
  pub has : held ≡ shape.Nothing
  pub is : s ≡ state.no_shape

-- the shape of a feature of a layer of this kind
abbrev pub ShapeShows : View → Kind → Shape → state.Shape → Type 0
ShapeShows v kinds.Polygon held s = PolygonShows v held s
ShapeShows v kinds.Line held s = LineShows v held s
ShapeShows v kinds.Point held s = PointsShow v held s
ShapeShows v kinds.Table held s = NothingShows held s

-- ---- layers

pub record LayerShows (v : View) (held : Layer) (l : StateLayer) : Type 0 where
  pub name : l.name ≡ held.name
  pub kind : l.kind ≡ held.kind
  pub table : l.table ≡ held.table
  pub shapes : AllZip (ShapeShows v held.kind) held.shapes.items l.shapes

-- the layers of each source
abbrev pub SourcesShow : View → List (List Layer) → List (List StateLayer) → Type 0
SourcesShow v held sources = AllZip (AllZip (LayerShows v)) held sources

-- the layers between two commands, with the default target
pub record StateShows (v : View) (held : List HeldLayer) (s : State) : Type 0 where
  pub layers : AllZip (λ (h : HeldLayer). LayerShows v h.layer) held s.layers
  pub target : s.target ≡ numbers_where (λ (h : HeldLayer). h.is_default) held
