-- Shapes as arcs of a plane: the rings of faces, and paths.
use Rattle.std.specs.Prelude.{◌≡◌, ℕ, List, [], ◌∷◌, All, AllPairs, length}
use Rattle.std.specs.List.{AllZip}
use Rattle.plane_model.specs.Arcs.{SignedArc}
use Rattle.plane_model.specs.Points.{Path}
use Rattle.arc_table.specs.Around.{start_of}
use Rattle.ring_trace.specs.Pairing.{stop_of}
use Rattle.ring_trace.specs.Traced.{BeginsWithLeast, HasPolygonsOfParts, UsesBoundary}
use Rattle.ring_trace.specs.Turns.{MayStandBefore}
use Rattle.ring_trace.specs.Ways.{IsSimpleRing}
use Rattle.topo_io.specs.ArcLayerContent.{ArcLayerContent}
use Rattle.topo_io.specs.declared.arc_layer.ArcShape.{ArcShape}
use Rattle.topo_io.specs.declared.arc_layer.ArcShape.TheVariants as arcs
use Rattle.run_plane.specs.declared.layer.Layer.{Layer}
use Rattle.run_plane.specs.declared.layer.Shape.{Shape}
use Rattle.run_plane.specs.declared.layer.Shape.TheVariants as shape
use Rattle.run_plane.specs.declared.plane.Plane.{Plane}

-- polygons whose rings go round a set of faces (exteriors and holes as in RFC 7946, section 3.1.6)
pub record AreRingsOf (plane : Plane) (set : List ℕ) (polygons : List (List (List SignedArc))) : Type 0 where
  -- they use each signed arc with a face of the set on its left and none on its right once, and no other
  pub boundary : UsesBoundary plane.faces.places (length plane.arcs) set polygons
  -- each comes back to where it starts, and passes each of its vertices once
  pub simple : All (All (IsSimpleRing (start_of plane.arcs) (stop_of plane.arcs))) polygons
  -- each begins with its arc of least number
  pub least_first : All (All BeginsWithLeast) polygons
  -- in a polygon the exterior stands first, and the holes in order of their first arcs
  pub in_order : All (AllPairs (MayStandBefore plane.arcs)) polygons
  -- the set has parts, and there is one polygon for each of them, in their order
  pub of_parts : HasPolygonsOfParts plane.faces (length plane.arcs) set polygons

pub record HasRings (plane : Plane) (set : List ℕ) (traced : ArcShape) : Type 0 where
  pub polygons : List (List (List SignedArc))
  pub rings : AreRingsOf plane set polygons
  pub is : traced ≡ arcs.Polygons polygons

-- the rings of a set, where it has a face
abbrev pub AreTraced : Plane → List ℕ → ArcShape → Type 0
AreTraced plane [] traced = traced ≡ arcs.Nothing
AreTraced plane (face ∷ faces) traced = HasRings plane (face ∷ faces) traced

-- paths, and points, where there are some
abbrev pub lines_along : List (List SignedArc) → ArcShape
lines_along [] = arcs.Nothing
lines_along (path ∷ paths) = arcs.Lines (path ∷ paths)

abbrev pub points_alone : Path → ArcShape
points_alone [] = arcs.Nothing
points_alone (point ∷ points) = arcs.Points (point ∷ points)

-- a shape, as arcs
abbrev pub IsTraced : Plane → Shape → ArcShape → Type 0
IsTraced plane shape.Nothing traced = traced ≡ arcs.Nothing
IsTraced plane (shape.Faces set) traced = AreTraced plane set traced
IsTraced plane (shape.Paths paths) traced = traced ≡ lines_along paths
IsTraced plane (shape.Points points) traced = traced ≡ points_alone points

-- a layer of the same name, kind and table, with the shapes as arcs
pub record IsTracedLayer (plane : Plane) (layer : Layer) (traced : ArcLayerContent) : Type 0 where
  pub name : traced.name ≡ layer.name
  pub kind : traced.kind ≡ layer.kind
  pub table : traced.table ≡ layer.table
  pub shapes : AllZip (IsTraced plane) layer.shapes.items traced.shapes
