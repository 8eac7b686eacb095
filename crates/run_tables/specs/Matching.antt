-- Which features of two layers match by place.
use Rattle.std.specs.Prelude.{ℕ, List, map}
use Rattle.grid_base.specs.declared.kinds.Kind.{Kind}
use Rattle.grid_base.specs.declared.kinds.Kind.TheVariants as kinds
use Rattle.plane_model.specs.Points.{Path}
use Rattle.spatial_join.specs.Matches.{AreMatchedPoints, AreMatchedSets}
use Rattle.run_plane.specs.Shapes.{points_in}
use Rattle.run_state.specs.FaceSets.{sets_in}
use Rattle.run_plane.specs.declared.layer.Layer.{Layer}
use Rattle.run_plane.specs.declared.layer.Shape.{Shape}
use Rattle.run_plane.specs.declared.plane.Plane.{Plane}

-- for each shape its points
abbrev pub point_lists : List Shape → List Path
point_lists shapes = map points_in shapes

-- for each of the shapes, of this kind, the ascending numbers of the others that match it: polygons match points that
-- are inside of them or on their boundaries
abbrev pub AreMatchesOf : Kind → Plane → List Shape → List Shape → List (List ℕ) → Type 0
AreMatchesOf kinds.Polygon plane others shapes matches = AreMatchedSets plane.arcs plane.faces (point_lists others) (sets_in shapes) matches
AreMatchesOf kinds.Line plane others shapes matches = AreMatchedPoints plane.arcs plane.faces (point_lists shapes) (sets_in others) matches
AreMatchesOf kinds.Point plane others shapes matches = AreMatchedPoints plane.arcs plane.faces (point_lists shapes) (sets_in others) matches
AreMatchesOf kinds.Table plane others shapes matches = AreMatchedPoints plane.arcs plane.faces (point_lists shapes) (sets_in others) matches

-- for each feature of a layer those of the source that match it
abbrev pub AreMatches : Plane → Layer → Layer → List (List ℕ) → Type 0
AreMatches plane source layer matches = AreMatchesOf layer.kind plane source.shapes.items layer.shapes.items matches
