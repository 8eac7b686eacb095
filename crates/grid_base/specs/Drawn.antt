-- What is added to a drawing, and what its paths keep.
use Rattle.std.specs.Prelude.{◌≡◌, ◌≢◌, ℕ, List, [], ◌∷◌, ◌++◌, All, Contains, length}
use Rattle.lists.specs.Lists.{drop_repeats}
use Rattle.plane_model.specs.Points.{GridPoint, Segment, Path, IsOn, at, same_point}
use Rattle.plane_model.specs.Drawing.{Drawing, Polygon, vertices_of}
use Rattle.plane_model.specs.Joined.{IsClosed}
use Rattle.plane_model.specs.Arrangement.{IsArrangement, IsEnd}
use Rattle.plane_model.specs.Snapped.{links_of}
use Rattle.grid_base.specs.Grid.{Corners}
use Rattle.grid_base.specs.declared.kinds.Kind.{Kind}
use Rattle.grid_base.specs.declared.kinds.Kind.TheVariants.{Polygon as Polygons, Line, Point, Table}

-- the list with f done to its last element
abbrev pub with_last : {A : Type 0} → (A → A) → List A → List A
with_last f [] = []
with_last f (x ∷ []) = f x ∷ []
with_last f (x ∷ y ∷ rest) = x ∷ with_last f (y ∷ rest)

-- the path, whose equal neighbours count once
abbrev pub without_repeats : Path → Path
without_repeats path = drop_repeats same_point path

-- a polygon put into the last feature, and a ring into its last polygon
abbrev pub add_polygon : List (List Polygon) → List (List Polygon)
add_polygon features = with_last (λ (feature : List Polygon). feature ++ [] ∷ []) features

abbrev pub add_ring : Path → List (List Polygon) → List (List Polygon)
add_ring ring features = with_last (with_last (λ (polygon : Polygon). polygon ++ without_repeats ring ∷ [])) features

-- a path or point put into the last feature
abbrev pub add_item : {A : Type 0} → A → List (List A) → List (List A)
add_item x features = with_last (λ feature. feature ++ x ∷ []) features

-- a drawing with an empty feature appended to those of its kind, and the number of that feature; a table has no place
-- in a drawing
abbrev pub with_feature : Kind → Drawing → ℕ × Drawing
with_feature Polygons d = (length d.polygons, record d { polygons = d.polygons ++ [] ∷ [] })
with_feature Line d = (length d.lines, record d { lines = d.lines ++ [] ∷ [] })
with_feature Point d = (length d.points, record d { points = d.points ++ [] ∷ [] })
with_feature Table d = (0, d)

-- a rectangle, gone round once
abbrev pub outline : Corners → Path
outline c = c.low ∷ record { x = c.high.x; y = c.low.y } ∷ c.high ∷ record { x = c.low.x; y = c.high.y } ∷ c.low ∷ []

-- some vertices, of which no two neighbours are equal
pub record IsPath (path : Path) : Type 0 where
  pub not_empty : path ≢ []
  pub no_repeats : without_repeats path ≡ path

-- such a path that ends where it starts
pub record IsRing (path : Path) : Type 0 where
  pub is_path : IsPath path
  pub closed : IsClosed path

-- the paths of a drawing: rings in polygons, and boxes, are closed
pub record HasPaths (d : Drawing) : Type 0 where
  pub rings : All (All (All IsRing)) d.polygons
  pub lines : All (All IsPath) d.lines
  pub boxes : All IsRing d.boxes

-- a drawing whose links meet at common ends alone, and have no vertex inside
pub record IsSnapped (d : Drawing) : Type 0 where
  pub arrangement : IsArrangement (links_of d)
  pub no_vertex_inside : (l : Segment) (p : GridPoint) → Contains (links_of d) l → Contains (vertices_of d) p → IsOn l (at p) → IsEnd l (at p)
