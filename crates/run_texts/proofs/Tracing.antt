-- Shapes as arcs: empty ones, and others.
use Rattle.std.proofs.Common.{◌≡◌, ℕ, List, [], ◌∷◌, length, refl, arith}
use Rattle.plane_model.specs.Arcs.{SignedArc}
use Rattle.plane_model.specs.Points.{Path}
use Rattle.topo_io.specs.declared.arc_layer.ArcShape.TheVariants as arcs
use Rattle.run_texts.specs.Tracing.{AreRingsOf, AreTraced, lines_along, points_alone}
use Rattle.run_plane.specs.declared.plane.Plane.{Plane}

-- rings

pub none_traced : (plane : Plane) (set : List ℕ) → length set ≡ 0 → AreTraced plane set arcs.Nothing
none_traced plane [] h = refl
none_traced plane (face ∷ faces) h = absurd (omega (arith, h))

pub rings_traced : (plane : Plane) (set : List ℕ) (polygons : List (List (List SignedArc))) → (length set ≡ 0 → ⊥) → AreRingsOf plane set polygons → AreTraced plane set (arcs.Polygons polygons)
rings_traced plane [] polygons h rings = absurd (h refl)
rings_traced plane (face ∷ faces) polygons h rings = record { polygons = polygons; rings = rings; is = refl }

-- paths

pub no_lines : (paths : List (List SignedArc)) → length paths ≡ 0 → arcs.Nothing ≡ lines_along paths
no_lines [] h = refl
no_lines (path ∷ paths) h = absurd (omega (arith, h))

pub some_lines : (paths : List (List SignedArc)) → (length paths ≡ 0 → ⊥) → arcs.Lines paths ≡ lines_along paths
some_lines [] h = absurd (h refl)
some_lines (path ∷ paths) h = refl

-- points

pub no_points : (points : Path) → length points ≡ 0 → arcs.Nothing ≡ points_alone points
no_points [] h = refl
no_points (point ∷ points) h = absurd (omega (arith, h))

pub some_points : (points : Path) → (length points ≡ 0 → ⊥) → arcs.Points points ≡ points_alone points
some_points [] h = absurd (h refl)
some_points (point ∷ points) h = refl
