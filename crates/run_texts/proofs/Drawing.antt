-- Shapes in points: empty ones, and others; and features of them, printed one after another.
use Rattle.std.proofs.Common.{◌≡◌, ◌∙◌, ◌+◌, ◌<◌, ◌++◌, ℕ, List, [], ◌∷◌, ap, arith, codes, get_or, length, map, refl, take}
use Rattle.std.proofs.lemmas.List.{length-take-le}
use Rattle.std.proofs.lemmas.Slice.Zip.{AllZip-long}
use Rattle.plane_model.specs.Arcs.{SignedArc}
use Rattle.plane_model.specs.Points.{Path}
use Rattle.io_core.specs.Contents.{Content}
use Rattle.json_values.specs.Table.{RowValues}
use Rattle.geojson_io.specs.Texts.{before_item, feature_text}
use Rattle.geojson_io.specs.declared.shape.GeoShape.{GeoShape}
use Rattle.geojson_io.specs.declared.shape.GeoShape.TheVariants as geo
use Rattle.geojson_io.proofs.TextLemmas.{feature_more}
use Rattle.topo_io.specs.declared.arc_layer.ArcShape.TheVariants as arcs
use Rattle.run_plane.specs.declared.layer.Shape.{Shape}
use Rattle.run_plane.specs.declared.layer.Shape.TheVariants as shape
use Rattle.run_plane.specs.declared.plane.Plane.{Plane}
use Rattle.run_plane.proofs.Growth.{zipped_next}
use Rattle.run_texts.specs.Pictures.{AreWritten, IsDrawn, on_grid, points_along}
use Rattle.run_texts.specs.Tracing.{AreRingsOf, points_alone}
use Rattle.run_texts.proofs.Tracing.{no_lines, none_traced, rings_traced, some_lines}

-- shapes

pub nothing_drawn : (plane : Plane) → IsDrawn plane shape.Nothing geo.Nothing
nothing_drawn plane = record { traced = arcs.Nothing; traces = refl; is = refl }

pub no_faces_drawn : (plane : Plane) (set : List ℕ) → length set ≡ 0 → IsDrawn plane (shape.Faces set) geo.Nothing
no_faces_drawn plane set h = record { traced = arcs.Nothing; traces = none_traced plane set h; is = refl }

pub faces_drawn : (plane : Plane) (set : List ℕ) (polygons : List (List (List SignedArc))) (drawn : List (List Path)) → (length set ≡ 0 → ⊥) → AreRingsOf plane set polygons
    → drawn ≡ map (map (points_along plane.arcs)) polygons → IsDrawn plane (shape.Faces set) (geo.Polygons drawn)
faces_drawn plane set polygons drawn some rings along = record { traced = arcs.Polygons polygons; traces = rings_traced plane set polygons some rings; is = ap geo.Polygons along }

pub no_paths_drawn : (plane : Plane) (paths : List (List SignedArc)) → length paths ≡ 0 → IsDrawn plane (shape.Paths paths) geo.Nothing
no_paths_drawn plane paths h = record { traced = arcs.Nothing; traces = no_lines paths h; is = refl }

pub paths_drawn : (plane : Plane) (paths : List (List SignedArc)) (drawn : List Path) → (length paths ≡ 0 → ⊥) → drawn ≡ map (points_along plane.arcs) paths
    → IsDrawn plane (shape.Paths paths) (geo.Lines drawn)
paths_drawn plane paths drawn some along = record { traced = arcs.Lines paths; traces = some_lines paths some; is = ap geo.Lines along }

-- points as they are drawn
abbrev pub drawn_points : Plane → Path → GeoShape
drawn_points plane points = on_grid plane.arcs (points_alone points)

pub points_drawn : (plane : Plane) (points : Path) → IsDrawn plane (shape.Points points) (drawn_points plane points)
points_drawn plane points = record { traced = points_alone points; traces = refl; is = refl }

-- none are printed as nothing is
points_text : (plane : Plane) (places : ℕ) (keys : List Content) (row : RowValues) (points : Path) → feature_text places keys (row, geo.Points points) ≡ feature_text places keys (row, drawn_points plane points)
points_text plane places keys row [] = refl
points_text plane places keys row (point ∷ points) = refl

pub points_printed : (plane : Plane) (places : ℕ) (keys : List Content) (row : RowValues) (points lent : Path) (mark out text : Content) → lent ≡ points
    → text ≡ out ++ (mark ++ feature_text places keys (row, geo.Points lent)) → text ≡ out ++ (mark ++ feature_text places keys (row, drawn_points plane points))
points_printed plane places keys row points lent mark out text same added =
    added ∙ ap (λ (ps : Path). out ++ (mark ++ feature_text places keys (row, geo.Points ps))) same ∙ ap (λ (t : Content). out ++ (mark ++ t)) (points_text plane places keys row points)

-- features

-- what was written, and now the feature of the next shape
pub written_on : (plane : Plane) (places : ℕ) (keys : List Content) (rows : List RowValues) (shapes : List Shape) (i : ℕ) (row : RowValues) (s : Shape) (drawn : GeoShape) (start out text : Content)
    → length shapes ≡ length rows → i < length shapes → row ≡ get_or rows i row → s ≡ get_or shapes i s → AreWritten plane places keys rows (take i shapes) start out
    → IsDrawn plane s drawn → text ≡ out ++ (before_item (codes ",\n") i ++ feature_text places keys (row, drawn)) → AreWritten plane places keys rows (take (i + 1) shapes) start text
written_on plane places keys rows shapes i row s drawn start out text count there row_is shape_is so_far is_drawn added =
    let many : length so_far.drawn ≡ i = AllZip-long (IsDrawn plane) (take i shapes) so_far.drawn so_far.each ∙ length-take-le i shapes (omega arith) in
    record {
      drawn = so_far.drawn ++ drawn ∷ [];
      each = zipped_next (IsDrawn plane) shapes i s so_far.drawn drawn there shape_is so_far.each is_drawn;
      is = feature_more places keys rows so_far.drawn row drawn i start out text many (omega arith) row_is so_far.is added;
    }
