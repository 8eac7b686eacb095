-- The layers that commands begin with lie on the plane.
use Rattle.std.proofs.Common.{◌<◌, sym, subst, ℕ, List, [], ◌∷◌, All, filter, length}
use Rattle.std.specs.Prelude.{slice_index_or}
use Rattle.std.specs.List.{AllZip}
use Rattle.std.proofs.lemmas.List.Elements.{All-append, All-cons, All-drop, All-head, All-map, All-nil, All-tail}
use Rattle.plane_model.specs.Arcs.{SignedArc}
use Rattle.plane_model.specs.Drawing.{Drawing}
use Rattle.plane_model.specs.Points.{Path}
use Rattle.face_sets.specs.Sets.{IsSetOf}
use Rattle.grid_base.specs.declared.kinds.Kind.{Kind}
use Rattle.grid_base.specs.declared.kinds.Kind.TheVariants as kinds
use Rattle.geojson_io.specs.LayerContent.{LayerContent}
use Rattle.geojson_io.specs.declared.shape.GeoShape.{GeoShape}
use Rattle.job_terms.specs.declared.job.Owner.{Owner}
use Rattle.job_terms.specs.declared.job.Owner.TheVariants as owner
use Rattle.run_plane.specs.LineArcs.{AreArcsOfPath, has_links}
use Rattle.run_plane.specs.OnPlane.{AreBelow, AreLayersOn, AreOn, AreAllOn, IsLayerOn, IsOn}
use Rattle.run_plane.specs.declared.layer.Layer.{Layer}
use Rattle.run_plane.specs.declared.layer.Shape.{Shape}
use Rattle.run_plane.specs.declared.layer.Shape.TheVariants as shape
use Rattle.run_plane.specs.declared.plane.Plane.{Plane}
use Rattle.run_plane.proofs.OnPlane.{features_are_inner, set_inner}
use Rattle.run_beginning.specs.BegunLayers.{AreBegun, AreBegunOfEach, AreShapes, BeginsOver, IsLineOf, IsLineShape, Left, left_after, left_after_all, face_shape, imported, numbers_of, of_command, of_import, owned, point_shape, polygon_count, row_shape}

module _ (plane : Plane) where
  abbrev AreInner : Left → Type 0
  AreInner left = All (IsSetOf plane.faces) left.faces

  -- ---- shapes

  paths_below : (lines : List Path) (paths : List (List SignedArc)) → AllZip (AreArcsOfPath plane.arcs) lines paths → AreBelow (length plane.arcs) paths
  paths_below [] [] h = All-nil (All (λ (a : SignedArc). a.arc < length plane.arcs))
  paths_below [] (path ∷ paths) h = absurd h
  paths_below (line ∷ lines) [] h = absurd h
  paths_below (line ∷ lines) (path ∷ paths) h = All-cons (All (λ (a : SignedArc). a.arc < length plane.arcs)) path paths h.0.there (paths_below lines paths h.1)

  line_on : (lines : List Path) (s : Shape) → IsLineShape plane.arcs lines s → IsOn plane s
  line_on lines shape.Nothing h = absurd h
  line_on lines (shape.Faces set) h = absurd h
  line_on lines (shape.Paths paths) h = paths_below (filter has_links lines) paths h
  line_on lines (shape.Points points) h = absurd h

  lines_on : (lines : List (List Path)) (numbers : List ℕ) (begun : List Shape) → AllZip (IsLineOf plane.arcs lines) numbers begun → AreOn plane begun
  lines_on lines [] [] h = All-nil (IsOn plane)
  lines_on lines [] (s ∷ begun) h = absurd h
  lines_on lines (n ∷ numbers) [] h = absurd h
  lines_on lines (n ∷ numbers) (s ∷ begun) h = All-cons (IsOn plane) s begun (line_on (slice_index_or lines n []) s h.0) (lines_on lines numbers begun h.1)

  shapes_on : (left : Left) (k : Kind) (given : List GeoShape) (begun : List Shape) → AreInner left → AreShapes plane.arcs left k given begun → AreOn plane begun
  shapes_on left kinds.Polygon given begun inner h = subst (AreOn plane) (sym h) (All-map (IsOn plane) (face_shape left.faces) (numbers_of given) (λ i d l. set_inner plane.faces left.faces _ inner))
  shapes_on left kinds.Line given begun inner h = lines_on left.lines (numbers_of given) begun h
  shapes_on left kinds.Point given begun inner h = subst (AreOn plane) (sym h) (All-map (IsOn plane) point_shape given (λ i d l. tt))
  shapes_on left kinds.Table given begun inner h = subst (AreOn plane) (sym h) (All-map (IsOn plane) row_shape given (λ i d l. tt))

  -- ---- layers

  left_after_inner : (layer : LayerContent) (left : Left) → AreInner left → AreInner (left_after layer left)
  left_after_inner layer left inner = All-drop (IsSetOf plane.faces) (polygon_count layer.kind (length layer.shapes)) left.faces inner

  left_after_all_inner : (layers : List LayerContent) (left : Left) → AreInner left → AreInner (left_after_all layers left)
  left_after_all_inner [] left inner = inner
  left_after_all_inner (layer ∷ layers) left inner = left_after_all_inner layers (left_after layer left) (left_after_inner layer left inner)

  layers_on : (left : Left) (given : List LayerContent) (begun : List Layer) → AreInner left → AreBegun plane.arcs left given begun → AreLayersOn plane begun
  layers_on left [] [] inner h = All-nil (IsLayerOn plane)
  layers_on left [] (layer ∷ begun) inner h = absurd h
  layers_on left (layer ∷ given) [] inner h = absurd h
  layers_on left (layer ∷ given) (first ∷ begun) inner h =
      All-cons (IsLayerOn plane) first begun (shapes_on left layer.kind layer.shapes first.shapes.items inner h.0.shapes)
      (layers_on (left_after layer left) given begun (left_after_inner layer left inner) h.1)

  -- ---- sources

  each_on : (left : Left) (given : List (List LayerContent)) (begun : List (List Layer)) → AreInner left → AreBegunOfEach plane.arcs left given begun → AreAllOn plane begun
  each_on left [] [] inner h = All-nil (AreLayersOn plane)
  each_on left [] (layers ∷ begun) inner h = absurd h
  each_on left (layers ∷ given) [] inner h = absurd h
  each_on left (layers ∷ given) (first ∷ begun) inner h =
      All-cons (AreLayersOn plane) first begun (layers_on left layers first inner h.0)
      (each_on (left_after_all layers left) given begun (left_after_all_inner layers left inner) h.1)

  import_on : (o : Owner) (layers : List Layer) → AreLayersOn plane layers → AreLayersOn plane (of_import o layers)
  import_on owner.Import layers on = on
  import_on (owner.Command n) layers on = All-nil (IsLayerOn plane)

  command_on : (o : Owner) (layers : List Layer) → AreLayersOn plane layers → AreLayersOn plane (of_command o layers)
  command_on owner.Import layers on = All-nil (IsLayerOn plane)
  command_on (owner.Command n) layers on = on

  imported_on : (owners : List Owner) (begun : List (List Layer)) → AreAllOn plane begun → AreLayersOn plane (imported owners begun)
  imported_on [] begun on = All-nil (IsLayerOn plane)
  imported_on (o ∷ owners) [] on = All-nil (IsLayerOn plane)
  imported_on (o ∷ owners) (layers ∷ begun) on =
      All-append (IsLayerOn plane) (of_import o layers) (imported owners begun) (import_on o layers (All-head (AreLayersOn plane) layers begun on)) (imported_on owners begun (All-tail (AreLayersOn plane) layers begun on))

  owned_on : (owners : List Owner) (begun : List (List Layer)) → AreAllOn plane begun → AreAllOn plane (owned owners begun)
  owned_on [] begun on = All-nil (AreLayersOn plane)
  owned_on (o ∷ owners) [] on = All-nil (AreLayersOn plane)
  owned_on (o ∷ owners) (layers ∷ begun) on =
      All-cons (AreLayersOn plane) (of_command o layers) (owned owners begun) (command_on o layers (All-head (AreLayersOn plane) layers begun on)) (owned_on owners begun (All-tail (AreLayersOn plane) layers begun on))

  module _ (s : Drawing) (owners : List Owner) (given : List (List LayerContent)) (boxes : List (List ℕ)) (layers : List Layer) (sources : List (List Layer)) (over : BeginsOver s owners given plane.arcs plane.faces boxes layers sources) where
    all_on : AreAllOn plane over.begun.begun
    all_on = each_on (record { faces = over.features; lines = s.lines }) given over.begun.begun (features_are_inner s plane.arcs plane.faces boxes over.features over.laid) over.begun.each

    -- those of the import
    pub imports_on : AreLayersOn plane layers
    imports_on = subst (AreLayersOn plane) (sym over.begun.of_imports) (imported_on owners over.begun.begun all_on)

    -- and those of the sources of commands
    pub sources_on : AreAllOn plane sources
    sources_on = subst (AreAllOn plane) (sym over.begun.of_commands) (owned_on owners over.begun.begun all_on)
