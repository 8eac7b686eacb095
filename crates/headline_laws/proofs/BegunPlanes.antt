-- What begins over a plane follows from its drawing, whatever its arcs are; and those of what is laid out are the
-- model's.
use Rattle.std.proofs.Common.{◌≡◌, refl, sym, ap, ap₂, ◌∙◌, ℕ, List, [], ◌∷◌, ◌++◌, map}
use Rattle.std.specs.List.{enumerate_from}
use Rattle.plane_model.specs.Points.{Path, Segment}
use Rattle.plane_model.specs.Arcs.{arcs_of}
use Rattle.plane_model.specs.Drawing.{Drawing}
use Rattle.plane_model.specs.Snapped.{links_of, snapped}
use Rattle.grid_base.specs.declared.kinds.Kind.{Kind}
use Rattle.grid_base.specs.declared.kinds.Kind.TheVariants as kinds
use Rattle.geojson_io.specs.LayerContent.{LayerContent}
use Rattle.geojson_io.specs.declared.shape.GeoShape.{GeoShape}
use Rattle.arc_laws.proofs.Modelled.{arcs_are_modelled}
use Rattle.face_walk.specs.Places.{FaceTable}
use Rattle.region_model.specs.Answers.{Plane, plane_of}
use Rattle.region_laws.specs.Answered.{plane_with}
use Rattle.run_plane.specs.LaidOut.{IsLaidOut}
use Rattle.chain_model.specs.State.{Shape, StateLayer}
use Rattle.chain_model.specs.Beginning.{count_of, first_layer, first_layers, first_shape, first_sources}
use Rattle.layer_laws.specs.Shown.{View, plane_of as view_plane_of}
use Rattle.layer_laws.specs.Views.{IsViewOf}

module _ (drawing : Drawing) (links : List Segment) (some others : List Path) where
  abbrev here : Plane
  here = record { drawing = drawing; links = links; arcs = some }

  abbrev there : Plane
  there = record { drawing = drawing; links = links; arcs = others }

  shapes_alike : (k : Kind) (shapes : List (ℕ × GeoShape)) → map (λ (s : ℕ × GeoShape). first_shape here k s.0 s.1) shapes ≡ map (λ (s : ℕ × GeoShape). first_shape there k s.0 s.1) shapes
  shapes_alike kinds.Polygon shapes = refl
  shapes_alike kinds.Line shapes = refl
  shapes_alike kinds.Point shapes = refl
  shapes_alike kinds.Table shapes = refl

  layer_alike : (before : List LayerContent) (l : LayerContent) → first_layer here before l ≡ first_layer there before l
  layer_alike before l = ap (λ (shapes : List Shape). record { name = l.name; kind = l.kind; table = l.table; shapes = shapes }) (shapes_alike l.kind (enumerate_from (count_of l.kind before) l.shapes))

  layers_alike : (before layers : List LayerContent) → first_layers here before layers ≡ first_layers there before layers
  layers_alike before [] = refl
  layers_alike before (l ∷ ls) = ap₂ (λ (x : StateLayer) (xs : List StateLayer). x ∷ xs) (layer_alike before l) (layers_alike (before ++ l ∷ []) ls)

  pub sources_alike : (before : List LayerContent) (given : List (List LayerContent)) → first_sources here before given ≡ first_sources there before given
  sources_alike before [] = refl
  sources_alike before (ls ∷ given) = ap₂ (λ (x : List StateLayer) (xs : List (List StateLayer)). x ∷ xs) (layers_alike before ls) (sources_alike (before ++ ls) given)

-- the plane of a view of what is laid out is that of its drawing
pub view_plane : (d : Drawing) (arcs : List Path) (faces : FaceTable) (boxes features : List (List ℕ)) → IsLaidOut (snapped d) arcs faces boxes features → (v : View) → IsViewOf d arcs faces boxes features v → view_plane_of v ≡ plane_of v.drawing
view_plane d arcs faces boxes features laid v is =
    let taken : arcs ≡ arcs_of (snapped d) (links_of (snapped d)) = arcs_are_modelled (snapped d) arcs laid.paths laid.are_arcs laid.forward laid.least laid.numbered in
    ap (plane_with v.drawing) (is.of_arcs ∙ taken ∙ ap (λ (e : Drawing). arcs_of (snapped e) (links_of (snapped e))) (sym is.of_drawing))
