-- What is shown in a view is shown by whatever answers it has.
use Rattle.std.proofs.Common.{List}
use Rattle.std.specs.List.{AllZip}
use Rattle.grid_base.specs.declared.kinds.Kind.{Kind}
use Rattle.grid_base.specs.declared.kinds.Kind.TheVariants as kinds
use Rattle.region_model.specs.Answers.{AreRight, Answers}
use Rattle.region_model.specs.Region.{Region}
use Rattle.run_plane.specs.declared.layer.Layer.{Layer}
use Rattle.run_plane.specs.declared.layer.Shape.{Shape}
use Rattle.run_plane.specs.declared.plane.Plane.{Plane}
use Rattle.run_state.specs.declared.state.HeldLayer.{HeldLayer}
use Rattle.chain_model.specs.State as state
use Rattle.chain_model.specs.State.{State, StateLayer}
use Rattle.layer_laws.specs.Shown.{View, FacesShow, IsSeenIn, IsView, LayerShows, ShapeShows, SourcesShow, StateShows, plane_of}
use Rattle.layer_laws.proofs.Zipped.{zip_weaker}

module _ (v : View) (A : Answers) where
  abbrev pub answered : View
  answered = record v { answers = A }

  pub still_view : IsView v → AreRight (plane_of v) A → IsView answered
  still_view view right = record { walked = view.walked; labels = view.labels; held = view.held; right = right }

  faces_still : (set : _) (r : Region) → FacesShow v set r → FacesShow answered set r
  faces_still set r h = record { rising = h.rising; inner = h.inner; follows = h.follows }

  pub seen_still : (plane : Plane) → IsSeenIn v plane → IsSeenIn answered plane
  seen_still plane h = record { arcs = h.arcs; faces = h.faces; boxes = λ n. faces_still _ _ (h.boxes n) }

  shape_still : (k : Kind) (held : Shape) (s : state.Shape) → ShapeShows v k held s → ShapeShows answered k held s
  shape_still kinds.Polygon held s h = record { set = h.set; region = h.region; has = h.has; is = h.is; shows = faces_still h.set h.region h.shows }
  shape_still kinds.Line held s h = record { named = h.named; paths = h.paths; has = h.has; is = h.is; shows = record { there = h.shows.there; linked = h.shows.linked; along = h.shows.along } }
  shape_still kinds.Point held s h = record { points = h.points; has = h.has; is = h.is; vertices = h.vertices }
  shape_still kinds.Table held s h = h

  layer_still : (held : Layer) (l : StateLayer) → LayerShows v held l → LayerShows answered held l
  layer_still held l h = record {
    name = h.name;
    kind = h.kind;
    table = h.table;
    shapes = zip_weaker (ShapeShows v held.kind) (ShapeShows answered held.kind) (shape_still held.kind) held.shapes.items l.shapes h.shapes;
  }

  pub sources_still : (held : List (List Layer)) (sources : List (List StateLayer)) → SourcesShow v held sources → SourcesShow answered held sources
  sources_still held sources h =
      zip_weaker (AllZip (LayerShows v)) (AllZip (LayerShows answered)) (λ ls ms. zip_weaker (LayerShows v) (LayerShows answered) layer_still ls ms) held sources h

  pub state_still : (held : List HeldLayer) (s : State) → StateShows v held s → StateShows answered held s
  state_still held s h = record {
    layers = zip_weaker (λ (x : HeldLayer). LayerShows v x.layer) (λ (x : HeldLayer). LayerShows answered x.layer) (λ x l. layer_still x.layer l) held s.layers h.layers;
    target = h.target;
  }
