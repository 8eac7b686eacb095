-- Laws of the beginning: the layers of the sources of a run show those of the state.
use Rattle.std.specs.Prelude.{◌≡◌, ℕ, List, [], map}
use Rattle.std.specs.List.{AllZip}
use Rattle.lists.specs.Lists.{joined_up}
use Rattle.plane_model.specs.Points.{Path}
use Rattle.plane_model.specs.Drawing.{Drawing}
use Rattle.plane_model.specs.Snapped.{snapped}
use Rattle.grid_base.specs.Grid.{Corners}
use Rattle.geojson_io.specs.LayerContent.{LayerContent}
use Rattle.job_terms.specs.declared.job.Owner.{Owner}
use Rattle.job_terms.specs.declared.job.SourceWord.{SourceWord}
use Rattle.face_walk.specs.Places.{FaceTable}
use Rattle.run_plane.specs.declared.layer.Layer.{Layer}
use Rattle.run_beginning.specs.BegunLayers.{BeginsOver}
use Rattle.run_beginning.specs.Drawing as run
use Rattle.chain_model.specs.Beginning as state
use Rattle.chain_model.specs.Beginning.{command_layers, first_sources, import_layers}
use Rattle.layer_laws.specs.Shown.{View, LayerShows, SourcesShow, plane_of}
use Rattle.layer_laws.specs.Views.{IsViewOf}

-- ---- law: what a run draws is the drawing of the state
abbrev pub DrawingsAreOne : Type 0
DrawingsAreOne = (layers : List LayerContent) (boxes : List Corners) → run.drawing_of layers boxes ≡ state.drawing_of layers boxes

-- ---- layers

-- layers of the import, and those of each source for a command, show those of the state
pub record BeginningShows (v : View) (words : List SourceWord) (given : List (List LayerContent)) (layers : List Layer) (sources : List (List Layer)) : Type 0 where
  pub imports : AllZip (LayerShows v) layers (import_layers words (first_sources (plane_of v) [] given))
  pub commands : SourcesShow v sources (command_layers words (first_sources (plane_of v) [] given))

abbrev pub owners_of : List SourceWord → List Owner
owners_of words = map (λ (word : SourceWord). word.owner) words

-- the drawing of some sources and boxes
abbrev pub drawing_by : List (List LayerContent) → List Corners → Drawing
drawing_by given corners = run.drawing_of (joined_up given) corners

-- ---- law: what begins over a drawing has a view, in which it shows what begins in the state
abbrev pub BeginningsShow : Type 0
BeginningsShow = (given : List (List LayerContent)) (corners : List Corners) →
    (words : List SourceWord) (arcs : List Path) (faces : FaceTable) (boxes : List (List ℕ)) (layers : List Layer) (sources : List (List Layer)) →
    (over : BeginsOver (snapped (drawing_by given corners)) (owners_of words) given arcs faces boxes layers sources) →
    (v : View) × IsViewOf (drawing_by given corners) arcs faces boxes over.features v × BeginningShows v words given layers sources
