-- What the text of an output says of the layers of its target, and which outputs are refused.
use Rattle.std.specs.Prelude.{◌≡◌, ◌||◌, Bool, false, if◌then◌else◌, List, [], ◌∷◌, map, Option, Some, None, Ok}
use Rattle.std.specs.List.{AllZip}
use Rattle.io_core.specs.Contents.{Content}
use Rattle.geojson_io.specs.LayerContent.{LayerContent}
use Rattle.geojson_io.specs.Texts.{geojson_text}
use Rattle.csv_io.specs.CsvText.{csv_text}
use Rattle.table_terms.specs.Names.{has_name}
use Rattle.topo_io.specs.ArcLayerContent.{ArcLayerContent}
use Rattle.topo_io.specs.Texts.{topojson_text}
use Rattle.job_terms.specs.declared.job.OutForm.{OutForm}
use Rattle.job_terms.specs.declared.job.OutForm.TheVariants as form
use Rattle.job_terms.specs.declared.job.Target.{Target}
use Rattle.run_state.specs.Origins.{Base, one_layer}
use Rattle.run_state.specs.Stops.{refusal_of}
use Rattle.run_texts.specs.Pictures.{IsPicture}
use Rattle.run_state.specs.Targets.{has_target, targets}
use Rattle.run_texts.specs.Tracing.{IsTracedLayer}
use Rattle.run_plane.specs.declared.layer.Layer.{Layer}
use Rattle.run_state.specs.declared.refusal.RefuseWhy.{RefuseWhy}
use Rattle.run_state.specs.declared.refusal.RefuseWhy.TheVariants.{NoLayer, NameTwice}
use Rattle.run_state.specs.declared.state.HeldLayer.{HeldLayer}

-- ---- texts

-- a picture of the one layer, as GeoJSON
pub record IsGeoText (base : Base) (layers : List Layer) (text : Content) : Type 0 where
  pub layer : Layer
  pub one : one_layer layers ≡ Ok layer
  pub picture : LayerContent
  pub shows : IsPicture base.plane layer picture
  pub is : text ≡ geojson_text base.places picture

-- the table of the one layer, as comma-separated text
pub record IsCsvText (layers : List Layer) (text : Content) : Type 0 where
  pub layer : Layer
  pub one : one_layer layers ≡ Ok layer
  pub is : text ≡ csv_text layer.table

-- all layers in order, as a topology of the plane's arcs
pub record IsTopoText (base : Base) (layers : List Layer) (text : Content) : Type 0 where
  pub traced : List ArcLayerContent
  pub each : AllZip (IsTracedLayer base.plane) layers traced
  pub is : text ≡ topojson_text base.places base.plane.arcs traced

abbrev pub OutputSays : Base → OutForm → List Layer → Content → Type 0
OutputSays base form.Geo layers text = IsGeoText base layers text
OutputSays base form.Csv layers text = IsCsvText layers text
OutputSays base form.Topo layers text = IsTopoText base layers text

-- ---- refusals

abbrev pub names_of_layers : List Layer → List Content
names_of_layers layers = map (λ (layer : Layer). layer.name) layers

-- two of the names are one
abbrev pub has_name_twice : List Content → Bool
has_name_twice [] = false
has_name_twice (name ∷ names) = has_name names name || has_name_twice names

-- more layers than one, or none
abbrev pub refused_one : List Layer → Option RefuseWhy
refused_one layers = refusal_of (one_layer layers)

-- two layers of one name
abbrev pub refused_names : List Layer → Option RefuseWhy
refused_names layers = if has_name_twice (names_of_layers layers) then Some NameTwice else None

-- the layers of a topology have names of their own, and any other text is of one layer
abbrev pub refused_form : OutForm → List Layer → Option RefuseWhy
refused_form form.Geo layers = refused_one layers
refused_form form.Csv layers = refused_one layers
refused_form form.Topo layers = refused_names layers

-- why an output of these layers is refused, where it is: first for its target, then for its form
abbrev pub refused_output : Target → OutForm → List HeldLayer → Option RefuseWhy
refused_output t f layers = if has_target t layers then refused_form f (targets t layers) else Some NoLayer
