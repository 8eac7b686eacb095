-- Laws of texts: what an output of a run says is a text of the state's output.
use Rattle.std.specs.Prelude.{◌≡◌, ℕ, Bool, List}
use Rattle.std.specs.List.{AllZip}
use Rattle.io_core.specs.Contents.{Content}
use Rattle.table_terms.specs.Names.{Text}
use Rattle.job_terms.specs.declared.job.Action.TheVariants as does
use Rattle.job_terms.specs.declared.job.Command.{Command}
use Rattle.job_terms.specs.declared.job.OutForm.{OutForm}
use Rattle.job_terms.specs.declared.job.OutForm.TheVariants as form
use Rattle.run_plane.specs.declared.layer.Layer.{Layer}
use Rattle.run_state.specs.Origins.{Base}
use Rattle.run_state.specs.declared.state.HeldLayer.{HeldLayer}
use Rattle.run_texts.specs.Written.{IsCsvText, IsGeoText, IsTopoText, OutputSays}
use Rattle.chain_model.specs.Pictures.{IsTextOf}
use Rattle.chain_model.specs.State.{State, StateLayer}
use Rattle.chain_model.specs.Steps.{Written}
use Rattle.chain_model.specs.Targets.{SourceLayers}
use Rattle.layer_laws.specs.Shown.{View, IsView, IsSeenIn, LayerShows, StateShows, plane_of}
use Rattle.headline_laws.specs.ChainSteps.{WriteShows}

-- the text is one of whatever writes these layers of the state in the form
abbrev pub TextIsOf : View → Base → OutForm → List StateLayer → Content → Type 0
TextIsOf v base f ls text = (w : Written) → w.form ≡ f → w.layers ≡ ls → IsTextOf (plane_of v) v.answers base.places w text

-- ---- texts of layers that show those of the state

abbrev pub GeoTextsShow : Type 0
GeoTextsShow = (v : View) → IsView v → (base : Base) → IsSeenIn v base.plane → (layers : List Layer) (ls : List StateLayer) → AllZip (LayerShows v) layers ls → (text : Content) → IsGeoText base layers text → TextIsOf v base form.Geo ls text

abbrev pub TopoTextsShow : Type 0
TopoTextsShow = (v : View) → IsView v → (base : Base) → IsSeenIn v base.plane → (layers : List Layer) (ls : List StateLayer) → AllZip (LayerShows v) layers ls → (text : Content) → IsTopoText base layers text → TextIsOf v base form.Topo ls text

abbrev pub TableTextsShow : Type 0
TableTextsShow = (v : View) → IsView v → (base : Base) (layers : List Layer) (ls : List StateLayer) → AllZip (LayerShows v) layers ls → (text : Content) → IsCsvText layers text → TextIsOf v base form.Csv ls text

-- whatever the form is
abbrev pub TextsShow : Type 0
TextsShow = (v : View) → IsView v → (base : Base) → IsSeenIn v base.plane → (layers : List Layer) (ls : List StateLayer) → AllZip (LayerShows v) layers ls → (f : OutForm) (text : Content) → OutputSays base f layers text → TextIsOf v base f ls text

-- ---- law: whatever is written has a text
abbrev pub TextsExist : Type 0
TextsExist = (v : View) → IsView v → (places : ℕ) (w : Written) → (text : Content) × IsTextOf (plane_of v) v.answers places w text

-- ---- the step of an output

abbrev pub OutputStepsShow : Type 0
OutputStepsShow = (v : View) → IsView v → (base : Base) → IsSeenIn v base.plane → (sources : SourceLayers) (layers : List HeldLayer) (s : State) → StateShows v layers s →
    (c : Command) (to : Text) (standard : Bool) (f : OutForm) → c.action ≡ does.Write to standard f → WriteShows v base layers sources s c to standard f
