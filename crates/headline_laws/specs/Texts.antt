-- The law of texts: there is one of whatever an output writes.
use Rattle.run_state.specs.Origins.{Base}
use Rattle.layer_laws.specs.Shown.{View, IsView}
use Rattle.headline_laws.specs.ChainSteps.{EachHasText}

abbrev pub EachOutputHasAText : Type 0
EachOutputHasAText = (v : View) → IsView v → (base : Base) → EachHasText v base
