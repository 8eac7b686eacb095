-- The layers of a run, which lie on its plane.
use Rattle.std.specs.Prelude.{All, List}
use Rattle.run_plane.specs.OnPlane.{IsLayerOn}
use Rattle.run_plane.specs.declared.plane.Plane.{Plane}
use Rattle.run_state.specs.declared.state.HeldLayer.{HeldLayer}

abbrev pub AreHeldOn : Plane → List HeldLayer → Type 0
AreHeldOn plane layers = All (λ (held : HeldLayer). IsLayerOn plane held.layer) layers
