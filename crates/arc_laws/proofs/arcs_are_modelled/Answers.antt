-- The law is proved in `proofs/Modelled.antt`.
use Rattle.arc_laws.proofs.Modelled.{arcs_are_modelled}
use Rattle.arc_laws.proofs.arcs_are_modelled.Goals as goal

pub returns : goal.returns
returns c = record { holds = arcs_are_modelled }
