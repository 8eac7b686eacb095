-- The law is proved in `proofs/Fitting.antt`.
use Rattle.region_laws.proofs.Fitting.{traces_fit}
use Rattle.region_laws.proofs.traces_fit.Goals as goal

pub returns : goal.returns
returns c = record { holds = traces_fit }
