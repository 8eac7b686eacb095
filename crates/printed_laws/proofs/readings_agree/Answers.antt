-- Going over links the exterior, less the holes, changes just as the part does.
use Rattle.printed_laws.proofs.Agreed.{readings_agree}
use Rattle.printed_laws.proofs.readings_agree.Goals as goal

pub returns : goal.returns
returns c = record { holds = readings_agree }
