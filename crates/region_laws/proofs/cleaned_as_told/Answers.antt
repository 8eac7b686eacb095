-- The law is proved in `proofs/Answered.antt`.
use Rattle.region_laws.proofs.Answered.{cleaned_as_told}
use Rattle.region_laws.proofs.cleaned_as_told.Goals as goal

pub returns : goal.returns
returns c = record { holds = cleaned_as_told }
