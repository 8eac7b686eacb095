-- The law is proved in `proofs/Printed.antt`.
use Rattle.printed_laws.proofs.Printed.{regions_are_printed}
use Rattle.printed_laws.proofs.regions_are_printed.Goals as goal

pub returns : goal.returns
returns c = record { holds = regions_are_printed }
