-- Each polygon is told by its boundary.
use Rattle.printed_laws.proofs.Counted.{parts_are_printed}
use Rattle.printed_laws.proofs.parts_are_printed.Goals as goal

pub returns : goal.returns
returns c = record { holds = parts_are_printed }
