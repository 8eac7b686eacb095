-- The law is proved in `proofs/Borders.antt`.
use Rattle.line_laws.proofs.Borders.{borders_are_of_regions}
use Rattle.line_laws.proofs.borders_are_of_regions.Goals as goal

pub returns : goal.returns
returns c = record { holds = borders_are_of_regions }
