use Rattle.headline_laws.proofs.SynthLine.{lines_show}
use Rattle.headline_laws.proofs.lines_of_mosaics_show.Goals as goal

pub returns : goal.returns
returns c = record { holds = lines_show }
