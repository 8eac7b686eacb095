-- By counts of darts, as for a part.
use Rattle.part_laws.proofs.TogetherLaws.{traces_use_the_border}
use Rattle.part_laws.proofs.traces_use_the_border.Goals as goal

pub returns : goal.returns
returns c = record { holds = traces_use_the_border }
