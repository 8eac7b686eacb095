-- The law is proved in `proofs/Together.antt`.
use Rattle.answer_laws.proofs.Together.{each_region_is_printed}
use Rattle.answer_laws.proofs.each_region_is_printed.Goals as goal

pub returns : goal.returns
returns c = record { holds = each_region_is_printed }
