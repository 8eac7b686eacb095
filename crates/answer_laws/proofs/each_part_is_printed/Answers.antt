-- The law is proved in `proofs/PartPolygons.antt`.
use Rattle.answer_laws.proofs.PartPolygons.{each_part_is_printed}
use Rattle.answer_laws.proofs.each_part_is_printed.Goals as goal

pub returns : goal.returns
returns c = record { holds = each_part_is_printed }
