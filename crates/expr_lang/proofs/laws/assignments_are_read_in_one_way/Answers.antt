use Rattle.expr_lang.proofs.OneAssigns.{one_way}
use Rattle.expr_lang.proofs.laws.assignments_are_read_in_one_way.Goals as goal

pub returns : goal.returns
returns c = record { holds = one_way }
