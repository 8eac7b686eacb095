use Rattle.expr_lang.proofs.OneTree.{one_tree}
use Rattle.expr_lang.proofs.laws.each_text_has_one_tree.Goals as goal

pub returns : goal.returns
returns c = record { holds = λ m n s d e h g. one_tree m n s d e h g }
