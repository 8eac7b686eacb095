use Rattle.std.proofs.Common.{refl}
use Rattle.cmd_words.proofs.Steps.{value_kept}
use Rattle.cmd_words.proofs.word_groups.Group.take_value.Goals as goal

pub returns : goal.returns
returns c = record { exact = λ refuses right. value_kept refuses c.args.places c.args.form c.args.value.now _ _ _ c.take.new.self _ c.self.view_is refl (c.take.ensures.exact refuses right) }
