use Rattle.json_read.proofs.Straight.{null_read}
use Rattle.json_read.proofs.reader.Reader.null.Goals as goal

pub returns-clause-taken : goal.returns-clause-taken
returns-clause-taken c = λ e d. null_read d _ _ _ _ c.skip_white.ensures.exact c.in-Ok.ensures.read c.skip_white-2.ensures.exact
