use Rattle.cmd_words.specs.Rows.{rows}
use Rattle.cmd_words.proofs.commands.row_of.Goals as goal

pub returns : goal.returns
unfolding rows
returns c = c.row_named.ensures
