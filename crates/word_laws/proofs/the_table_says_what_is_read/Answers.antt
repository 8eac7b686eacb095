use Rattle.word_laws.proofs.Laws.{table_says}
use Rattle.word_laws.proofs.the_table_says_what_is_read.Goals as goal

pub returns : goal.returns
returns c = record { holds = table_says }
