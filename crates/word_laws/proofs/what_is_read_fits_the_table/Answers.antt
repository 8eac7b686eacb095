use Rattle.word_laws.proofs.Laws.{read_fits}
use Rattle.word_laws.proofs.what_is_read_fits_the_table.Goals as goal

pub returns : goal.returns
returns c = record { holds = read_fits }
