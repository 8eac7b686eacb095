use Rattle.headline_laws.proofs.Refused.{refused_words}
use Rattle.headline_laws.proofs.refused_words_end_the_run.Goals as goal

pub returns : goal.returns
returns c = record { holds = refused_words }
