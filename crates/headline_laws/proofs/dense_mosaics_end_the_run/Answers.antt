use Rattle.headline_laws.proofs.BegunMosaics.{dense_ends}
use Rattle.headline_laws.proofs.dense_mosaics_end_the_run.Goals as goal

pub returns : goal.returns
returns c = record { holds = dense_ends }
