use Rattle.std.proofs.Common.{refl}
use Rattle.headline_laws.proofs.Causes.{causes}
use Rattle.headline_laws.proofs.Whole.{runs_are_of_the_model}
use Rattle.ms_chain.proofs.running.run.Goals as goal

pub returns-clause-headline : goal.returns-clause-headline
returns-clause-headline g c = λ read right. runs_are_of_the_model read right c.args.words.now _ _ _ _ refl c.run.result c.run.ensures.means _ _ c.run.ensures.told

pub returns-clause-cause : goal.returns-clause-cause
returns-clause-cause g c = λ refuses right. causes refuses right c.args.words.now _ _ _ _ c.run.result c.run.ensures.means
