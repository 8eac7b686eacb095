use Rattle.std.proofs.Common.{refl}
use Rattle.cmd_words.specs.Words.{synth}
use Rattle.cmd_words.proofs.Past.{seed_and_size}
use Rattle.cmd_words.proofs.synth.read_numbers.Goals as goal

pub returns-clause-exact : goal.returns-clause-exact
returns-clause-exact c = (synth c.in-Some.seed c.in-Some-number_in.n, seed_and_size _ _ _ _ c.in-Some.ensures.exact c.in-Some-number_in.ensures.exact, (refl, refl))
