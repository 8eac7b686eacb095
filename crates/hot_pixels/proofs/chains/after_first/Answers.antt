use Rattle.std.proofs.Common.{arith}
use Rattle.std.proofs.lemmas.Bool.Decides.{nat_tests}
use Rattle.hot_pixels.proofs.ChainLemmas.{all_after_first, none_after_first}
use Rattle.hot_pixels.proofs.chains.after_first.Goals as goal

pub returns-then-is_empty : goal.returns-then-is_empty
returns-then-is_empty c = record { exact = none_after_first c.args.points.now (grind (arith, nat_tests)) }

pub returns : goal.returns
returns c = record { exact = all_after_first c.args.points.now }
