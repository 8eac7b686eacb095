use Rattle.std.proofs.Common.{arith, rules}
use Rattle.run_sources.proofs.Titles.{split_is}
use Rattle.run_sources.proofs.formats.after_slash.Goals as goal

pub returns-in-Some : goal.returns-in-Some
returns-in-Some c =
    let split = split_is 47 c.args.name.now _ c.rsplit_once.ensures.cases (omega arith) in
    rw (← split) (grind rules)

pub returns-in-None : goal.returns-in-None
returns-in-None c =
    let split = split_is 47 c.args.name.now _ c.rsplit_once.ensures.cases (omega arith) in
    rw (← split) (grind rules)
