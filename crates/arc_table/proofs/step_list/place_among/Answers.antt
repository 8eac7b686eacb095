use Rattle.std.proofs.Common.{rules}
use Rattle.std.proofs.lemmas.Fn.{always_returns_same}
use Rattle.arc_table.specs.StepCodes.{step_of}
use Rattle.arc_table.proofs.StepCodes.{search_found, search_misses}
use Rattle.arc_table.proofs.step_list.place_among.Goals as goal

pub returns-in-Ok-clause-exact : goal.returns-in-Ok-clause-exact
returns-in-Ok-clause-exact c =
    let links = c.args.links.now in
    search_found links c.args.codes.now c.args.step c.in-Ok.h c.in-Ok.ensures.bound (c.in-Ok.ensures.position (step_of links) (always_returns_same _ _ _ (λ a r q k. search rules)))

pub returns-in-Err-clause-exact : goal.returns-in-Err-clause-exact
returns-in-Err-clause-exact c =
    let links = c.args.links.now in
    search_misses links c.args.codes.now c.args.step c.requires.sorted c.in-Err.field-0 (c.in-Err.ensures.position (step_of links) (always_returns_same _ _ _ (λ a r q k. search rules)))
