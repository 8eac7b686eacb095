use Rattle.std.proofs.Common.{◌∙◌, ap, ℕ, List, get_or}
use Rattle.face_walk.proofs.JoiningLemmas.{one_if_less, one_if_more}
use Rattle.face_walk.proofs.joining.join_two.Goals as goal

pub returns-then-first-second-clause-exact : goal.returns-then-first-second-clause-exact
returns-then-first-second-clause-exact c =
    let one = c.shorten-first in
    let two = c.shorten-second in
    one_if_less c.args.lesser.now two.new.lesser c.args.m c.args.n one.result two.result c.requires.down two.ensures.down (two.ensures.classes ∙ one.ensures.classes) (two.ensures.count ∙ one.ensures.count)
    c.requires.first c.requires.second one.ensures.exact (two.ensures.exact ∙ ap (λ (xs : List ℕ). get_or xs c.args.n 0) one.ensures.classes) c.if-first-second.true

pub returns-else-first-second-clause-exact : goal.returns-else-first-second-clause-exact
returns-else-first-second-clause-exact c =
    let one = c.shorten-first in
    let two = c.shorten-second in
    one_if_more c.args.lesser.now two.new.lesser c.args.m c.args.n one.result two.result c.requires.down two.ensures.down (two.ensures.classes ∙ one.ensures.classes) (two.ensures.count ∙ one.ensures.count)
    c.requires.first c.requires.second one.ensures.exact (two.ensures.exact ∙ ap (λ (xs : List ℕ). get_or xs c.args.n 0) one.ensures.classes) c.if-first-second.false
