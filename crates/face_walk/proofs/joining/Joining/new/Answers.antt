use Rattle.std.proofs.Common.{◌∙◌, arith}
use Rattle.face_walk.proofs.JoiningLemmas.{length_least, alone_if_own}
use Rattle.face_walk.proofs.joining.Joining.new.Goals as goal

pub returns-clause-count : goal.returns-clause-count
returns-clause-count c =
    let each = c.loop-n.invariant.1 in
    let end = c.loop-n.auto.n-end in
    let test = c.loop-n-test.false in
    length_least c.loop-n.lesser.items ∙ (omega arith)

pub returns-clause-alone : goal.returns-clause-alone
returns-clause-alone c =
    let each = c.loop-n.invariant.1 in
    alone_if_own c.loop-n.lesser.items (λ k l. c.loop-n.invariant.2 k (omega arith))
