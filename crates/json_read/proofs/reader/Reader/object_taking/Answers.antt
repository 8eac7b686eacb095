use Rattle.json_read.proofs.Parts.{at_exit}
use Rattle.json_read.proofs.reader.Reader.object_taking.Goals as goal

pub returns-then-branch-clause-taken : goal.returns-then-branch-clause-taken
returns-then-branch-clause-taken g c = λ first. rw (c.finish.ensures.same.0, c.finish.ensures.same.1) (c.in_ok-members_taking.ensures.taken first c.if-branch.true)

pub returns-in_err-members_taking-clause-taken : goal.returns-in_err-members_taking-clause-taken
returns-in_err-members_taking-clause-taken g c =
    λ first. at_exit _ _ c.from_residual.result c.in_err-members_taking.field-0.0 c.from_residual.ensures.1 (c.in_err-members_taking.ensures.taken first)
