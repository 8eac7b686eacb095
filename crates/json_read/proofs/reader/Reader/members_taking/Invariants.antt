use Rattle.std.proofs.Common.{length}
use Rattle.json_read.proofs.Taking.{MembersTaken}
use Rattle.json_read.proofs.reader.Reader.members_taking.Given as goal

abbrev pub invariant-loop-name : goal.invariant-loop-name
invariant-loop-name g l =
    (first : _) → MembersTaken l.depth (g.T.ItemTaker.took first l.fn.taker) (g.T.ItemTaker.took first l.taker) l.wanted l.taking.fields l.taking.is_taken l.fn.self.rest.now l.self.rest.now

abbrev pub decreases-loop-name : goal.decreases-loop-name
decreases-loop-name g l = length l.self.rest.now
