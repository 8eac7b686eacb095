use Rattle.std.proofs.Common.{length}
use Rattle.json_read.proofs.Straight.{MembersTaken}
use Rattle.json_read.proofs.reader.Reader.some_members_by.Given as goal

abbrev pub invariant-loop-self : goal.invariant-loop-self
invariant-loop-self g l = (first : _) → MembersTaken l.depth (g.T.MemberTaker.took first l.fn.taker) (g.T.MemberTaker.took first l.taker) l.fn.self.rest.now l.self.rest.now

abbrev pub decreases-loop-self : goal.decreases-loop-self
decreases-loop-self g l = length l.self.rest.now
