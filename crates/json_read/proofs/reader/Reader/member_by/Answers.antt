use Rattle.json_read.proofs.Straight.{member_taken, name_lent}
use Rattle.json_read.proofs.reader.Reader.member_by.Goals as goal

pub returns : goal.returns
returns g c =
    let lent = name_lent c.in-Some.name c.as_str.result.now _ _ c.as_str.ensures.lent (rw c.in-Some.is at c.in_ok-name.ensures.read) in
    record { exact = member_taken c.args.depth (λ first. g.T.MemberTaker.took first c.args.taker.now) (λ first. g.T.MemberTaker.took first c.take_member.new.self) c.as_str.result.now _ _ _ c.take_member.result lent c.take_member.ensures.read }
