use Rattle.std.proofs.Common.{◌≡◌, ◌∙◌, inr, sym, rules, length}
use Rattle.hot_pixels.proofs.MeetingLemmas.{gathers}
use Rattle.hot_pixels.proofs.marking.gather.Goals as goal

pub returns : goal.returns
returns c =
    let number = c.in_ok-number.ensures.exact in
    let many = c.len.ensures in
    let n : c.in_ok-number.number ≡ length c.args.meetings.now.items = search rules in
    let h = gathers c.args.edges.now c.args.lasts.now.items c.args.meetings.now.items c.push.new.self.items c.args.i c.index-edges-i.result c.args.p c.index-before.result.now c.in_ok-number.number c.requires.lists c.requires.there c.index-edges-i.is c.index-before.ensures
    (sym c.meets.ensures.exact ∙ c.if-not-meets.false) n c.in_ok-push.ensures.items in
    record { adds = h.0; found = record { seen = λ s e m. inr h.1 } }
