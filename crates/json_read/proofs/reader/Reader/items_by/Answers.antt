use Rattle.std.proofs.Common.{arith, suc, ◌-◌, ◌≡◌}
use Rattle.json_read.proofs.Straight.{taken_array}
use Rattle.json_read.proofs.reader.Reader.items_by.Goals as goal

pub returns : goal.returns
returns g c =
    let up : suc (c.args.depth - 1) ≡ c.args.depth = omega arith in
    record { read = λ e first. taken_array c.args.depth (c.args.depth - 1) (g.T.ValueTaker.took first c.args.taker.now) (g.T.ValueTaker.took first c.some_items_by.new.taker) _ _ _ _ _ up c.skip_white.ensures.exact (c.take.ensures.taken c.if-not-take.false) (c.in_ok-is_taken.ensures.exact e first) c.skip_white-2.ensures.exact }
