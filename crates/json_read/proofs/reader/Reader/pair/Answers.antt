use Rattle.std.proofs.Common.{arith, rules, suc, ◌-◌, ◌≡◌, FitsSigned, to_z-of_z}
use Rattle.std.specs.Int.{w64}
use Rattle.json_read.proofs.Straight.{pair_read}
use Rattle.json_read.proofs.reader.Reader.pair.Goals as goal

pub returns : goal.returns
returns c =
    let up : suc (c.args.depth - 1) ≡ c.args.depth = omega arith in
    let x_fits : FitsSigned w64 c.in_ok-x.x = search rules in
    let y_fits : FitsSigned w64 c.in_ok-y.y = search rules in
    record {
      read = simp to_z-of_z
          (pair_read c.args.depth (c.args.depth - 1) c.args.places c.in_ok-x.x c.in_ok-y.y _ _ _ _ _ _ _ _ _ _ up c.skip_white.ensures.exact (c.take.ensures.taken c.if-not-take.false) c.skip_white-2.ensures.exact (c.take-2.ensures.stays c.if-take.false) (c.take-2.ensures.other c.if-take.false)
          (c.in_ok-x.ensures.read (c.args.depth - 1)) (c.take-3.ensures.taken c.if-not-take-2.false) (c.in_ok-y.ensures.read (c.args.depth - 1)) (c.ends_soon.ensures.ended c.if-not-ends_soon.false (c.args.depth - 1)) c.skip_white-3.ensures.exact);
    }
