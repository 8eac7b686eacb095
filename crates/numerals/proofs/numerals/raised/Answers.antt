use Rattle.std.proofs.Common.{arith}
use Rattle.numerals.specs.Units.{units_cap}
use Rattle.numerals.proofs.Scaling.{raised_step, raised_end}
use Rattle.numerals.proofs.numerals.raised.Goals as goal

pub loop-preserved : goal.loop-preserved
loop-preserved c = raised_step c.args.n units_cap c.loop.counter c.loop.n c.min-n.result c.loop.invariant c.min-n.ensures

pub returns : goal.returns
returns c = record { exact = raised_end c.args.n c.args.power c.loop.counter c.loop.n (omega (arith, c.loop-test.false, c.min-end.ensures)) c.loop.invariant }
