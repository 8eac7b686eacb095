use Rattle.std.proofs.Common.{arith, ℕ, length-set}
use Rattle.numerals.proofs.Digits.{digits_step, digits_done}
use Rattle.numerals.proofs.decimal.write_digits.Goals as goal

pub loop-i-preserved : goal.loop-i-preserved
loop-i-preserved c =
    (omega (arith, length-set {A = ℕ}), digits_step c.loop-i.room _ c.loop-i.i c.loop-i.n c.args.n (omega arith) c.loop-i.invariant.0 c.loop-i.invariant.1)

pub returns : goal.returns
returns c = record { exact = digits_done c.loop-i.room c.loop-i.i c.loop-i.n c.args.n _ c.loop-i-test.false c.loop-i.auto.room c.loop-i.invariant.1 }
