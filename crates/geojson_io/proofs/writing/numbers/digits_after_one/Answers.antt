use Rattle.std.proofs.Common.{arith, refl}
use Rattle.geojson_io.proofs.NumberLemmas.{zero_less, no_zero_left}
use Rattle.geojson_io.proofs.writing.numbers.digits_after_one.Goals as goal

pub loop-digits-init : goal.loop-digits-init
loop-digits-init c = (
  omega arith,
  omega arith,
  record { count = c.args.places; digits = c.args.fraction; is = omega arith; below = c.requires.below; some = c.requires.some; same = refl },
)

pub loop-digits-preserved : goal.loop-digits-preserved
loop-digits-preserved c = (omega arith, omega arith, zero_less c.args.places c.args.fraction c.loop-digits.digits c.loop-digits-test.true c.loop-digits.invariant.2)

pub returns-clause-digits : goal.returns-clause-digits
returns-clause-digits c = no_zero_left c.args.places c.args.fraction c.loop-digits.digits c.loop-digits-test.false (omega arith) c.loop-digits.invariant.2
