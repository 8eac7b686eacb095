use Rattle.std.proofs.Common.{◌<◌, length, decimal, drop, ap, arith}
use Rattle.std.proofs.lemmas.Fmt.{length-decimal-le}
use Rattle.geojson_io.proofs.NumberLemmas.{point_for_one}
use Rattle.geojson_io.proofs.writing.numbers.put_fraction.Goals as goal

pub write_digits-start-requires : goal.write_digits-start-requires
write_digits-start-requires c = omega (arith, length-decimal-le 10 c.digits_after_one.result (omega arith) (omega arith) (omega arith))

pub returns-clause-within : goal.returns-clause-within
returns-clause-within c = omega (arith, length-decimal-le 10 c.digits_after_one.result (omega arith) (omega arith) (omega arith))

pub returns-clause-written : goal.returns-clause-written
returns-clause-written c =
    let some : 0 < length (decimal c.digits_after_one.result) = omega (arith, ap length c.digits_after_one.ensures.digits) in
    point_for_one c.write_digits-start.new.buf (drop c.args.end c.args.room.now) c.write_digits-start.result c.args.places c.args.fraction c.digits_after_one.result
    c.if-fraction-eq0.false (omega arith) c.digits_after_one.ensures.digits c.write_digits-start.ensures.written
