use Rattle.std.proofs.Common.{◌≡◌, ◌<◌, drop, rules, arith, w64, FitsSigned, to_z-of_z}
use Rattle.std.specs.Prelude.{unsigned_abs}
use Rattle.numerals.specs.Decimal.{is_negative}
use Rattle.geojson_io.proofs.NumberLemmas.{unit_positive, short_whole, number_written}
use Rattle.geojson_io.proofs.writing.numbers.put_number.Goals as goal

pub nonzero_rem-size : goal.nonzero_rem-size
nonzero_rem-size c = unit_positive c.unit_of-unit.result c.args.places c.unit_of-unit.ensures.value

pub nonzero_div-size : goal.nonzero_div-size
nonzero_div-size c = unit_positive c.unit_of-unit.result c.args.places c.unit_of-unit.ensures.value

pub put_fraction-start-requires-clause-below : goal.put_fraction-start-requires-clause-below
put_fraction-start-requires-clause-below c = let some : 0 < c.unit_of-unit.result = unit_positive c.unit_of-unit.result c.args.places c.unit_of-unit.ensures.value in omega arith

pub write_digits-start-requires : goal.write_digits-start-requires
write_digits-start-requires c =
    let size : c.unsigned_abs-size.result ≡ unsigned_abs c.args.g = search rules in
    omega (arith, short_whole c.unsigned_abs-size.result (unsigned_abs c.args.g) c.unit_of-unit.result size c.requires.size)

pub put_sign-requires : goal.put_sign-requires
put_sign-requires c =
    let size : c.unsigned_abs-size.result ≡ unsigned_abs c.args.g = search rules in
    omega (arith, short_whole c.unsigned_abs-size.result (unsigned_abs c.args.g) c.unit_of-unit.result size c.requires.size)

pub returns-clause-within : goal.returns-clause-within
returns-clause-within c =
    let size : c.unsigned_abs-size.result ≡ unsigned_abs c.args.g = search rules in
    omega (arith, short_whole c.unsigned_abs-size.result (unsigned_abs c.args.g) c.unit_of-unit.result size c.requires.size)

pub returns-clause-written : goal.returns-clause-written
returns-clause-written c =
    let size : c.unsigned_abs-size.result ≡ unsigned_abs c.args.g = search rules in
    let fits : FitsSigned w64 c.args.g = search rules in
    let negative : c.is_negative.result ≡ is_negative c.args.g = simp to_z-of_z at c.is_negative.ensures.sign in
    number_written c.args.g c.args.places c.unsigned_abs-size.result c.unit_of-unit.result c.is_negative.result _ _ _ (drop c.args.end c.args.room.now) (omega arith) size c.unit_of-unit.ensures.value negative
    c.put_fraction-start.ensures.written c.write_digits-start.ensures.written c.put_sign.ensures.written
