use Rattle.std.proofs.Common.{◌<◌, ◌≤◌}
use Rattle.geojson_io.proofs.NumberLemmas.{IsOneAnd}
use Rattle.geojson_io.proofs.writing.numbers.digits_after_one.Given as goal

abbrev pub invariant-loop-digits : goal.invariant-loop-digits
invariant-loop-digits l = (0 < l.digits) × (l.digits ≤ l.initial.digits) × IsOneAnd l.places l.fraction l.digits

abbrev pub decreases-loop-digits : goal.decreases-loop-digits
decreases-loop-digits l = l.digits
