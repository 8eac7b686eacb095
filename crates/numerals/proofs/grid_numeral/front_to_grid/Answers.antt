use Rattle.std.proofs.Common.{◌≡◌, Some, sym, rules, FitsSigned, to_z-of_z}
use Rattle.std.specs.Int.{w64}
use Rattle.numerals.specs.Numeral.{grid_at}
use Rattle.numerals.specs.Plain.{plain_numeral}
use Rattle.numerals.proofs.NumeralFronts.{front_grid}
use Rattle.numerals.proofs.grid_numeral.front_to_grid.Goals as goal

pub returns : goal.returns
returns c =
    let fits : FitsSigned w64 c.in_ok-number.number = search rules in
    let is : grid_at c.args.places (Some (plain_numeral c.in_ok-plain.plain)) ≡ Some c.in_ok-number.number = sym (c.in_ok-number.ensures.exact) in
    record { found = simp to_z-of_z (front_grid c.args.places c.in_ok-plain.size c.in_ok-number.number c.in_ok-plain.plain c.args.text.now c.in_ok-plain.ensures.found is) }
