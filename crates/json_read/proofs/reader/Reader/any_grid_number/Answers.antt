use Rattle.std.proofs.Common.{◌≡◌, Some, sym, rules, FitsSigned, to_z-of_z}
use Rattle.std.specs.Int.{w64}
use Rattle.numerals.specs.Numeral.{grid_of_text}
use Rattle.json_read.proofs.Straight.{number_read}
use Rattle.json_read.proofs.reader.Reader.any_grid_number.Goals as goal

pub returns : goal.returns
returns c = record {
  read = λ d.
      let fits : FitsSigned w64 c.in_ok-number.number = search rules in
      let is : grid_of_text c.args.places c.in_ok-text.text.now ≡ Some c.in_ok-number.number = sym (c.in_ok-number.ensures.exact) in
      number_read d c.args.places _ c.in_ok-text.text.now _ _ _ _ c.skip_white.ensures.exact c.in_ok-text.ensures.read c.skip_white-2.ensures.exact (simp to_z-of_z is);
}
