-- The text that is printed of a proper cell is in the grammar and denotes its value.
use Rattle.std.proofs.Common.{ℕ, ◌≡◌, ◌<◌, ◌^◌, ℤ, Option, Some, None, refl}
use Rattle.std.specs.Prelude.{unsigned_abs}
use Rattle.json_values.specs.Json.{null, boolean, number, string}
use Rattle.json_values.specs.Seen.{json_value}
use Rattle.json_values.specs.Grammar.{is_number, no_mark, JsonText, text}
use Rattle.numerals.specs.Numbers.{Number}
use Rattle.numerals.specs.Decimal.{decimal_of_text, decimal_text}
use Rattle.json_values.specs.Proper.{IsProper}
use Rattle.json_values.specs.ProperCells.{IsProperCell, cell_json}
use Rattle.json_values.specs.Value.{value_of, value_text, number_value}
use Rattle.json_values.specs.declared.json.Json.{Json}
use Rattle.json_values.specs.declared.json.Json.TheVariants as json
use Rattle.json_values.specs.declared.value.Value.{Value}
use Rattle.json_values.specs.declared.value.Value.TheVariants as cell
use Rattle.numerals.proofs.NumbersAreNumerals.{numeral_is_number}
use Rattle.numerals.proofs.RoundTrip.{reads_back}
use Rattle.json_values.proofs.PrintedTexts.{pad, some_numeral, decimal_small, printed_text_denotes}

decimal_denotes : (d : ℕ) (units : ℤ) → unsigned_abs units < 10 ^ 36 → JsonText d (decimal_text units) (number (decimal_text units))
decimal_denotes d units l =
    let back : decimal_of_text (decimal_text units) ≡ Some units = reads_back units l in
    let is : Number (decimal_text units) = numeral_is_number (decimal_text units) (some_numeral (decimal_text units) units back) in
    text no_mark (pad d (decimal_text units) (number (decimal_text units)) (is_number is))

pub printed_cell_denotes : (d : ℕ) (v : Value) → IsProperCell d v → JsonText d (value_text v) (cell_json v)
printed_cell_denotes d cell.Null p = printed_text_denotes d null tt
printed_cell_denotes d (cell.Bool b) p = printed_text_denotes d (boolean b) tt
printed_cell_denotes d (cell.Num units) p = decimal_denotes d units p
printed_cell_denotes d (cell.Long s) p = text no_mark (pad d s (number s) (is_number p))
printed_cell_denotes d (cell.Text s) p = printed_text_denotes d (string s) p
printed_cell_denotes d (cell.Tree j) p = printed_text_denotes d (json_value j) p

-- the cell of a proper value is proper
pub cell_proper : (d : ℕ) (j : Json) → IsProper d (json_value j) → IsProperCell d (value_of j)
cell_proper d json.Null p = tt
cell_proper d (json.Bool b) p = tt
cell_proper d (json.Num s) p = go (decimal_of_text s) refl
  where
    go : (o : Option ℤ) → decimal_of_text s ≡ o → IsProperCell d (number_value s o)
    go None e = p
    go (Some units) e = decimal_small s units e
cell_proper d (json.Text s) p = p
cell_proper d (json.List elements) p = p
cell_proper d (json.Object members) p = p
