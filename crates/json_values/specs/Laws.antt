-- Laws of printed values.
use Rattle.std.specs.Prelude.{ℕ, ◌≡◌, List}
use Rattle.json_values.specs.Grammar.{JsonText}
use Rattle.json_values.specs.Proper.{IsProper, respelled}
use Rattle.json_values.specs.ProperCells.{IsProperCell}
use Rattle.json_values.specs.Seen.{json_value}
use Rattle.json_values.specs.Value.{value_of}
use Rattle.json_values.specs.declared.json.Json.{Json}
use Rattle.json_values.specs.Text.{json_text, number_text}
use Rattle.numerals.specs.Decimal.{decimal_of_text}
use Rattle.json_values.specs.Json.{JsonValue}

-- the text that is printed of a proper value is in the grammar, and denotes that value, its numbers as they are printed
abbrev pub PrintedTextsDenote : Type 0
PrintedTextsDenote = (d : ℕ) (v : JsonValue) → IsProper d v → JsonText d (json_text v) (respelled v)

-- a number is printed with the value that it has
abbrev pub NumbersKeepTheirValues : Type 0
NumbersKeepTheirValues = (s : List ℕ) → decimal_of_text (number_text s) ≡ decimal_of_text s

-- the cell of a proper value is proper
abbrev pub CellsStayProper : Type 0
CellsStayProper = (d : ℕ) (j : Json) → IsProper d (json_value j) → IsProperCell d (value_of j)
