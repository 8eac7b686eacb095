-- Values of table cells that can be printed as JSON texts, and what such a text denotes.
use Rattle.std.specs.Prelude.{ℕ, ◌≡◌, ◌<◌, ◌^◌, unsigned_abs, List, ◌++◌}
use Rattle.std.specs.Str.{IsUtf8}
use Rattle.json_values.specs.Json.{JsonValue, null, boolean, number, string}
use Rattle.json_values.specs.Seen.{json_value}
use Rattle.json_values.specs.Grammar.{JsonText}
use Rattle.numerals.specs.Numbers.{Number}
use Rattle.numerals.specs.Decimal.{decimal_text}
use Rattle.json_values.specs.Proper.{IsProper, respelled}
use Rattle.json_values.specs.declared.value.Value.{Value}
use Rattle.json_values.specs.declared.value.Value.TheVariants as cell

-- a decimal is one, the text of a long numeral is a number of the grammar, texts are UTF-8, and a tree is proper
abbrev pub IsProperCell : ℕ → Value → Type 0
IsProperCell d cell.Null = Unit {0}
IsProperCell d (cell.Bool b) = Unit {0}
IsProperCell d (cell.Num units) = unsigned_abs units < 10 ^ 36
IsProperCell d (cell.Long s) = Number s
IsProperCell d (cell.Text s) = IsUtf8 s
IsProperCell d (cell.Tree j) = IsProper d (json_value j)

-- the JSON value that a cell stands for, each number as it is printed
abbrev pub cell_json : Value → JsonValue
cell_json cell.Null = null
cell_json (cell.Bool b) = boolean b
cell_json (cell.Num units) = number (decimal_text units)
cell_json (cell.Long s) = number s
cell_json (cell.Text s) = string s
cell_json (cell.Tree j) = respelled (json_value j)

-- what was appended is a text that denotes the cell's value, where that is proper
abbrev pub AppendsCell : List ℕ → List ℕ → Value → Type 0
AppendsCell old new v = (d : ℕ) → IsProperCell d v → (text : List ℕ) × (new ≡ old ++ text) × JsonText d text (cell_json v)
