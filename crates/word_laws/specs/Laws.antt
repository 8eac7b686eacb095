-- Laws of words: the table of commands, and the definition that the reader keeps to, say the same.
use Rattle.std.specs.Prelude.{◌≡◌, ℕ, ◌+◌, ◌-◌, ◌*◌, ◌/◌, ◌^◌, ◌≤◌, ◌↔◌, List, Some, Result}
use Rattle.table_terms.specs.Names.{Text}
use Rattle.join_terms.specs.declared.calculations.Calc.{Calc}
use Rattle.cmd_words.specs.Calculations.{calculation_of}
use Rattle.cmd_words.specs.declared.fault.WordFault.{WordFault}
use Rattle.job_terms.specs.declared.job.Job.{Job}
use Rattle.cmd_words.specs.Expressions.{Refusals}
use Rattle.cmd_words.specs.Quantities.{doubled_below, doubled_above}
use Rattle.cmd_words.specs.Tells.{Tells, FitsJob}
use Rattle.cmd_words.specs.Words.{read_words}
use Rattle.word_model.specs.Words.{words_say}
use Rattle.word_laws.specs.Calculations.{IsCalculation}

-- whatever texts of expressions are refused
abbrev pub TheTableSaysWhatIsRead : Type 0
TheTableSaysWhatIsRead = (refuses : Refusals) (words : List Text) → words_say refuses words ≡ read_words refuses words

-- so an answer to the words that are read is one to what the table says of them
abbrev pub WhatIsReadFitsTheTable : Type 0
WhatIsReadFitsTheTable = (refuses : Refusals) (words : List Text) (answer : Result Job WordFault)
    → Tells FitsJob (read_words refuses words) answer → Tells FitsJob (words_say refuses words) answer

-- for an area of `units` units of 10^-18, and up to 9 decimal places: twice the area in squares of the grid
abbrev pub GapsAreRoundedDown : Type 0
GapsAreRoundedDown = (places units : ℕ) → places ≤ 9 → doubled_below places units ≡ (2 * units * 10 ^ (2 * places)) / 10 ^ 18

abbrev pub LeastAreasAreRoundedUp : Type 0
LeastAreasAreRoundedUp = (places units : ℕ) → places ≤ 9 → doubled_above places units ≡ (2 * units * 10 ^ (2 * places) + (10 ^ 18 - 1)) / 10 ^ 18

-- an item of `calc=` is read just where the grammar has it, and as the same column
abbrev pub CalculationsAreOfTheGrammar : Type 0
CalculationsAreOfTheGrammar = (item : Text) (column : Calc) → (calculation_of item ≡ Some column) ↔ IsCalculation item column
