-- Columns to be calculated: items joined by commas, each `name = count()` or `name = sum(field)`, with white space as
-- it may be.
use Rattle.std.specs.Prelude.{Bool, false, not, ◌&&◌, ◌||◌, List, [], ◌∷◌, ◌++◌, reverse, codes, Option, Some, None, option_map, option_and_then, Result, Ok, if◌then◌else◌}
use Rattle.std.specs.List.{list_all}
use Rattle.std.specs.Str.{bytes_eq}
use Rattle.numerals.specs.Bytes.{is_white, drop_while}
use Rattle.expr_lang.specs.Tokens.{is_name_start, is_name_byte, is_other_word}
use Rattle.join_terms.specs.declared.calculations.Calc.{Calc}
use Rattle.join_terms.specs.declared.calculations.Calc.TheVariants as calc
use Rattle.cmd_words.specs.declared.fault.WordWhy.{WordWhy}
use Rattle.cmd_words.specs.declared.fault.WordWhy.TheVariants as why
use Rattle.cmd_words.specs.Rows.{Text}
use Rattle.cmd_words.specs.Steps.{on_ok, or_refused, each_step}
use Rattle.cmd_words.specs.Texts.{pieces, is_empty, split_at}

-- ## Names, as in expressions

abbrev pub is_reserved : Text → Bool
is_reserved s = (bytes_eq s (codes "true") || bytes_eq s (codes "false") || bytes_eq s (codes "null") || bytes_eq s (codes "this")) || is_other_word s

abbrev pub is_name : Text → Bool
is_name [] = false
is_name (b ∷ s) = (is_name_start b && list_all is_name_byte s) && not (is_reserved (b ∷ s))

-- ## Items

abbrev pub after_white : Text → Text
after_white s = drop_while is_white s

-- without the white space at both ends
abbrev pub trimmed : Text → Text
trimmed s = reverse (after_white (reverse (after_white s)))

-- before the first `)`, where nothing else follows
abbrev pub enclosed : Text → Option Text
enclosed s = option_and_then (λ (p : Text × Text). if is_empty (trimmed p.1) then Some (trimmed p.0) else None) (split_at 41 s)

-- a function, and what it takes in parentheses
abbrev pub call_of : Text → Option (Text × Text)
call_of s = option_and_then (λ (p : Text × Text). option_map (λ (field : Text). (trimmed p.0, field)) (enclosed p.1)) (split_at 40 s)

-- the column of this name, by a function and what it takes
abbrev pub calculated : Text → Text × Text → Option Calc
calculated name call =
    if not (is_name name) then None
    else if bytes_eq call.0 (codes "count") && is_empty call.1 then Some (calc.Count name)
    else if bytes_eq call.0 (codes "sum") && is_name call.1 then Some (calc.Sum name call.1)
    else None

unfoldable pub calculation_of : Text → Option Calc
calculation_of s = option_and_then (λ (p : Text × Text). option_and_then (calculated (trimmed p.0)) (call_of p.1)) (split_at 61 s)

-- ## Lists of them

abbrev pub with_calculation : List Calc → Text → Result (List Calc) WordWhy
with_calculation calculations item = on_ok (or_refused why.BadChoice (calculation_of item)) (λ c. Ok (calculations ++ c ∷ []))

abbrev pub calculations_of : Text → Result (List Calc) WordWhy
calculations_of s = each_step with_calculation [] (pieces s)
