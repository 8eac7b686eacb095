-- The values of options, each as its form says, and why one is refused.
use Rattle.std.specs.Prelude.{ℕ, [], Some, None, Result, Ok}
use Rattle.cmd_words.specs.declared.fault.WordWhy.{WordWhy}
use Rattle.cmd_words.specs.declared.fault.WordWhy.TheVariants as why
use Rattle.cmd_words.specs.declared.commands.ValueForm.{ValueForm}
use Rattle.cmd_words.specs.declared.commands.ValueForm.TheVariants as value
use Rattle.cmd_words.specs.declared.option_values.Values.{Values}
use Rattle.cmd_words.specs.Rows.{Text}
use Rattle.cmd_words.specs.Steps.{on_ok, or_refused}
use Rattle.cmd_words.specs.Expressions as kind
use Rattle.cmd_words.specs.Expressions.{Refusals, text_or_fault}
use Rattle.cmd_words.specs.Values.{rule_of, form_named, pair_of}
use Rattle.cmd_words.specs.Boxes.{places_of, box_of_text}
use Rattle.cmd_words.specs.Quantities.{count_of, gap_of, least_area_of}
use Rattle.cmd_words.specs.Calculations.{calculations_of}

abbrev pub no_values : Values
no_values = record { places = None; rule = None; form = None; rect = None; keys = None; gap = None; least_area = None; most = None; least_links = None; calculations = []; test = None }

-- the values with one more; a text or a list stays as its word has it
abbrev pub take_value : Refusals → ℕ → ValueForm → Text → Values → Result Values WordWhy
take_value refuses places value.Text s v = Ok v
take_value refuses places value.List s v = Ok v
take_value refuses places value.Keys s v = on_ok (or_refused why.BadChoice (pair_of s)) (λ k. Ok (record v { keys = Some k }))
take_value refuses places value.Precision s v = on_ok (or_refused why.BadPrecision (places_of s)) (λ n. Ok (record v { places = Some n }))
take_value refuses places value.Rule s v = on_ok (or_refused why.BadChoice (rule_of s)) (λ r. Ok (record v { rule = Some r }))
take_value refuses places value.Format s v = on_ok (or_refused why.BadChoice (form_named s)) (λ f. Ok (record v { form = Some f }))
take_value refuses places value.Rect s v = on_ok (box_of_text places s) (λ a. Ok (record v { rect = Some a }))
take_value refuses places value.Expression s v = on_ok (text_or_fault (refuses kind.expression s) s) (λ t. Ok (record v { test = Some t }))
take_value refuses places value.Gap s v = on_ok (or_refused why.BadNumber (gap_of places s)) (λ n. Ok (record v { gap = Some n }))
take_value refuses places value.LeastArea s v = on_ok (or_refused why.BadNumber (least_area_of places s)) (λ n. Ok (record v { least_area = Some n }))
take_value refuses places value.CountFromOne s v = on_ok (or_refused why.BadNumber (count_of 1 s)) (λ n. Ok (record v { most = Some n }))
take_value refuses places value.CountFromZero s v = on_ok (or_refused why.BadNumber (count_of 0 s)) (λ n. Ok (record v { least_links = Some n }))
take_value refuses places value.Calculations s v = on_ok (calculations_of s) (λ cs. Ok (record v { calculations = cs }))
