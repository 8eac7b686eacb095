-- Whole runs on tables: from words and bytes to texts.
use Rattle.std.proofs.Common.{◌≡◌, refl, List, [], ◌∷◌, map, flat_map, Option, Some, None, Ok, Err, codes, Result}
use Rattle.std.specs.Fmt.{digits}
use Rattle.csv.specs.Machine.{next_record}
use Rattle.csv.specs.Reading.{records_from, strip_bom}
use Rattle.csv.specs.Writing.{escaped, fields_text, is_blank}
use Rattle.numerals.specs.Decimal.{decimal_of_text, decimal_text, fraction_text, last_digits, trimmed_digits}
use Rattle.numerals.specs.Numeral.{numeral_of}
use Rattle.csv_io.specs.CsvText.{csv_text}
use Rattle.table_terms.specs.Names.{Text}
use Rattle.cmd_words.specs.declared.action_words.ActionWords.{ActionWords}
use Rattle.cmd_words.specs.declared.action_words.ActionWords.TheVariants as words
use Rattle.cmd_words.specs.declared.action_words.CommandWords.{CommandWords}
use Rattle.job_terms.specs.declared.job.Action.{Action}
use Rattle.job_terms.specs.declared.job.Action.TheVariants as ask
use Rattle.job_terms.specs.declared.job.Command.{Command}
use Rattle.job_terms.specs.declared.job.LayerAction.TheVariants as each
use Rattle.cmd_words.specs.Words.{ChainWords, JobWords, Reading, synth, chain}
use Rattle.job_terms.specs.declared.job.Chain.{Chain}
use Rattle.chain_model.specs.Outcome.{Outcome, done, bad_words, bad_input, missing, syntax, repeated_name, unequal_row, no_header}
use Rattle.chain_model.specs.Running.{run_from, Output, Begun, begins}
use Rattle.chain_model.specs.Sources.{Readings}
use Rattle.word_model.specs.Words.{words_say}
use Rattle.model_cases.specs.Counted.{counted}

-- no expression and no JSON text is read here, and all bytes are UTF-8
abbrev pub read : Readings
read = record { json = λ s. Err (syntax 0); utf8_end = λ s. None; refusals = λ kind s. None }

-- commands without expressions
abbrev whole_action : ActionWords → Option Action
whole_action (words.Whole a) = Some a
whole_action (words.Join from spec None) = Some (ask.Each (each.Join from spec))
whole_action (words.Filter None invert remove_empty) = Some (ask.Each (each.Filter None invert remove_empty))
whole_action _ = None

abbrev whole_commands : CommandWords → List Command
whole_commands w = elim (whole_action w.action) [ None ↦ [] | Some a ↦ record { target = w.target; name = w.name; keep = w.keep; action = a } ∷ [] ]

abbrev pub chain_of : ChainWords → Chain
chain_of w = record { places = w.places; sources = w.so_far.sources; boxes = w.so_far.boxes; commands = flat_map whole_commands w.so_far.commands }

-- the texts that a run prints, and how it ends
abbrev texts_of : List Output → List Text
texts_of os = map (λ (o : Output). elim o.written.layers [ [] ↦ [] | l ∷ ls ↦ csv_text l.table ]) os

abbrev ended : Result Begun Outcome → List Text × Outcome
ended (Err o) = ([], o)
ended (Ok b) = let r : List Output × Outcome = run_from b.plane (counted b.plane) b.sources 1 b.state b.commands in (texts_of r.0, r.1)

abbrev run_job : Reading JobWords → Text → List Text × Outcome
run_job (Err e) input = ([], bad_words e.0 e.1)
run_job (Ok (synth seed n)) input = ([], done)
run_job (Ok (chain w)) input = ended (begins read (chain_of w) (λ name. None) input)

-- no file is there
abbrev run_words : List Text → Text → List Text × Outcome
run_words words input = run_job (words_say read.refusals words) input

abbrev pub as_csv : List Text
as_csv = codes "-" ∷ codes "-o" ∷ codes "-" ∷ codes "format=csv" ∷ []

numbers_lose_zeros : run_words (as_csv) (codes "id,v\n007,1.50\n8,\n") ≡ (codes "id,v\n7,1.5\n8,\n" ∷ [], done)
unfolding next_record records_from strip_bom numeral_of decimal_of_text escaped fields_text is_blank digits decimal_text fraction_text trimmed_digits last_digits
numbers_lose_zeros = refl

same_name_twice : run_words (as_csv) (codes "a,a\n") ≡ ([], bad_input 1 (repeated_name 1))
unfolding next_record records_from strip_bom numeral_of decimal_of_text
same_name_twice = refl

short_row : run_words (as_csv) (codes "a,b\n1\n") ≡ ([], bad_input 1 (unequal_row 0))
unfolding next_record records_from strip_bom numeral_of decimal_of_text
short_row = refl

nothing_at_all : run_words (as_csv) [] ≡ ([], bad_input 1 no_header)
unfolding next_record records_from strip_bom numeral_of decimal_of_text
nothing_at_all = refl

-- columns kept and renamed
kept_and_renamed : run_words ((codes "-" ∷ codes "-filter-fields" ∷ codes "pop,name" ∷ codes "-rename-fields" ∷ codes "label=name" ∷ codes "-o" ∷ codes "-" ∷ codes "format=csv" ∷ [])) (codes "name,pop\nParis,2102650\nBerlin,\n")
    ≡ (codes "pop,label\n2102650,Paris\n,Berlin\n" ∷ [], done)
unfolding next_record records_from strip_bom numeral_of decimal_of_text escaped fields_text is_blank digits decimal_text fraction_text trimmed_digits last_digits
kept_and_renamed = refl

no_file : run_words ((codes "in.csv" ∷ codes "-o" ∷ codes "-" ∷ [])) [] ≡ ([], missing 1)
no_file = refl
