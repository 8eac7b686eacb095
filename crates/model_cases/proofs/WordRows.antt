-- Words that are refused, and chains, by the table of commands.
use Rattle.std.proofs.Common.{◌≡◌, refl, ℕ, pos, List, [], ◌∷◌, Option, Some, None, Result, Ok, Err, codes, true, false}
use Rattle.table_terms.specs.Names.{Text}
use Rattle.numerals.specs.Decimal.{decimal_of_text}
use Rattle.numerals.specs.Numeral.{numeral_of, grid_of_text}
use Rattle.grid_base.specs.declared.kinds.OverlapRule.TheVariants.{MaxArea, MinArea}
use Rattle.cmd_words.specs.Boxes.{places_of, box_of_text}
use Rattle.cmd_words.specs.Expressions.{Refusals, expression, assignments}
use Rattle.cmd_words.specs.Quantities.{area_units, doubled_below, doubled_above}
use Rattle.cmd_words.specs.Words.{JobWords, Reading, synth, chain}
use Rattle.cmd_words.specs.declared.fault.ExprWhy.TheVariants.{Syntax, Unsupported}
use Rattle.cmd_words.specs.declared.fault.WordWhy.{WordWhy}
use Rattle.cmd_words.specs.declared.fault.WordWhy.TheVariants as why
use Rattle.cmd_words.specs.declared.action_words.ActionWords.{ActionWords}
use Rattle.cmd_words.specs.declared.action_words.ActionWords.TheVariants as words
use Rattle.cmd_words.specs.declared.action_words.CommandWords.{CommandWords}
use Rattle.job_terms.specs.declared.job.Action.TheVariants as ask
use Rattle.job_terms.specs.declared.job.LayerAction.TheVariants as each
use Rattle.job_terms.specs.declared.job.Origin.TheVariants as origin
use Rattle.job_terms.specs.declared.job.OutForm.TheVariants.{Geo, Csv}
use Rattle.job_terms.specs.declared.job.Owner.TheVariants as owner
use Rattle.job_terms.specs.declared.job.Target.TheVariants as target
use Rattle.word_model.specs.Words.{words_say}

-- no text is an expression, nor assignments
abbrev reads : List Text → Reading JobWords
reads ws = words_say (λ kind s. Some (2, Unsupported)) ws

precision : reads (codes "in.json" ∷ codes "precision=0.5" ∷ codes "-o" ∷ codes "-" ∷ []) ≡ Err (2, why.BadPrecision)
unfolding numeral_of grid_of_text decimal_of_text places_of box_of_text
precision = refl

bogus : reads (codes "in.json" ∷ codes "-bogus" ∷ codes "-o" ∷ codes "-" ∷ []) ≡ Err (2, why.UnknownCommand)
bogus = refl

shapefile : reads (codes "in.shp" ∷ codes "-o" ∷ codes "-" ∷ []) ≡ Err (1, why.UnsupportedFile)
shapefile = refl

without_input : reads (codes "-o" ∷ codes "-" ∷ []) ≡ Err (1, why.NoInput)
without_input = refl

division : reads (codes "in.json" ∷ codes "-filter" ∷ codes "a / 2" ∷ codes "-o" ∷ codes "-" ∷ []) ≡ Err (3, why.BadExpression 2 Unsupported)
division = refl

synth_alone : reads (codes "synth" ∷ []) ≡ Err (1, why.MissingArgument)
synth_alone = refl

synth_more : reads (codes "synth" ∷ codes "1" ∷ codes "1" ∷ codes "1" ∷ []) ≡ Err (4, why.ExtraWord)
synth_more = refl

synth_size : reads (codes "synth" ∷ codes "1" ∷ codes "301" ∷ []) ≡ Err (3, why.BadNumber)
synth_size = refl

-- a box, on a grid without decimal places
boxed : reads (codes "in.json" ∷ codes "precision=1" ∷ codes "-clip" ∷ codes "bbox=0,0,2,4" ∷ codes "-o" ∷ codes "-" ∷ codes "target=a,b" ∷ []) ≡ Ok (chain (record {
  places = 0;
  so_far = record {
    sources = record { name = codes "in.json"; standard = false; owner = owner.Import; string_fields = [] } ∷ [];
    boxes = record { low = record { x = pos 0; y = pos 0 }; high = record { x = pos 2; y = pos 4 } } ∷ [];
    commands = record { target = target.Default; name = None; keep = false; action = words.Whole (ask.Each (each.Clip (origin.Area 0))) }
        ∷ record { target = target.Names (codes "a" ∷ codes "b" ∷ []); name = None; keep = false; action = words.Whole (ask.Write (codes "-") true Geo) } ∷ [];
    reads_standard = false;
  };
}))
unfolding numeral_of grid_of_text decimal_of_text places_of box_of_text
boxed = refl

-- a source file of a command
sourced : reads (codes "-" ∷ codes "-clip" ∷ codes "x.JSON" ∷ codes "+" ∷ codes "name=c" ∷ codes "-o" ∷ codes "y.csv" ∷ []) ≡ Ok (chain (record {
  places = 6;
  so_far = record {
    sources = record { name = codes "-"; standard = true; owner = owner.Import; string_fields = [] } ∷ record { name = codes "x.JSON"; standard = false; owner = owner.Command 1; string_fields = [] } ∷ [];
    boxes = [];
    commands = record { target = target.Default; name = Some (codes "c"); keep = true; action = words.Whole (ask.Each (each.Clip (origin.Source 2))) }
        ∷ record { target = target.Default; name = None; keep = false; action = words.Whole (ask.Write (codes "y.csv") false Csv) } ∷ [];
    reads_standard = true;
  };
}))
sourced = refl

standard_twice : reads (codes "-" ∷ codes "-clip" ∷ codes "-" ∷ []) ≡ Err (3, why.ExtraWord)
standard_twice = refl

turned_box : reads (codes "in.json" ∷ codes "-clip" ∷ codes "bbox=2,0,1,4" ∷ []) ≡ Err (3, why.BadBox)
unfolding numeral_of grid_of_text decimal_of_text places_of box_of_text
turned_box = refl

far_box : reads (codes "in.json" ∷ codes "precision=1" ∷ codes "-clip" ∷ codes "bbox=0,0,200000000001,4" ∷ []) ≡ Err (4, why.BoxRange)
unfolding numeral_of grid_of_text decimal_of_text places_of box_of_text
far_box = refl

second_import : reads (codes "-i" ∷ codes "a.json" ∷ codes "-i" ∷ codes "b.json" ∷ []) ≡ Err (3, why.LaterImport)
second_import = refl

empty_item : reads (codes "a.json" ∷ codes "-dissolve" ∷ codes "n,,s" ∷ []) ≡ Err (3, why.MissingValue)
empty_item = refl

-- ## Gaps, assignments, keys and islands

abbrev first_action : List CommandWords → Option ActionWords
first_action [] = None
first_action (c ∷ cs) = Some c.action

abbrev asked : Reading JobWords → Result (Option ActionWords) (ℕ × WordWhy)
asked (Err e) = Err e
asked (Ok (synth seed n)) = Ok None
asked (Ok (chain c)) = Ok (first_action c.so_far.commands)

-- each text is an expression, and none is assignments
abbrev faults : Refusals
faults expression s = None
faults assignments s = Some (2, Syntax)

-- the first command after an import file, or the first refused word
abbrev asks : List Text → Result (Option ActionWords) (ℕ × WordWhy)
asks ws = asked (words_say faults (codes "in.json" ∷ ws))

gap_area : asks (codes "precision=1" ∷ codes "-clean" ∷ codes "gap-fill-area=1.999" ∷ []) ≡ Ok (Some (words.Whole (ask.Each (each.Clean MaxArea false 3))))
unfolding numeral_of grid_of_text decimal_of_text places_of area_units doubled_below
gap_area = refl

gap_area_with_places : asks (codes "precision=0.1" ∷ codes "-clean" ∷ codes "gap-fill-area=2" ∷ codes "overlap-rule=min-area" ∷ []) ≡ Ok (Some (words.Whole (ask.Each (each.Clean MinArea false 400))))
unfolding numeral_of grid_of_text decimal_of_text places_of area_units doubled_below
gap_area_with_places = refl

area_below_zero : asks (codes "-clean" ∷ codes "gap-fill-area=-1" ∷ []) ≡ Err (3, why.BadNumber)
unfolding numeral_of decimal_of_text area_units
area_below_zero = refl

zero_below_zero : asks (codes "-clean" ∷ codes "gap-fill-area=-0" ∷ []) ≡ Ok (Some (words.Whole (ask.Each (each.Clean MaxArea false 0))))
unfolding numeral_of decimal_of_text area_units doubled_below
zero_below_zero = refl

no_assignments : asks (codes "-each" ∷ codes "x == 1" ∷ []) ≡ Err (3, why.BadExpression 2 Syntax)
no_assignments = refl

downwards : asks (codes "-sort" ∷ codes "v" ∷ codes "descending" ∷ []) ≡ Ok (Some (words.Sort (codes "v") true))
downwards = refl

both_ways : asks (codes "-sort" ∷ codes "v" ∷ codes "descending" ∷ codes "ascending" ∷ []) ≡ Err (5, why.ExtraWord)
both_ways = refl

-- with a second `=` they are expressions
an_argument : asks (codes "-sort" ∷ codes "target==a" ∷ []) ≡ Ok (Some (words.Sort (codes "target==a") false))
an_argument = refl

no_option_of_sort : asks (codes "-sort" ∷ codes "name=a" ∷ []) ≡ Ok (Some (words.Sort (codes "name=a") false))
no_option_of_sort = refl

two_stay : asks (codes "-uniq" ∷ codes "max-count==2" ∷ codes "max-count=002" ∷ codes "invert" ∷ []) ≡ Ok (Some (words.Uniq (codes "max-count==2") 2 true))
two_stay = refl

none_stays : asks (codes "-uniq" ∷ codes "v" ∷ codes "max-count=0" ∷ []) ≡ Err (4, why.BadNumber)
none_stays = refl

no_least : asks (codes "-filter-islands" ∷ codes "remove-empty" ∷ []) ≡ Err (2, why.MissingArgument)
no_least = refl

least_ones : asks (codes "precision=1" ∷ codes "-filter-islands" ∷ codes "min-area=1.1" ∷ codes "min-vertices=0" ∷ []) ≡ Ok (Some (words.Whole (ask.Each (each.FilterIslands 3 0 false))))
unfolding numeral_of grid_of_text decimal_of_text places_of area_units doubled_above
least_ones = refl
