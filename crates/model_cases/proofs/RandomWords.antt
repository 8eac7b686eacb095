-- Random words, as an independent reference reads them.
use Rattle.std.proofs.Common.{◌≡◌, refl, ℕ, List, [], ◌∷◌, Some, None, Ok, Err, codes, Option}
use Rattle.std.specs.Prelude.{if◌then◌else◌}
use Rattle.std.specs.Str.{bytes_eq}
use Rattle.table_terms.specs.Names.{Text}
use Rattle.numerals.specs.Decimal.{decimal_of_text}
use Rattle.numerals.specs.Numeral.{numeral_of, grid_of_text}
use Rattle.cmd_words.specs.Boxes.{places_of, box_of_text}
use Rattle.cmd_words.specs.Expressions.{Refusals}
use Rattle.cmd_words.specs.Words.{JobWords, Reading}
use Rattle.cmd_words.specs.declared.fault.ExprWhy.{ExprWhy}
use Rattle.cmd_words.specs.declared.fault.ExprWhy.TheVariants.{Syntax, Unsupported}
use Rattle.cmd_words.specs.declared.fault.WordWhy.{WordWhy}
use Rattle.cmd_words.specs.declared.fault.WordWhy.TheVariants as why
use Rattle.word_model.specs.Words.{words_say}

-- the texts that occur and are no expressions
abbrev faults : Text → Option (ℕ × ExprWhy)
faults s =
    if bytes_eq s (codes "a /") then Some (2, Unsupported)
    else if bytes_eq s (codes "y,z") then Some (1, Unsupported)
    else if bytes_eq s (codes "n,,s") then Some (1, Unsupported)
    else if bytes_eq s [] then Some (0, Syntax)
    else if bytes_eq s (codes "n=o") then Some (1, Unsupported)
    else if bytes_eq s (codes "n=") then Some (1, Unsupported)
    else if bytes_eq s (codes "=o") then Some (0, Unsupported)
    else if bytes_eq s (codes "a=b,c=d") then Some (1, Unsupported)
    else if bytes_eq s (codes "bbox=0,0,1,1") then Some (4, Unsupported)
    else None

abbrev pub refuses : Refusals
refuses kind s = faults s

abbrev refusal_of : Reading JobWords → Option (ℕ × WordWhy)
refusal_of (Ok j) = None
refusal_of (Err e) = Some e

abbrev fault_of : List Text → Option (ℕ × WordWhy)
fault_of words = refusal_of (words_say refuses words)

w0 : fault_of (codes "b.CSV" ∷ codes "-innerlines" ∷ codes "-lines" ∷ codes "name=q" ∷ codes "-dissolve" ∷ codes "copy-fields=" ∷ []) ≡ Some (6, why.MissingValue)
w0 = refl

w1 : fault_of (codes "a.json" ∷ codes "-merge-layers" ∷ []) ≡ None
w1 = refl

w2 : fault_of (codes "-" ∷ codes "-dissolve" ∷ codes "target=a,,b" ∷ codes "n,,s" ∷ []) ≡ Some (3, why.MissingValue)
w2 = refl

w3 : fault_of (codes "-" ∷ codes "combine-files" ∷ codes "-join" ∷ codes "where=pop" ∷ codes "target=x" ∷ codes "-" ∷ codes "-o" ∷ codes "o.topojson" ∷ codes "target=" ∷ codes "-clip" ∷ codes "target=*" ∷ []) ≡ Some (6, why.ExtraWord)
w3 = refl

w4 : fault_of (codes "b.CSV" ∷ codes "-split" ∷ codes "f" ∷ []) ≡ None
w4 = refl

w5 : fault_of (codes "-" ∷ codes "-innerlines" ∷ codes "name=q" ∷ codes "-o" ∷ codes "o.csv" ∷ codes "target=*" ∷ []) ≡ None
w5 = refl

w6 : fault_of (codes "a.json" ∷ codes "-o" ∷ codes "target=a,,b" ∷ codes "" ∷ []) ≡ Some (3, why.MissingValue)
w6 = refl

w7 : fault_of (codes "b.CSV" ∷ codes "precision=0.0000001" ∷ codes "-clean" ∷ []) ≡ None
unfolding numeral_of grid_of_text decimal_of_text places_of box_of_text
w7 = refl

w8 : fault_of (codes "-" ∷ codes "-clip" ∷ codes "-join" ∷ []) ≡ Some (2, why.MissingArgument)
w8 = refl

w9 : fault_of (codes "-" ∷ codes "-o" ∷ codes "target=a,,b" ∷ codes "-split" ∷ codes "" ∷ codes "-clip" ∷ codes "x" ∷ []) ≡ Some (3, why.MissingValue)
w9 = refl

w10 : fault_of (codes "a.json" ∷ codes "-explode" ∷ codes "target=a,,b" ∷ codes "string-fields=a," ∷ codes "name=" ∷ codes "-join" ∷ codes "-split" ∷ codes "target=a,,b" ∷ codes "-split" ∷ codes "f" ∷ codes "name=" ∷ []) ≡ Some (3, why.MissingValue)
w10 = refl

w11 : fault_of (codes "a.json" ∷ codes "-explode" ∷ codes "target=*" ∷ codes "target=a,,b" ∷ codes "+" ∷ codes "-split" ∷ codes "-join" ∷ codes "" ∷ codes "+" ∷ codes "-innerlines" ∷ codes "format=csv" ∷ codes "+" ∷ codes "target=x" ∷ []) ≡ Some (4, why.OptionTwice)
w11 = refl

w12 : fault_of (codes "a.json" ∷ codes "-innerlines" ∷ codes "target=a,,b" ∷ codes "target=*" ∷ []) ≡ Some (3, why.MissingValue)
w12 = refl

w13 : fault_of (codes "-" ∷ codes "-filter" ∷ []) ≡ Some (2, why.MissingArgument)
w13 = refl

w14 : fault_of (codes "a.json" ∷ codes "string-fields=a," ∷ codes "-filter-fields" ∷ codes "target=*" ∷ codes "-lines" ∷ codes "name=q" ∷ codes "x" ∷ codes "-clip" ∷ codes "name=q" ∷ []) ≡ Some (2, why.MissingValue)
w14 = refl

w15 : fault_of (codes "-" ∷ codes "-join" ∷ codes "target=" ∷ codes "fields=" ∷ codes "target=a,,b" ∷ codes "-split" ∷ codes "-filter" ∷ []) ≡ Some (3, why.MissingValue)
w15 = refl

w16 : fault_of (codes "-" ∷ codes "-filter-fields" ∷ []) ≡ None
w16 = refl

w17 : fault_of (codes "b.CSV" ∷ codes "-innerlines" ∷ codes "target=" ∷ codes "+" ∷ []) ≡ Some (3, why.MissingValue)
w17 = refl

w18 : fault_of (codes "-" ∷ codes "-split" ∷ codes "name=x" ∷ codes "name==1" ∷ []) ≡ Some (3, why.UnknownOption)
w18 = refl

w19 : fault_of (codes "a.json" ∷ codes "precision=10e-1" ∷ codes "-filter" ∷ codes "+" ∷ codes "-split" ∷ codes "target=*" ∷ codes "" ∷ codes "target=" ∷ codes "-explode" ∷ []) ≡ Some (3, why.MissingArgument)
unfolding numeral_of grid_of_text decimal_of_text places_of box_of_text
w19 = refl

w20 : fault_of (codes "-" ∷ codes "-mosaic" ∷ codes "name=q" ∷ []) ≡ None
w20 = refl

w21 : fault_of (codes "a.json" ∷ codes "-join" ∷ codes "string-fields=a" ∷ codes "keys=a,b" ∷ codes "fields=f" ∷ codes "-dissolve" ∷ codes "-" ∷ codes "y,z" ∷ codes "target=" ∷ []) ≡ Some (2, why.MissingArgument)
w21 = refl

w22 : fault_of (codes "b.CSV" ∷ codes "-join" ∷ codes "-rename-fields" ∷ codes "n=o" ∷ codes "target=*" ∷ codes "-rename-fields" ∷ codes "target=x" ∷ codes "=o" ∷ []) ≡ Some (2, why.MissingArgument)
w22 = refl

w23 : fault_of (codes "-" ∷ codes "-explode" ∷ codes "+" ∷ codes "+" ∷ []) ≡ Some (4, why.OptionTwice)
w23 = refl

w24 : fault_of (codes "-" ∷ codes "-merge-layers" ∷ codes "-lines" ∷ codes "fields=f" ∷ codes "x" ∷ []) ≡ Some (4, why.UnknownOption)
w24 = refl

w25 : fault_of (codes "a.json" ∷ codes "precision=10e-1" ∷ codes "-explode" ∷ codes "target=" ∷ codes "target=" ∷ []) ≡ Some (4, why.MissingValue)
unfolding numeral_of grid_of_text decimal_of_text places_of box_of_text
w25 = refl

w26 : fault_of (codes "-" ∷ codes "precision=0.0000001" ∷ codes "-filter" ∷ codes "target=*" ∷ codes "target=*" ∷ codes "a /" ∷ []) ≡ Some (5, why.OptionTwice)
unfolding numeral_of grid_of_text decimal_of_text places_of box_of_text
w26 = refl

w27 : fault_of (codes "a.json" ∷ codes "-clean" ∷ codes "-o" ∷ codes "300" ∷ codes "" ∷ codes "-" ∷ codes "-rename-fields" ∷ codes "a=b," ∷ codes "-i" ∷ []) ≡ Some (5, why.ExtraWord)
w27 = refl

w28 : fault_of (codes "-" ∷ codes "-split" ∷ codes "name=" ∷ codes "-explode" ∷ codes "target=x" ∷ []) ≡ Some (3, why.UnknownOption)
w28 = refl

w29 : fault_of (codes "b.CSV" ∷ codes "-rename-fields" ∷ codes "target=x" ∷ codes "name=x" ∷ codes "n=" ∷ []) ≡ Some (5, why.ExtraWord)
w29 = refl

w30 : fault_of (codes "-filter-fields" ∷ codes "n=" ∷ []) ≡ Some (1, why.NoInput)
w30 = refl

w31 : fault_of (codes "b.CSV" ∷ codes "precision=1" ∷ codes "-innerlines" ∷ codes "-merge-layers" ∷ codes "target=" ∷ codes "name=q" ∷ []) ≡ Some (5, why.MissingValue)
unfolding numeral_of grid_of_text decimal_of_text places_of box_of_text
w31 = refl

w32 : fault_of (codes "b.CSV" ∷ codes "-innerlines" ∷ codes "name=" ∷ []) ≡ Some (3, why.MissingValue)
w32 = refl

w33 : fault_of (codes "precision=0.0000001" ∷ codes "-o" ∷ codes "-filter-fields" ∷ codes "-filter-fields" ∷ codes "target=x" ∷ []) ≡ Some (1, why.NoInput)
unfolding numeral_of grid_of_text decimal_of_text places_of box_of_text
w33 = refl

w34 : fault_of (codes "b.CSV" ∷ codes "precision=0.10" ∷ codes "-erase" ∷ codes "bbox=0,0,1,1" ∷ codes "-dissolve" ∷ codes "" ∷ codes "target=" ∷ codes "-lines" ∷ codes "target=x" ∷ []) ≡ Some (6, why.MissingValue)
unfolding numeral_of grid_of_text decimal_of_text places_of box_of_text
w34 = refl

w35 : fault_of (codes "-" ∷ codes "precision=0.5" ∷ codes "-clip" ∷ codes "name=q" ∷ codes "bbox=0,0,1,1" ∷ codes "bbox=0,0,3000000000,1" ∷ []) ≡ Some (2, why.BadPrecision)
unfolding numeral_of grid_of_text decimal_of_text places_of box_of_text
w35 = refl

w36 : fault_of (codes "b.CSV" ∷ codes "-rename-fields" ∷ []) ≡ Some (2, why.MissingArgument)
w36 = refl

w37 : fault_of (codes "b.CSV" ∷ codes "-clip" ∷ []) ≡ Some (2, why.MissingArgument)
w37 = refl

w38 : fault_of (codes "-" ∷ codes "string-fields=a,b" ∷ codes "-clip" ∷ codes "name=" ∷ codes "a.json" ∷ codes "bbox=1,0,0,1" ∷ codes "-mosaic" ∷ codes "-merge-layers" ∷ []) ≡ Some (4, why.MissingValue)
unfolding numeral_of grid_of_text decimal_of_text places_of box_of_text
w38 = refl

w39 : fault_of (codes "a.json" ∷ codes "precision=0.10" ∷ codes "-clean" ∷ codes "-o" ∷ codes "overlap-rule=min-id" ∷ codes "overlap-rule=big" ∷ []) ≡ Some (5, why.UnknownOption)
unfolding numeral_of grid_of_text decimal_of_text places_of box_of_text
w39 = refl

w40 : fault_of (codes "b.CSV" ∷ codes "-merge-layers" ∷ codes "target=" ∷ codes "target=" ∷ codes "-filter" ∷ codes "target=a,,b" ∷ []) ≡ Some (3, why.MissingValue)
w40 = refl

w41 : fault_of (codes "-" ∷ codes "-split" ∷ []) ≡ None
w41 = refl

w42 : fault_of (codes "-" ∷ codes "string-fields=a,b" ∷ codes "-lines" ∷ codes "-bogus" ∷ codes "target=x" ∷ codes "target=x" ∷ codes "-rename-fields" ∷ codes "n=" ∷ codes "target=x" ∷ codes "target=a,,b" ∷ []) ≡ Some (4, why.UnknownCommand)
w42 = refl

w43 : fault_of (codes "-clean" ∷ codes "group-points" ∷ codes "-filter-fields" ∷ codes "target=a,,b" ∷ codes "target=x" ∷ codes "-rename-fields" ∷ codes "n=" ∷ codes "name=x" ∷ []) ≡ Some (1, why.NoInput)
w43 = refl

-- a join without keys is one by place
w44 : fault_of (codes "-" ∷ codes "-split" ∷ codes "-merge-layers" ∷ codes "target=x" ∷ codes "-join" ∷ codes "x" ∷ []) ≡ None
w44 = refl

w45 : fault_of (codes "b.CSV" ∷ codes "-rename-fields" ∷ codes "n=" ∷ codes "name=x" ∷ codes "format=csv" ∷ []) ≡ Some (3, why.BadChoice)
w45 = refl

w46 : fault_of (codes "-" ∷ codes "string-fields=a,b" ∷ codes "-dissolve" ∷ []) ≡ None
w46 = refl

w47 : fault_of (codes "-" ∷ codes "string-fields=a," ∷ codes "-dissolve" ∷ codes "" ∷ codes "n,,s" ∷ codes "-erase" ∷ codes "-filter-fields" ∷ codes "target=" ∷ codes "+" ∷ []) ≡ Some (2, why.MissingValue)
w47 = refl

w48 : fault_of (codes "a.json" ∷ codes "precision=1" ∷ codes "-mosaic" ∷ codes "target=x" ∷ []) ≡ None
unfolding numeral_of grid_of_text decimal_of_text places_of box_of_text
w48 = refl

w49 : fault_of (codes "-split" ∷ codes "-clean" ∷ codes "name=q" ∷ codes "allow-empty" ∷ codes "overlap-rule=big" ∷ codes "-erase" ∷ codes "bbox=0,0,1,1" ∷ codes "name=" ∷ []) ≡ Some (1, why.NoInput)
unfolding numeral_of grid_of_text decimal_of_text places_of box_of_text
w49 = refl

w50 : fault_of (codes "b.CSV" ∷ codes "-merge-layers" ∷ codes "-o" ∷ []) ≡ Some (3, why.MissingArgument)
w50 = refl

w51 : fault_of (codes "a.json" ∷ codes "precision=0.5" ∷ codes "-merge-layers" ∷ codes "name=" ∷ codes "target=x" ∷ codes "name=q" ∷ codes "-explode" ∷ codes "name=q" ∷ []) ≡ Some (2, why.BadPrecision)
unfolding numeral_of grid_of_text decimal_of_text places_of box_of_text
w51 = refl

w52 : fault_of (codes "b.CSV" ∷ codes "-dissolve" ∷ codes "copy-fields=q,r" ∷ codes "" ∷ codes "target=" ∷ codes "-explode" ∷ codes "1" ∷ codes "name=" ∷ []) ≡ Some (4, why.MissingValue)
w52 = refl

w53 : fault_of (codes "-" ∷ codes "-filter-fields" ∷ codes "target=x" ∷ codes "-filter" ∷ codes "target=*" ∷ codes "target=x" ∷ []) ≡ Some (6, why.OptionTwice)
w53 = refl

w54 : fault_of (codes "a.json" ∷ codes "-dissolve" ∷ codes "name=" ∷ codes "" ∷ []) ≡ Some (3, why.MissingValue)
w54 = refl

w55 : fault_of (codes "-" ∷ codes "-explode" ∷ codes "name=" ∷ codes "name=" ∷ codes "target=x" ∷ []) ≡ Some (3, why.MissingValue)
w55 = refl

w56 : fault_of (codes "-" ∷ codes "-lines" ∷ codes "+" ∷ codes "-rename-fields" ∷ codes "target=*" ∷ codes "a=b,c=d" ∷ codes "name==1" ∷ []) ≡ Some (7, why.ExtraWord)
w56 = refl

w57 : fault_of (codes "b.CSV" ∷ codes "-innerlines" ∷ codes "target=a,,b" ∷ codes "-mosaic" ∷ codes "-innerlines" ∷ codes "target=a,,b" ∷ codes "a=b,c=d" ∷ codes "name=q" ∷ []) ≡ Some (3, why.MissingValue)
w57 = refl

w58 : fault_of (codes "a.json" ∷ codes "precision=0.10" ∷ codes "-dissolve" ∷ codes "n,,s" ∷ codes "-erase" ∷ codes "target=a,,b" ∷ codes "x" ∷ codes "-" ∷ codes "-merge-layers" ∷ []) ≡ Some (4, why.MissingValue)
unfolding numeral_of grid_of_text decimal_of_text places_of box_of_text
w58 = refl

w59 : fault_of (codes "b.CSV" ∷ codes "x.shp" ∷ codes "-explode" ∷ codes "name=" ∷ codes "name=q" ∷ []) ≡ Some (2, why.UnsupportedFile)
w59 = refl

w60 : fault_of (codes "a.json" ∷ codes "precision=0.5" ∷ codes "-merge-layers" ∷ []) ≡ Some (2, why.BadPrecision)
unfolding numeral_of grid_of_text decimal_of_text places_of box_of_text
w60 = refl

w61 : fault_of (codes "-" ∷ codes "string-fields=a," ∷ codes "-join" ∷ codes "-clip" ∷ codes "keys=a" ∷ codes "bbox=0,0,3000000000,1" ∷ codes "target=*" ∷ []) ≡ Some (2, why.MissingValue)
unfolding numeral_of grid_of_text decimal_of_text places_of box_of_text
w61 = refl

w62 : fault_of (codes "-" ∷ codes "-merge-layers" ∷ []) ≡ None
w62 = refl

w63 : fault_of (codes "b.CSV" ∷ codes "-split" ∷ codes "target=a,,b" ∷ codes "-innerlines" ∷ codes "name=q" ∷ codes "n,,s" ∷ codes "string-fields=a,b" ∷ codes "-o" ∷ codes "o.TopoJSON" ∷ codes "target=" ∷ codes "format=png" ∷ []) ≡ Some (3, why.MissingValue)
w63 = refl

w64 : fault_of (codes "a.json" ∷ codes "-lines" ∷ []) ≡ None
w64 = refl

w65 : fault_of (codes "a.json" ∷ codes "-o" ∷ codes "o.txt" ∷ codes "-lines" ∷ codes "target=x" ∷ []) ≡ Some (3, why.UnsupportedFile)
w65 = refl

w66 : fault_of (codes "b.CSV" ∷ codes "-filter-fields" ∷ codes "-split" ∷ codes "target=" ∷ codes "-rename-fields" ∷ codes "name=x" ∷ codes "=o" ∷ codes "a=b,c=d" ∷ codes "-rename-fields" ∷ []) ≡ Some (4, why.MissingValue)
w66 = refl

w67 : fault_of (codes "-" ∷ codes "c.topojson" ∷ codes "-lines" ∷ codes "target=a,,b" ∷ codes "target=" ∷ codes "target=a,,b" ∷ codes "-rename-fields" ∷ []) ≡ Some (4, why.MissingValue)
w67 = refl

w68 : fault_of (codes "a.json" ∷ codes "-lines" ∷ codes "-clean" ∷ codes "invert" ∷ codes "force" ∷ []) ≡ Some (4, why.ExtraWord)
w68 = refl

w69 : fault_of (codes "-o" ∷ codes "-erase" ∷ codes "o.geojson" ∷ codes "-clean" ∷ codes "target=a,,b" ∷ codes "x" ∷ codes "allow-empty" ∷ []) ≡ Some (1, why.NoInput)
w69 = refl

w70 : fault_of (codes "a.json" ∷ codes "-merge-layers" ∷ codes "x" ∷ codes "-clean" ∷ codes "target=" ∷ codes "overlap-rule=big" ∷ codes "name=q" ∷ []) ≡ Some (3, why.ExtraWord)
w70 = refl

w71 : fault_of (codes "-" ∷ codes "-filter" ∷ []) ≡ Some (2, why.MissingArgument)
w71 = refl

w72 : fault_of (codes "-" ∷ codes "-filter" ∷ codes "name=" ∷ codes "invert" ∷ codes "invert" ∷ []) ≡ Some (3, why.MissingValue)
w72 = refl

w73 : fault_of (codes "a.json" ∷ codes "-join" ∷ []) ≡ Some (2, why.MissingArgument)
w73 = refl

w74 : fault_of (codes "-" ∷ codes "-merge-layers" ∷ codes "x" ∷ []) ≡ Some (3, why.ExtraWord)
w74 = refl

w75 : fault_of (codes "a.json" ∷ codes "c.topojson" ∷ codes "-rename-fields" ∷ codes "n=" ∷ codes "-clip" ∷ codes "-" ∷ codes "bbox=1,0,0,1" ∷ codes "target=" ∷ []) ≡ Some (4, why.BadChoice)
unfolding numeral_of grid_of_text decimal_of_text places_of box_of_text
w75 = refl

w76 : fault_of (codes "a.json" ∷ codes "-clip" ∷ codes "+" ∷ codes "-" ∷ codes "combine-files" ∷ codes "-erase" ∷ codes "target=x" ∷ codes "target=x" ∷ []) ≡ Some (5, why.ExtraWord)
w76 = refl

w77 : fault_of (codes "a.json" ∷ codes "-clean" ∷ codes "target=a,,b" ∷ codes "target=a,,b" ∷ codes "-explode" ∷ codes "-filter-fields" ∷ codes "target=" ∷ codes "+" ∷ []) ≡ Some (3, why.MissingValue)
w77 = refl

w78 : fault_of (codes "-" ∷ codes "-clip" ∷ codes "x" ∷ codes "target=a,,b" ∷ codes "-rename-fields" ∷ codes "target=x" ∷ codes "a=b," ∷ []) ≡ Some (4, why.MissingValue)
w78 = refl

w79 : fault_of (codes "-" ∷ codes "precision=0.5" ∷ codes "-split" ∷ codes "target=" ∷ codes "name=q" ∷ codes "target=a,,b" ∷ []) ≡ Some (2, why.BadPrecision)
unfolding numeral_of grid_of_text decimal_of_text places_of box_of_text
w79 = refl

w80 : fault_of (codes "b.CSV" ∷ codes "-erase" ∷ codes "target=*" ∷ codes "-innerlines" ∷ codes "target=*" ∷ codes "bbox=0,0,3000000000,1" ∷ []) ≡ Some (2, why.MissingArgument)
unfolding numeral_of grid_of_text decimal_of_text places_of box_of_text
w80 = refl

w81 : fault_of (codes "-" ∷ codes "-filter" ∷ codes "name=q" ∷ []) ≡ Some (2, why.MissingArgument)
w81 = refl

w82 : fault_of (codes "b.CSV" ∷ codes "-mosaic" ∷ codes "target=x" ∷ codes "+" ∷ codes "-o" ∷ codes "-o" ∷ codes "-lines" ∷ []) ≡ Some (5, why.MissingArgument)
w82 = refl

w83 : fault_of (codes "-" ∷ codes "-clean" ∷ codes "target=a,,b" ∷ codes "-filter-fields" ∷ codes "+" ∷ codes "o.txt" ∷ []) ≡ Some (3, why.MissingValue)
w83 = refl

w84 : fault_of (codes "b.CSV" ∷ codes "-split" ∷ codes "combine-files" ∷ codes "name=" ∷ codes "name=q" ∷ codes "-mosaic" ∷ codes "target=*" ∷ codes "name=" ∷ codes "x" ∷ codes "-rename-fields" ∷ codes "n=" ∷ []) ≡ Some (4, why.UnknownOption)
w84 = refl

w85 : fault_of (codes "b.CSV" ∷ codes "-filter" ∷ codes "-erase" ∷ codes "x" ∷ codes "target=x" ∷ []) ≡ Some (2, why.MissingArgument)
w85 = refl

w86 : fault_of (codes "b.CSV" ∷ codes "-split" ∷ codes "keys=a,b" ∷ codes "target=x" ∷ codes "force" ∷ codes "-lines" ∷ codes "x" ∷ codes "target=*" ∷ codes "y,z" ∷ []) ≡ Some (3, why.UnknownOption)
w86 = refl

w87 : fault_of (codes "a.json" ∷ codes "string-fields=a," ∷ codes "-merge-layers" ∷ codes "target=" ∷ codes "name=" ∷ []) ≡ Some (2, why.MissingValue)
w87 = refl

w88 : fault_of (codes "b.CSV" ∷ codes "-split" ∷ codes "target=" ∷ codes "-innerlines" ∷ codes "keys=a" ∷ codes "target=*" ∷ codes "-split" ∷ []) ≡ Some (3, why.MissingValue)
w88 = refl

w89 : fault_of (codes "-" ∷ codes "-lines" ∷ codes "x" ∷ codes "n,,s" ∷ codes "-o" ∷ codes "-clip" ∷ []) ≡ Some (4, why.MissingValue)
w89 = refl

w90 : fault_of (codes "-" ∷ codes "-o" ∷ []) ≡ Some (2, why.MissingArgument)
w90 = refl

w91 : fault_of (codes "a.json" ∷ codes "-innerlines" ∷ codes "name=q" ∷ []) ≡ None
w91 = refl

w92 : fault_of (codes "b.CSV" ∷ codes "-dissolve" ∷ codes "sum-fields=p" ∷ codes "n,,s" ∷ []) ≡ Some (4, why.MissingValue)
w92 = refl

w93 : fault_of (codes "b.CSV" ∷ codes "-dissolve" ∷ codes "target=x" ∷ codes "target=*" ∷ codes "" ∷ codes "-filter" ∷ []) ≡ Some (4, why.OptionTwice)
w93 = refl

w94 : fault_of (codes "b.CSV" ∷ codes "-clip" ∷ codes "bbox=0,0,3000000000,1" ∷ codes "bbox=1,2,3" ∷ codes "bbox=1,0,0,1" ∷ codes "-rename-fields" ∷ codes "a=b," ∷ codes "n=" ∷ codes "=o" ∷ codes "-dissolve" ∷ codes "target=a,,b" ∷ []) ≡ Some (3, why.BoxRange)
unfolding numeral_of grid_of_text decimal_of_text places_of box_of_text
w94 = refl

w95 : fault_of (codes "a.json" ∷ codes "-filter" ∷ codes "target=*" ∷ codes "target=" ∷ codes "name=" ∷ []) ≡ Some (4, why.OptionTwice)
w95 = refl

w96 : fault_of (codes "a.json" ∷ codes "-mosaic" ∷ codes "target=*" ∷ codes "target=" ∷ []) ≡ Some (4, why.OptionTwice)
w96 = refl

w97 : fault_of (codes "a.json" ∷ codes "-filter" ∷ codes "target=" ∷ codes "target=*" ∷ codes "remove-empty" ∷ codes "-lines" ∷ codes "target=*" ∷ codes "+" ∷ codes "-erase" ∷ codes "target=a,,b" ∷ codes "target=*" ∷ []) ≡ Some (3, why.MissingValue)
w97 = refl

w98 : fault_of (codes "b.CSV" ∷ codes "-clean" ∷ codes "-filter-fields" ∷ codes "target=*" ∷ codes "+" ∷ codes "target=" ∷ codes "-merge-layers" ∷ codes "name=q" ∷ []) ≡ Some (6, why.OptionTwice)
w98 = refl

w99 : fault_of (codes "a.json" ∷ codes "-lines" ∷ codes "y,z" ∷ codes "x" ∷ codes "name=q" ∷ []) ≡ Some (4, why.ExtraWord)
w99 = refl

w100 : fault_of (codes "-split" ∷ codes "target=a,,b" ∷ []) ≡ Some (1, why.NoInput)
w100 = refl

w101 : fault_of (codes "-" ∷ codes "-dissolve" ∷ codes "" ∷ []) ≡ Some (3, why.MissingValue)
w101 = refl

w102 : fault_of (codes "a.json" ∷ codes "-explode" ∷ codes "target=" ∷ codes "-rename-fields" ∷ codes "target=a,,b" ∷ codes "-join" ∷ codes "name=q" ∷ codes "fields=f" ∷ codes "fields=" ∷ []) ≡ Some (3, why.MissingValue)
w102 = refl

w103 : fault_of (codes "-" ∷ codes "-filter-fields" ∷ codes "n,,s" ∷ []) ≡ Some (3, why.MissingValue)
w103 = refl

w104 : fault_of (codes "-" ∷ codes "string-fields=a,b" ∷ codes "-explode" ∷ codes "group-points" ∷ codes "name=q" ∷ []) ≡ Some (4, why.ExtraWord)
w104 = refl

w105 : fault_of (codes "a.json" ∷ codes "precision=0.10" ∷ codes "-dissolve" ∷ codes "target=*" ∷ []) ≡ None
unfolding numeral_of grid_of_text decimal_of_text places_of box_of_text
w105 = refl

w106 : fault_of (codes "-" ∷ codes "combine-files" ∷ codes "-filter" ∷ []) ≡ Some (3, why.MissingArgument)
w106 = refl

w107 : fault_of (codes "a.json" ∷ codes "-o" ∷ codes "format=csv" ∷ codes "format=png" ∷ codes "target=*" ∷ []) ≡ Some (4, why.OptionTwice)
w107 = refl

w108 : fault_of (codes "b.CSV" ∷ codes "-merge-layers" ∷ codes "target=x" ∷ codes "target=" ∷ codes "target=x" ∷ codes "-erase" ∷ codes "name=" ∷ []) ≡ Some (4, why.OptionTwice)
w108 = refl

w109 : fault_of (codes "-" ∷ codes "-filter" ∷ []) ≡ Some (2, why.MissingArgument)
w109 = refl

w110 : fault_of (codes "b.CSV" ∷ codes "-rename-fields" ∷ codes "target=a,,b" ∷ codes "target=" ∷ codes "target=x" ∷ []) ≡ Some (3, why.MissingValue)
w110 = refl

w111 : fault_of (codes "-" ∷ codes "-innerlines" ∷ codes "name=q" ∷ codes "-clean" ∷ codes "overlap-rule=big" ∷ []) ≡ Some (5, why.BadChoice)
w111 = refl

w112 : fault_of (codes "-" ∷ codes "-explode" ∷ []) ≡ None
w112 = refl

w113 : fault_of (codes "a.json" ∷ codes "precision=0.10" ∷ codes "-dissolve" ∷ []) ≡ None
unfolding numeral_of grid_of_text decimal_of_text places_of box_of_text
w113 = refl

w114 : fault_of (codes "-" ∷ codes "-merge-layers" ∷ codes "name=q" ∷ codes "target=a,,b" ∷ codes "target=" ∷ codes "-explode" ∷ codes "target=" ∷ codes "-merge-layers" ∷ codes "o.geojson" ∷ codes "target=a,,b" ∷ codes "-rename-fields" ∷ []) ≡ Some (4, why.MissingValue)
w114 = refl

w115 : fault_of (codes "a.json" ∷ codes "string-fields=a," ∷ codes "-filter" ∷ codes "-filter" ∷ []) ≡ Some (2, why.MissingValue)
w115 = refl

w116 : fault_of (codes "-" ∷ codes "-erase" ∷ codes "-" ∷ []) ≡ Some (3, why.ExtraWord)
w116 = refl

w117 : fault_of (codes "a.json" ∷ codes "-rename-fields" ∷ codes "target=*" ∷ codes "target=a,,b" ∷ codes "bbox=1,0,0,1" ∷ codes "-innerlines" ∷ codes "name=" ∷ codes "target=*" ∷ codes "name=" ∷ []) ≡ Some (4, why.OptionTwice)
unfolding numeral_of grid_of_text decimal_of_text places_of box_of_text
w117 = refl

w118 : fault_of (codes "b.CSV" ∷ codes "-split" ∷ codes "" ∷ []) ≡ None
w118 = refl

w119 : fault_of (codes "b.CSV" ∷ codes "-split" ∷ codes "name=q" ∷ codes "f" ∷ []) ≡ Some (3, why.UnknownOption)
w119 = refl
