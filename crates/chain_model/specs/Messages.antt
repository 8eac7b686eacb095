-- The line that is offered for an outcome other than Done.
use Rattle.std.specs.Prelude.{◌≡◌, ◌⊎◌, ℕ, decimal, ◌++◌, codes, Option, Some, None, option_map, MatchOption}
use Rattle.std.specs.Io.KnownBytes.{Appends, Keeps}
use Rattle.io_core.specs.Counts.{Rose}
use Rattle.geojson_io.specs.declared.fault.ShapeWhy.{ShapeWhy}
use Rattle.geojson_io.specs.declared.fault.ShapeWhy.TheVariants as geo
use Rattle.topo_io.specs.declared.fault.TopoWhy.{TopoWhy}
use Rattle.topo_io.specs.declared.fault.TopoWhy.TheVariants as topo
use Rattle.topo_io.specs.declared.fault.TopoPlace.{TopoPlace}
use Rattle.topo_io.specs.declared.fault.TopoPlace.TheVariants as place
use Rattle.table_terms.specs.Names.{Text}
use Rattle.table_rows.specs.declared.fault.EvalWhy.{EvalWhy}
use Rattle.table_rows.specs.declared.fault.EvalWhy.TheVariants as eval
use Rattle.table_rows.specs.declared.fault.TableWhy.{TableWhy}
use Rattle.table_rows.specs.declared.fault.TableWhy.TheVariants as table
use Rattle.cmd_words.specs.declared.fault.ExprWhy.{ExprWhy}
use Rattle.cmd_words.specs.declared.fault.ExprWhy.TheVariants as expr
use Rattle.cmd_words.specs.declared.fault.WordWhy.{WordWhy}
use Rattle.cmd_words.specs.declared.fault.WordWhy.TheVariants as word
use Rattle.chain_model.specs.Outcome as o
use Rattle.chain_model.specs.Outcome.{Outcome, InputWhy, RefuseWhy}

-- a text, and a number after it
abbrev pub with_number : Text → ℕ → Text
with_number s n = s ++ codes " " ++ decimal n

-- ---- kinds, by the names of their variants

abbrev pub expr_kind : ExprWhy → Text
expr_kind expr.Syntax = codes "Syntax"
expr_kind expr.Unsupported = codes "Unsupported"
expr_kind expr.Depth = codes "Depth"

abbrev pub word_kind : WordWhy → Text
word_kind word.NoInput = codes "NoInput"
word_kind word.UnknownCommand = codes "UnknownCommand"
word_kind word.UnknownOption = codes "UnknownOption"
word_kind word.OptionTwice = codes "OptionTwice"
word_kind word.MissingValue = codes "MissingValue"
word_kind word.MissingArgument = codes "MissingArgument"
word_kind word.ExtraWord = codes "ExtraWord"
word_kind word.UnsupportedFile = codes "UnsupportedFile"
word_kind word.BadNumber = codes "BadNumber"
word_kind word.BadChoice = codes "BadChoice"
word_kind word.BadPrecision = codes "BadPrecision"
word_kind word.BadBox = codes "BadBox"
word_kind word.BoxRange = codes "BoxRange"
word_kind (word.BadExpression at why) = with_number (codes "BadExpression " ++ expr_kind why ++ codes " at") at
word_kind word.LaterImport = codes "LaterImport"
word_kind word.TooManyWords = codes "TooManyWords"

abbrev pub shape_kind : ShapeWhy → Text
shape_kind geo.NotGeo = codes "NotGeo"
shape_kind geo.Collection = codes "Collection"
shape_kind geo.RingOpen = codes "RingOpen"
shape_kind geo.RingShort = codes "RingShort"
shape_kind geo.LineShort = codes "LineShort"
shape_kind geo.BadPosition = codes "BadPosition"
shape_kind geo.Range = codes "Range"
shape_kind geo.TooManyPositions = codes "TooManyPositions"
shape_kind geo.TooManyFeatures = codes "TooManyFeatures"

abbrev pub topo_kind : TopoWhy → Text
topo_kind topo.NotTopology = codes "NotTopology"
topo_kind topo.ArcIndex = codes "ArcIndex"
topo_kind topo.ArcShort = codes "ArcShort"
topo_kind topo.Unstitched = codes "Unstitched"
topo_kind topo.BadPosition = codes "BadPosition"
topo_kind topo.TransformRange = codes "TransformRange"
topo_kind topo.RingOpen = codes "RingOpen"
topo_kind topo.Range = codes "Range"
topo_kind topo.Collection = codes "Collection"
topo_kind topo.TooManyPositions = codes "TooManyPositions"
topo_kind topo.TooManyFeatures = codes "TooManyFeatures"

abbrev pub eval_kind : EvalWhy → Text
eval_kind eval.Unknown = codes "Unknown"
eval_kind eval.Types = codes "Types"
eval_kind eval.Range = codes "Range"

-- ---- with their places

abbrev pub topo_place : TopoPlace → Text
topo_place place.Top = codes "at top"
topo_place (place.Arc n) = with_number (codes "in arc") n
topo_place (place.Shape object feature) = with_number (codes "in object") object ++ with_number (codes " feature") feature

abbrev pub input_text : InputWhy → Text
input_text (o.syntax at) = with_number (codes "Syntax at") at
input_text (o.depth at) = with_number (codes "Depth at") at
input_text (o.utf8 at) = with_number (codes "Utf8 at") at
input_text (o.shape why feature) = with_number (shape_kind why ++ codes " in feature") feature
input_text (o.topo why place) = topo_kind why ++ codes " " ++ topo_place place
input_text o.no_header = codes "NoHeader"
input_text (o.repeated_name column) = with_number (codes "RepeatedName in column") column
input_text (o.too_many_rows row) = with_number (codes "TooManyRows in row") row
input_text (o.unequal_row row) = with_number (codes "UnequalRow in row") row

abbrev pub table_text : TableWhy → Text
table_text (table.NoField item) = with_number (codes "NoField item") item
table_text (table.FieldTwice item) = with_number (codes "FieldTwice item") item
table_text (table.FieldsDiffer layer) = with_number (codes "FieldsDiffer layer") layer
table_text (table.NotBoolean row) = with_number (codes "NotBoolean in row") row
table_text (table.NotNumber row) = with_number (codes "NotNumber in row") row
table_text (table.SumRange row) = with_number (codes "SumRange in row") row
table_text (table.Eval row at why) = with_number (codes "Eval " ++ eval_kind why ++ codes " at") at ++ with_number (codes " in row") row

abbrev pub refused_text : RefuseWhy → Text
refused_text o.no_layer = codes "NoLayer"
refused_text o.many_layers = codes "ManyLayers"
refused_text o.wrong_kind = codes "WrongKind"
refused_text o.lone_layer = codes "OneLayer"
refused_text o.no_group_points = codes "NoGroupPoints"
refused_text o.name_twice = codes "NameTwice"
refused_text o.too_many_layers = codes "TooManyLayers"
refused_text (o.in_table why) = table_text why

-- ---- the line

-- a word, a source or a command by its number, and what is told of it
abbrev pub told_of : Text → ℕ → Text → Text
told_of which n text = with_number which n ++ codes ": " ++ text

abbrev pub outcome_text : Outcome → Option Text
outcome_text o.done = None
outcome_text (o.bad_words n why) = Some (told_of (codes "word") n (word_kind why))
outcome_text (o.read_fault n) = Some (told_of (codes "source") n (codes "ReadFault"))
outcome_text (o.missing n) = Some (told_of (codes "source") n (codes "Missing"))
outcome_text (o.too_long n) = Some (told_of (codes "source") n (codes "TooLong"))
outcome_text (o.bad_input n why) = Some (told_of (codes "source") n (input_text why))
outcome_text (o.too_dense count) = Some (with_number (codes "TooDense with") count ++ codes " links")
outcome_text (o.refused n why) = Some (told_of (codes "command") n (refused_text why))
outcome_text (o.write_fault n) = Some (told_of (codes "command") n (codes "WriteFault"))
outcome_text o.memory = Some (codes "Memory")

abbrev pub message_of : Outcome → Option Text
message_of outcome = option_map (λ (s : Text). codes "ms_cli: " ++ s ++ codes "\n") (outcome_text outcome)

-- the stream of messages, as far as it tells what it holds, with its count of failed writes
pub record MessagesSeen : Type 0 where
  pub told : Option Text
  pub faults : ℕ

-- it took a first part of this line
abbrev pub TookPart : Text → Option Text → Option Text → Type 0
TookPart line before after = (part rest : Text) × (part ++ rest ≡ line) × Appends before after part

-- it took this line, or a first part of it and its count rose; and nothing where there is none
abbrev pub TellsOutcome : Outcome → MessagesSeen → MessagesSeen → Type 0
TellsOutcome outcome before after =
    MatchOption (message_of outcome) (Keeps before.told after.told) (λ line. Appends before.told after.told line ⊎ (Rose before.faults after.faults × TookPart line before.told after.told))
