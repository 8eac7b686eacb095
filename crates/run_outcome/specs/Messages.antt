-- The text of a message: what it says of each outcome.
use Rattle.std.specs.Prelude.{ℕ, List, [], ◌++◌, codes, decimal}
use Rattle.geojson_io.specs.declared.fault.ShapeWhy.{ShapeWhy}
use Rattle.geojson_io.specs.declared.fault.ShapeWhy.TheVariants as shape
use Rattle.topo_io.specs.declared.fault.TopoWhy.{TopoWhy}
use Rattle.topo_io.specs.declared.fault.TopoWhy.TheVariants as topo
use Rattle.topo_io.specs.declared.fault.TopoPlace.{TopoPlace}
use Rattle.topo_io.specs.declared.fault.TopoPlace.TheVariants as place
use Rattle.table_rows.specs.declared.fault.EvalWhy.{EvalWhy}
use Rattle.table_rows.specs.declared.fault.EvalWhy.TheVariants as eval
use Rattle.table_rows.specs.declared.fault.TableWhy.{TableWhy}
use Rattle.table_rows.specs.declared.fault.TableWhy.TheVariants as table
use Rattle.cmd_words.specs.declared.fault.ExprWhy.{ExprWhy}
use Rattle.cmd_words.specs.declared.fault.ExprWhy.TheVariants as expr
use Rattle.cmd_words.specs.declared.fault.WordWhy.{WordWhy}
use Rattle.cmd_words.specs.declared.fault.WordWhy.TheVariants as word
use Rattle.run_sources.specs.declared.fault.InputWhy.{InputWhy}
use Rattle.run_sources.specs.declared.fault.InputWhy.TheVariants as input
use Rattle.run_state.specs.declared.refusal.RefuseWhy.{RefuseWhy}
use Rattle.run_state.specs.declared.refusal.RefuseWhy.TheVariants as refuse
use Rattle.run_outcome.specs.declared.outcome.Outcome.{Outcome}
use Rattle.run_outcome.specs.declared.outcome.Outcome.TheVariants as outcome

abbrev pub Text : Type 0
Text = List ℕ

-- a kind, and the number after it
abbrev pub numbered : Text → ℕ → Text
numbered kind n = kind ++ decimal n

abbrev pub expr_kind : ExprWhy → Text
expr_kind expr.Syntax = codes "Syntax"
expr_kind expr.Unsupported = codes "Unsupported"
expr_kind expr.Depth = codes "Depth"

abbrev pub word_kind : WordWhy → Text
word_kind word.NoInput = codes "NoInput"
word_kind word.UnknownCommand = codes "UnknownCommand"
word_kind word.UnknownOption = codes "UnknownOption"
word_kind word.OptionTwice = codes "OptionTwice"
word_kind word.MissingValue = codes "MissingValue"
word_kind word.MissingArgument = codes "MissingArgument"
word_kind word.ExtraWord = codes "ExtraWord"
word_kind word.UnsupportedFile = codes "UnsupportedFile"
word_kind word.BadNumber = codes "BadNumber"
word_kind word.BadChoice = codes "BadChoice"
word_kind word.BadPrecision = codes "BadPrecision"
word_kind word.BadBox = codes "BadBox"
word_kind word.BoxRange = codes "BoxRange"
word_kind (word.BadExpression at why) = codes "BadExpression " ++ (expr_kind why ++ numbered (codes " at ") at)
word_kind word.LaterImport = codes "LaterImport"
word_kind word.TooManyWords = codes "TooManyWords"

abbrev pub shape_kind : ShapeWhy → Text
shape_kind shape.NotGeo = codes "NotGeo"
shape_kind shape.Collection = codes "Collection"
shape_kind shape.RingOpen = codes "RingOpen"
shape_kind shape.RingShort = codes "RingShort"
shape_kind shape.LineShort = codes "LineShort"
shape_kind shape.BadPosition = codes "BadPosition"
shape_kind shape.Range = codes "Range"
shape_kind shape.TooManyPositions = codes "TooManyPositions"
shape_kind shape.TooManyFeatures = codes "TooManyFeatures"

abbrev pub topo_kind : TopoWhy → Text
topo_kind topo.NotTopology = codes "NotTopology"
topo_kind topo.ArcIndex = codes "ArcIndex"
topo_kind topo.ArcShort = codes "ArcShort"
topo_kind topo.Unstitched = codes "Unstitched"
topo_kind topo.BadPosition = codes "BadPosition"
topo_kind topo.TransformRange = codes "TransformRange"
topo_kind topo.RingOpen = codes "RingOpen"
topo_kind topo.Range = codes "Range"
topo_kind topo.Collection = codes "Collection"
topo_kind topo.TooManyPositions = codes "TooManyPositions"
topo_kind topo.TooManyFeatures = codes "TooManyFeatures"

abbrev pub numbered_twice : Text → ℕ → Text → ℕ → Text
numbered_twice kind n next m = kind ++ (decimal n ++ (next ++ decimal m))

abbrev pub topo_place : TopoPlace → Text
topo_place place.Top = codes " at top"
topo_place (place.Arc arc) = numbered (codes " in arc ") arc
topo_place (place.Shape object feature) = numbered_twice (codes " in object ") object (codes " feature ") feature

abbrev pub input_text : InputWhy → Text
input_text (input.Syntax at) = numbered (codes "Syntax at ") at
input_text (input.Depth at) = numbered (codes "Depth at ") at
input_text (input.Utf8 at) = numbered (codes "Utf8 at ") at
input_text (input.Shape why feature) = shape_kind why ++ numbered (codes " in feature ") feature
input_text (input.Topo why place) = topo_kind why ++ topo_place place
input_text input.NoHeader = codes "NoHeader"
input_text (input.RepeatedName column) = numbered (codes "RepeatedName in column ") column
input_text (input.TooManyRows row) = numbered (codes "TooManyRows in row ") row
input_text (input.UnequalRow row) = numbered (codes "UnequalRow in row ") row

abbrev pub eval_kind : EvalWhy → Text
eval_kind eval.Unknown = codes "Unknown"
eval_kind eval.Types = codes "Types"
eval_kind eval.Range = codes "Range"

abbrev pub table_text : TableWhy → Text
table_text (table.NoField item) = numbered (codes "NoField item ") item
table_text (table.FieldTwice item) = numbered (codes "FieldTwice item ") item
table_text (table.FieldsDiffer layer) = numbered (codes "FieldsDiffer layer ") layer
table_text (table.NotBoolean row) = numbered (codes "NotBoolean in row ") row
table_text (table.NotNumber row) = numbered (codes "NotNumber in row ") row
table_text (table.SumRange row) = numbered (codes "SumRange in row ") row
table_text (table.Eval row at why) = codes "Eval " ++ (eval_kind why ++ (numbered (codes " at ") at ++ numbered (codes " in row ") row))

abbrev pub refused_text : RefuseWhy → Text
refused_text refuse.NoLayer = codes "NoLayer"
refused_text refuse.ManyLayers = codes "ManyLayers"
refused_text refuse.WrongKind = codes "WrongKind"
refused_text refuse.OneLayer = codes "OneLayer"
refused_text refuse.NoGroupPoints = codes "NoGroupPoints"
refused_text refuse.NameTwice = codes "NameTwice"
refused_text refuse.TooManyLayers = codes "TooManyLayers"
refused_text (refuse.Table why) = table_text why

-- the kind of a place with its number, and what is said of it
abbrev pub told_of : Text → ℕ → Text → Text
told_of kind n text = (kind ++ (codes " " ++ (decimal n ++ codes ": "))) ++ text

abbrev pub outcome_text : Outcome → Text
outcome_text outcome.Done = []
outcome_text (outcome.BadWords n why) = told_of (codes "word") n (word_kind why)
outcome_text (outcome.ReadFault n) = told_of (codes "source") n (codes "ReadFault")
outcome_text (outcome.Missing n) = told_of (codes "source") n (codes "Missing")
outcome_text (outcome.TooLong n) = told_of (codes "source") n (codes "TooLong")
outcome_text (outcome.BadInput n why) = told_of (codes "source") n (input_text why)
outcome_text (outcome.TooDense count) = codes "TooDense with " ++ (decimal count ++ codes " links")
outcome_text (outcome.Refused n why) = told_of (codes "command") n (refused_text why)
outcome_text (outcome.WriteFault n) = told_of (codes "command") n (codes "WriteFault")
outcome_text outcome.Memory = codes "Memory"

-- the whole line
abbrev pub message_line : Outcome → Text
message_line o = codes "ms_cli: " ++ (outcome_text o ++ codes "\n")
