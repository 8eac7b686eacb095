-- The texts of outcomes, as a run and as the model of a run tell them.
use Rattle.std.proofs.Common.{◌≡◌, ◌⊎◌, inl, inr, refl, sym, ap, ◌∙◌, ℕ, List, ◌++◌, codes, decimal, take, drop, Option, Some, None, MatchOption, append_assoc, subst}
use Rattle.std.proofs.lemmas.List.{take-append-drop}
use Rattle.std.specs.Io.KnownBytes.{Appends, Keeps}
use Rattle.io_core.specs.Counts.{Rose}
use Rattle.io_core.specs.Contents.{Content}
use Rattle.geojson_io.specs.declared.fault.ShapeWhy.{ShapeWhy}
use Rattle.geojson_io.specs.declared.fault.ShapeWhy.TheVariants as shape
use Rattle.topo_io.specs.declared.fault.TopoWhy.{TopoWhy}
use Rattle.topo_io.specs.declared.fault.TopoWhy.TheVariants as topo
use Rattle.topo_io.specs.declared.fault.TopoPlace.{TopoPlace}
use Rattle.topo_io.specs.declared.fault.TopoPlace.TheVariants as place
use Rattle.table_rows.specs.declared.fault.EvalWhy.TheVariants as eval
use Rattle.table_rows.specs.declared.fault.TableWhy.{TableWhy}
use Rattle.table_rows.specs.declared.fault.TableWhy.TheVariants as table
use Rattle.cmd_words.specs.declared.fault.ExprWhy.TheVariants as expr
use Rattle.cmd_words.specs.declared.fault.WordWhy.{WordWhy}
use Rattle.cmd_words.specs.declared.fault.WordWhy.TheVariants as word
use Rattle.run_sources.specs.declared.fault.InputWhy.{InputWhy}
use Rattle.run_sources.specs.declared.fault.InputWhy.TheVariants as input
use Rattle.run_state.specs.declared.refusal.RefuseWhy.{RefuseWhy}
use Rattle.run_state.specs.declared.refusal.RefuseWhy.TheVariants as refuse
use Rattle.run_outcome.specs.Messages as run
use Rattle.run_outcome.specs.Telling.{StreamSeen, Offers}
use Rattle.run_outcome.specs.declared.outcome.Outcome.{Outcome}
use Rattle.run_outcome.specs.declared.outcome.Outcome.TheVariants as end
use Rattle.chain_model.specs.Messages as model
use Rattle.layer_laws.specs.Reasons.{why_of}
use Rattle.headline_laws.specs.ToldSources.{input_as}
use Rattle.headline_laws.specs.Outcomes.{outcome_as}
use Rattle.headline_laws.specs.Messages.{MessagesAreOfTheModel, messages_of}

-- ## Kinds

words_same : (why : WordWhy) → model.word_kind why ≡ run.word_kind why
words_same word.NoInput = refl
words_same word.UnknownCommand = refl
words_same word.UnknownOption = refl
words_same word.OptionTwice = refl
words_same word.MissingValue = refl
words_same word.MissingArgument = refl
words_same word.ExtraWord = refl
words_same word.UnsupportedFile = refl
words_same word.BadNumber = refl
words_same word.BadChoice = refl
words_same word.BadPrecision = refl
words_same word.BadBox = refl
words_same word.BoxRange = refl
words_same (word.BadExpression at expr.Syntax) = refl
words_same (word.BadExpression at expr.Unsupported) = refl
words_same (word.BadExpression at expr.Depth) = refl
words_same word.LaterImport = refl
words_same word.TooManyWords = refl

shapes_same : (why : ShapeWhy) → model.shape_kind why ≡ run.shape_kind why
shapes_same shape.NotGeo = refl
shapes_same shape.Collection = refl
shapes_same shape.RingOpen = refl
shapes_same shape.RingShort = refl
shapes_same shape.LineShort = refl
shapes_same shape.BadPosition = refl
shapes_same shape.Range = refl
shapes_same shape.TooManyPositions = refl
shapes_same shape.TooManyFeatures = refl

topologies_same : (why : TopoWhy) → model.topo_kind why ≡ run.topo_kind why
topologies_same topo.NotTopology = refl
topologies_same topo.ArcIndex = refl
topologies_same topo.ArcShort = refl
topologies_same topo.Unstitched = refl
topologies_same topo.BadPosition = refl
topologies_same topo.TransformRange = refl
topologies_same topo.RingOpen = refl
topologies_same topo.Range = refl
topologies_same topo.Collection = refl
topologies_same topo.TooManyPositions = refl
topologies_same topo.TooManyFeatures = refl

places_same : (at : TopoPlace) → codes " " ++ model.topo_place at ≡ run.topo_place at
places_same place.Top = refl
places_same (place.Arc n) = refl
places_same (place.Shape object feature) = refl

-- ## With their places

inputs_same : (why : InputWhy) → model.input_text (input_as why) ≡ run.input_text why
inputs_same (input.Syntax at) = refl
inputs_same (input.Depth at) = refl
inputs_same (input.Utf8 at) = refl
inputs_same (input.Shape why feature) =
    append_assoc (model.shape_kind why ++ codes " in feature") (codes " ") (decimal feature)
    ∙ append_assoc (model.shape_kind why) (codes " in feature") (codes " " ++ decimal feature)
    ∙ ap (λ (kind : List ℕ). kind ++ (codes " in feature " ++ decimal feature)) (shapes_same why)
inputs_same (input.Topo why at) =
    append_assoc (model.topo_kind why) (codes " ") (model.topo_place at)
    ∙ ap (λ (kind : List ℕ). kind ++ (codes " " ++ model.topo_place at)) (topologies_same why)
    ∙ ap (λ (text : List ℕ). run.topo_kind why ++ text) (places_same at)
inputs_same input.NoHeader = refl
inputs_same (input.RepeatedName column) = refl
inputs_same (input.TooManyRows row) = refl
inputs_same (input.UnequalRow row) = refl

tables_same : (why : TableWhy) → model.table_text why ≡ run.table_text why
tables_same (table.NoField item) = refl
tables_same (table.FieldTwice item) = refl
tables_same (table.FieldsDiffer layer) = refl
tables_same (table.NotBoolean row) = refl
tables_same (table.NotNumber row) = refl
tables_same (table.SumRange row) = refl
tables_same (table.Eval row at eval.Unknown) = refl
tables_same (table.Eval row at eval.Types) = refl
tables_same (table.Eval row at eval.Range) = refl

refusals_same : (why : RefuseWhy) → model.refused_text (why_of why) ≡ run.refused_text why
refusals_same refuse.NoLayer = refl
refusals_same refuse.ManyLayers = refl
refusals_same refuse.WrongKind = refl
refusals_same refuse.OneLayer = refl
refusals_same refuse.NoGroupPoints = refl
refusals_same refuse.NameTwice = refl
refusals_same refuse.TooManyLayers = refl
refusals_same (refuse.Table why) = tables_same why

-- ## Lines

-- a kind with its number, and what is said of it
told_same : (kind : List ℕ) (n : ℕ) (said other : List ℕ) → said ≡ other → model.told_of kind n said ≡ run.told_of kind n other
told_same kind n said other same =
    ap (λ (text : List ℕ). model.told_of kind n text) same
    ∙ ap (λ (front : List ℕ). front ++ other) (append_assoc (kind ++ codes " ") (decimal n) (codes ": ") ∙ append_assoc kind (codes " ") (decimal n ++ codes ": "))

abbrev whole_line : List ℕ → Option (List ℕ)
whole_line text = Some (codes "ms_cli: " ++ (text ++ codes "\n"))

-- what is offered for an outcome other than Done
abbrev Offered : Outcome → Type 0
Offered o = model.message_of (outcome_as o) ≡ Some (run.message_line o)

bad_words_offered : (n : ℕ) (why : WordWhy) → Offered (end.BadWords n why)
bad_words_offered n why = ap whole_line (told_same (codes "word") n (model.word_kind why) (run.word_kind why) (words_same why))

read_fault_offered : (n : ℕ) → Offered (end.ReadFault n)
read_fault_offered n = ap whole_line (told_same (codes "source") n (codes "ReadFault") (codes "ReadFault") refl)

missing_offered : (n : ℕ) → Offered (end.Missing n)
missing_offered n = ap whole_line (told_same (codes "source") n (codes "Missing") (codes "Missing") refl)

too_long_offered : (n : ℕ) → Offered (end.TooLong n)
too_long_offered n = ap whole_line (told_same (codes "source") n (codes "TooLong") (codes "TooLong") refl)

bad_input_offered : (n : ℕ) (why : InputWhy) → Offered (end.BadInput n why)
bad_input_offered n why = ap whole_line (told_same (codes "source") n (model.input_text (input_as why)) (run.input_text why) (inputs_same why))

refused_offered : (n : ℕ) (why : RefuseWhy) → Offered (end.Refused n why)
refused_offered n why = ap whole_line (told_same (codes "command") n (model.refused_text (why_of why)) (run.refused_text why) (refusals_same why))

write_fault_offered : (n : ℕ) → Offered (end.WriteFault n)
write_fault_offered n = ap whole_line (told_same (codes "command") n (codes "WriteFault") (codes "WriteFault") refl)

-- ## Streams

-- the stream took the line, or a first part of it where its count rose
abbrev Took : StreamSeen → StreamSeen → List ℕ → Type 0
Took before after line = Appends before.told after.told line ⊎ (Rose before.faults after.faults × model.TookPart line before.told after.told)

took : (line : List ℕ) (before after : StreamSeen) → Offers line before after → Took before after line
took line before after (inl whole) = inl whole
took line before after (inr cut) = inr (cut.0, (take cut.1.count line, drop cut.1.count line, take-append-drop cut.1.count line, cut.1.added))

offered : (o : Outcome) (before after : StreamSeen) → Offered o → Offers (run.message_line o) before after → model.TellsOutcome (outcome_as o) (messages_of before) (messages_of after)
offered o before after same offers = subst (λ (m : Option (List ℕ)). MatchOption m (Keeps before.told after.told) (Took before after)) (sym same) (took (run.message_line o) before after offers)

nothing_told : (before after : Option Content) → after ≡ before → Keeps before after
nothing_told None after e = tt
nothing_told (Some a) None e = absurd (cc)
nothing_told (Some a) (Some b) e =
    let same : b ≡ a = cc in
    same

pub messages : MessagesAreOfTheModel
messages end.Done before after told = nothing_told before.told after.told (ap (λ (s : StreamSeen). s.told) told)
messages (end.BadWords n why) before after told = offered (end.BadWords n why) before after (bad_words_offered n why) told
messages (end.ReadFault n) before after told = offered (end.ReadFault n) before after (read_fault_offered n) told
messages (end.Missing n) before after told = offered (end.Missing n) before after (missing_offered n) told
messages (end.TooLong n) before after told = offered (end.TooLong n) before after (too_long_offered n) told
messages (end.BadInput n why) before after told = offered (end.BadInput n why) before after (bad_input_offered n why) told
messages (end.TooDense count) before after told = offered (end.TooDense count) before after refl told
messages (end.Refused n why) before after told = offered (end.Refused n why) before after (refused_offered n why) told
messages (end.WriteFault n) before after told = offered (end.WriteFault n) before after (write_fault_offered n) told
messages end.Memory before after told = offered end.Memory before after refl told
