-- Lines that are offered for outcomes.
use Rattle.std.proofs.Common.{◌≡◌, refl, Some, None, codes}
use Rattle.std.specs.Fmt.{digits}
use Rattle.geojson_io.specs.declared.fault.ShapeWhy.TheVariants.{Range}
use Rattle.topo_io.specs.declared.fault.TopoWhy.TheVariants.{ArcIndex, ArcShort, NotTopology}
use Rattle.topo_io.specs.declared.fault.TopoPlace.TheVariants as place
use Rattle.table_rows.specs.declared.fault.EvalWhy.TheVariants.{Types}
use Rattle.table_rows.specs.declared.fault.TableWhy.TheVariants.{Eval, FieldsDiffer, NoField, NotBoolean}
use Rattle.cmd_words.specs.declared.fault.ExprWhy.TheVariants.{Unsupported}
use Rattle.cmd_words.specs.declared.fault.WordWhy.TheVariants.{BadExpression, BadPrecision}
use Rattle.chain_model.specs.Outcome.{done, bad_words, missing, bad_input, refused, write_fault, too_dense, memory, syntax, shape, topo, no_header, repeated_name, unequal_row, no_layer, lone_layer, in_table}
use Rattle.chain_model.specs.Messages.{message_of}

precision : message_of (bad_words 2 BadPrecision) ≡ Some (codes "ms_cli: word 2: BadPrecision\n")
unfolding digits
precision = refl

expression : message_of (bad_words 3 (BadExpression 2 Unsupported)) ≡ Some (codes "ms_cli: word 3: BadExpression Unsupported at 2\n")
unfolding digits
expression = refl

no_file : message_of (missing 1) ≡ Some (codes "ms_cli: source 1: Missing\n")
unfolding digits
no_file = refl

json : message_of (bad_input 1 (syntax 33)) ≡ Some (codes "ms_cli: source 1: Syntax at 33\n")
unfolding digits
json = refl

position : message_of (bad_input 1 (shape Range 0)) ≡ Some (codes "ms_cli: source 1: Range in feature 0\n")
unfolding digits
position = refl

arc : message_of (bad_input 1 (topo ArcIndex (place.Shape 0 0))) ≡ Some (codes "ms_cli: source 1: ArcIndex in object 0 feature 0\n")
unfolding digits
arc = refl

short : message_of (bad_input 1 (topo ArcShort (place.Arc 3))) ≡ Some (codes "ms_cli: source 1: ArcShort in arc 3\n")
unfolding digits
short = refl

top : message_of (bad_input 1 (topo NotTopology place.Top)) ≡ Some (codes "ms_cli: source 1: NotTopology at top\n")
unfolding digits
top = refl

header : message_of (bad_input 1 no_header) ≡ Some (codes "ms_cli: source 1: NoHeader\n")
unfolding digits
header = refl

name : message_of (bad_input 1 (repeated_name 1)) ≡ Some (codes "ms_cli: source 1: RepeatedName in column 1\n")
unfolding digits
name = refl

row : message_of (bad_input 1 (unequal_row 0)) ≡ Some (codes "ms_cli: source 1: UnequalRow in row 0\n")
unfolding digits
row = refl

dense : message_of (too_dense 8000001) ≡ Some (codes "ms_cli: TooDense with 8000001 links\n")
unfolding digits
dense = refl

layer : message_of (refused 1 no_layer) ≡ Some (codes "ms_cli: command 1: NoLayer\n")
unfolding digits
layer = refl

alone : message_of (refused 1 lone_layer) ≡ Some (codes "ms_cli: command 1: OneLayer\n")
unfolding digits
alone = refl

item : message_of (refused 1 (in_table (NoField 0))) ≡ Some (codes "ms_cli: command 1: NoField item 0\n")
unfolding digits
item = refl

fields : message_of (refused 1 (in_table (FieldsDiffer 1))) ≡ Some (codes "ms_cli: command 1: FieldsDiffer layer 1\n")
unfolding digits
fields = refl

truth : message_of (refused 1 (in_table (NotBoolean 0))) ≡ Some (codes "ms_cli: command 1: NotBoolean in row 0\n")
unfolding digits
truth = refl

value : message_of (refused 1 (in_table (Eval 0 6 Types))) ≡ Some (codes "ms_cli: command 1: Eval Types at 6 in row 0\n")
unfolding digits
value = refl

write : message_of (write_fault 2) ≡ Some (codes "ms_cli: command 2: WriteFault\n")
unfolding digits
write = refl

want : message_of memory ≡ Some (codes "ms_cli: Memory\n")
want = refl

nothing : message_of done ≡ None
nothing = refl
