use Rattle.std.proofs.Common.{◌∙◌, ap, ◌++◌, ◌∷◌, []}
use Rattle.topo_io.specs.Texts.{object_text}
use Rattle.geojson_io.proofs.TextLemmas.{written_more, all_shown}
use Rattle.topo_io.proofs.writing.write_objects.Goals as goal

pub loop-i-preserved : goal.loop-i-preserved
loop-i-preserved c =
    written_more (object_text c.args.numbering.now.numbers.items) (44 ∷ []) c.loop-i.out c.args.out.now c.write_comma.new.out c.write_object.new.out c.args.layers.now c.loop-i.i c.index-layers-i.result c.loop-i-test.true c.index-layers-i.is c.loop-i.invariant c.in_ok-write_comma.ensures.written c.in_ok-write_object.ensures.written

pub returns : goal.returns
returns c = record { written = c.loop-i.invariant ∙ ap (λ w. c.args.out.now ++ w) (all_shown (object_text c.args.numbering.now.numbers.items) (44 ∷ []) c.args.layers.now c.loop-i.i c.loop-i-test.false) }
