use Rattle.std.proofs.Common.{◌∙◌, ap, ◌++◌, ◌∷◌, []}
use Rattle.std.proofs.lemmas.Result.{on_ok_weaker}
use Rattle.topo_io.specs.Texts.{rings_text}
use Rattle.geojson_io.proofs.TextLemmas.{written_more, list_written}
use Rattle.topo_io.proofs.writing.shapes.write_polygons.Goals as goal

pub loop-i-preserved : goal.loop-i-preserved
loop-i-preserved c =
    written_more (rings_text c.args.numbering.now.numbers.items) (44 ∷ []) c.loop-i.out c.push.new.self c.write_comma.new.out c.write_paths.new.out c.args.polygons.now c.loop-i.i c.index-polygons-i.result c.loop-i-test.true c.index-polygons-i.is c.loop-i.invariant c.in_ok-write_comma.ensures.written (c.in_ok-write_paths.ensures.written ∙ ap (λ ys. c.write_comma.new.out ++ rings_text c.args.numbering.now.numbers.items ys) c.as_slice.ensures.all)

pub returns : goal.returns
returns c =
    record { written = on_ok_weaker c.push-2.result (λ h. list_written (rings_text c.args.numbering.now.numbers.items) c.args.out.now c.push.new.self c.loop-i.out c.push-2.new.self c.args.polygons.now c.loop-i.i c.loop-i-test.false c.in_ok-push.ensures.ok c.loop-i.invariant h) c.push-2.ensures.ok }
