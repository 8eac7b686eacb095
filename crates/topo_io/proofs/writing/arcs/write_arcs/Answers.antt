use Rattle.std.proofs.Common.{◌∙◌, ap, ◌++◌, ◌∷◌, []}
use Rattle.topo_io.specs.Texts.{numbered_arc_text}
use Rattle.geojson_io.proofs.TextLemmas.{written_more, all_shown}
use Rattle.topo_io.proofs.writing.arcs.write_arcs.Goals as goal

pub loop-i-preserved : goal.loop-i-preserved
loop-i-preserved c =
    written_more (numbered_arc_text c.args.arcs.now) (44 ∷ []) c.loop-i.out c.args.out.now c.write_comma.new.out c.write_numbered.new.out c.args.used.now c.loop-i.i c.index-used-i.result c.loop-i-test.true c.index-used-i.is c.loop-i.invariant c.in_ok-write_comma.ensures.written c.in_ok-write_numbered.ensures.written

pub returns : goal.returns
returns c = record { written = c.loop-i.invariant ∙ ap (λ w. c.args.out.now ++ w) (all_shown (numbered_arc_text c.args.arcs.now) (44 ∷ []) c.args.used.now c.loop-i.i c.loop-i-test.false) }
