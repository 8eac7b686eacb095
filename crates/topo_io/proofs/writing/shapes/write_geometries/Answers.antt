use Rattle.std.proofs.Common.{◌<◌, ◌∙◌, ap, ◌++◌, ◌∷◌, [], zip, length, arith}
use Rattle.std.proofs.lemmas.Slice.Zip.{length-zip}
use Rattle.topo_io.specs.Texts.{geometry_text}
use Rattle.geojson_io.proofs.TextLemmas.{written_more, all_shown, pair_at, width_at}
use Rattle.topo_io.proofs.writing.shapes.write_geometries.Goals as goal

pub write_geometry-requires-clause-width : goal.write_geometry-requires-clause-width
write_geometry-requires-clause-width c =
    width_at (length c.args.keys.now) c.args.rows.now c.loop-i.i c.index-rows-i.result c.requires.widths (let l = c.loop-i-test.true in let e = c.requires.count in omega arith) c.index-rows-i.is

pub loop-i-preserved : goal.loop-i-preserved
loop-i-preserved c =
    let rows = c.args.rows.now in
    let shapes = c.args.shapes.now in
    let i = c.loop-i.i in
    let l : i < length shapes = c.loop-i-test.true in
    let m : i < length rows = let e = c.requires.count in omega arith in
    written_more (geometry_text c.args.numbering.now.numbers.items c.args.keys.now) (44 ∷ []) c.loop-i.out c.args.out.now c.write_comma.new.out c.write_geometry.new.out (zip rows shapes) i (c.index-rows-i.result, c.index-shapes-i.result)
    (omega (arith, length-zip rows shapes)) (pair_at rows shapes i c.index-rows-i.result c.index-shapes-i.result m l c.index-rows-i.is c.index-shapes-i.is) c.loop-i.invariant c.in_ok-write_comma.ensures.written c.in_ok-write_geometry.ensures.written

pub returns : goal.returns
returns c =
    let rows = c.args.rows.now in
    let shapes = c.args.shapes.now in
    record { written = c.loop-i.invariant ∙ ap (λ w. c.args.out.now ++ w) (all_shown (geometry_text c.args.numbering.now.numbers.items c.args.keys.now) (44 ∷ []) (zip rows shapes) c.loop-i.i (let l = c.loop-i-test.false in omega (arith, length-zip rows shapes))) }
