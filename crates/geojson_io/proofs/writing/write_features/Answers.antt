use Rattle.std.proofs.Common.{◌<◌, ◌∙◌, ap, ◌++◌, ◌∷◌, [], length, take, sym, arith}
use Rattle.std.proofs.lemmas.List.{take_more, take_all, length-take-le}
use Rattle.geojson_io.specs.Texts.{features_text}
use Rattle.geojson_io.proofs.TextLemmas.{feature_more, no_features, width_at}
use Rattle.geojson_io.proofs.writing.write_features.Goals as goal

pub write_next_feature-requires-clause-width : goal.write_next_feature-requires-clause-width
write_next_feature-requires-clause-width c =
    width_at (length c.args.keys.now) c.args.rows.now c.loop-i.i c.index-rows-i.result c.requires.widths (let l = c.loop-i-test.true in let e = c.requires.count in omega arith) c.index-rows-i.is

pub loop-i-init : goal.loop-i-init
loop-i-init c = no_features c.args.places c.args.keys.now c.args.rows.now c.args.out.now

pub loop-i-preserved : goal.loop-i-preserved
loop-i-preserved c =
    let rows = c.args.rows.now in
    let shapes = c.args.shapes.now in
    let i = c.loop-i.i in
    let shape = c.index-shapes-i.result in
    let l : i < length shapes = c.loop-i-test.true in
    let m : i < length rows = let e = c.requires.count in omega arith in
    feature_more c.args.places c.args.keys.now rows (take i shapes) c.index-rows-i.result shape i c.args.out.now c.loop-i.out c.write_next_feature.new.out
    (length-take-le i shapes (omega arith)) m c.index-rows-i.is c.loop-i.invariant c.in_ok-write_next_feature.ensures.written
    ∙ ap (λ ss. c.args.out.now ++ features_text c.args.places c.args.keys.now rows ss) (ap (λ s. take i shapes ++ s ∷ []) c.index-shapes-i.is ∙ sym (take_more shapes i shape l))

pub returns : goal.returns
returns c =
    let shapes = c.args.shapes.now in
    record { written = c.loop-i.invariant ∙ ap (λ ss. c.args.out.now ++ features_text c.args.places c.args.keys.now c.args.rows.now ss) (take_all c.loop-i.i shapes c.loop-i-test.false) }
