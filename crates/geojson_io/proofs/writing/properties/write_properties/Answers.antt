use Rattle.std.proofs.Common.{◌<◌, ◌∙◌, ap, ◌∷◌, [], zip, length, get_or, arith}
use Rattle.std.proofs.lemmas.Result.{on_ok_weaker}
use Rattle.std.proofs.lemmas.Slice.Zip.{length-zip}
use Rattle.geojson_io.specs.Texts.{member_text}
use Rattle.geojson_io.proofs.TextLemmas.{written_more, pair_at, properties_written}
use Rattle.geojson_io.proofs.writing.properties.write_properties.Goals as goal

pub loop-i-preserved : goal.loop-i-preserved
loop-i-preserved c =
    let keys = c.args.keys.now in
    let row = c.args.row.now in
    let i = c.loop-i.i in
    let k = c.index-keys-i.result in
    let v = c.index-values-i.result in
    let l : i < length keys = c.loop-i-test.true in
    let m : i < length row = let e = c.requires in omega arith in
    written_more member_text (44 ∷ []) c.loop-i.out c.push.new.self c.write_comma.new.out c.write_member.new.out (zip keys row) i (k, v) (omega (arith, length-zip keys row))
    (pair_at keys row i k v l m c.index-keys-i.is (c.index-values-i.is ∙ ap (λ xs. get_or xs i v) c.as_slice-values.ensures.all)) c.loop-i.invariant c.in_ok-write_comma.ensures.written c.in_ok-write_member.ensures.written

pub returns : goal.returns
returns c =
    let keys = c.args.keys.now in
    let row = c.args.row.now in
    record {
      written = on_ok_weaker c.push-2.result (λ h.
          properties_written keys row c.args.out.now c.push.new.self c.loop-i.out c.push-2.new.self c.loop-i.i (omega arith) (let l = c.loop-i-test.false in omega (arith, length-zip keys row)) c.in_ok-push.ensures.ok c.loop-i.invariant h) c.push-2.ensures.ok;
    }
