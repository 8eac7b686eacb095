use Rattle.std.proofs.Common.{◌∙◌, ap, ◌++◌, arith}
use Rattle.std.proofs.lemmas.Result.{on_ok_weaker}
use Rattle.geojson_io.proofs.TextLemmas.{end_of_none, end_of_some}
use Rattle.geojson_io.proofs.writing.end_collection.Goals as goal

pub returns-then-features-eq0 : goal.returns-then-features-eq0
returns-then-features-eq0 c =
    record { written = on_ok_weaker c.extend.result (λ h shapes many. h ∙ ap (λ w. c.args.out.now ++ w) (end_of_none shapes (omega arith))) c.extend.ensures.ok }

pub returns : goal.returns
returns c =
    record { written = on_ok_weaker c.extend-2.result (λ h shapes many. h ∙ ap (λ w. c.args.out.now ++ w) (end_of_some shapes (omega arith))) c.extend-2.ensures.ok }
