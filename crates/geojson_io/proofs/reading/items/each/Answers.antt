use Rattle.std.proofs.Common.{◌+◌, ◌∙◌, ap, sym, subst, map, Err}
use Rattle.std.proofs.lemmas.Result.{err_from_is_err_and}
use Rattle.json_values.specs.Seen.{json_value}
use Rattle.geojson_io.specs.Reads.{each}
use Rattle.geojson_io.proofs.ReadLemmas.{IsReadTo, passes_on, item_stops, one_item_more}
use Rattle.geojson_io.proofs.reading.items.each.Goals as goal

pub returns-in_err-item : goal.returns-in_err-item
returns-in_err-item g c =
    let p = err_from_is_err_and c.from_residual.result c.from_residual.ensures.1 in
    let read = g.R.ReadItem.read c.args.places in
    record {
      answers = passes_on (each read (map json_value c.args.items.now)) (read (json_value c.json-item.result)) c.args.left.now c.loop-json.left c.from_residual.result c.in_err-item.field-0.0 c.read_item.new.left c.read_item.new.left
          (p.1 ∙ ap Err p.2) c.in_err-item.ensures.answers
          (λ why e. item_stops read c.args.items.now c.loop-json.json-index c.json-item.result c.args.left.now c.loop-json.list c.loop-json.left why c.loop-json-test.true c.json-item.is c.loop-json.invariant e);
    }

pub loop-json-preserved : goal.loop-json-preserved
loop-json-preserved g c =
    let read = g.R.ReadItem.read c.args.places in
    subst (λ vs. IsReadTo read c.args.items.now (c.loop-json.json-index + 1) c.args.left.now vs c.read_item.new.left) (sym c.in_ok-push.ensures.ok)
    (one_item_more read c.args.items.now c.loop-json.json-index c.json-item.result c.args.left.now c.loop-json.list c.loop-json.left c.in_ok-item.item c.read_item.new.left
    c.loop-json-test.true c.json-item.is c.loop-json.invariant c.in_ok-item.ensures.answers)
