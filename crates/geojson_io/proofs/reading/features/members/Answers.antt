use Rattle.std.proofs.Common.{◌≡◌, ◌+◌, ◌∙◌, ap, sym, subst, map, List, Err, get_or, arith}
use Rattle.std.proofs.lemmas.Result.{err_from_is_err_and}
use Rattle.json_values.specs.Seen.{json_value}
use Rattle.geojson_io.specs.Features.{numbered, members}
use Rattle.geojson_io.specs.declared.reading.features.Feature.{Feature}
use Rattle.geojson_io.proofs.FeatureLemmas.{IsNumberedTo, one_member_more, member_stops, all_members, fault_passes_on}
use Rattle.geojson_io.proofs.reading.features.members.Goals as goal

pub returns-in_err-feature-clause-fault : goal.returns-in_err-feature-clause-fault
returns-in_err-feature-clause-fault c =
    let p = err_from_is_err_and c.from_residual.result c.from_residual.ensures.1 in
    let read = numbered c.args.kind c.args.places c.args.limit in
    let n = c.loop-item.n in
    let e : n ≡ c.loop-item.item-index = c.loop-item.invariant.0 in
    fault_passes_on (members c.args.kind c.args.places c.args.limit (map json_value c.args.items.now) c.args.left.now) (read (n, json_value c.item-item.result) c.loop-item.left) c.from_residual.result c.in_err-feature.field-0.0
    (p.1 ∙ ap Err p.2) (c.in_err-feature.ensures.read c.loop-item.invariant.1)
    (λ f h. member_stops read c.args.items.now n c.item-item.result c.args.left.now c.loop-item.features.items c.loop-item.left f (let l = c.loop-item-test.true in omega arith) (c.item-item.is ∙ ap (λ m. get_or c.args.items.now m c.item-item.result) (sym e)) c.loop-item.invariant.2 h)

pub loop-item-preserved : goal.loop-item-preserved
loop-item-preserved c =
    let read = numbered c.args.kind c.args.places c.args.limit in
    let n = c.loop-item.n in
    let e : n ≡ c.loop-item.item-index = c.loop-item.invariant.0 in (
      omega arith,
      (let l = c.in_ok-feature.ensures.room in omega arith),
      subst (λ (vs : List Feature). IsNumberedTo read c.args.items.now (n + 1) c.args.left.now vs c.numbered.new.left) (sym c.in_ok-push.ensures.items)
          (one_member_more read c.args.items.now n c.item-item.result c.args.left.now c.loop-item.features.items c.loop-item.left c.in_ok-feature.feature c.numbered.new.left
          (let l = c.loop-item-test.true in omega arith) (c.item-item.is ∙ ap (λ m. get_or c.args.items.now m c.item-item.result) (sym e)) c.loop-item.invariant.2 (c.in_ok-feature.ensures.read c.loop-item.invariant.1)),
    )

pub returns : goal.returns
returns c = record {
  ok = all_members (numbered c.args.kind c.args.places c.args.limit) c.args.items.now c.loop-item.n c.args.left.now c.loop-item.features.items c.loop-item.left (let e = c.loop-item.invariant.0 in let l = c.loop-item-test.false in omega arith) c.loop-item.invariant.2;
  fault = tt;
}
