use Rattle.std.proofs.Common.{◌≡◌, ℕ, [], ◌∷◌, length-append, ◌+◌, ◌∙◌, All, ap, sym, subst, map, length, List, Err, get_or, arith}
use Rattle.std.proofs.lemmas.List.Elements.{All-push}
use Rattle.std.proofs.lemmas.Result.{err_from_is_err_and}
use Rattle.json_values.specs.Seen.{json_value}
use Rattle.geojson_io.specs.declared.reading.features.Feature.{Feature}
use Rattle.geojson_io.proofs.FeatureLemmas.{IsNumberedTo, member_stops, one_member_more}
use Rattle.geojson_io.specs.Sound.{FeatureIsSound}
use Rattle.topo_io.specs.Topologies.{features, numbered_feature}
use Rattle.topo_io.proofs.ReadLemmas.{err_fault, fault_passes_on}
use Rattle.topo_io.proofs.reading.features.features_of.Goals as goal

pub returns-in_err-feature-clause-fault : goal.returns-in_err-feature-clause-fault
returns-in_err-feature-clause-fault c =
    let p = err_from_is_err_and c.from_residual.result c.from_residual.ensures.1 in
    let read = numbered_feature c.args.topology.now c.args.numbers in
    let n = c.loop-item.n in
    let e : n ≡ c.loop-item.item-index = c.loop-item.invariant.0 in
    err_fault (features c.args.topology.now c.args.numbers (map json_value c.args.items.now) c.args.left.now) c.from_residual.result c.in_err-feature.field-0.0 (p.1 ∙ ap Err p.2)
    (fault_passes_on (features c.args.topology.now c.args.numbers (map json_value c.args.items.now) c.args.left.now) (read (n, json_value c.item-item.result) c.loop-item.left) c.in_err-feature.field-0.0 c.in_err-feature.ensures.read
    (λ f h. member_stops read c.args.items.now n c.item-item.result c.args.left.now c.loop-item.features.items c.loop-item.left f (let l = c.loop-item-test.true in omega arith) (c.item-item.is ∙ ap (λ m. get_or c.args.items.now m c.item-item.result) (sym e)) c.loop-item.invariant.4 h))

pub loop-item-preserved : goal.loop-item-preserved
loop-item-preserved c =
    let read = numbered_feature c.args.topology.now c.args.numbers in
    let n = c.loop-item.n in
    let e : n ≡ c.loop-item.item-index = c.loop-item.invariant.0 in (
      omega arith,
      ap (λ (m : ℕ). m + 1) c.loop-item.invariant.1 ∙ sym (ap length c.in_ok-push.ensures.items ∙ length-append c.loop-item.features.items (c.in_ok-feature.feature ∷ [])),
      (let l = c.in_ok-feature.ensures.room in omega arith),
      subst (λ (fs : List Feature). All FeatureIsSound fs) (sym c.in_ok-push.ensures.items) (All-push FeatureIsSound c.loop-item.features.items c.in_ok-feature.feature c.loop-item.invariant.3 c.in_ok-feature.ensures.sound),
      subst (λ (vs : List Feature). IsNumberedTo read c.args.items.now (n + 1) c.args.left.now vs c.numbered.new.left) (sym c.in_ok-push.ensures.items)
          (one_member_more read c.args.items.now n c.item-item.result c.args.left.now c.loop-item.features.items c.loop-item.left c.in_ok-feature.feature c.numbered.new.left
          (let l = c.loop-item-test.true in omega arith) (c.item-item.is ∙ ap (λ m. get_or c.args.items.now m c.item-item.result) (sym e)) c.loop-item.invariant.4 c.in_ok-feature.ensures.read),
    )
