use Rattle.std.proofs.Common.{ℕ, ◌∙◌, All, ap, sym, subst, List, Err, arith}
use Rattle.std.proofs.lemmas.List.Elements.{All-nil}
use Rattle.std.proofs.lemmas.Result.{err_from_is_err_and}
use Rattle.json_values.specs.Json.{JsonValue}
use Rattle.json_values.specs.Lists.{fields_list}
use Rattle.json_values.specs.Seen.{json_value}
use Rattle.geojson_io.specs.LayerContent.{LayerContent}
use Rattle.geojson_io.specs.Sound.{LayerIsSound}
use Rattle.topo_io.proofs.ObjectLemmas.{AreLayersTo, all_layers, no_layers, numbers_at, object_more, object_stops}
use Rattle.topo_io.specs.Topologies.{layers_of_members, object_features}
use Rattle.topo_io.proofs.ReadLemmas.{at_fault, fault_passes_on}
use Rattle.topo_io.proofs.reading.objects.layers_of_objects.Goals as goal

pub loop-object-init : goal.loop-object-init
loop-object-init c = (
  omega arith,
  subst (λ (ls : List LayerContent). All LayerIsSound ls) (sym c.new-layers.ensures.empty) (All-nil LayerIsSound),
  subst (λ (ls : List LayerContent). AreLayersTo c.args.topology.now c.args.room.features (fields_list c.args.objects.now) c.args.room.positions 0 0 ls c.args.room.positions) (sym c.new-layers.ensures.empty)
      (no_layers c.args.topology.now c.args.room.features (fields_list c.args.objects.now) c.args.room.positions),
)

pub loop-object-preserved : goal.loop-object-preserved
loop-object-preserved c = (
  c.in_ok-count.ensures.room,
  c.in_ok-count.ensures.sound,
  object_more c.args.topology.now c.args.room.features (fields_list c.args.objects.now) c.args.room.positions c.loop-object.object c.loop-object.before c.loop-object.layers c.loop-object.left (c.in-Some.name.now, json_value c.in-Some.json.now) _ _ _
      c.in-Some.ensures.exact c.loop-object.invariant.2 c.in_ok-count.ensures.ok,
)

pub returns : goal.returns
returns c = record {
  read = all_layers c.args.topology.now c.args.room.features c.args.objects.now c.args.room.positions c.loop-object.object c.loop-object.before c.loop-object.layers c.loop-object.left (let t = c.loop-object-test.false in let n = c.len-object-end.ensures.count in omega arith) c.loop-object.invariant.2;
  sound = c.loop-object.invariant.1;
}

pub returns-in_err-count-clause-read : goal.returns-in_err-count-clause-read
returns-in_err-count-clause-read c =
    let p = err_from_is_err_and c.from_residual.result c.from_residual.ensures.1 in
    let t = c.args.topology.now in
    let m : List ℕ × JsonValue = (c.in-Some.name.now, json_value c.in-Some.json.now) in
    let whole = layers_of_members t c.args.room.positions c.args.room.features c.args.objects.now in
    at_fault whole c.from_residual.result c.in_err-count.field-0.0 (p.1 ∙ ap Err p.2)
    (fault_passes_on whole (object_features t (numbers_at c.loop-object.object c.loop-object.before c.args.room.features) (json_value c.in-Some.json.now) c.loop-object.left) c.in_err-count.field-0.0 c.in_err-count.ensures.fault
    (λ f h. object_stops t c.args.room.features c.args.objects.now c.args.room.positions c.loop-object.object c.loop-object.before c.loop-object.layers c.loop-object.left m f c.in-Some.ensures.exact c.loop-object.invariant.2 h))
