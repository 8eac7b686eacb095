use Rattle.std.proofs.Common.{◌≡◌, ℕ, ◌+◌, ◌++◌, ◌∷◌, [], ◌∙◌, ap, sym, subst, length, length-append, map, arith, List, Ok, Err}
use Rattle.json_values.specs.Seen.{json_value}
use Rattle.plane_model.specs.Points.{Path}
use Rattle.geojson_io.specs.Reads.{on_ok}
use Rattle.topo_io.specs.Reads.{along, in_place}
use Rattle.topo_io.specs.Stitching.{arc, before_next, numbered_arc}
use Rattle.topo_io.specs.declared.fault.TopoPlace.TheVariants.{Arc}
use Rattle.topo_io.proofs.ReadLemmas.{IsAlongTo, along_all, along_more, along_none, along_stops, stops_at}
use Rattle.topo_io.proofs.reading.arcs.each_arc.Goals as goal

pub loop-item-init : goal.loop-item-init
loop-item-init c = subst (λ (ps : List Path). IsAlongTo (numbered_arc c.args.frame.now) c.args.items.now 0 0 ps (length ps)) (sym c.new-arcs.ensures.empty) (along_none (numbered_arc c.args.frame.now) c.args.items.now 0)

pub returns : goal.returns
returns c = record { answers = along_all (numbered_arc c.args.frame.now) c.args.items.now 0 c.loop-item.item-index c.loop-item.arcs (length c.loop-item.arcs) c.loop-item-test.false c.loop-item.invariant }

pub loop-item-preserved : goal.loop-item-preserved
loop-item-preserved c =
    let p : Path × ℕ = (c.in-Ok.path, length c.loop-item.arcs + 1) in
    let read : numbered_arc c.args.frame.now (json_value c.item-item.result) (length c.loop-item.arcs) ≡ Ok p = ap (λ r. on_ok (in_place (Arc (length c.loop-item.arcs)) r) (before_next (length c.loop-item.arcs))) c.in-Ok.ensures.answers in
    let count : length (c.loop-item.arcs ++ c.in-Ok.path ∷ []) ≡ length c.loop-item.arcs + 1 = omega (arith, length-append c.loop-item.arcs (c.in-Ok.path ∷ [])) in
    subst (λ (ps : List Path). IsAlongTo (numbered_arc c.args.frame.now) c.args.items.now 0 (c.loop-item.item-index + 1) ps (length ps)) (sym c.in_ok-push-in-Ok.ensures.ok)
    (subst (λ (n : ℕ). IsAlongTo (numbered_arc c.args.frame.now) c.args.items.now 0 (c.loop-item.item-index + 1) (c.loop-item.arcs ++ c.in-Ok.path ∷ []) n) (sym count)
    (along_more (numbered_arc c.args.frame.now) c.args.items.now 0 c.loop-item.item-index c.loop-item.arcs (length c.loop-item.arcs) c.item-item.result p
    c.loop-item-test.true c.item-item.is c.loop-item.invariant read))

pub returns-in-Err : goal.returns-in-Err
returns-in-Err c =
    let n = length c.loop-item.arcs in
    record {
      answers = stops_at (along (numbered_arc c.args.frame.now) (map json_value c.args.items.now) 0) (arc c.args.frame.now (json_value c.item-item.result)) (Arc c.len.result) c.in-Err.stop c.at.result c.in-Err.ensures.answers c.at.ensures.exact
          (λ why e. along_stops (numbered_arc c.args.frame.now) c.args.items.now 0 c.loop-item.item-index c.loop-item.arcs n c.item-item.result (why, Arc n) c.loop-item-test.true c.item-item.is c.loop-item.invariant
          (ap (λ r. on_ok (in_place (Arc n) r) (before_next n)) e)
          ∙ ap (λ (m : ℕ). Err (why, Arc m)) (sym c.len.ensures.count));
    }
