use Rattle.std.proofs.Common.{[], ◌∙◌, ap, sym, subst, map, refl, Err}
use Rattle.std.proofs.lemmas.Result.{err_from_is_err_and}
use Rattle.json_values.specs.Seen.{json_value}
use Rattle.plane_model.specs.Points.{Path}
use Rattle.topo_io.specs.Stitching.{stitched, with_arc}
use Rattle.topo_io.proofs.ReadLemmas.{passes_on}
use Rattle.topo_io.proofs.StitchLemmas.{IsStitchedTo, stitched_all, stitched_more, stitched_stops}
use Rattle.topo_io.proofs.reading.stitching.stitched.Goals as goal

pub loop-item-init : goal.loop-item-init
loop-item-init c = subst (λ (path : Path). IsStitchedTo c.args.arcs.now c.args.items.now c.args.left.now 0 path c.args.left.now) (sym c.new-path.ensures.empty) refl

pub returns-in_err-path : goal.returns-in_err-path
returns-in_err-path c =
    let p = err_from_is_err_and c.from_residual.result c.from_residual.ensures.1 in
    record {
      answers = passes_on (stitched c.args.arcs.now [] (map json_value c.args.items.now)) (with_arc c.args.arcs.now (json_value c.item-item.result) c.loop-item.path) c.args.left.now c.loop-item.left c.from_residual.result c.in_err-path.field-0.0 c.with_arc.new.left c.with_arc.new.left
          (p.1 ∙ ap Err p.2) c.in_err-path.ensures.answers
          (λ why e. stitched_stops c.args.arcs.now c.args.items.now c.args.left.now c.loop-item.item-index c.loop-item.path c.loop-item.left c.item-item.result why c.loop-item-test.true c.item-item.is c.loop-item.invariant e);
    }

pub loop-item-preserved : goal.loop-item-preserved
loop-item-preserved c =
    stitched_more c.args.arcs.now c.args.items.now c.args.left.now c.loop-item.item-index c.loop-item.path c.loop-item.left c.item-item.result c.in_ok-path.path c.with_arc.new.left
    c.loop-item-test.true c.item-item.is c.loop-item.invariant c.in_ok-path.ensures.answers

pub returns : goal.returns
returns c = record { answers = stitched_all c.args.arcs.now c.args.items.now c.args.left.now c.loop-item.item-index c.loop-item.path c.loop-item.left c.loop-item-test.false c.loop-item.invariant }
