use Rattle.std.proofs.Common.{◌+◌, ◌∙◌, ap, sym, subst, List, Err}
use Rattle.std.proofs.lemmas.Result.{err_from_is_err_and}
use Rattle.plane_model.specs.Points.{GridPoint}
use Rattle.topo_io.specs.Positions.{no_sums, position_after}
use Rattle.topo_io.specs.Reads.{AnswersPlain}
use Rattle.topo_io.proofs.ReadLemmas.{IsAlongTo, along_all, along_more, along_none, along_stops}
use Rattle.topo_io.proofs.reading.arcs.each_position.Goals as goal

pub loop-item-init : goal.loop-item-init
loop-item-init c = subst (λ (ps : List GridPoint). IsAlongTo (position_after c.args.frame.now) c.args.items.now no_sums 0 ps no_sums) (sym c.new-path.ensures.empty) (along_none (position_after c.args.frame.now) c.args.items.now no_sums)

pub returns-in_err-next : goal.returns-in_err-next
returns-in_err-next c =
    let p = err_from_is_err_and c.from_residual.result c.from_residual.ensures.1 in
    record {
      answers = subst (AnswersPlain _) (sym (p.1 ∙ ap Err p.2))
          (along_stops (position_after c.args.frame.now) c.args.items.now no_sums c.loop-item.item-index c.loop-item.path c.loop-item.sums c.item-item.result c.in_err-next.field-0.0
          c.loop-item-test.true c.item-item.is c.loop-item.invariant (sym c.in_err-next.ensures.exact));
    }

pub loop-item-preserved : goal.loop-item-preserved
loop-item-preserved c =
    subst (λ (ps : List GridPoint). IsAlongTo (position_after c.args.frame.now) c.args.items.now no_sums (c.loop-item.item-index + 1) ps c.in_ok-next.next.1) (sym c.in_ok-push.ensures.ok)
    (along_more (position_after c.args.frame.now) c.args.items.now no_sums c.loop-item.item-index c.loop-item.path c.loop-item.sums c.item-item.result c.in_ok-next.next
    c.loop-item-test.true c.item-item.is c.loop-item.invariant (sym c.in_ok-next.ensures.exact))

pub returns : goal.returns
returns c = record { answers = along_all (position_after c.args.frame.now) c.args.items.now no_sums c.loop-item.item-index c.loop-item.path c.loop-item.sums c.loop-item-test.false c.loop-item.invariant }
