use Rattle.std.proofs.Common.{◌++◌, refl, subst, arith, sym, Contains}
use Rattle.std.specs.List.{flat_map}
use Rattle.plane_model.specs.Points.{Segment}
use Rattle.snap_round.specs.Joining.{steps_after, chain_after}
use Rattle.snap_round.proofs.ChainEnds.{chains_more, chains_all, step_hot}
use Rattle.snap_round.proofs.joining.append_chains.Goals as goal

pub append_step-requires-clause-start : goal.append_step-requires-clause-start
append_step-requires-clause-start c = subst (λ (s : Segment). Contains c.args.hot.now.points s.start) (sym c.new.ensures.made) c.loop-p.invariant.1

pub append_step-requires-clause-stop : goal.append_step-requires-clause-stop
append_step-requires-clause-stop c =
    subst (λ (s : Segment). Contains c.args.hot.now.points s.stop) (sym c.new.ensures.made) (step_hot c.args.hot.now.points c.args.from c.args.rest.now c.loop-p.p-index c.p-item.result c.requires.hot c.loop-p-test.true c.p-item.is)

pub loop-p-preserved : goal.loop-p-preserved
loop-p-preserved c =
    let f = chain_after c.args.hot.now.points in (
      chains_more f (c.args.progress.now.joined ++ flat_map f (steps_after c.args.from c.args.rest.now)) c.loop-p.progress.joined c.append_step.new.progress.joined (f c.new.result) c.loop-p.last c.p-item.result c.new.result c.args.rest.now c.loop-p.p-index (omega arith) c.p-item.is c.loop-p.invariant.0
          c.in_ok-append_step.ensures.ok refl c.new.ensures.made,
      step_hot c.args.hot.now.points c.args.from c.args.rest.now c.loop-p.p-index c.p-item.result c.requires.hot c.loop-p-test.true c.p-item.is,
    )

pub returns : goal.returns
returns c =
    let f = chain_after c.args.hot.now.points in
    record { ok = chains_all f (c.args.progress.now.joined ++ flat_map f (steps_after c.args.from c.args.rest.now)) c.loop-p.progress.joined c.loop-p.last c.args.rest.now c.loop-p.p-index (omega arith) c.loop-p.invariant.0 }
