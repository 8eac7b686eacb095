use Rattle.std.proofs.Common.{◌∙◌, subst, sym}
use Rattle.snap_round.specs.Joining.{AreChainsOf}
use Rattle.snap_round.proofs.ChainEnds.{chains_of_slice, hot_slice}
use Rattle.snap_round.proofs.joining.joined_chains.Goals as goal

pub returns : goal.returns
returns c =
    record {
      made = subst (AreChainsOf c.args.hot.now.points c.args.path.now) (sym (c.in_ok-exact.ensures.same ∙ c.as_slice.ensures.all))
          (chains_of_slice c.args.hot.now.points c.args.path.now c.clear.new.self c.push.new.self c.append_chains.new.progress.joined c.index-path-0.result c.index-path-0-2.result c.requires c.index-path-0.is c.index-path-0-2.is
          c.clear.ensures.empty c.in_ok-push.ensures.ok c.in_ok-append_chains.ensures.ok);
    }

pub append_chains-requires : goal.append_chains-requires
append_chains-requires c = record { hot = hot_slice c.args.hot.now.points c.args.path.now c.index-path-0-2.result c.requires c.index-path-0-2.is }
