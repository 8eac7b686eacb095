use Rattle.std.proofs.Common.{◌∙◌, ap, filter, nat_eq}
use Rattle.std.proofs.lemmas.List.{take_all}
use Rattle.lists.specs.Lists.{has}
use Rattle.spatial_join.proofs.JoinLemmas.{both_ways}
use Rattle.spatial_join.proofs.joined.matching.Goals as goal

pub returns : goal.returns
returns c =
    let remaining = c.args.remaining.now in
    let matched = c.args.matched.now in
    record {
      both = c.loop-n.invariant ∙ ap (filter (has nat_eq remaining)) (take_all c.loop-n.n-index matched c.loop-n-test.false)
          ∙ both_ways remaining matched c.requires.remaining c.requires.matched;
    }
