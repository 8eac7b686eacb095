use Rattle.std.proofs.Common.{◌∙◌, sym, subst, ◌+◌, List, ℕ, take}
use Rattle.std.proofs.lemmas.List.{take_all}
use Rattle.plane_model.specs.Points.{Path}
use Rattle.spatial_join.specs.Matches.{AreMatchedPoints, AreSetsAt}
use Rattle.spatial_join.proofs.MatchLemmas.{matched_below, matched_each, matched_rise, zip_more}
use Rattle.spatial_join.proofs.matches.match_points.Goals as goal

pub loop-list-preserved : goal.loop-list-preserved
loop-list-preserved c =
    let arcs = c.args.t.now in
    let f = c.args.f.now in
    let sets = c.args.sets.now in
    let lists = c.as_slice-list-items.result.now in
    let i = c.loop-list.list-index in
    let list = c.list-item.result in
    let matched = c.in_ok-sets_at.field-0 in
    let one : AreSetsAt arcs f sets list matched =
    subst (λ (points : Path). AreSetsAt arcs f sets points matched) c.as_slice.ensures.all (c.in_ok-sets_at.ensures.exact sets c.in_ok-owners.ensures.exact) in
    subst (λ (ms : List (List ℕ)). AreMatchedPoints arcs f (take (i + 1) lists) sets ms) (sym c.in_ok-push.ensures.ok)
    (zip_more (AreSetsAt arcs f sets) lists c.loop-list.matches i list list matched c.loop-list-test.true c.list-item.is c.loop-list.invariant one)

pub returns-clause-exact : goal.returns-clause-exact
returns-clause-exact c =
    let lists = c.as_slice-list-items.result.now in
    subst (λ (points : List Path). AreMatchedPoints c.args.t.now c.args.f.now points c.args.sets.now c.loop-list.matches) (take_all c.loop-list.list-index lists c.loop-list-test.false ∙ c.as_slice-list-items.ensures.all) c.loop-list.invariant

pub returns-clause-each : goal.returns-clause-each
returns-clause-each c = matched_each c.args.t.now c.args.f.now c.args.points.now c.args.sets.now c.loop-list.matches (returns-clause-exact c)

pub returns-clause-ascending : goal.returns-clause-ascending
returns-clause-ascending c = matched_rise c.args.t.now c.args.f.now c.args.points.now c.args.sets.now c.loop-list.matches (returns-clause-exact c)

pub returns-clause-numbers : goal.returns-clause-numbers
returns-clause-numbers c = matched_below c.args.t.now c.args.f.now c.args.points.now c.args.sets.now c.loop-list.matches (returns-clause-exact c)
