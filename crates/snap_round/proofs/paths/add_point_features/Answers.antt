use Rattle.std.proofs.Common.{◌≡◌, ◌<◌, ◌+◌, ◌++◌, ◌∙◌, sym, subst, ℕ, length, take, get_or, [], ◌∷◌, Some}
use Rattle.std.specs.List.{slice_get}
use Rattle.std.proofs.lemmas.Option.{get_or_from_slice_get, slice_get_within}
use Rattle.snap_round.specs.Paths.{with_points}
use Rattle.snap_round.proofs.LastLemmas.{in_new, put_more, taken_more}
use Rattle.snap_round.proofs.paths.add_point_features.Goals as goal

pub loop-f-preserved : goal.loop-f-preserved
loop-f-preserved c =
    let before = c.args.out.now in
    let items = c.points_of-points.result.now in
    let all = c.args.d.now.points in
    let found : slice_get all c.loop-f.f ≡ Some items = subst (λ (n : ℕ). slice_get all n ≡ Some items) c.new.ensures.made c.points_of-points.ensures.found in
    let is : items ≡ get_or all c.loop-f.f items = sym (get_or_from_slice_get all c.loop-f.f items items found) in
    let within : c.loop-f.f < length all = slice_get_within all c.loop-f.f items found in
    let grown : c.add_feature.new.self ≡ record c.loop-f.out { points = c.loop-f.out.points ++ [] ∷ [] } = λ i. (c.in_ok-add_feature.ensures.ok i).1 in
    c.in_ok-add_points.ensures.ok
    ∙ (λ i. with_points (c.as_slice.ensures.all i) (grown i))
    ∙ (λ i. with_points items (record (c.loop-f.invariant i) { points = (c.loop-f.invariant i).points ++ [] ∷ [] }))
    ∙ (λ i. record before { points = (in_new items (before.points ++ take c.loop-f.f all) ∙ put_more items before.points (take c.loop-f.f all) (take (c.loop-f.f + 1) all) (taken_more all c.loop-f.f items within is)) i })
