use Rattle.std.proofs.Common.{◌≡◌, ◌<◌, ◌+◌, ◌++◌, ◌∙◌, sym, subst, ℕ, length, take, map, get_or, [], ◌∷◌, Some}
use Rattle.std.specs.List.{slice_get}
use Rattle.std.proofs.lemmas.Option.{get_or_from_slice_get, slice_get_within}
use Rattle.plane_model.specs.Snapped.{snapped_path}
use Rattle.snap_round.specs.Paths.{with_lines}
use Rattle.snap_round.proofs.LastLemmas.{in_new, put_more, mapped_more}
use Rattle.snap_round.proofs.paths.add_line_features.Goals as goal

pub loop-f-preserved : goal.loop-f-preserved
loop-f-preserved c =
    let before = c.args.out.now in
    let items = c.lines_of-lines.result.now in
    let all = c.args.d.now.lines in
    let found : slice_get all c.loop-f.f ≡ Some items = subst (λ (n : ℕ). slice_get all n ≡ Some items) c.new.ensures.made c.lines_of-lines.ensures.found in
    let is : items ≡ get_or all c.loop-f.f items = sym (get_or_from_slice_get all c.loop-f.f items items found) in
    let within : c.loop-f.f < length all = slice_get_within all c.loop-f.f items found in
    let grown : c.add_feature.new.self ≡ record c.loop-f.out { lines = c.loop-f.out.lines ++ [] ∷ [] } = λ i. (c.in_ok-add_feature.ensures.ok i).1 in
    let f = map (snapped_path c.args.hot.now.points) in
    c.in_ok-add_lines.ensures.ok
    ∙ (λ i. with_lines (f (c.as_slice.ensures.all i)) (grown i))
    ∙ (λ i. with_lines (f items) (record (c.loop-f.invariant i) { lines = (c.loop-f.invariant i).lines ++ [] ∷ [] }))
    ∙ (λ i. record before { lines = (in_new (f items) (before.lines ++ map f (take c.loop-f.f all)) ∙ put_more (f items) before.lines (map f (take c.loop-f.f all)) (map f (take (c.loop-f.f + 1) all)) (mapped_more f all c.loop-f.f items within is)) i })
