use Rattle.std.proofs.Common.{◌≡◌, ◌<◌, ◌++◌, ◌∙◌, sym, ap, length, take, map, get_or, [], ◌∷◌, ◌+◌}
use Rattle.std.proofs.lemmas.Option.{get_or_from_slice_get, slice_get_within}
use Rattle.plane_model.specs.Snapped.{snapped_path}
use Rattle.grid_base.specs.Drawn.{without_repeats}
use Rattle.snap_round.proofs.LastLemmas.{put_more, mapped_more}
use Rattle.snap_round.proofs.paths.add_boxes.Goals as goal

pub loop-b-preserved : goal.loop-b-preserved
loop-b-preserved c =
    let f = snapped_path c.args.hot.now.points in
    let before = c.args.out.now in
    let box = c.box_of.result.now in
    let all = c.args.d.now.boxes in
    let is : box ≡ get_or all c.loop-b.b box = sym (get_or_from_slice_get all c.loop-b.b box box c.box_of.ensures.found) in
    let within : c.loop-b.b < length all = slice_get_within all c.loop-b.b box c.box_of.ensures.found in
    let snapped : without_repeats c.in_ok-joined.joined ≡ f box = c.in_ok-joined.ensures.made.snapped ∙ ap f c.as_slice.ensures.all in
    c.in_ok-add_box_path.ensures.ok
    ∙ (λ i. record (c.loop-b.invariant i) { boxes = (c.loop-b.invariant i).boxes ++ snapped i ∷ [] })
    ∙ (λ i. record before { boxes = put_more (f box) before.boxes (map f (take c.loop-b.b all)) (map f (take (c.loop-b.b + 1) all)) (mapped_more f all c.loop-b.b box within is) i })
