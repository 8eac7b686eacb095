use Rattle.std.proofs.Common.{◌∙◌, ℕ, ap, arith}
use Rattle.run_plane.proofs.FacesHeld.{put_at, puts_more, puts_none}
use Rattle.run_plane.proofs.plane.put_in_features.Goals as goal

pub loop-feature-init : goal.loop-feature-init
loop-feature-init c = puts_none c.args.face c.args.sets.now.items

pub loop-feature-preserved : goal.loop-feature-preserved
loop-feature-preserved c =
    let put = c.in_ok-put_face.ensures.put ∙ ap (λ (n : ℕ). put_at n c.args.face c.loop-feature.sets.items) c.num.ensures.exact in
    puts_more c.args.features.now c.args.face c.args.sets.now.items c.loop-feature.sets.items c.put_face.new.sets.items c.loop-feature.feature-index c.feature-item.result (omega arith) c.feature-item.is c.loop-feature.invariant put
