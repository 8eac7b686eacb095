use Rattle.std.proofs.Common.{◌≡◌, ◌∙◌, sym}
use Rattle.grid_base.specs.Boxes.{lower_left, upper_right}
use Rattle.bucket_grid.proofs.MadeRects.{corners_made}
use Rattle.hot_pixels.proofs.NearLemmas.{grown}
use Rattle.hot_pixels.proofs.near.widened.Goals as goal

pub returns : goal.returns
returns c =
    let rect = c.args.rect in
    let p = c.args.p in
    let low : c.lower_left-low.result ≡ lower_left rect.low p = c.lower_left-low.ensures.exact ∙ (λ i. lower_left (c.low.ensures.exact i) p) in
    let high : c.upper_right-high.result ≡ upper_right rect.high p = c.upper_right-high.ensures.exact ∙ (λ i. upper_right (c.high.ensures.exact i) p) in
    let wide = corners_made c.lower_left-low.result c.upper_right-high.result c.in_ok-wide.wide (sym c.in_ok-wide.ensures.ok_part ∙ c.new.ensures.exact) in
    record { made = grown rect c.in_ok-wide.wide p (wide ∙ (λ i. record { low = low i; high = high i })) }
