use Rattle.std.proofs.Common.{◌≡◌, ◌∙◌, ◌*◌, FitsSigned, to_z-of_z, lit<}
use Rattle.std.specs.Int.{w128}
use Rattle.plane_model.specs.Points.{at, turn}
use Rattle.plane_model.specs.Below.{rises}
use Rattle.grid_base.proofs.Bounds.{cross_fits, fits_128}
use Rattle.link_search.specs.Under.{most_scaled}
use Rattle.link_search.proofs.under.goes_under.Goals as goal

pub returns : goal.returns
returns c =
    let l = c.args.l in
    let f₁ : FitsSigned w128 c.rise.result = fits_128 c.rise.result (2 * most_scaled) c.rise.ensures.small (lit< tt) in
    let f₂ : FitsSigned w128 c.side_of.result = cross_fits c.side_of.result c.side_of.ensures.small in
    let v : c.rises.result ≡ rises c.rise.result c.side_of.result = simp to_z-of_z at c.rises.ensures.exact in
    let b : c.side_of.result ≡ turn (at l.start) (at l.stop) (at c.args.k.stop) = c.side_of.ensures.exact ∙ (λ i. turn (at l.start) (at l.stop) (at (c.high.ensures.greater i))) in
    record { exact = v ∙ (λ i. rises (c.rise.ensures.exact i) (b i)) }
