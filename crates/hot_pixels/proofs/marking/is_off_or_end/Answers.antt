use Rattle.std.proofs.Common.{◌∙◌, inl, inr, sym}
use Rattle.plane_algebra.proofs.Tests.{or_cases}
use Rattle.plane_model.specs.Points.{same_point}
use Rattle.plane_model.proofs.PointOrder.{same_point_from}
use Rattle.hot_pixels.proofs.marking.is_off_or_end.Goals as goal

pub returns : goal.returns
returns c = record {
  yes = λ e m.
      let s = c.args.s.now in
      or_cases (same_point c.args.p s.start) (same_point c.args.p s.stop) (sym c.is_end.ensures.exact ∙ e) (λ f. inl (same_point_from c.args.p s.start f)) (λ f. inr (same_point_from c.args.p s.stop f));
}
