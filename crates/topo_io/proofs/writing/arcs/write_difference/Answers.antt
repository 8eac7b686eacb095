use Rattle.std.proofs.Common.{◌≡◌, ◌++◌, ◌∙◌, rules, subst, sym, ◌-ℤ◌, w64, FitsSigned, to_z-of_z}
use Rattle.std.proofs.lemmas.Result.{on_ok_weaker}
use Rattle.grid_base.specs.Sizes.{IsGridNumber}
use Rattle.grid_base.proofs.Bounds.{step_fits, step_small, x_small, y_small}
use Rattle.geojson_io.specs.Texts.{point_text}
use Rattle.topo_io.proofs.writing.arcs.write_difference.Goals as goal

pub returns : goal.returns
returns c =
    let p = c.args.point.now in
    let f₁ = c.ranges.x in
    let f₂ = c.ranges.y in
    let f₃ : FitsSigned w64 c.x.result = search rules in
    let f₄ : FitsSigned w64 c.y.result = search rules in
    let ex : c.x.result ≡ p.x = c.x.ensures.exact in
    let ey : c.y.result ≡ p.y = c.y.ensures.exact in
    let bx : IsGridNumber c.x.result = subst IsGridNumber (sym ex) (x_small p c.x.ensures.bounded) in
    let by : IsGridNumber c.y.result = subst IsGridNumber (sym ey) (y_small p c.x.ensures.bounded) in
    let f₅ = step_fits (c.x.result -ℤ c.args.x) (step_small c.args.x c.x.result c.requires.across bx) in
    let f₆ = step_fits (c.y.result -ℤ c.args.y) (step_small c.args.y c.y.result c.requires.upward by) in
    record {
      written = on_ok_weaker c.write_pair.result (λ h.
          let e : c.write_pair.new.out ≡ c.args.out.now ++ point_text 0 (record { x = c.x.result -ℤ c.args.x; y = c.y.result -ℤ c.args.y }) = simp to_z-of_z at h in
          e ∙ (λ i. c.args.out.now ++ point_text 0 (record { x = ex i -ℤ c.args.x; y = ey i -ℤ c.args.y }))) c.write_pair.ensures.written;
    }
