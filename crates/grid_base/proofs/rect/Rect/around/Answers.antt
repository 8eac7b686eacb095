use Rattle.std.proofs.Common.{sym, subst}
use Rattle.plane_model.specs.Points.{GridPoint}
use Rattle.grid_base.specs.Grid.{IsAtMost}
use Rattle.grid_base.specs.Boxes.{lower_left}
use Rattle.grid_base.proofs.BoxLemmas.{corners_in_order}
use Rattle.grid_base.proofs.rect.Rect.around.Goals as goal

pub invariant_of-result : goal.invariant_of-result
invariant_of-result c =
    let p = c.args.p in
    let q = c.args.q in
    subst (λ (low : GridPoint). IsAtMost low c.upper_right.result) (sym c.lower_left.ensures.exact)
    (subst (IsAtMost (lower_left p q)) (sym c.upper_right.ensures.exact) (corners_in_order p q))
