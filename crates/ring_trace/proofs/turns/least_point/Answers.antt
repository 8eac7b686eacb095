use Rattle.std.proofs.Common.{◌≡◌, ◌∙◌, sym, subst, arith, ℕ, ◌+◌, ◌<◌, [], length}
use Rattle.std.proofs.lemmas.List.{get_or_read}
use Rattle.plane_model.specs.Points.{is_before}
use Rattle.arc_table.specs.Direction.{point_at}
use Rattle.ring_trace.specs.Turns.{IsFirstLeast}
use Rattle.ring_trace.proofs.LeastTurn.{least_lower, least_same}
use Rattle.ring_trace.proofs.turns.least_point.Goals.{then-is_before, else-is_before}
use Rattle.ring_trace.proofs.turns.least_point.Goals as goal

pub loop-k-preserved : goal.loop-k-preserved
loop-k-preserved c =
    let points = c.args.points.now in
    let k = c.loop-k.k in
    let m = c.loop-k.least in
    let h = c.loop-k.invariant in
    let within = h.within in
    let l : k < length points = c.loop-k-test.true in
    let a = get_or_read points k c.index-points-k.result l c.index-points-k.is (point_at [] 0) in
    let b = get_or_read points m c.index-points-least.result (omega arith) c.index-points-least.is (point_at [] 0) in
    let e : is_before (point_at points k) (point_at points m) ≡ c.is_before.result = sym (c.is_before.ensures.exact ∙ (λ i. is_before (a i) (b i))) in
    elim c.if-is_before.branch [
      | then-is_before w ↦ subst (λ (n : ℕ). IsFirstLeast points (k + 1) n) (sym w.least-is) (least_lower points k m h (e ∙ w.if-is_before.true))
      | else-is_before w ↦ subst (λ (n : ℕ). IsFirstLeast points (k + 1) n) (sym w.least-is) (least_same points k m h (e ∙ w.if-is_before.false))
    ]
