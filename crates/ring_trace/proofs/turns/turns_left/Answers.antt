use Rattle.std.proofs.Common.{rules, ◌≡◌, ◌∙◌, sym, ap, arith, ◌-◌, [], pos, FitsSigned, to_z-of_z}
use Rattle.std.specs.Prelude.{int_lt}
use Rattle.std.specs.Int.{w128}
use Rattle.std.proofs.lemmas.List.{get_or_read}
use Rattle.plane_model.specs.Points.{at, turn}
use Rattle.plane_model.specs.Rings.{turn_at_least}
use Rattle.arc_table.specs.Direction.{point_at}
use Rattle.link_search.proofs.UnderLemmas.{turn_at}
use Rattle.ring_trace.proofs.LeastTurn.{turn_is}
use Rattle.ring_trace.proofs.turns.turns_left.Goals as goal

pub returns : goal.returns
returns c =
    let points = c.args.points.now in
    let k = c.least_point-least.result in
    let h = c.least_point-least.ensures.exact in
    let later = h.later in
    let within = h.within in
    let p = c.index-points-least.result in
    let q = c.index-points-least-2.result in
    let r = c.point_after.result in
    let p_is = get_or_read points (k - 1) p (omega arith) c.index-points-least.is (point_at [] 0) in
    let q_is = get_or_read points k q within c.index-points-least-2.is (point_at [] 0) in
    let r_is = c.point_after.ensures.exact (point_at [] 0) in
    let v : c.turn.result ≡ turn_at_least points = c.turn.ensures.exact ∙ sym (turn_at p q r) ∙ (λ i. turn (at (p_is i)) (at (q_is i)) (at (r_is i))) ∙ sym (turn_is points k (omega arith) h) in
    let f : FitsSigned w128 c.turn.result = search rules in
    record { exact = simp to_z-of_z (ap (int_lt (pos 0)) v) }
