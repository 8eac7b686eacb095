use Rattle.std.proofs.Common.{◌≡◌, ◌∙◌, sym, ap, arith, ℕ, ◌-◌, cond, [], ◌∷◌, ◌++◌, length, get_or, take, append_assoc}
use Rattle.std.proofs.lemmas.List.{take_more}
use Rattle.plane_model.specs.Points.{GridPoint, Path}
use Rattle.plane_model.specs.Arcs.{points_of}
use Rattle.ring_trace.proofs.LeastTurn.{point_along, without_last_is}
use Rattle.arc_table.proofs.DrawnPaths.{points_counted}
use Rattle.ring_trace.proofs.turns.push_points.Goals as goal

pub loop-k-preserved : goal.loop-k-preserved
loop-k-preserved c =
    let arcs = c.args.t.now in
    let arc = c.args.arc in
    let old = c.args.points.now.items in
    let all = points_of arcs arc in
    let k = c.loop-k.k in
    let x = c.index-along-place_along.result in
    let along = c.points_of-along.result.now in
    let along_is : along ≡ get_or arcs arc.arc [] = c.points_of-along.ensures.exact ∙ ap (λ (n : ℕ). get_or arcs n []) c.id.ensures.exact in
    let long = c.points_of-along.ensures.long in
    let before = c.loop-k-test.true in
    let counted = points_counted arcs arc in
    let same = ap (λ (ps : Path). length ps) along_is in
    let x_is : x ≡ get_or all k x =
    c.index-along-place_along.is ∙ ap (λ (n : ℕ). get_or along n x) c.place_along.ensures.exact ∙ (λ i. get_or (along_is i) (cond arc.is_reversed (length (along_is i) - 1 - k) k) x)
    ∙ point_along arcs arc k x (omega arith) in
    c.in_ok-push.ensures.items ∙ ap (λ (xs : Path). xs ++ x ∷ []) c.loop-k.invariant ∙ append_assoc old (take k all) (x ∷ [])
    ∙ ap (λ (xs : Path). old ++ xs) (ap (λ (y : GridPoint). take k all ++ y ∷ []) x_is ∙ sym (take_more all k x (omega arith)))

pub returns : goal.returns
returns c =
    let arcs = c.args.t.now in
    let arc = c.args.arc in
    let all = points_of arcs arc in
    let along_is = c.points_of-along.ensures.exact ∙ ap (λ (n : ℕ). get_or arcs n []) c.id.ensures.exact in
    let long = c.points_of-along.ensures.long in
    let done = c.loop-k-test.false in
    let end = c.loop-k.auto.k-end in
    let counted = points_counted arcs arc in
    let same = ap (λ (ps : Path). length ps) along_is in
    let k_is : c.loop-k.k ≡ length all - 1 = omega arith in
    record { exact = c.loop-k.invariant ∙ ap (λ (xs : Path). c.args.points.now.items ++ xs) (ap (λ (n : ℕ). take n all) k_is ∙ without_last_is all) }
