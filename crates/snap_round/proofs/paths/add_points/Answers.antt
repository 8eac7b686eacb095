use Rattle.std.proofs.Common.{◌≡◌, ◌++◌, ◌∙◌, sym, ap, arith, length, take, List}
use Rattle.plane_model.specs.Points.{GridPoint}
use Rattle.plane_model.specs.Drawing.{Drawing}
use Rattle.grid_base.specs.Drawn.{with_last, add_item}
use Rattle.snap_round.proofs.LastLemmas.{nothing_added, one_more, last_length, taken_more}
use Rattle.snap_round.proofs.paths.add_points.Goals as goal

pub loop-p-init : goal.loop-p-init
loop-p-init c = λ i. record c.args.out.now { points = sym (nothing_added c.args.out.now.points) i }

pub add_point-requires : goal.add_point-requires
add_point-requires c =
    let e : length c.loop-p.out.points ≡ length c.args.out.now.points = ap length (λ i. (c.loop-p.invariant i).points) ∙ last_length (λ (ps : List GridPoint). ps ++ take c.loop-p.p-index c.args.points.now) c.args.out.now.points in
    let l = c.requires.feature in
    omega arith

pub loop-p-preserved : goal.loop-p-preserved
loop-p-preserved c =
    let p = c.p-item.result in
    let done = take c.loop-p.p-index c.args.points.now in
    let before = c.args.out.now in
    c.in_ok-add_point.ensures.ok
    ∙ ap (λ (o : Drawing). record o { points = add_item p o.points }) c.loop-p.invariant
    ∙ (λ i. record before { points = (one_more p done before.points ∙ ap (λ (ps : List GridPoint). with_last (λ (qs : List GridPoint). qs ++ ps) before.points) (taken_more c.args.points.now c.loop-p.p-index p (omega arith) c.p-item.is)) i })
