use Rattle.std.proofs.Common.{◌≡◌, ◌+◌, ◌<◌, ◌++◌, ◌∷◌, [], ℕ, List, length, get_or, take, sum_by, ap, ◌∙◌, arith}
use Rattle.std.proofs.lemmas.List.{take_more, length_push}
use Rattle.std.proofs.lemmas.List.Sums.{sum_by_push, sum_by-take-le}
use Rattle.std.proofs.lemmas.List.Elements.{All-same, All-append, All-cons, All-nil}
use Rattle.plane_model.specs.Points.{Path}
use Rattle.span_pool.specs.SpanPool.{Pool}
use Rattle.arc_table.specs.Numbering.{points_of_way, arc_points}
use Rattle.arc_table.proofs.WayPoints.{one_more_of}
use Rattle.arc_table.specs.declared.numbering.Way.{Way}
use Rattle.arc_table.proofs.numbering.pool_of.Goals as goal

abbrev no_way : Way
no_way = record { start = 0; steps = 0 }

-- the points of one arc more
sum_more : (ways : List Way) (i : ℕ) → i < length ways → sum_by points_of_way (take (i + 1) ways) ≡ sum_by points_of_way (take i ways) + points_of_way (get_or ways i no_way)
sum_more ways i h = ap (sum_by points_of_way) (take_more ways i no_way h) ∙ sum_by_push points_of_way (take i ways) (get_or ways i no_way)

pub push_arc-requires-clause-points_spare : goal.push_arc-requires-clause-points_spare
push_arc-requires-clause-points_spare c =
    let here : c.loop-way.way-index < length c.args.ways.now = omega arith in
    let more = sum_more c.args.ways.now c.loop-way.way-index here in
    let all = sum_by-take-le points_of_way c.args.ways.now (c.loop-way.way-index + 1) in
    let count = c.in_ok-arc_points.ensures.count in
    let spare = c.loop-way.invariant.4 in
    omega arith

pub loop-way-preserved : goal.loop-way-preserved
loop-way-preserved c =
    let here : c.loop-way.way-index < length c.args.ways.now = omega arith in
    let more = sum_more c.args.ways.now c.loop-way.way-index here in
    let all = sum_by-take-le points_of_way c.args.ways.now (c.loop-way.way-index + 1) in
    let count = c.in_ok-arc_points.ensures.count in
    let some = (c.requires c.loop-way.way-index no_way here).some in
    let points = c.arc_points.new.points.items in
    let spans : c.push_arc.new.pool.spans ≡ c.loop-way.pool.spans ++ points ∷ [] = ap (λ (p : Pool). p.spans) c.push_arc.ensures.pushed in
    let spare_spans = ap (λ (p : Pool). p.spare_spans) c.push_arc.ensures.pushed in
    let spare_points = ap (λ (p : Pool). p.spare_points) c.push_arc.ensures.pushed in
    let long : Path → Type 0 = λ arc. 1 < length arc in
    let number = c.loop-way.invariant.0 in
    let left = c.loop-way.invariant.3 in
    let spare = c.loop-way.invariant.4 in
    let grown = ap (λ (xs : List Path). length xs) spans ∙ length_push c.loop-way.pool.spans points in (
      omega arith,
      c.push_arc.ensures.arcs,
      All-same long c.push_arc.new.pool.spans (c.loop-way.pool.spans ++ points ∷ []) spans
          (All-append long c.loop-way.pool.spans (points ∷ []) c.loop-way.invariant.2 (All-cons long points [] (omega arith) (All-nil long))),
      omega arith,
      omega arith,
      one_more_of (arc_points c.args.net.now) c.args.ways.now c.loop-way.way-index no_way c.loop-way.pool.spans c.push_arc.new.pool.spans points here c.loop-way.invariant.5 c.in_ok-arc_points.ensures.exact spans,
    )
