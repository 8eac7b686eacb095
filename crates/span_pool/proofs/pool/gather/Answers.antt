use Rattle.std.proofs.Common.{◌≡◌, ◌<◌, length, get_or, arith}
use Rattle.std.proofs.lemmas.List.{get_or_read}
use Rattle.span_pool.proofs.Keeping.{keeping_none, keeping_more, keeping_move, keeping_all, end_within}
use Rattle.span_pool.proofs.pool.gather.Goals as goal
use Rattle.span_pool.proofs.pool.gather.Goals.{then-kept-ids+then-ids-kept, else-kept-ids, else-kept-ids-via-then-kept-ids+else-ids-kept, else-kept-ids-via-else-kept-ids}

pub loop-i-init : goal.loop-i-init
loop-i-init c = keeping_none c.args.ids.now c.args.ends.now.items c.args.points.now.items

pub copy_within-requires-clause-start_le_end : goal.copy_within-requires-clause-start_le_end
copy_within-requires-clause-start_le_end c =
    let h = c.loop-i.invariant in
    let count = h.ends_count in
    let old_count = c.args.ends.now.ok.0 in
    let here : c.loop-i.i < length c.args.ends.now.items = omega (arith, c.len-i-end.ensures) in
    let now_here : c.loop-i.i < length c.loop-i.ends.items = omega arith in
    let to : c.index.result.now ≡ get_or c.loop-i.ends.items c.loop-i.i 0 = get_or_read c.loop-i.ends.items c.loop-i.i c.index.result.now now_here c.index.ensures 0 in
    let place = end_within c.args.ids.now c.args.ends.now.items c.args.points.now.items c.loop-i.ends.items c.loop-i.points.items c.loop-i.kept c.loop-i.at c.loop-i.from c.loop-i.i h c.requires.cut_up here in
    let points_count = h.points_count in
    let length_now = c.loop-i.points.ok.0 in
    let after = h.points_past in
    omega arith

pub copy_within-requires-clause-in_bounds : goal.copy_within-requires-clause-in_bounds
copy_within-requires-clause-in_bounds c =
    let h = c.loop-i.invariant in
    let count = h.ends_count in
    let old_count = c.args.ends.now.ok.0 in
    let here : c.loop-i.i < length c.args.ends.now.items = omega (arith, c.len-i-end.ensures) in
    let now_here : c.loop-i.i < length c.loop-i.ends.items = omega arith in
    let to : c.index.result.now ≡ get_or c.loop-i.ends.items c.loop-i.i 0 = get_or_read c.loop-i.ends.items c.loop-i.i c.index.result.now now_here c.index.ensures 0 in
    let place = end_within c.args.ids.now c.args.ends.now.items c.args.points.now.items c.loop-i.ends.items c.loop-i.points.items c.loop-i.kept c.loop-i.at c.loop-i.from c.loop-i.i h c.requires.cut_up here in
    let points_count = h.points_count in
    let length_now = c.loop-i.points.ok.0 in
    let after = h.points_past in
    omega arith

pub copy_within-requires-clause-dest_in_bounds : goal.copy_within-requires-clause-dest_in_bounds
copy_within-requires-clause-dest_in_bounds c =
    let h = c.loop-i.invariant in
    let count = h.ends_count in
    let old_count = c.args.ends.now.ok.0 in
    let here : c.loop-i.i < length c.args.ends.now.items = omega (arith, c.len-i-end.ensures) in
    let now_here : c.loop-i.i < length c.loop-i.ends.items = omega arith in
    let to : c.index.result.now ≡ get_or c.loop-i.ends.items c.loop-i.i 0 = get_or_read c.loop-i.ends.items c.loop-i.i c.index.result.now now_here c.index.ensures 0 in
    let place = end_within c.args.ids.now c.args.ends.now.items c.args.points.now.items c.loop-i.ends.items c.loop-i.points.items c.loop-i.kept c.loop-i.at c.loop-i.from c.loop-i.i h c.requires.cut_up here in
    let points_count = h.points_count in
    let length_now = c.loop-i.points.ok.0 in
    let after = h.points_past in
    omega arith

pub overflow_sub-at : goal.overflow_sub-at
overflow_sub-at c =
    let h = c.loop-i.invariant in
    let count = h.ends_count in
    let old_count = c.args.ends.now.ok.0 in
    let here : c.loop-i.i < length c.args.ends.now.items = omega (arith, c.len-i-end.ensures) in
    let now_here : c.loop-i.i < length c.loop-i.ends.items = omega arith in
    let to : c.index.result.now ≡ get_or c.loop-i.ends.items c.loop-i.i 0 = get_or_read c.loop-i.ends.items c.loop-i.i c.index.result.now now_here c.index.ensures 0 in
    let place = end_within c.args.ids.now c.args.ends.now.items c.args.points.now.items c.loop-i.ends.items c.loop-i.points.items c.loop-i.kept c.loop-i.at c.loop-i.from c.loop-i.i h c.requires.cut_up here in
    let points_count = h.points_count in
    let length_now = c.loop-i.points.ok.0 in
    let after = h.points_past in
    omega arith

pub loop-i-preserved : goal.loop-i-preserved
loop-i-preserved c =
    let h = c.loop-i.invariant in
    let count = h.ends_count in
    let old_count = c.args.ends.now.ok.0 in
    let here : c.loop-i.i < length c.args.ends.now.items = omega (arith, c.len-i-end.ensures) in
    let now_here : c.loop-i.i < length c.loop-i.ends.items = omega arith in
    let to : c.index.result.now ≡ get_or c.loop-i.ends.items c.loop-i.i 0 = get_or_read c.loop-i.ends.items c.loop-i.i c.index.result.now now_here c.index.ensures 0 in
    let place = end_within c.args.ids.now c.args.ends.now.items c.args.points.now.items c.loop-i.ends.items c.loop-i.points.items c.loop-i.kept c.loop-i.at c.loop-i.from c.loop-i.i h c.requires.cut_up here in
    let ids = c.args.ids.now in
    elim c.if-kept-ids.branch [
      | then-kept-ids+then-ids-kept w ↦ rw (w.points-is, w.ends-is, w.kept-is, w.at-is, w.copy_within.ensures.items, to)
          (keeping_move ids c.args.ends.now.items c.args.points.now.items c.loop-i.ends.items c.loop-i.points.items c.loop-i.kept c.loop-i.at c.loop-i.from c.loop-i.i h c.requires.cut_up here
          w.if-kept-ids.true w.if-ids-kept.true (λ l. c.requires.ascending c.loop-i.kept l))
      | else-kept-ids w ↦ rw (w.points-is, w.ends-is, w.kept-is, w.at-is, to)
          (keeping_more ids c.args.ends.now.items c.args.points.now.items c.loop-i.ends.items c.loop-i.points.items c.loop-i.kept c.loop-i.at c.loop-i.from c.loop-i.i h c.requires.cut_up here
          (λ l e. elim w.else-kept-ids.branch [
            | else-kept-ids-via-then-kept-ids+else-ids-kept w' ↦ w'.if-ids-kept.false e
            | else-kept-ids-via-else-kept-ids w' ↦ let f = w'.if-kept-ids.false in omega arith
          ]))
    ]

pub returns-clause-spans : goal.returns-clause-spans
returns-clause-spans c =
    keeping_all c.args.ids.now c.args.ends.now.items c.args.points.now.items c.loop-i.ends.items c.loop-i.points.items c.loop-i.kept c.loop-i.at c.loop-i.from c.loop-i.i c.loop-i.invariant
    (let old_count = c.args.ends.now.ok.0 in omega (arith, c.len-i-end.ensures)) (λ k l. c.requires.below k 0 l)
