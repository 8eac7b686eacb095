use Rattle.std.proofs.Common.{◌≡◌, ◌++◌, ◌∙◌, sym, ap, arith, length, take, map, List}
use Rattle.plane_model.specs.Points.{Path}
use Rattle.plane_model.specs.Snapped.{snapped_path}
use Rattle.grid_base.specs.Drawn.{with_last, add_item, without_repeats}
use Rattle.snap_round.proofs.LastLemmas.{nothing_added, one_more, last_length, mapped_more}
use Rattle.snap_round.proofs.paths.add_lines.Goals as goal

pub loop-line-init : goal.loop-line-init
loop-line-init c = λ i. record c.args.out.now { lines = sym (nothing_added c.args.out.now.lines) i }

pub add_line-requires-clause-feature : goal.add_line-requires-clause-feature
add_line-requires-clause-feature c =
    let f = snapped_path c.args.hot.now.points in
    let e : length c.loop-line.out.lines ≡ length c.args.out.now.lines = ap length (λ i. (c.loop-line.invariant i).lines) ∙ last_length (λ (ps : List Path). ps ++ map f (take c.loop-line.line-index c.args.lines.now)) c.args.out.now.lines in
    let l = c.requires.feature in
    omega arith

pub loop-line-preserved : goal.loop-line-preserved
loop-line-preserved c =
    let f = snapped_path c.args.hot.now.points in
    let line = c.line-item.result in
    let done = map f (take c.loop-line.line-index c.args.lines.now) in
    let before = c.args.out.now in
    let snapped : without_repeats c.in_ok-joined.joined ≡ f line = c.in_ok-joined.ensures.made.snapped ∙ ap f c.as_slice.ensures.all in
    c.in_ok-add_line.ensures.ok
    ∙ (λ i. record (c.loop-line.invariant i) { lines = add_item (snapped i) (c.loop-line.invariant i).lines })
    ∙ (λ i. record before { lines = (one_more (f line) done before.lines ∙ ap (λ (ps : List Path). with_last (λ (qs : List Path). qs ++ ps) before.lines) (mapped_more f c.args.lines.now c.loop-line.line-index line (omega arith) c.line-item.is)) i })
