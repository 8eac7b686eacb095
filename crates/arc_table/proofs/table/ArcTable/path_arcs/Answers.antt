use Rattle.std.proofs.Common.{◌≡◌, sym, ap, subst, ◌∙◌, ◌+◌, ◌-◌, arith, ℕ, [], get_or, length}
use Rattle.plane_model.specs.Points.{GridPoint, Path}
use Rattle.arc_table.specs.Lookup.{BeginAlong}
use Rattle.arc_table.proofs.Begun.{one_begun}
use Rattle.arc_table.proofs.DrawnPaths.{Follows, nothing_begun, follows_none, follows_inside, follows_begun, follows_on, follows_all, none_of}
use Rattle.arc_table.proofs.OneRound.{begins_at_least}
use Rattle.arc_table.proofs.table.ArcTable.path_arcs.Goals as goal
use Rattle.arc_table.proofs.table.ArcTable.path_arcs.Goals.{then-inside-gt0, else-inside-gt0+in-Some+in_ok-push, else-inside-gt0+in_default}

pub loop-i-init : goal.loop-i-init
loop-i-init c = (subst (BeginAlong c.args.self.now c.args.path.now) (sym c.new-arcs.ensures.empty) (nothing_begun c.args.self.now c.args.path.now), subst (Follows c.args.self.now c.args.path.now 0 0) (sym c.new-arcs.ensures.empty) (follows_none c.args.self.now c.args.path.now))

pub loop-i-preserved : goal.loop-i-preserved
loop-i-preserved c =
    let arcs = c.args.self.now in
    let path = c.args.path.now in
    let points = c.as_slice-points.result.now in
    let i = c.loop-i.i in
    let n : length points ≡ length path = ap (λ (ps : Path). length ps) c.as_slice-points.ensures.all in
    let read : (k : ℕ) (p : GridPoint) → p ≡ get_or points k p → p ≡ get_or path k p = λ k p e. e ∙ ap (λ (ps : Path). get_or ps k p) c.as_slice-points.ensures.all in
    let before = c.loop-i.invariant.0 in
    let found = c.loop-i.invariant.1 in
    elim c.if-inside-gt0.branch [
      | then-inside-gt0 w ↦ (
        subst (BeginAlong arcs path) (sym w.arcs-is) before,
        subst (Follows arcs path (i + 1 - 1) c.if-inside-gt0.inside) (sym w.arcs-is)
            (follows_inside arcs path (i - 1) c.loop-i.inside c.if-inside-gt0.inside (i + 1 - 1) c.loop-i.arcs w.if-inside-gt0.true w.inside-is (omega arith) found),
      )
      | else-inside-gt0+in-Some+in_ok-push w ↦ (
        one_begun arcs path points c.loop-i.arcs c.if-inside-gt0.arcs w.in-Some.arc i w.index-points-i.result w.index-points-i-else-inside-gt0.result w.new.result
            c.as_slice-points.ensures.all (omega arith) (omega arith) w.index-points-i.is w.index-points-i-else-inside-gt0.is w.new.ensures.made w.in-Some.ensures.exact (w.arcs-is ∙ w.in_ok-push.ensures.ok) before,
        follows_begun arcs path i w.index-points-i.result w.index-points-i-else-inside-gt0.result w.new.result (omega arith) (omega arith) (read (i - 1) w.index-points-i.result w.index-points-i.is)
            (read i w.index-points-i-else-inside-gt0.result w.index-points-i-else-inside-gt0.is) w.new.ensures.made c.loop-i.inside c.if-inside-gt0.inside (i + 1 - 1) c.loop-i.arcs c.if-inside-gt0.arcs w.in-Some.arc
            (omega arith) w.in-Some.ensures.exact.0 w.in-Some.ensures.exact.1 (w.inside-is ∙ ap (λ (ps : Path). length ps - 2) w.points_of.ensures.exact ∙ ap (λ (n : ℕ). length (get_or arcs n []) - 2) w.id.ensures.exact) (omega arith) (w.arcs-is ∙ w.in_ok-push.ensures.ok) found,
      )
      | else-inside-gt0+in_default w ↦ (
        subst (BeginAlong arcs path) (sym w.arcs-is) before,
        subst (Follows arcs path (i + 1 - 1) c.if-inside-gt0.inside) (sym w.arcs-is) (subst (λ (k : ℕ). Follows arcs path (i + 1 - 1) k c.loop-i.arcs) (sym w.inside-is)
            (follows_on arcs path i w.index-points-i.result w.index-points-i-else-inside-gt0.result w.new.result (omega arith) (omega arith) (read (i - 1) w.index-points-i.result w.index-points-i.is)
            (read i w.index-points-i-else-inside-gt0.result w.index-points-i-else-inside-gt0.is) w.new.ensures.made c.loop-i.inside (i + 1 - 1) c.loop-i.arcs (omega arith)
            (none_of arcs w.new.result w.begun_near.result w.begun_near.ensures.exact w.in_default.not-Some) (omega arith) found)),
      )
    ]

pub returns-clause-exact : goal.returns-clause-exact
returns-clause-exact c =
    let n : length c.as_slice-points.result.now ≡ length c.args.path.now = ap (λ (ps : Path). length ps) c.as_slice-points.ensures.all in
    follows_all c.args.self.now c.args.path.now (c.loop-i.i - 1) c.loop-i.inside c.loop-i.arcs (λ l. omega arith) c.loop-i.invariant.1

pub returns-clause-least : goal.returns-clause-least
returns-clause-least c = begins_at_least c.args.self.now c.args.path.now c.loop-i.arcs (λ k e l. (c.loop-i.invariant.0 k e l).0) (returns-clause-exact c)
