use Rattle.std.proofs.Common.{sym, ◌∙◌, arith}
use Rattle.arc_table.proofs.TurnsBack.{with_turn, without_turn}
use Rattle.arc_table.proofs.nodes.mark_path.Goals as goal
use Rattle.arc_table.proofs.nodes.mark_path.Goals.{then-is_same+in_ok-push, else-is_same}

pub loop-i-preserved : goal.loop-i-preserved
loop-i-preserved c =
    let path = c.args.path.now in
    let i = c.loop-i.i in
    let old = c.args.turns.now.items in
    let before = c.loop-i.turns.items in
    let a = c.index-path-i.result in
    let b = c.index-path-i-in-loop-i.result in
    elim c.if-is_same.branch [
      | then-is_same+in_ok-push w ↦ with_turn path i old before a b (omega arith) (omega arith) c.index-path-i.is c.index-path-i-in-loop-i.is c.loop-i.invariant
          c.if-is_same.turns.items w.index-path-i-then-is_same.result w.index-path-i-then-is_same.is (sym c.is_same.ensures.exact ∙ w.if-is_same.true) ((λ j. (w.turns-is j).items) ∙ w.in_ok-push.ensures.items)
      | else-is_same w ↦ (λ j. (w.turns-is j).items)
          ∙ (without_turn path i old before a b (omega arith) (omega arith) c.index-path-i.is c.index-path-i-in-loop-i.is c.loop-i.invariant (sym c.is_same.ensures.exact ∙ w.if-is_same.false))
    ]
