use Rattle.std.proofs.Common.{◌++◌, ◌∙◌, sym, ap, arith, [], ◌∷◌}
use Rattle.std.proofs.lemmas.List.{append-nil}
use Rattle.plane_model.specs.Drawing.{Drawing}
use Rattle.run_beginning.specs.Drawing.{drawn_boxes}
use Rattle.run_beginning.proofs.DrawingLemmas.{boxes_more}
use Rattle.run_beginning.proofs.drawing.add_boxes.Goals as goal

pub loop-rect-init : goal.loop-rect-init
loop-rect-init c = λ i. record c.args.drawing.now { boxes = sym (append-nil c.args.drawing.now.boxes) i }

pub loop-rect-preserved : goal.loop-rect-preserved
loop-rect-preserved c =
    let rect = c.rect-item.result in
    c.in_ok-add_box.ensures.ok
    ∙ ap (λ (d : Drawing). record d { boxes = d.boxes ++ drawn_boxes (rect ∷ []) }) c.loop-rect.invariant
    ∙ boxes_more c.args.drawing.now c.args.boxes.now c.loop-rect.rect-index rect (omega arith) c.rect-item.is
