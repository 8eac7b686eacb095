use Rattle.std.proofs.Common.{◌≡◌, ◌++◌, take}
use Rattle.run_beginning.specs.Drawing.{drawn_boxes}
use Rattle.run_beginning.proofs.drawing.add_boxes.Given as goal

abbrev pub invariant-loop-rect : goal.invariant-loop-rect
invariant-loop-rect l = l.drawing ≡ record l.initial.drawing { boxes = l.initial.drawing.boxes ++ drawn_boxes (take l.rect-index l.boxes) }
