use Rattle.std.proofs.Common.{◌∙◌, refl, subst, sym}
use Rattle.run_beginning.specs.BegunLayers.{Left}
use Rattle.run_beginning.specs.DrawnLayers.{IsDrawn}
use Rattle.run_beginning.specs.NextFeatures.{IsLeft}
use Rattle.run_beginning.proofs.BegunLemmas.{after_lines, lines_are}
use Rattle.run_beginning.proofs.beginning.begun_layer.Goals as goal

pub returns-in_ok-shapes-in-Lines-clause-begun : goal.returns-in_ok-shapes-in-Lines-clause-begun
returns-in_ok-shapes-in-Lines-clause-begun c = λ arcs left given is drawn.
    (let all = subst (IsDrawn given) c.in-Lines.is drawn in
    let shapes = c.in_ok-shapes-in-Lines in
    let count = c.row_count-in-Lines in
    record {
      name = all.of_name;
      kind = all.of_kind;
      table = all.of_table;
      shapes = lines_are arcs left c.args.next.now is given count.result shapes.shapes.items all.of_kind (count.ensures.count ∙ sym all.each) shapes.ensures.begun;
    })

pub returns-in_ok-shapes-in-Lines-clause-left : goal.returns-in_ok-shapes-in-Lines-clause-left
returns-in_ok-shapes-in-Lines-clause-left c = λ arcs left given is drawn.
    (let all = subst (IsDrawn given) c.in-Lines.is drawn in
    let next = c.args.next.now in
    let count = c.row_count-in-Lines in
    after_lines arcs left next is given count.result (record next { lines = c.begun_shapes-in-Lines.new.features }) all.of_kind (count.ensures.count ∙ sym all.each) refl c.in_ok-shapes-in-Lines.ensures.features)

pub returns-in-Whole-clause-begun : goal.returns-in-Whole-clause-begun
returns-in-Whole-clause-begun c = λ arcs left given is drawn. (subst (IsDrawn given) c.in-Whole.is drawn arcs left).0

pub returns-in-Whole-clause-left : goal.returns-in-Whole-clause-left
returns-in-Whole-clause-left c = λ arcs left given is drawn.
    subst (λ (l : Left). IsLeft arcs l c.args.next.now) (sym (subst (IsDrawn given) c.in-Whole.is drawn arcs left).1) is
