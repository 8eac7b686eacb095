use Rattle.std.proofs.Common.{◌≡◌, ◌∙◌, ap, arith, rules, subst, sym, List, [], ◌∷◌, length}
use Rattle.std.specs.Prelude.{All}
use Rattle.std.specs.Vec.Iter.{into_iter_items}
use Rattle.std.proofs.lemmas.List.{nil_from_length}
use Rattle.std.proofs.lemmas.List.Elements.{All-head, All-tail}
use Rattle.plane_model.specs.Points.{Path}
use Rattle.plane_model.specs.Drawing.{Drawing}
use Rattle.geojson_io.specs.Sound.{HasPoints}
use Rattle.snap_round.specs.Paths.{with_lines}
use Rattle.run_beginning.specs.Drawing.{drawn_lines}
use Rattle.run_beginning.proofs.DrawingLemmas.{lines_next, lines_stay, no_lines}
use Rattle.run_beginning.proofs.drawing.add_lines.Goals as goal

pub add_line-requires : goal.add_line-requires
add_line-requires c =
    let steps = c.in-Some.ensures.steps in
    let line = c.in-Some.line in
    let rest = into_iter_items c.next.new.self in
    record { feature = c.loop-line.invariant.feature; not_empty = All-head HasPoints line rest (subst (All HasPoints) steps.0 c.loop-line.invariant.sound) }

pub loop-line-preserved : goal.loop-line-preserved
loop-line-preserved c =
    let steps = c.in-Some.ensures.steps in
    let line = c.in-Some.line in
    let rest = into_iter_items c.next.new.self in
    let before = c.loop-line.drawing in
    let so_far = c.loop-line.invariant in
    let stay : length c.add_line.new.self.lines ≡ length before.lines =
    ap (λ (d : Drawing). length d.lines) c.in_ok-add_line.ensures.ok ∙ lines_stay (drawn_lines (line ∷ [])) before in
    let there = so_far.feature in
    record {
      added = ap (with_lines (drawn_lines rest)) c.in_ok-add_line.ensures.ok
          ∙ lines_next before line rest
          ∙ ap (λ (lines : List Path). with_lines (drawn_lines lines) before) (sym steps.0)
          ∙ so_far.added;
      feature = omega arith;
      sound = All-tail HasPoints line rest (subst (All HasPoints) steps.0 so_far.sound);
      count = search rules;
    }

pub returns : goal.returns
returns c =
    let left = c.loop-line.drawing in
    let none = nil_from_length (into_iter_items c.loop-line.line-iterator) (sym c.loop-line.invariant.count ∙ c.in-None.ensures.steps.0) in
    record { added = no_lines left ∙ ap (λ (lines : List Path). with_lines (drawn_lines lines) left) (sym none) ∙ c.loop-line.invariant.added }
