use Rattle.std.proofs.Common.{length, arith, subst, sym, ap}
use Rattle.std.specs.Prelude.{All}
use Rattle.std.proofs.lemmas.List.{length_push}
use Rattle.std.proofs.lemmas.List.Elements.{All-push}
use Rattle.grid_base.specs.Drawn.{IsRing}
use Rattle.grid_base.proofs.RepeatLemmas.{is_ring}
use Rattle.grid_base.proofs.drawing.Drawing.add_box_path.Goals as goal

pub invariant_of-self-2 : goal.invariant_of-self-2
invariant_of-self-2 c =
    let kept = c.self.invariant.0 in
    let boxes = c.self.inside.boxes.items in
    let ring : IsRing c.without_repeats.result = subst IsRing (sym c.without_repeats.ensures.exact) (is_ring c.args.path c.requires.not_empty c.requires.closed) in
    let items = c.in_ok-push.ensures.items in (
      record { rings = kept.rings; lines = kept.lines; boxes = subst (All IsRing) (sym items) (All-push IsRing boxes c.without_repeats.result kept.boxes ring) },
      c.self.invariant.1,
      (c.self.invariant.2.0, omega (arith, ap length items, length_push boxes c.without_repeats.result, c.self.inside.boxes.ok.0)),
    )
