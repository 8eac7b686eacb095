use Rattle.std.proofs.Common.{◌≡◌, [], arith, ap, length, rules, subst, sym, List}
use Rattle.std.specs.List.{AllZip}
use Rattle.std.specs.Vec.Iter.{into_iter_items}
use Rattle.std.proofs.lemmas.List.{nil_from_length}
use Rattle.run_beginning.specs.DrawnLayers.{IsDrawn}
use Rattle.run_beginning.specs.declared.drawing.DrawnLayer.{DrawnLayer}
use Rattle.run_beginning.proofs.BegunLemmas.{layers_begin, layers_end, layers_more, left_at_end}
use Rattle.run_beginning.proofs.beginning.begun_layers.Goals as goal

pub loop-layer-init : goal.loop-layer-init
loop-layer-init c =
    let items = into_iter_items c.into_iter-layer-iterator.result in
    let begun = c.new-begun.result.items in
    let all : items ≡ c.args.layers.items = search rules in
    let none : begun ≡ [] = search rules in
    record {
      go = λ arcs left given is drawn. layers_begin arcs left given items begun c.args.next.now none (subst (λ (ls : List DrawnLayer). AllZip IsDrawn given ls) (sym all) drawn) is;
      counted = c.requires.counted;
      layers = search rules;
    }

pub loop-layer-preserved : goal.loop-layer-preserved
loop-layer-preserved c =
    let steps = c.in-Some.ensures.steps in
    let items = into_iter_items c.loop-layer.layer-iterator in
    let rest = into_iter_items c.next.new.self in
    let made = c.in_ok-begun_layer in
    record {
      go = λ arcs left given is drawn.
          layers_more arcs left given c.loop-layer.begun.items c.push.new.self.items c.loop-layer.next c.begun_layer.new.next items rest c.in-Some.layer made.field-0 steps.0 c.in_ok-push.ensures.items
          (λ here g is_left is_drawn. (made.ensures.begun arcs here g is_left is_drawn, made.ensures.left arcs here g is_left is_drawn)) (c.loop-layer.invariant.go arcs left given is drawn);
      counted = made.ensures.counted;
      layers = omega (arith, steps.1, ap length steps.0, c.loop-layer.invariant.layers);
    }

pub returns-clause-begun : goal.returns-clause-begun
returns-clause-begun c = λ arcs left given is drawn.
    (let items = into_iter_items c.loop-layer.layer-iterator in
    let steps = c.in-None.ensures.steps in
    let count = c.loop-layer.invariant.layers in
    layers_end arcs left given c.loop-layer.begun.items c.loop-layer.next items (nil_from_length items (omega arith)) (c.loop-layer.invariant.go arcs left given is drawn))

pub returns-clause-left : goal.returns-clause-left
returns-clause-left c = λ arcs left given is drawn.
    (let items = into_iter_items c.loop-layer.layer-iterator in
    let steps = c.in-None.ensures.steps in
    let count = c.loop-layer.invariant.layers in
    left_at_end arcs left given c.loop-layer.begun.items c.loop-layer.next items (nil_from_length items (omega arith)) (c.loop-layer.invariant.go arcs left given is drawn))
