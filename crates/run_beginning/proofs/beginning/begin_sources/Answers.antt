use Rattle.std.proofs.Common.{◌≡◌, [], ap, arith, rules, length, map, subst, sym, ℕ, List}
use Rattle.std.specs.List.{AllZip}
use Rattle.std.specs.Vec.Iter.{into_iter_items}
use Rattle.std.proofs.lemmas.List.{nil_from_length}
use Rattle.plane_model.specs.Arcs.{SignedArc}
use Rattle.plane_model.specs.Points.{Path}
use Rattle.run_plane.specs.LineArcs.{AreLineArcs}
use Rattle.run_beginning.specs.BegunLayers.{Left}
use Rattle.run_beginning.specs.DrawnLayers.{IsDrawnSource}
use Rattle.run_beginning.specs.NextFeatures.{IsLeft}
use Rattle.run_beginning.specs.declared.drawing.DrawnSource.{DrawnSource}
use Rattle.run_beginning.proofs.BegunLemmas.{sources_begin, sources_end, sources_go_on}
use Rattle.run_beginning.proofs.beginning.begin_sources.Goals as goal

abbrev start_of : List (List ℕ) → List (List Path) → Left
start_of features paths = record { faces = features; lines = paths }

pub loop-source-preserved : goal.loop-source-preserved
loop-source-preserved c =
    let steps = c.in-Some.ensures.steps in
    let items = into_iter_items c.loop-source.source-iterator in
    let rest = into_iter_items c.next.new.self in
    let made = c.in_ok-begun in
    record {
      go = λ arcs paths given along drawn.
          sources_go_on arcs (start_of c.args.features.items paths) given items rest c.in-Some.source
          c.loop-source.layers.items c.hand_out.new.layers.items made.begun.items (map (λ own. own.items) c.loop-source.owned.items) (map (λ own. own.items) c.hand_out.new.owned.items) c.loop-source.next c.begun_layers.new.next
          steps.0 (λ left layers is is_drawn. (made.ensures.begun arcs left layers is is_drawn, made.ensures.left arcs left layers is is_drawn))
          c.in_ok-hand_out.ensures.layers c.in_ok-hand_out.ensures.owned (c.loop-source.invariant.go arcs paths given along drawn);
      counted = made.ensures.counted;
      sources = omega (arith, steps.1, ap length steps.0, c.loop-source.invariant.sources);
    }

pub loop-source-init : goal.loop-source-init
loop-source-init c =
    let next = c.first_of-next in
    let items = into_iter_items c.into_iter-source-iterator.result in
    let all : items ≡ c.args.sources.items = search rules in
    let none : map (λ own. own.items) c.args.owned.now.items ≡ [] = ap (map (λ own. own.items)) c.requires.owned in
    record {
      go = λ arcs paths given along drawn.
          let is : IsLeft arcs (start_of c.args.features.items paths) next.result = record {
            faces = next.ensures.faces;
            lines = subst (λ (lines : List (List (List SignedArc))). AllZip (AreLineArcs arcs) paths lines) (sym next.ensures.lines) along;
          } in
          sources_begin arcs (start_of c.args.features.items paths) given c.args.layers.now.items (map (λ own. own.items) c.args.owned.now.items) next.result items
          c.requires.layers none is (subst (λ (sources : List DrawnSource). AllZip IsDrawnSource given sources) (sym all) drawn);
      counted = next.ensures.counted;
      sources = search rules;
    }

pub returns : goal.returns
returns c =
    let items = into_iter_items c.loop-source.source-iterator in
    let steps = c.in-None.ensures.steps in
    let count = c.loop-source.invariant.sources in
    record {
      begun = λ arcs paths given along drawn.
          sources_end arcs (start_of c.args.features.items paths) given items
          c.loop-source.layers.items (map (λ own. own.items) c.loop-source.owned.items) c.loop-source.next (nil_from_length items (omega arith)) (c.loop-source.invariant.go arcs paths given along drawn);
    }
