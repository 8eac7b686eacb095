use Rattle.std.proofs.Common.{◌≡◌, ◌∙◌, sym, ap, subst, arith, ◌<◌, List, [], ◌∷◌, ◌++◌, length, map, take, All}
use Rattle.std.specs.List.Sorted.{IsPermutation}
use Rattle.std.proofs.lemmas.List.{take_all, map_push, map_more, length_push}
use Rattle.std.proofs.lemmas.List.Elements.{All-push}
use Rattle.std.proofs.lemmas.List.Sorted.{IsPermutation-map}
use Rattle.plane_model.specs.Arcs.{SignedArc}
use Rattle.ring_trace.specs.declared.pairing.Edge.{Edge}
use Rattle.face_sets.specs.declared.joined_faces.Side.{Side}
use Rattle.std.specs.Ordering.{ordering_then, bool_cmp, nat_cmp}
use Rattle.ring_trace.specs.Pairing.{edge_of, start_corner}
use Rattle.ring_trace.specs.Rings.{edge_at}
use Rattle.ring_trace.proofs.EdgeBalance.{balanced_edges}
use Rattle.ring_trace.proofs.PairLemmas.{start_is, by_corner}
use Rattle.ring_trace.proofs.pairing.edges_of.Goals as goal

pub loop-side-preserved : goal.loop-side-preserved
loop-side-preserved c =
    let arc_e : Edge → SignedArc = λ e. e.arc in
    let arc_s : Side → SignedArc = λ s. s.arc in
    let sides = c.args.sides.now in
    let s = c.side-item.result in
    let i = c.loop-side.side-index in
    let l : i < length sides = c.loop-side-test.true in
    let old = c.loop-side.edges.items in
    let e : Edge = record { part = c.number_of.result; start = c.start_of.result; arc = s.arc } in
    let made : Side → Edge = edge_of c.args.t.now c.args.parts.now.joining c.args.parts.now.numbers.items in
    let start = start_is c.args.t.now s.arc c.start_of.result c.start_of.ensures.exact in
    let is_made : e ≡ made s = λ j. record { part = c.number_of.ensures.exact j; start = start j; arc = s.arc } in
    let items = c.in_ok-push.ensures.items in
    let each = c.loop-side.invariant.0 in
    let pushed = length_push old e in
    let there : s.arc.arc < length c.args.t.now = subst (λ (x : Side). x.arc.arc < length c.args.t.now) (sym c.side-item.is) (c.requires.there i s l) in (
      ap (λ (xs : List Edge). length xs) items ∙ (omega arith),
      subst (λ (xs : List Edge). All (λ (x : Edge). x.arc.arc < length c.args.t.now) xs) (sym items) (All-push (λ (x : Edge). x.arc.arc < length c.args.t.now) old e c.loop-side.invariant.1 there),
      ap (map arc_e) items ∙ map_push arc_e old e ∙ ap (λ (xs : List SignedArc). xs ++ s.arc ∷ []) c.loop-side.invariant.2
          ∙ ap (λ (x : Side). map arc_s (take i sides) ++ x.arc ∷ []) c.side-item.is ∙ sym (map_more arc_s sides i s l),
      items ∙ ap (λ (xs : List Edge). xs ++ e ∷ []) c.loop-side.invariant.3 ∙ ap (λ (x : Edge). map made (take i sides) ++ x ∷ []) (is_made ∙ ap made c.side-item.is) ∙ sym (map_more made sides i s l),
    )

pub returns-clause-arcs : goal.returns-clause-arcs
returns-clause-arcs c =
    let arc_e : Edge → SignedArc = λ e. e.arc in
    let arc_s : Side → SignedArc = λ s. s.arc in
    let done = c.loop-side-test.false in
    let sorted = c.sort_unstable.new.self.items in
    subst (λ (xs : List SignedArc). IsPermutation xs (map arc_e sorted)) (c.loop-side.invariant.2 ∙ ap (map arc_s) (take_all c.loop-side.side-index c.args.sides.now (omega arith)))
    (IsPermutation-map arc_e c.loop-side.edges.items sorted c.sort_unstable.ensures.permutation)

pub returns-clause-made : goal.returns-clause-made
returns-clause-made c =
    let done = c.loop-side-test.false in
    let made : Side → Edge = edge_of c.args.t.now c.args.parts.now.joining c.args.parts.now.numbers.items in
    subst (λ (xs : List Edge). IsPermutation xs c.sort_unstable.new.self.items) (c.loop-side.invariant.3 ∙ ap (map made) (take_all c.loop-side.side-index c.args.sides.now (omega arith)))
    c.sort_unstable.ensures.permutation

pub returns-clause-balanced : goal.returns-clause-balanced
returns-clause-balanced c = λ faces set built up joined are.
    balanced_edges c.args.t.now faces set c.args.parts.now.joining c.args.parts.now.numbers.items up built joined c.args.sides.now c.sort_unstable.new.self.items are (returns-clause-made c)

pub returns-clause-in_order : goal.returns-clause-in_order
returns-clause-in_order c =
    by_corner start_corner (λ (a : Edge) (b : Edge). ordering_then (nat_cmp a.arc.arc b.arc.arc) (bool_cmp a.arc.is_reversed b.arc.is_reversed)) (edge_at [] 0) c.sort_unstable.new.self.items
    c.sort_unstable.ensures.sorted
