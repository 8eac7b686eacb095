use Rattle.std.proofs.Common.{rules, ◌≡◌, sym, subst, refl, arith, ℕ, List, [], ◌∷◌, ◌++◌, length, take, drop, reverse, All}
use Rattle.std.proofs.lemmas.List.Elements.{All-push}
use Rattle.std.proofs.lemmas.List.Sorted.{length_permutation}
use Rattle.ring_trace.specs.declared.simple_rings.RingSpan.{RingSpan}
use Rattle.ring_trace.specs.Rings.{AreTiled, IsSpan}
use Rattle.std.proofs.lemmas.List.{length-take-le, length-drop, length-reverse}
use Rattle.ring_trace.specs.Ways.{AreSimpleRings}
use Rattle.ring_trace.proofs.TileLemmas.{tiled_more}
use Rattle.ring_trace.proofs.WayLemmas.{rings_more}
use Rattle.ring_trace.proofs.simple_rings.add_ring.Goals as goal

pub returns-clause-tiled : goal.returns-clause-tiled
returns-clause-tiled c =
    let old = c.args.rings.now.edges.items in
    let new = c.turn_back.new.edges.items in
    let size : length new ≡ length old = length_permutation old new c.turn_back.ensures.moved in
    let end : c.len-end.result ≡ length old = search rules in
    let place = c.requires.place in
    let s : RingSpan = record { begin = c.args.begin; end = c.len-end.result } in
    subst (λ (ss : List RingSpan). AreTiled 0 ss (length new)) (sym c.in_ok-push.ensures.items)
    (tiled_more 0 c.args.begin (length new) c.args.rings.now.spans.items s c.requires.tiled refl (omega arith) (omega arith))

pub returns-clause-spans : goal.returns-clause-spans
returns-clause-spans c =
    let old = c.args.rings.now.edges.items in
    let new = c.turn_back.new.edges.items in
    let size : length new ≡ length old = length_permutation old new c.turn_back.ensures.moved in
    let end : c.len-end.result ≡ length old = search rules in
    let place = c.requires.place in
    let s : RingSpan = record { begin = c.args.begin; end = c.len-end.result } in
    subst (λ (ss : List RingSpan). All (IsSpan (length new)) ss) (sym c.in_ok-push.ensures.items)
    (All-push (IsSpan (length new)) c.args.rings.now.spans.items s (subst (λ (n : ℕ). All (IsSpan n) c.args.rings.now.spans.items) (sym size) c.requires.spans)
    (record { ordered = omega arith; within = omega arith }))

pub returns-clause-simple : goal.returns-clause-simple
returns-clause-simple c = λ start stop before ring.
    let old = c.args.rings.now.edges.items in
    let begin = c.args.begin in
    let front : List ℕ = take begin old in
    let back : List ℕ = reverse (drop begin old) in
    let place = c.requires.place in
    let size_front : length front ≡ begin = length-take-le begin old place in
    let size_drop = length-drop begin old in
    let size_back : length back ≡ length (drop begin old) = length-reverse (drop begin old) in
    let end : c.len-end.result ≡ length old = search rules in
    let spans = c.args.rings.now.spans.items in
    let s : RingSpan = record { begin = begin; end = c.len-end.result } in
    subst (λ (ss : List RingSpan). AreSimpleRings start stop c.turn_back.new.edges.items ss) (sym c.in_ok-push.ensures.items)
    (subst (λ (es : List ℕ). AreSimpleRings start stop es (spans ++ s ∷ [])) (sym c.turn_back.ensures.exact)
    (rings_more start stop front back spans s (subst (λ (n : ℕ). AreTiled 0 spans n) (sym size_front) c.requires.tiled) (sym size_front) (omega arith) before ring))
