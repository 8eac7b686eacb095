use Rattle.std.proofs.Common.{rules, ◌≡◌, ◌∙◌, sym, ap, subst, arith, ℕ, ◌<◌, List, [], length, All}
use Rattle.std.proofs.lemmas.List.{length_push}
use Rattle.std.proofs.lemmas.List.Elements.{All-push}
use Rattle.ring_trace.proofs.VertexLemmas.{AreNumbered, none_numbered, numbered_more, are_vertices}
use Rattle.ring_trace.proofs.pairing.vertices_of.Goals as goal

pub loop-k-init : goal.loop-k-init
loop-k-init c =
    let items : c.in_ok-vertices.vertices.items ≡ [] = search rules in
    record {
      each = search rules;
      there = search rules;
      first = omega arith;
      numbered = λ up. subst (λ (xs : List ℕ). AreNumbered c.args.edges.now 0 0 xs) (sym items) (none_numbered c.args.edges.now);
    }

pub loop-k-preserved : goal.loop-k-preserved
loop-k-preserved c =
    let edges = c.args.edges.now in
    let k = c.loop-k.k in
    let l : k < length edges = c.loop-k-test.true in
    let old = c.loop-k.vertices.items in
    let v = c.vertex_of-vertex.result in
    let items = c.in_ok-push.ensures.items in
    let size = length_push old v in
    let low = c.vertex_of-vertex.ensures.within in
    let first = c.loop-k.invariant.first in
    let each = c.loop-k.invariant.each in
    record {
      each = ap (λ (xs : List ℕ). length xs) items ∙ (omega arith);
      there = subst (λ (xs : List ℕ). All (λ x. x < length edges) xs) (sym items) (All-push (λ (x : ℕ). x < length edges) old v c.loop-k.invariant.there (omega arith));
      first = omega arith;
      numbered = λ up. numbered_more edges k c.loop-k.first v old c.push.new.self.items up items l first (c.loop-k.invariant.numbered up) c.vertex_of-vertex.ensures.on c.vertex_of-vertex.ensures.anew;
    }

pub returns-clause-exact : goal.returns-clause-exact
returns-clause-exact c =
    let done = c.loop-k-test.false in
    let end = c.loop-k.auto.k-end in
    λ up. are_vertices c.args.edges.now c.loop-k.k c.loop-k.first c.loop-k.vertices.items (c.loop-k.invariant.numbered up) (omega arith)
