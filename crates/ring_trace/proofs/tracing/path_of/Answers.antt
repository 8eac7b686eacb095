use Rattle.std.proofs.Common.{◌≡◌, ◌∙◌, sym, ap, arith, ℕ, ◌-◌, List, ◌++◌, take, drop}
use Rattle.std.specs.List.{sum_by}
use Rattle.std.proofs.lemmas.List.{map-append}
use Rattle.plane_model.specs.Arcs.{SignedArc}
use Rattle.ring_trace.specs.Keys.{arcs_along}
use Rattle.ring_trace.specs.Rings.{edge_at}
use Rattle.ring_trace.specs.Traced.{times, times_along}
use Rattle.ring_trace.proofs.TileLemmas.{sum_halves}
use Rattle.ring_trace.proofs.tracing.path_of.Goals as goal

pub returns-clause-once : goal.returns-clause-once
returns-clause-once c = λ a.
    let g = times_along a c.args.edges.now in
    let xs = c.args.rings.now.edges.items in
    let key = c.args.key in
    let one = c.in_ok-push_arcs.ensures.once a in
    let two = c.in_ok-push_arcs-2.ensures.once a in
    let e : times a c.new-path.result ≡ 0 = ap (times a) c.new-path.ensures.empty in
    let v = ap (λ (ys : List ℕ). sum_by g (take (key.end - key.first) (drop key.first ys))) c.deref.ensures.value in
    let w = ap (λ (ys : List ℕ). sum_by g (take (key.first - key.begin) (drop key.begin ys))) c.deref-2.ensures.value in
    let h = sum_halves g xs key.begin key.first key.end c.requires.key.begins c.requires.key.goes_on in
    omega arith

pub returns-clause-exact : goal.returns-clause-exact
returns-clause-exact c =
    let edges = c.args.edges.now in
    let arc : ℕ → SignedArc = λ k. (edge_at edges k).arc in
    let xs = c.args.rings.now.edges.items in
    let key = c.args.key in
    c.in_ok-push_arcs-2.ensures.exact
    ∙ ap (λ (ys : List SignedArc). ys ++ arcs_along edges (take (key.first - key.begin) (drop key.begin c.deref-2.result.now)))
    (c.in_ok-push_arcs.ensures.exact ∙ ap (λ (ys : List SignedArc). ys ++ arcs_along edges (take (key.end - key.first) (drop key.first c.deref.result.now))) c.new-path.ensures.empty)
    ∙ (λ i. arcs_along edges (take (key.end - key.first) (drop key.first (c.deref.ensures.value i))) ++ arcs_along edges (take (key.first - key.begin) (drop key.begin (c.deref-2.ensures.value i))))
    ∙ sym (map-append arc (take (key.end - key.first) (drop key.first xs)) (take (key.first - key.begin) (drop key.begin xs)))
