use Rattle.std.proofs.Common.{◌∙◌, sym, ap, subst, arith, ℕ, ◌+◌, ◌<◌, cond, List, [], ◌∷◌, ◌++◌, length, get_or, take, All, append_assoc, append-nil}
use Rattle.std.proofs.lemmas.List.{get_or_default, map_more, take_all}
use Rattle.std.proofs.lemmas.List.Elements.{All-append}
use Rattle.std.proofs.lemmas.List.Sums.{sum_by-append}
use Rattle.plane_model.specs.Arcs.{SignedArc}
use Rattle.ring_trace.specs.declared.pairing.Edge.{Edge}
use Rattle.ring_trace.specs.Keys.{arcs_along}
use Rattle.ring_trace.specs.Rings.{edge_at}
use Rattle.ring_trace.specs.Traced.{same_arc, times}
use Rattle.ring_trace.proofs.TurnLemmas.{along_below, along_times, arc_at}
use Rattle.ring_trace.proofs.tracing.push_arcs.Goals as goal

pub loop-e-init : goal.loop-e-init
loop-e-init c = sym (append-nil c.args.path.now)

pub loop-e-preserved : goal.loop-e-preserved
loop-e-preserved c =
    let edges = c.args.edges.now in
    let ring = c.args.ring.now in
    let i = c.loop-e.e-index in
    let e = get_or ring i 0 in
    let l : i < length ring = c.loop-e-test.true in
    let there : e < length edges = c.requires i 0 l in
    c.in_ok-push.ensures.ok
    ∙ ap (λ (x : Edge). c.loop-e.path ++ x.arc ∷ []) (get_or_default edges e _ (edge_at [] 0) there)
    ∙ ap (λ (xs : List SignedArc). xs ++ arc_at edges e ∷ []) c.loop-e.invariant
    ∙ append_assoc c.args.path.now (arcs_along edges (take i ring)) (arc_at edges e ∷ [])
    ∙ ap (λ (xs : List SignedArc). c.args.path.now ++ xs) (sym (map_more (arc_at edges) ring i 0 l))

pub returns-clause-exact : goal.returns-clause-exact
returns-clause-exact c =
    let done = c.loop-e-test.false in
    c.loop-e.invariant ∙ ap (λ (xs : List ℕ). c.args.path.now ++ arcs_along c.args.edges.now xs) (take_all c.loop-e.e-index c.args.ring.now (omega arith))

pub returns-clause-there : goal.returns-clause-there
returns-clause-there c = λ n there old.
    let more = arcs_along c.args.edges.now c.args.ring.now in
    subst (λ (xs : List SignedArc). All (λ (a : SignedArc). a.arc < n) xs) (sym (returns-clause-exact c)) (All-append (λ (a : SignedArc). a.arc < n) c.args.path.now more old (along_below n c.args.edges.now c.args.ring.now c.requires there))

pub returns-clause-once : goal.returns-clause-once
returns-clause-once c = λ a.
    let more = arcs_along c.args.edges.now c.args.ring.now in
    ap (times a) (returns-clause-exact c) ∙ sum_by-append (λ (y : SignedArc). cond (same_arc a y) 1 0) c.args.path.now more ∙ ap (λ (n : ℕ). times a c.args.path.now + n) (along_times a c.args.edges.now c.args.ring.now)
