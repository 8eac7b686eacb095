use Rattle.std.proofs.Common.{rules, refl, All, ◌≡◌, ◌∙◌, sym, ap, subst, arith, ℕ, ◌+◌, ◌<◌, Bool, true, false, List, [], length, get_or, replicate}
use Rattle.std.specs.List.{sum_by}
use Rattle.std.proofs.lemmas.List.{get_or-replicate, get_or_default, length-replicate}
use Rattle.ring_trace.specs.declared.simple_rings.RingSpan.{RingSpan}
use Rattle.ring_trace.specs.declared.simple_rings.Rings.{Rings}
use Rattle.ring_trace.specs.declared.simple_rings.Walk.{Walk}
use Rattle.ring_trace.specs.Rings.{AreTiled, edge_at}
use Rattle.ring_trace.proofs.TileLemmas.{sum_where-none, sum_where-all}
use Rattle.std.proofs.lemmas.List.Elements.{All-nil}
use Rattle.ring_trace.specs.Ways.{IsSimpleRing, AreSimpleRings, edges_in, start_in, stop_in, times_at}
use Rattle.ring_trace.proofs.SortedLists.{tick}
use Rattle.ring_trace.proofs.WayLemmas.{none_marked}
use Rattle.ring_trace.proofs.CornerLemmas.{IsSoFar, so_far_gone, so_far_round, by_corners}
use Rattle.ring_trace.proofs.simple_rings.rings_of.Goals.{then-not-index+in_ok-go_round, else-not-index}
use Rattle.ring_trace.proofs.simple_rings.rings_of.Goals as goal

pub loop-e-init : goal.loop-e-init
loop-e-init c =
    let n = length c.args.edges.now in
    let edges : c.in_ok-with_capacity.field-0.items ≡ [] = search rules in
    let way : c.new.result.items ≡ [] = search rules in
    let spans : c.new-2.result.items ≡ [] = search rules in
    let gone : c.in_ok-vec.field-0.items ≡ replicate n false = search rules in
    let passed : c.in_ok-vec-2.field-0.items ≡ replicate n false = search rules in
    let none_gone : (i : ℕ) → i < length c.in_ok-vec.field-0.items → get_or c.in_ok-vec.field-0.items i false ≡ false =
    (λ i l. ap (λ (bs : List Bool). get_or bs i false) gone ∙ get_or-replicate n i false false (let s = ap (λ (bs : List Bool). length bs) gone ∙ length-replicate n false in omega arith)) in
    let none_passed : (i : ℕ) → i < length c.in_ok-vec-2.field-0.items → get_or c.in_ok-vec-2.field-0.items i false ≡ false =
    (λ i l. ap (λ (bs : List Bool). get_or bs i false) passed ∙ get_or-replicate n i false false (let s = ap (λ (bs : List Bool). length bs) passed ∙ length-replicate n false in omega arith)) in
    let onward = c.in_ok-onward_of.field-0.items in
    let vertices = c.in_ok-vertices_of.field-0.items in
    record {
      walk_is = search rules;
      count = search rules;
      rings_are = search rules;
      kept = record {
        once = λ g.
            let e = ap (sum_by g) edges in
            let w = ap (sum_by g) way in
            let n = sum_where-none g 0 c.in_ok-vec.field-0.items none_gone in
            omega arith;
        tiled = subst (λ (ss : List RingSpan). AreTiled 0 ss (length c.in_ok-with_capacity.field-0.items)) (sym spans) (let e = ap (λ (xs : List ℕ). length xs) edges in let s : length c.in_ok-with_capacity.field-0.items ≡ 0 = e in sym s);
      };
      gone = λ k l. absurd (omega arith);
      rest = record {
        done = way;
        marked = λ v.
            let e : times_at vertices v c.new.result.items ≡ 0 = ap (times_at vertices v) way in
            e ∙ sym (ap tick (none_marked c.in_ok-vec-2.field-0.items none_passed v));
        led = λ k h. let f : true ≡ false = sym h ∙ none_marked c.in_ok-vec.field-0.items none_gone k in absurd (cc);
        simple = subst (λ (ss : List RingSpan). AreSimpleRings (start_in vertices) (stop_in onward vertices) c.in_ok-with_capacity.field-0.items ss) (sym spans)
            (All-nil (λ (s : RingSpan). IsSimpleRing (start_in vertices) (stop_in onward vertices) (edges_in c.in_ok-with_capacity.field-0.items s)));
      };
      apart = c.in_ok-onward_of.ensures.apart;
      leads = c.in_ok-onward_of.ensures.leads;
      numbered = c.in_ok-vertices_of.ensures.exact;
    }

pub loop-e-preserved : goal.loop-e-preserved
loop-e-preserved c =
    let arcs = c.args.t.now in
    let edges = c.args.edges.now in
    let e = c.loop-e.e in
    let h = c.loop-e.invariant in
    let l : e < length edges = c.loop-e-test.true in
    let gone = c.loop-e.walk.is_gone.items in
    let small : e < length gone = (let n = h.walk_is.gone_each in let m = h.count in omega arith) in
    let read = c.index.ensures ∙ get_or_default gone e c.index.result.now false small in
    elim c.if-not-index.branch [
      | then-not-index+in_ok-go_round w ↦
          (let call = w.in_ok-go_round.ensures in
          subst (λ (v : Walk). IsSoFar arcs edges (e + 1) v c.if-not-index.rings) (sym w.walk-is) (subst (λ (r : Rings). IsSoFar arcs edges (e + 1) w.go_round.new.walk r) (sym w.rings-is)
          (so_far_gone arcs edges e w.go_round.new.walk w.go_round.new.rings
          (so_far_round arcs edges e c.loop-e.walk w.go_round.new.walk c.loop-e.rings w.go_round.new.rings h call.walk call.count call.rings call.kept call.stays call.onward call.vertices call.rest)
          call.gone)))
      | else-not-index w ↦
          subst (λ (v : Walk). IsSoFar arcs edges (e + 1) v c.if-not-index.rings) (sym w.walk-is) (subst (λ (r : Rings). IsSoFar arcs edges (e + 1) c.loop-e.walk r) (sym w.rings-is)
          (so_far_gone arcs edges e c.loop-e.walk c.loop-e.rings h (sym read ∙ w.if-not-index.false)))
    ]

pub returns-clause-once : goal.returns-clause-once
returns-clause-once c = λ G.
    let edges = c.args.edges.now in
    let g : ℕ → ℕ = λ k. G (edge_at edges k) in
    let kept = c.loop-e.invariant.kept.once g in
    let way = ap (sum_by g) c.loop-e.invariant.rest.done in
    let done = c.loop-e-test.false in
    let many : length c.loop-e.walk.is_gone.items ≡ length edges = c.loop-e.invariant.walk_is.gone_each ∙ c.loop-e.invariant.count in
    let all = sum_where-all g G 0 c.loop-e.walk.is_gone.items edges many (λ i l. c.loop-e.invariant.gone i (omega arith)) (λ i d l.
    ap g (let n : 0 + i ≡ i = omega arith in n) ∙ ap G (get_or_default edges i _ d l)) in
    omega arith

pub returns-clause-simple : goal.returns-clause-simple
returns-clause-simple c = λ balanced up.
    let walk = c.loop-e.walk in
    by_corners c.args.t.now c.args.edges.now walk.onward.items walk.vertices.items
    (subst (λ (n : ℕ). All (λ k. k < n) walk.onward.items) c.loop-e.invariant.count c.loop-e.invariant.walk_is.onward)
    c.loop-e.invariant.count (c.loop-e.invariant.leads balanced up) (c.loop-e.invariant.numbered up) walk c.loop-e.rings refl refl c.loop-e.invariant.rings_are.edges c.loop-e.invariant.rest.simple
