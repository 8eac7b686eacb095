use Rattle.std.proofs.Common.{rules, refl, false, get_or, set, drop, reverse, ◌≡◌, ◌∙◌, sym, ap, subst, arith, ℕ, ◌<◌, Some, List, [], ◌++◌, length, All, length-set}
use Rattle.std.specs.List.{sum_by}
use Rattle.std.specs.List.Sorted.{IsPermutation}
use Rattle.std.proofs.lemmas.Result.{on_ok_weaker}
use Rattle.std.proofs.lemmas.List.{length_push, get_or_default}
use Rattle.ring_trace.specs.declared.simple_rings.RingSpan.{RingSpan}
use Rattle.ring_trace.specs.Ways.{IsWay, AreSimpleRings, AreMarked, start_in, stop_in}
use Rattle.ring_trace.proofs.WayLemmas.{IsMoved, none_moved, moved_more, marks_popped, part_once, starts_apart}
use Rattle.std.proofs.lemmas.List.Elements.{All-pop}
use Rattle.std.proofs.lemmas.List.Sums.{sum_by_push}
use Rattle.std.proofs.lemmas.List.Sorted.{sum_by-IsPermutation, All-permutation}
use Rattle.ring_trace.specs.Rings.{AreTiled, IsSpan, sum_where}
use Rattle.ring_trace.proofs.TileLemmas.{on_ok_both, whole_pushed}
use Rattle.ring_trace.proofs.simple_rings.close.Goals as goal

pub loop-edge-init : goal.loop-edge-init
loop-edge-init c =
    let way = c.args.walk.now.way.items in
    let edges = c.args.rings.now.edges.items in
    let begin : c.len-begin.result ≡ length edges = search rules in (
      c.requires.walk,
      refl,
      c.requires.rings,
      (omega arith),
      λ g. refl,
      refl,
      refl,
      begin,
      subst (λ (n : ℕ). IsMoved n way edges edges way) (sym begin) (none_moved way edges),
      refl,
      refl,
      λ h. h,
    )

pub loop-edge-preserved : goal.loop-edge-preserved
loop-edge-preserved c =
    let w = c.loop-edge.invariant.0 in
    let count = c.loop-edge.invariant.1 in
    let n = length c.args.walk.now.onward.items in
    let e = c.in-Some.edge in
    let popped = All-pop (λ k. k < length c.loop-edge.walk.onward.items) c.loop-edge.walk.way.items c.pop.new.self.items (Some e) c.in-Some.ensures.items w.way in
    let here : e < n = (let l = popped.1 in omega arith) in
    let more = whole_pushed n c.loop-edge.rings.edges.items c.push.new.self.items c.loop-edge.rings.spans.items e c.in_ok-push.ensures.items here c.loop-edge.invariant.2.edges c.loop-edge.invariant.2.spans in
    let size = ap (λ (xs : List ℕ). length xs) c.in_ok-push.ensures.items ∙ length_push c.loop-edge.rings.edges.items e in
    let begin = c.loop-edge.invariant.3 in
    let vertices = c.args.walk.now.vertices.items in
    let there : e < length c.loop-edge.walk.vertices.items = (let v = w.vertices_each in omega arith) in
    let same_list = c.loop-edge.invariant.10 in
    let is : c.index.result.now ≡ start_in vertices e = c.index.ensures ∙ get_or_default c.loop-edge.walk.vertices.items e c.index.result.now 0 there ∙ ap (λ (xs : List ℕ). get_or xs e 0) same_list in
    let small : start_in vertices e < length c.loop-edge.walk.is_passed.items = subst (λ (xs : List ℕ). get_or xs e 0 < length c.loop-edge.walk.is_passed.items) same_list (let v = w.vertices e 0 there in let q = w.passed_each in omega arith) in (
      record {
        few = w.few;
        onward = w.onward;
        vertices_each = w.vertices_each;
        vertices = w.vertices;
        gone_each = w.gone_each;
        way = popped.0;
        passed_each = length-set c.loop-edge.walk.is_passed.items c.index.result.now _ ∙ w.passed_each;
      },
      count,
      record { edges = more.0; spans = more.1 },
      (omega arith),
      λ g.
          let p = ap (sum_by g) c.in_ok-push.ensures.items ∙ sum_by_push g c.loop-edge.rings.edges.items e in
          let v = ap (sum_by g) c.in-Some.ensures.items ∙ sum_by_push g c.pop.new.self.items e in
          let h = c.loop-edge.invariant.4 g in
          omega arith,
      c.loop-edge.invariant.5,
      c.loop-edge.invariant.6,
      c.loop-edge.invariant.7,
      moved_more c.len-begin.result c.args.walk.now.way.items c.args.rings.now.edges.items c.loop-edge.rings.edges.items c.push.new.self.items c.loop-edge.walk.way.items c.pop.new.self.items e begin c.in_ok-push.ensures.items c.in-Some.ensures.items c.loop-edge.invariant.8,
      c.loop-edge.invariant.9,
      c.loop-edge.invariant.10,
      λ h. subst (λ (x : ℕ). AreMarked vertices (set c.loop-edge.walk.is_passed.items x false) c.pop.new.self.items) (sym is)
          (marks_popped vertices c.loop-edge.walk.is_passed.items c.pop.new.self.items e small (subst (λ (xs : List ℕ). AreMarked vertices c.loop-edge.walk.is_passed.items xs) c.in-Some.ensures.items (c.loop-edge.invariant.11 h))),
    )

pub returns-clause-rings : goal.returns-clause-rings
returns-clause-rings c =
    let old = c.loop-edge.rings.edges.items in
    let new = c.add_ring.new.rings.edges.items in
    let n = length c.args.walk.now.onward.items in
    on_ok_weaker c.add_ring.result
    (λ h. record { edges = All-permutation (λ e. e < n) old new h.0 c.loop-edge.invariant.2.edges; spans = h.1 })
    (on_ok_both (IsPermutation old new) (All (IsSpan (length new)) c.add_ring.new.rings.spans.items) c.add_ring.result c.add_ring.ensures.edges c.add_ring.ensures.spans)

pub returns-clause-kept : goal.returns-clause-kept
returns-clause-kept c =
    let old = c.loop-edge.rings.edges.items in
    let new = c.add_ring.new.rings.edges.items in
    let rest : c.loop-edge.walk.way.items ≡ c.pop.new.self.items = search rules in
    on_ok_weaker c.add_ring.result
    (λ h. record {
      once = λ g.
          let m = sum_by-IsPermutation g old new h.0 in
          let w = ap (sum_by g) rest in
          let i = c.loop-edge.invariant.4 g in
          let k = c.requires.kept.once g in
          let e = ap (sum_where g 0) c.loop-edge.invariant.5 in
          omega arith;
      tiled = h.1;
    })
    (on_ok_both (IsPermutation old new) (AreTiled 0 c.add_ring.new.rings.spans.items (length new)) c.add_ring.result c.add_ring.ensures.edges c.add_ring.ensures.tiled)

pub returns-clause-simple : goal.returns-clause-simple
returns-clause-simple c = λ from leads old.
    let start : ℕ → ℕ = start_in c.args.walk.now.vertices.items in
    let stop : ℕ → ℕ = stop_in c.args.walk.now.onward.items c.args.walk.now.vertices.items in
    let none : c.loop-edge.walk.way.items ≡ [] = search rules in
    let moved = c.loop-edge.invariant.8 in
    let ring : List ℕ = reverse (drop c.len-begin.result c.loop-edge.rings.edges.items) in
    let whole : ring ≡ c.args.walk.now.way.items = ap (λ (ys : List ℕ). ys ++ ring) (sym none) ∙ moved.back in
    c.add_ring.ensures.simple start stop
    (subst (λ (es : List ℕ). AreSimpleRings start stop es c.loop-edge.rings.spans.items) (sym moved.front) (subst (λ (ss : List RingSpan). AreSimpleRings start stop c.args.rings.now.edges.items ss) (sym c.loop-edge.invariant.6) old))
    (record {
      at = from;
      way = subst (λ (xs : List ℕ). IsWay start stop from xs from) (sym whole) leads.leads;
      apart = starts_apart c.args.walk.now.vertices.items ring (part_once c.args.walk.now.vertices.items c.args.walk.now.is_passed.items c.loop-edge.walk.way.items ring c.args.walk.now.way.items moved.back leads.marked);
    })

pub returns-clause-onward : goal.returns-clause-onward
returns-clause-onward c = on_ok_weaker c.add_ring.result (λ h. c.loop-edge.invariant.9) c.add_ring.ensures.edges

pub returns-clause-vertices : goal.returns-clause-vertices
returns-clause-vertices c = on_ok_weaker c.add_ring.result (λ h. c.loop-edge.invariant.10) c.add_ring.ensures.edges

pub returns-clause-marked : goal.returns-clause-marked
returns-clause-marked c = λ h.
    let rest : c.loop-edge.walk.way.items ≡ c.pop.new.self.items = search rules in
    on_ok_weaker c.add_ring.result (λ _. subst (λ (ys : List ℕ). AreMarked c.args.walk.now.vertices.items c.loop-edge.walk.is_passed.items ys) rest (c.loop-edge.invariant.11 h)) c.add_ring.ensures.edges
