use Rattle.std.proofs.Common.{rules, refl, Bool, false, true, get_or, set, map, drop, reverse, Contains, ◌≡◌, ◌∙◌, sym, ap, subst, arith, ℕ, ◌+◌, ◌<◌, Some, List, [], ◌∷◌, ◌++◌, length, All, length-set}
use Rattle.std.specs.List.{sum_by}
use Rattle.std.specs.List.Sorted.{IsPermutation}
use Rattle.std.proofs.lemmas.Result.{on_ok_weaker}
use Rattle.std.proofs.lemmas.List.{length_push, get_or_default, get_or-set_same}
use Rattle.ring_trace.specs.declared.simple_rings.RingSpan.{RingSpan}
use Rattle.ring_trace.specs.Ways.{IsWay, AreSimpleRings, AreMarked, IsMarkedWay, start_in, stop_in, times_at}
use Rattle.ring_trace.proofs.WayLemmas.{IsMoved, none_moved, moved_more, moved_back, marks_popped, marked_on, tick_none, still_on, way_cut, part_once, starts_apart}
use Rattle.std.proofs.lemmas.List.Elements.{All-pop}
use Rattle.std.proofs.lemmas.List.Sums.{sum_by_push}
use Rattle.std.proofs.lemmas.List.Sorted.{sum_by-IsPermutation, All-permutation}
use Rattle.ring_trace.specs.declared.simple_rings.Rings.{Rings}
use Rattle.ring_trace.specs.declared.simple_rings.Walk.{Walk}
use Rattle.ring_trace.specs.Rings.{AreTiled, IsSpan, sum_where}
use Rattle.ring_trace.proofs.TileLemmas.{on_ok_both, whole_pushed, AreBelow}
use Rattle.ring_trace.proofs.simple_rings.cut_ring.Goals.{in-Some+in_ok-push+then-start-vertex, in_default}
use Rattle.ring_trace.proofs.simple_rings.cut_ring.Goals as goal

pub loop-edge-init : goal.loop-edge-init
loop-edge-init c =
    let way = c.args.walk.now.way.items in
    let edges = c.args.rings.now.edges.items in
    let begin : c.len-begin.result ≡ length edges = search rules in (
      c.requires.walk,
      refl,
      c.requires.rings,
      (omega arith),
      λ g. refl,
      refl,
      refl,
      begin,
      refl,
      refl,
      subst (λ (n : ℕ). IsMoved n way edges edges way) (sym begin) (none_moved way edges),
      λ h. h,
      λ h p. marked_on c.args.walk.now.vertices.items c.args.walk.now.is_passed.items way c.args.vertex h p,
    )

pub loop-edge-preserved : goal.loop-edge-preserved
loop-edge-preserved c =
    let w = c.loop-edge.invariant.0 in
    let count = c.loop-edge.invariant.1 in
    let n = length c.args.walk.now.onward.items in
    let e = c.in-Some.edge in
    let popped = All-pop (λ k. k < length c.loop-edge.walk.onward.items) c.loop-edge.walk.way.items c.pop.new.self.items (Some e) c.in-Some.ensures.items w.way in
    let here : e < n = (let l = popped.1 in omega arith) in
    let more = whole_pushed n c.loop-edge.rings.edges.items c.push.new.self.items c.loop-edge.rings.spans.items e c.in_ok-push.ensures.items here c.loop-edge.invariant.2.edges c.loop-edge.invariant.2.spans in
    let size = ap (λ (xs : List ℕ). length xs) c.in_ok-push.ensures.items ∙ length_push c.loop-edge.rings.edges.items e in
    let begin = c.loop-edge.invariant.3 in
    let vertices = c.args.walk.now.vertices.items in
    let there : e < length c.loop-edge.walk.vertices.items = (let v = w.vertices_each in omega arith) in
    let same_list = c.loop-edge.invariant.9 in
    let is : c.index.result.now ≡ start_in vertices e = c.index.ensures ∙ get_or_default c.loop-edge.walk.vertices.items e c.index.result.now 0 there ∙ ap (λ (xs : List ℕ). get_or xs e 0) same_list in
    let small : start_in vertices e < length c.loop-edge.walk.is_passed.items = subst (λ (xs : List ℕ). get_or xs e 0 < length c.loop-edge.walk.is_passed.items) same_list (let v = w.vertices e 0 there in let q = w.passed_each in omega arith) in (
      record {
        few = w.few;
        onward = w.onward;
        vertices_each = w.vertices_each;
        vertices = w.vertices;
        gone_each = w.gone_each;
        way = popped.0;
        passed_each = length-set c.loop-edge.walk.is_passed.items c.index.result.now _ ∙ w.passed_each;
      },
      count,
      record { edges = more.0; spans = more.1 },
      (omega arith),
      λ g.
          let p = ap (sum_by g) c.in_ok-push.ensures.items ∙ sum_by_push g c.loop-edge.rings.edges.items e in
          let v = ap (sum_by g) c.in-Some.ensures.items ∙ sum_by_push g c.pop.new.self.items e in
          let h = c.loop-edge.invariant.4 g in
          omega arith,
      c.loop-edge.invariant.5,
      c.loop-edge.invariant.6,
      c.loop-edge.invariant.7,
      c.loop-edge.invariant.8,
      c.loop-edge.invariant.9,
      moved_more c.len-begin.result c.args.walk.now.way.items c.args.rings.now.edges.items c.loop-edge.rings.edges.items c.push.new.self.items c.loop-edge.walk.way.items c.pop.new.self.items e begin c.in_ok-push.ensures.items c.in-Some.ensures.items c.loop-edge.invariant.10,
      λ h. subst (λ (x : ℕ). AreMarked vertices (set c.loop-edge.walk.is_passed.items x false) c.pop.new.self.items) (sym is)
          (marks_popped vertices c.loop-edge.walk.is_passed.items c.pop.new.self.items e small (subst (λ (xs : List ℕ). AreMarked vertices c.loop-edge.walk.is_passed.items xs) c.in-Some.ensures.items (c.loop-edge.invariant.11 h))),
      λ h p. still_on vertices c.pop.new.self.items e c.args.vertex (subst (λ (xs : List ℕ). Contains (map (start_in vertices) xs) c.args.vertex) c.in-Some.ensures.items (c.loop-edge.invariant.12 h p))
          (λ same. let t = c.if-start-vertex.false in let f = is in absurd (omega arith)),
    )

record IsCut (before : Walk) (so_far : Rings) (vertex begin : ℕ) (walk : Walk) (rings : Rings) : Type 0 where
  below : AreBelow (length before.onward.items) rings.edges.items
  sums : (g : ℕ → ℕ) → sum_by g rings.edges.items + sum_by g walk.way.items ≡ sum_by g so_far.edges.items + sum_by g before.way.items
  gone : walk.is_gone.items ≡ before.is_gone.items
  onward : walk.onward.items ≡ before.onward.items
  vertices : walk.vertices.items ≡ before.vertices.items
  spans : rings.spans.items ≡ so_far.spans.items
  moved : IsMoved begin before.way.items so_far.edges.items rings.edges.items walk.way.items
  marked : AreMarked before.vertices.items before.is_passed.items before.way.items → AreMarked before.vertices.items walk.is_passed.items walk.way.items
  freed : AreMarked before.vertices.items before.is_passed.items before.way.items → get_or walk.is_passed.items vertex false ≡ false
  first : AreMarked before.vertices.items before.is_passed.items before.way.items → get_or before.is_passed.items vertex false ≡ true →
      (e : ℕ) × (ys : List ℕ) × (reverse (drop begin rings.edges.items) ≡ e ∷ ys) × (start_in before.vertices.items e ≡ vertex)

cut : (c : goal.After-add_ring) → IsCut c.args.walk.now c.args.rings.now c.args.vertex c.len-begin.result c.match-pop.walk c.match-pop.rings
cut c = elim c.match-pop.branch [
  | in-Some+in_ok-push+then-start-vertex w ↦
      (let n = length c.args.walk.now.onward.items in
      let count = c.loop-edge.invariant.1 in
      let e = w.in-Some.edge in
      let popped = All-pop (λ k. k < length c.loop-edge.walk.onward.items) c.loop-edge.walk.way.items c.pop.new.self.items (Some e) w.in-Some.ensures.items c.loop-edge.invariant.0.way in
      let here : e < n = (let l = popped.1 in omega arith) in
      let more = whole_pushed n c.loop-edge.rings.edges.items w.push.new.self.items c.loop-edge.rings.spans.items e w.in_ok-push.ensures.items here c.loop-edge.invariant.2.edges c.loop-edge.invariant.2.spans in
      let edges : c.match-pop.rings.edges.items ≡ w.push.new.self.items = ap (λ (r : Rings). r.edges.items) w.rings-is in
      let way : c.match-pop.walk.way.items ≡ c.pop.new.self.items = ap (λ (v : Walk). v.way.items) w.walk-is in
      let walk = c.loop-edge.invariant.0 in
      let begin = c.loop-edge.invariant.3 in
      let vertices = c.args.walk.now.vertices.items in
      let there : e < length c.loop-edge.walk.vertices.items = (let v = walk.vertices_each in omega arith) in
      let same_list = c.loop-edge.invariant.9 in
      let is : w.index.result.now ≡ start_in vertices e = w.index.ensures ∙ get_or_default c.loop-edge.walk.vertices.items e w.index.result.now 0 there ∙ ap (λ (xs : List ℕ). get_or xs e 0) same_list in
      let small : start_in vertices e < length c.loop-edge.walk.is_passed.items = subst (λ (xs : List ℕ). get_or xs e 0 < length c.loop-edge.walk.is_passed.items) same_list (let v = walk.vertices e 0 there in let q = walk.passed_each in omega arith) in
      let passed : c.match-pop.walk.is_passed.items ≡ set c.loop-edge.walk.is_passed.items w.index.result.now false = ap (λ (v : Walk). v.is_passed.items) w.walk-is in
      record {
        onward = ap (λ (v : Walk). v.onward.items) w.walk-is ∙ c.loop-edge.invariant.8;
        vertices = ap (λ (v : Walk). v.vertices.items) w.walk-is ∙ c.loop-edge.invariant.9;
        spans = ap (λ (r : Rings). r.spans.items) w.rings-is ∙ c.loop-edge.invariant.6;
        moved = subst (λ (xs : List ℕ). IsMoved c.len-begin.result c.args.walk.now.way.items c.args.rings.now.edges.items xs c.match-pop.walk.way.items) (sym edges)
            (subst (λ (ys : List ℕ). IsMoved c.len-begin.result c.args.walk.now.way.items c.args.rings.now.edges.items w.push.new.self.items ys) (sym way)
            (moved_more c.len-begin.result c.args.walk.now.way.items c.args.rings.now.edges.items c.loop-edge.rings.edges.items w.push.new.self.items c.loop-edge.walk.way.items c.pop.new.self.items e begin w.in_ok-push.ensures.items w.in-Some.ensures.items c.loop-edge.invariant.10));
        marked = λ h. subst (λ (bs : List Bool). AreMarked vertices bs c.match-pop.walk.way.items) (sym passed) (subst (λ (ys : List ℕ). AreMarked vertices (set c.loop-edge.walk.is_passed.items w.index.result.now false) ys) (sym way)
            (subst (λ (x : ℕ). AreMarked vertices (set c.loop-edge.walk.is_passed.items x false) c.pop.new.self.items) (sym is)
            (marks_popped vertices c.loop-edge.walk.is_passed.items c.pop.new.self.items e small (subst (λ (xs : List ℕ). AreMarked vertices c.loop-edge.walk.is_passed.items xs) w.in-Some.ensures.items (c.loop-edge.invariant.11 h)))));
        freed = λ h.
            ap (λ (bs : List Bool). get_or bs c.args.vertex false) passed
            ∙ ap (λ (x : ℕ). get_or (set c.loop-edge.walk.is_passed.items x false) c.args.vertex false) w.if-start-vertex.true
            ∙ get_or-set_same c.loop-edge.walk.is_passed.items c.args.vertex false false (let same : start_in vertices e ≡ c.args.vertex = sym is ∙ w.if-start-vertex.true in omega arith);
        first = λ h p. (
          e,
          reverse (drop c.len-begin.result c.loop-edge.rings.edges.items),
          ap (λ (xs : List ℕ). reverse (drop c.len-begin.result xs)) (edges ∙ w.in_ok-push.ensures.items) ∙ moved_back c.len-begin.result c.loop-edge.rings.edges.items e begin,
          sym is ∙ w.if-start-vertex.true,
        );
        below = subst (λ (xs : List ℕ). AreBelow n xs) (sym edges) more.0;
        sums = λ g.
            let p = ap (sum_by g) (edges ∙ w.in_ok-push.ensures.items) ∙ sum_by_push g c.loop-edge.rings.edges.items e in
            let v = ap (sum_by g) w.in-Some.ensures.items ∙ sum_by_push g c.pop.new.self.items e in
            let u = ap (sum_by g) way in
            let h = c.loop-edge.invariant.4 g in
            omega arith;
        gone = ap (λ (v : Walk). v.is_gone.items) w.walk-is ∙ c.loop-edge.invariant.5;
      })
  | in_default w ↦
      (let edges : c.match-pop.rings.edges.items ≡ c.loop-edge.rings.edges.items = ap (λ (r : Rings). r.edges.items) w.rings-is in
      let way : c.match-pop.walk.way.items ≡ c.pop.new.self.items = ap (λ (v : Walk). v.way.items) w.walk-is in
      let rest : c.loop-edge.walk.way.items ≡ c.pop.new.self.items = search rules in
      let none : c.loop-edge.walk.way.items ≡ [] = search rules in
      let passed : c.match-pop.walk.is_passed.items ≡ c.loop-edge.walk.is_passed.items = ap (λ (v : Walk). v.is_passed.items) w.walk-is in
      let vertices = c.args.walk.now.vertices.items in
      record {
        onward = ap (λ (v : Walk). v.onward.items) w.walk-is ∙ c.loop-edge.invariant.8;
        vertices = ap (λ (v : Walk). v.vertices.items) w.walk-is ∙ c.loop-edge.invariant.9;
        spans = ap (λ (r : Rings). r.spans.items) w.rings-is ∙ c.loop-edge.invariant.6;
        moved = subst (λ (xs : List ℕ). IsMoved c.len-begin.result c.args.walk.now.way.items c.args.rings.now.edges.items xs c.match-pop.walk.way.items) (sym edges)
            (subst (λ (ys : List ℕ). IsMoved c.len-begin.result c.args.walk.now.way.items c.args.rings.now.edges.items c.loop-edge.rings.edges.items ys) (rest ∙ sym way) c.loop-edge.invariant.10);
        marked = λ h. subst (λ (bs : List Bool). AreMarked vertices bs c.match-pop.walk.way.items) (sym passed)
            (subst (λ (ys : List ℕ). AreMarked vertices c.loop-edge.walk.is_passed.items ys) (rest ∙ sym way) (c.loop-edge.invariant.11 h));
        freed = λ h.
            ap (λ (bs : List Bool). get_or bs c.args.vertex false) passed
            ∙ tick_none (get_or c.loop-edge.walk.is_passed.items c.args.vertex false) (sym (c.loop-edge.invariant.11 h c.args.vertex) ∙ ap (times_at vertices c.args.vertex) none);
        first = λ h p.
            let on : Contains [] c.args.vertex = subst (λ (xs : List ℕ). Contains (map (start_in vertices) xs) c.args.vertex) none (c.loop-edge.invariant.12 h p) in
            let l = on.1 in
            absurd (omega arith);
        below = subst (λ (xs : List ℕ). AreBelow (length c.args.walk.now.onward.items) xs) (sym edges) c.loop-edge.invariant.2.edges;
        sums = λ g.
            let p = ap (sum_by g) edges in
            let u = ap (sum_by g) (way ∙ sym rest) in
            let h = c.loop-edge.invariant.4 g in
            omega arith;
        gone = ap (λ (v : Walk). v.is_gone.items) w.walk-is ∙ c.loop-edge.invariant.5;
      })
]

pub returns-clause-rings : goal.returns-clause-rings
returns-clause-rings c =
    let old = c.match-pop.rings.edges.items in
    let new = c.add_ring.new.rings.edges.items in
    on_ok_weaker c.add_ring.result
    (λ h. record { edges = All-permutation (λ e. e < length c.args.walk.now.onward.items) old new h.0 (cut c).below; spans = h.1 })
    (on_ok_both (IsPermutation old new) (All (IsSpan (length new)) c.add_ring.new.rings.spans.items) c.add_ring.result c.add_ring.ensures.edges c.add_ring.ensures.spans)

pub returns-clause-kept : goal.returns-clause-kept
returns-clause-kept c =
    let old = c.match-pop.rings.edges.items in
    let new = c.add_ring.new.rings.edges.items in
    on_ok_weaker c.add_ring.result
    (λ h. record {
      once = λ g.
          let m = sum_by-IsPermutation g old new h.0 in
          let i = (cut c).sums g in
          let k = c.requires.kept.once g in
          let e = ap (sum_where g 0) (cut c).gone in
          omega arith;
      tiled = h.1;
    })
    (on_ok_both (IsPermutation old new) (AreTiled 0 c.add_ring.new.rings.spans.items (length new)) c.add_ring.result c.add_ring.ensures.edges c.add_ring.ensures.tiled)

split : (c : goal.After-add_ring) (from : ℕ) → IsMarkedWay c.args.walk.now from c.args.vertex → get_or c.args.walk.now.is_passed.items c.args.vertex false ≡ true →
    IsWay (start_in c.args.walk.now.vertices.items) (stop_in c.args.walk.now.onward.items c.args.walk.now.vertices.items) from c.match-pop.walk.way.items c.args.vertex
    × IsWay (start_in c.args.walk.now.vertices.items) (stop_in c.args.walk.now.onward.items c.args.walk.now.vertices.items) c.args.vertex (reverse (drop c.len-begin.result c.match-pop.rings.edges.items)) c.args.vertex
split c from h p =
    let start : ℕ → ℕ = start_in c.args.walk.now.vertices.items in
    let stop : ℕ → ℕ = stop_in c.args.walk.now.onward.items c.args.walk.now.vertices.items in
    let way = c.match-pop.walk.way.items in
    let (e, ys, is, same) = (cut c).first h.marked p in
    let whole : way ++ (e ∷ ys) ≡ c.args.walk.now.way.items = ap (λ (zs : List ℕ). way ++ zs) (sym is) ∙ (cut c).moved.back in
    let both = way_cut start stop from c.args.vertex way e ys (subst (λ (xs : List ℕ). IsWay start stop from xs c.args.vertex) (sym whole) h.leads) same in
    (both.0, subst (λ (zs : List ℕ). IsWay start stop c.args.vertex zs c.args.vertex) (sym is) both.1)

pub returns-clause-onward : goal.returns-clause-onward
returns-clause-onward c = on_ok_weaker c.add_ring.result (λ h. (cut c).onward) c.add_ring.ensures.edges

pub returns-clause-vertices : goal.returns-clause-vertices
returns-clause-vertices c = on_ok_weaker c.add_ring.result (λ h. (cut c).vertices) c.add_ring.ensures.edges

pub returns-clause-marked : goal.returns-clause-marked
returns-clause-marked c = λ h. on_ok_weaker c.add_ring.result (λ _. (cut c).marked h) c.add_ring.ensures.edges

pub returns-clause-freed : goal.returns-clause-freed
returns-clause-freed c = λ h. on_ok_weaker c.add_ring.result (λ _. (cut c).freed h) c.add_ring.ensures.edges

pub returns-clause-leads : goal.returns-clause-leads
returns-clause-leads c = λ from h p. on_ok_weaker c.add_ring.result (λ _. (split c from h p).0) c.add_ring.ensures.edges

pub returns-clause-simple : goal.returns-clause-simple
returns-clause-simple c = λ from h p old.
    let start : ℕ → ℕ = start_in c.args.walk.now.vertices.items in
    let stop : ℕ → ℕ = stop_in c.args.walk.now.onward.items c.args.walk.now.vertices.items in
    let vertices = c.args.walk.now.vertices.items in
    let ring : List ℕ = reverse (drop c.len-begin.result c.match-pop.rings.edges.items) in
    c.add_ring.ensures.simple start stop
    (subst (λ (es : List ℕ). AreSimpleRings start stop es c.match-pop.rings.spans.items) (sym (cut c).moved.front) (subst (λ (ss : List RingSpan). AreSimpleRings start stop c.args.rings.now.edges.items ss) (sym (cut c).spans) old))
    (record {
      at = c.args.vertex;
      way = (split c from h p).1;
      apart = starts_apart vertices ring (part_once vertices c.args.walk.now.is_passed.items c.match-pop.walk.way.items ring c.args.walk.now.way.items (cut c).moved.back h.marked);
    })
