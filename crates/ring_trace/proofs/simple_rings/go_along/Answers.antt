use Rattle.std.proofs.Common.{◌≡◌, ◌∙◌, sym, ap, subst, arith, ℕ, ◌+◌, ◌<◌, Bool, true, false, List, length, get_or, set}
use Rattle.std.specs.List.{sum_by}
use Rattle.std.proofs.lemmas.List.{get_or_default}
use Rattle.std.proofs.lemmas.List.Sums.{sum_by_push}
use Rattle.ring_trace.specs.declared.simple_rings.Rings.{Rings}
use Rattle.ring_trace.specs.declared.simple_rings.Walk.{Walk}
use Rattle.ring_trace.specs.Rings.{IsKept, sum_where}
use Rattle.ring_trace.specs.Ways.{IsWay, AreMarked, IsMarkedWay, AreRingsByVertices, start_in, stop_in}
use Rattle.ring_trace.proofs.TileLemmas.{sum_where-set}
use Rattle.ring_trace.proofs.WayLemmas.{gone_along}
use Rattle.ring_trace.proofs.simple_rings.go_along.Goals.{then-index+in_ok-cut_ring, else-index}
use Rattle.ring_trace.proofs.simple_rings.go_along.Goals as goal

pub returns-clause-kept : goal.returns-clause-kept
returns-clause-kept c =
    let edge = c.args.edge in
    let old : List Bool = c.args.walk.now.is_gone.items in
    let kept : IsKept c.if-index.walk c.if-index.rings = elim c.if-index.branch [
      | then-index+in_ok-cut_ring w ↦
          subst (λ (v : Walk). IsKept v c.if-index.rings) (sym w.walk-is) (subst (λ (r : Rings). IsKept w.cut_ring.new.walk r) (sym w.rings-is) w.in_ok-cut_ring.ensures.kept)
      | else-index w ↦ subst (λ (v : Walk). IsKept v c.if-index.rings) (sym w.walk-is) (subst (λ (r : Rings). IsKept c.args.walk.now r) (sym w.rings-is) c.requires.kept)
    ] in
    let gone : c.if-index.walk.is_gone.items ≡ old = elim c.if-index.branch [
      | then-index+in_ok-cut_ring w ↦ ap (λ (v : Walk). v.is_gone.items) w.walk-is ∙ w.in_ok-cut_ring.ensures.gone
      | else-index w ↦ ap (λ (v : Walk). v.is_gone.items) w.walk-is
    ] in
    let within : edge < length old = (let l = c.requires.edge in let e = c.requires.walk.gone_each in omega arith) in
    record {
      once = λ g.
          let p = ap (sum_by g) c.in_ok-push.ensures.items ∙ sum_by_push g c.if-index.walk.way.items edge in
          let k = kept.once g in
          let o = ap (sum_where g 0) gone in
          let s = sum_where-set g 0 edge old within c.requires.new in
          let m : g (0 + edge) ≡ g edge = ap g (let n : 0 + edge ≡ edge = omega arith in n) in
          let t = ap (λ (bs : List Bool). sum_where g 0 (set bs edge true)) gone in
          omega arith;
      tiled = kept.tiled;
    }

pub returns-clause-leads : goal.returns-clause-leads
returns-clause-leads c = λ from h.
    let before : Walk = c.args.walk.now in
    let onward : List ℕ = before.onward.items in
    let vertices : List ℕ = before.vertices.items in
    let edge = c.args.edge in
    let walk = c.requires.walk in
    let there : edge < length vertices = (let l = c.requires.edge in let e = walk.vertices_each in omega arith) in
    let vertex = c.index.result.now in
    let is : vertex ≡ start_in vertices edge = c.index.ensures ∙ get_or_default vertices edge vertex 0 there in
    let small : vertex < length before.is_passed.items = (let v = walk.vertices edge 0 there in let p = walk.passed_each in omega arith) in
    let on : IsMarkedWay before from vertex = record { leads = subst (λ (x : ℕ). IsWay (start_in vertices) (stop_in onward vertices) from before.way.items x) (sym is) h.leads; marked = h.marked } in
    let read = c.index-2.ensures ∙ get_or_default before.is_passed.items vertex c.index-2.result.now false small in
    let leads : IsWay (start_in vertices) (stop_in onward vertices) from c.if-index.walk.way.items vertex = elim c.if-index.branch [
      | then-index+in_ok-cut_ring w ↦
          subst (λ (v : Walk). IsWay (start_in vertices) (stop_in onward vertices) from v.way.items vertex) (sym w.walk-is) (w.in_ok-cut_ring.ensures.leads from on (sym read ∙ w.if-index.true))
      | else-index w ↦ subst (λ (v : Walk). IsWay (start_in vertices) (stop_in onward vertices) from v.way.items vertex) (sym w.walk-is) on.leads
    ] in
    let marks : AreMarked vertices c.if-index.walk.is_passed.items c.if-index.walk.way.items = elim c.if-index.branch [
      | then-index+in_ok-cut_ring w ↦ subst (λ (v : Walk). AreMarked vertices v.is_passed.items v.way.items) (sym w.walk-is) (w.in_ok-cut_ring.ensures.marked h.marked)
      | else-index w ↦ subst (λ (v : Walk). AreMarked vertices v.is_passed.items v.way.items) (sym w.walk-is) h.marked
    ] in
    let same_onward : c.if-index.walk.onward.items ≡ onward = elim c.if-index.branch [
      | then-index+in_ok-cut_ring w ↦ ap (λ (v : Walk). v.onward.items) w.walk-is ∙ w.in_ok-cut_ring.ensures.onward
      | else-index w ↦ ap (λ (v : Walk). v.onward.items) w.walk-is
    ] in
    let same_vertices : c.if-index.walk.vertices.items ≡ vertices = elim c.if-index.branch [
      | then-index+in_ok-cut_ring w ↦ ap (λ (v : Walk). v.vertices.items) w.walk-is ∙ w.in_ok-cut_ring.ensures.vertices
      | else-index w ↦ ap (λ (v : Walk). v.vertices.items) w.walk-is
    ] in
    let size : length c.if-index.walk.is_passed.items ≡ length before.is_passed.items = elim c.if-index.branch [
      | then-index+in_ok-cut_ring w ↦
          (let each = w.in_ok-cut_ring.ensures.walk.passed_each in
          let count = w.in_ok-cut_ring.ensures.count in
          let p = walk.passed_each in
          ap (λ (v : Walk). length v.is_passed.items) w.walk-is ∙ each ∙ count ∙ sym p)
      | else-index w ↦ ap (λ (v : Walk). length v.is_passed.items) w.walk-is
    ] in
    let free : get_or c.if-index.walk.is_passed.items vertex false ≡ false = elim c.if-index.branch [
      | then-index+in_ok-cut_ring w ↦ ap (λ (v : Walk). get_or v.is_passed.items vertex false) w.walk-is ∙ w.in_ok-cut_ring.ensures.freed h.marked
      | else-index w ↦ ap (λ (v : Walk). get_or v.is_passed.items vertex false) w.walk-is ∙ sym read ∙ w.if-index.false
    ] in
    let both = gone_along onward vertices c.if-index.walk.onward.items c.if-index.walk.vertices.items from vertex edge c.if-index.walk.way.items c.push.new.self.items c.if-index.walk.is_passed.items same_onward same_vertices c.in_ok-push.ensures.items is (omega arith) free leads marks in
    record { leads = both.0; marked = both.1 }

pub returns-clause-simple : goal.returns-clause-simple
returns-clause-simple c = λ from h old.
    let before : Walk = c.args.walk.now in
    let onward : List ℕ = before.onward.items in
    let vertices : List ℕ = before.vertices.items in
    let edge = c.args.edge in
    let walk = c.requires.walk in
    let there : edge < length vertices = (let l = c.requires.edge in let e = walk.vertices_each in omega arith) in
    let vertex = c.index.result.now in
    let is : vertex ≡ start_in vertices edge = c.index.ensures ∙ get_or_default vertices edge vertex 0 there in
    let small : vertex < length before.is_passed.items = (let v = walk.vertices edge 0 there in let p = walk.passed_each in omega arith) in
    let on : IsMarkedWay before from vertex = record { leads = subst (λ (x : ℕ). IsWay (start_in vertices) (stop_in onward vertices) from before.way.items x) (sym is) h.leads; marked = h.marked } in
    let read = c.index-2.ensures ∙ get_or_default before.is_passed.items vertex c.index-2.result.now false small in
    let closed : AreRingsByVertices before c.if-index.rings = elim c.if-index.branch [
      | then-index+in_ok-cut_ring w ↦ subst (λ (r : Rings). AreRingsByVertices before r) (sym w.rings-is) (w.in_ok-cut_ring.ensures.simple from on (sym read ∙ w.if-index.true) old)
      | else-index w ↦ subst (λ (r : Rings). AreRingsByVertices before r) (sym w.rings-is) old
    ] in
    closed
