use Rattle.std.proofs.Common.{rules, ◌≡◌, ◌∙◌, ap, subst, arith, ℕ, ◌<◌, List, [], length, map}
use Rattle.std.specs.List.{range_with_len}
use Rattle.std.specs.List.Sorted.{IsPermutation}
use Rattle.std.specs.Ordering.{nat_cmp}
use Rattle.std.proofs.lemmas.List.{take_all, get_or_default}
use Rattle.arc_table.specs.Around.{start_of}
use Rattle.face_sets.specs.Boundary.{other_way}
use Rattle.std.proofs.lemmas.List.Sorted.{IsPermutation-map, All-permutation}
use Rattle.ring_trace.specs.declared.pairing.Edge.{Edge}
use Rattle.ring_trace.specs.declared.pairing.EdgeEnd.{EdgeEnd}
use Rattle.ring_trace.specs.Rings.{edge_at}
use Rattle.ring_trace.specs.Pairing.{Corner, end_corner, stop_corner}
use Rattle.ring_trace.proofs.PairLemmas.{start_is, by_corner, ends_more}
use Rattle.ring_trace.proofs.pairing.ends_of.Goals as goal

pub loop-k-preserved : goal.loop-k-preserved
loop-k-preserved c =
    let edges = c.args.edges.now in
    let k = c.loop-k.k in
    let l : k < length edges = c.loop-k-test.true in
    let stop = start_is c.args.t.now c.flip.result c.start_of.result c.start_of.ensures.exact in
    ends_more c.args.t.now edges k c.loop-k.ends.items c.push.new.self.items _ c.in_ok-push.ensures.items l
    (ap (λ (x : Edge). x.part) (get_or_default edges k _ (edge_at [] 0) l))
    (stop ∙ ap (start_of c.args.t.now) (c.flip.ensures.turned ∙ ap (λ (x : Edge). other_way x.arc) (get_or_default edges k _ (edge_at [] 0) l)))
    (search rules) c.loop-k.invariant

pub returns-clause-places : goal.returns-clause-places
returns-clause-places c =
    let done = c.loop-k-test.false in
    subst (λ (xs : List ℕ). IsPermutation xs (map (λ (e : EdgeEnd). e.edge) c.sort_unstable.new.self.items)) (c.loop-k.invariant.places ∙ ap (range_with_len 0) (let e : c.loop-k.k ≡ length c.args.edges.now = omega arith in e))
    (IsPermutation-map (λ (e : EdgeEnd). e.edge) c.loop-k.ends.items c.sort_unstable.new.self.items c.sort_unstable.ensures.permutation)

pub returns-clause-stops : goal.returns-clause-stops
returns-clause-stops c =
    All-permutation (λ (e : EdgeEnd). end_corner e ≡ stop_corner c.args.t.now (edge_at c.args.edges.now e.edge)) c.loop-k.ends.items c.sort_unstable.new.self.items c.sort_unstable.ensures.permutation c.loop-k.invariant.stops

pub returns-clause-corners : goal.returns-clause-corners
returns-clause-corners c =
    let done = c.loop-k-test.false in
    subst (λ (xs : List Corner). IsPermutation xs (map end_corner c.sort_unstable.new.self.items)) (c.loop-k.invariant.corners ∙ ap (map (stop_corner c.args.t.now)) (take_all c.loop-k.k c.args.edges.now (omega arith)))
    (IsPermutation-map end_corner c.loop-k.ends.items c.sort_unstable.new.self.items c.sort_unstable.ensures.permutation)

pub returns-clause-in_order : goal.returns-clause-in_order
returns-clause-in_order c =
    by_corner end_corner (λ (a : EdgeEnd) (b : EdgeEnd). nat_cmp a.edge b.edge) (let none : EdgeEnd = record { part = 0; stop = (edge_at [] 0).start; edge = 0 } in none) c.sort_unstable.new.self.items c.sort_unstable.ensures.sorted
