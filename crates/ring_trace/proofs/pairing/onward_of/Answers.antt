use Rattle.std.proofs.Common.{[], ◌≡◌, ◌∙◌, ap, arith, ℕ, ◌<◌, length, length-set}
use Rattle.std.proofs.lemmas.List.{get_or_default}
use Rattle.std.proofs.lemmas.List.Elements.{All-set}
use Rattle.arc_table.specs.Direction.{point_at}
use Rattle.ring_trace.specs.declared.pairing.EdgeEnd.{EdgeEnd}
use Rattle.ring_trace.proofs.PairLemmas.{place_in_ends, as_many, apart, lead_on, written_more}
use Rattle.ring_trace.proofs.pairing.onward_of.Goals as goal

pub loop-k-preserved : goal.loop-k-preserved
loop-k-preserved c =
    let n = length c.args.edges.now in
    let ends = c.in_ok-ends.ends.items in
    let k = c.loop-k.k in
    let l : k < length ends = (let t = c.loop-k-test.true in let e = c.len-k-end.ensures in omega arith) in
    let none : EdgeEnd = record { part = 0; stop = point_at [] 0; edge = 0 } in
    let m = c.index.result.now.edge in
    let is : m ≡ place_in_ends ends k = ap (λ (x : EdgeEnd). x.edge) (c.index.ensures ∙ get_or_default ends k c.index.result.now none l) in
    let there : place_in_ends ends k < n = c.in_ok-ends.ensures.there k none l in
    let old = c.loop-k.onward.items in
    let many = as_many n ends c.in_ok-ends.ensures.places in
    record {
      each = length-set old m k ∙ c.loop-k.invariant.each;
      there = All-set (λ (x : ℕ). x < n) old m k (omega arith) c.loop-k.invariant.there;
      written = written_more n ends c.in_ok-ends.ensures.places old k m c.loop-k.invariant.each l is (omega arith) c.loop-k.invariant.written;
    }

pub returns-clause-apart : goal.returns-clause-apart
returns-clause-apart c =
    let done = c.loop-k-test.false in
    let ends = c.in_ok-ends.ends.items in
    let n = length c.args.edges.now in
    let many = as_many n ends c.in_ok-ends.ensures.places in
    λ j k l m e. apart n ends c.in_ok-ends.ensures.places c.loop-k.onward.items (λ i h. c.loop-k.invariant.written i (omega arith)) j k
    (let s = c.loop-k.invariant.each in omega arith) (let s = c.loop-k.invariant.each in omega arith) e

pub returns-clause-leads : goal.returns-clause-leads
returns-clause-leads c =
    let done = c.loop-k-test.false in
    let ends = c.in_ok-ends.ends.items in
    let n = length c.args.edges.now in
    λ balanced up.
    lead_on n ends c.in_ok-ends.ensures.places c.loop-k.onward.items (λ i h. c.loop-k.invariant.written i (omega arith)) c.args.t.now c.args.edges.now (omega arith) balanced up
    c.in_ok-ends.ensures.in_order c.in_ok-ends.ensures.corners c.in_ok-ends.ensures.stops
