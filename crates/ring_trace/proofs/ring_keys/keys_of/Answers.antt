use Rattle.std.proofs.Common.{◌≡◌, ◌∙◌, refl, sym, ap, subst, arith, ◌-◌, ◌<◌, ◌≤◌, Option, Some, None, IfSome, List, length, get_or, take, drop, All}
use Rattle.std.specs.List.{sum_by}
use Rattle.std.proofs.lemmas.List.{take_all}
use Rattle.std.proofs.lemmas.List.Elements.{All-push, Contains-get_or}
use Rattle.std.proofs.lemmas.List.Sums.{sum_by_push, sum_by_more}
use Rattle.std.proofs.lemmas.List.Sorted.{sum_by-IsPermutation, All-permutation}
use Rattle.ring_trace.specs.declared.simple_rings.RingSpan.{RingSpan}
use Rattle.ring_trace.specs.declared.ring_keys.RingKey.{RingKey}
use Rattle.ring_trace.specs.Keys.{IsKey, IsKeyOf, IsKeyOfSome, IsLeastFirst, IsHoleBy, along_key, along_span}
use Rattle.ring_trace.proofs.TileLemmas.{along_none}
use Rattle.ring_trace.proofs.GatherLemmas.{by_part}
use Rattle.ring_trace.proofs.OrderLemmas.{by_key}
use Rattle.ring_trace.proofs.ring_keys.keys_of.Goals.{in-Some+in_ok-push, in_default}
use Rattle.ring_trace.proofs.ring_keys.keys_of.Goals as goal

pub loop-span-preserved : goal.loop-span-preserved
loop-span-preserved c =
    let rings = c.args.rings.now in
    let edges = c.args.edges.now in
    let arcs = c.args.t.now in
    let spans = rings.spans.items in
    let none : RingSpan = record { begin = 0; end = 0 } in
    let i = c.loop-span.span-index in
    let value : c.deref-span-items.result.now ≡ spans = c.deref-span-items.ensures.value in
    let l : i < length spans = (let t = c.loop-span-test.true in let e = ap (λ (ss : List RingSpan). length ss) value in omega arith) in
    let s = get_or spans i none in
    let is : IsKeyOf s c.in_ok-key.field-0 = subst (λ (ss : List RingSpan). IsKeyOf (get_or ss i none) c.in_ok-key.field-0) value c.in_ok-key.ensures.span in
    elim c.match-branch-3.branch [
      | in-Some+in_ok-push w ↦
          (let key = w.in-Some.key in
          let items = ap (λ v. v.items) w.keys-is ∙ w.in_ok-push.ensures.items in
          let of_span : IsKeyOf s (Some key) = subst (λ (o : Option RingKey). IsKeyOf s o) w.in-Some.is is in
          let one : IsKey rings key = subst (λ (o : Option RingKey). IfSome o (IsKey rings)) w.in-Some.is c.in_ok-key.ensures.there in (
            subst (λ (ks : List RingKey). All (IsKey rings) ks) (sym items) (All-push (IsKey rings) c.loop-span.keys.items key c.loop-span.invariant.0 one),
            λ g.
                let p = ap (sum_by (along_key g rings)) items ∙ sum_by_push (along_key g rings) c.loop-span.keys.items key in
                let m = sum_by_more (along_span g rings) spans i none l in
                let h = c.loop-span.invariant.1 g in
                let e : along_key g rings key ≡ along_span g rings s = λ j. sum_by g (take (of_span.1 j - of_span.0 j) (drop (of_span.0 j) rings.edges.items)) in
                omega arith,
            subst (λ (ks : List RingKey). All (IsKeyOfSome spans) ks) (sym items)
                (All-push (IsKeyOfSome spans) c.loop-span.keys.items key c.loop-span.invariant.2 (record { span = s; listed = Contains-get_or spans i none l; begins = of_span.0; ends = of_span.1 })),
            subst (λ (ks : List RingKey). All (IsLeastFirst edges rings) ks) (sym items)
                (All-push (IsLeastFirst edges rings) c.loop-span.keys.items key c.loop-span.invariant.3 (subst (λ (o : Option RingKey). IfSome o (IsLeastFirst edges rings)) w.in-Some.is c.in_ok-key.ensures.least)),
            subst (λ (ks : List RingKey). All (IsHoleBy arcs edges rings) ks) (sym items)
                (All-push (IsHoleBy arcs edges rings) c.loop-span.keys.items key c.loop-span.invariant.4 (subst (λ (o : Option RingKey). IfSome o (IsHoleBy arcs edges rings)) w.in-Some.is c.in_ok-key.ensures.hole)),
          ))
      | in_default w ↦
          (let items = ap (λ v. v.items) w.keys-is in
          let nothing : s.end ≤ s.begin = search_none s c.in_ok-key.field-0 is w.in_default.not-Some in (
            subst (λ (ks : List RingKey). All (IsKey rings) ks) (sym items) c.loop-span.invariant.0,
            λ g.
                let p = ap (sum_by (along_key g rings)) items in
                let m = sum_by_more (along_span g rings) spans i none l in
                let h = c.loop-span.invariant.1 g in
                let e : along_span g rings s ≡ 0 = along_none g rings.edges.items s.begin s.end nothing in
                omega arith,
            subst (λ (ks : List RingKey). All (IsKeyOfSome spans) ks) (sym items) c.loop-span.invariant.2,
            subst (λ (ks : List RingKey). All (IsLeastFirst edges rings) ks) (sym items) c.loop-span.invariant.3,
            subst (λ (ks : List RingKey). All (IsHoleBy arcs edges rings) ks) (sym items) c.loop-span.invariant.4,
          ))
    ]
  where
    search_none : (s : RingSpan) (o : Option RingKey) → IsKeyOf s o → ((key : RingKey) → o ≡ Some key → ⊥) → s.end ≤ s.begin
    search_none s None is other = is
    search_none s (Some key) is other = absurd (other key refl)

pub returns-clause-there : goal.returns-clause-there
returns-clause-there c = All-permutation (IsKey c.args.rings.now) c.loop-span.keys.items c.sort_unstable.new.self.items c.sort_unstable.ensures.permutation c.loop-span.invariant.0

pub returns-clause-spans : goal.returns-clause-spans
returns-clause-spans c =
    All-permutation (IsKeyOfSome c.args.rings.now.spans.items) c.loop-span.keys.items c.sort_unstable.new.self.items c.sort_unstable.ensures.permutation c.loop-span.invariant.2

pub returns-clause-least : goal.returns-clause-least
returns-clause-least c =
    All-permutation (IsLeastFirst c.args.edges.now c.args.rings.now) c.loop-span.keys.items c.sort_unstable.new.self.items c.sort_unstable.ensures.permutation c.loop-span.invariant.3

pub returns-clause-holes : goal.returns-clause-holes
returns-clause-holes c =
    All-permutation (IsHoleBy c.args.t.now c.args.edges.now c.args.rings.now) c.loop-span.keys.items c.sort_unstable.new.self.items c.sort_unstable.ensures.permutation c.loop-span.invariant.4

pub returns-clause-in_order : goal.returns-clause-in_order
returns-clause-in_order c = by_part c.sort_unstable.new.self.items c.sort_unstable.ensures.sorted

pub returns-clause-sorted : goal.returns-clause-sorted
returns-clause-sorted c = by_key c.sort_unstable.new.self.items c.sort_unstable.ensures.sorted

pub returns-clause-once : goal.returns-clause-once
returns-clause-once c = λ g.
    let rings = c.args.rings.now in
    let done = c.loop-span-test.false in
    let e = ap (λ (ss : List RingSpan). length ss) c.deref-span-items.ensures.value in
    sum_by-IsPermutation (along_key g rings) c.loop-span.keys.items c.sort_unstable.new.self.items c.sort_unstable.ensures.permutation
    ∙ c.loop-span.invariant.1 g ∙ ap (sum_by (along_span g rings)) (take_all c.loop-span.span-index rings.spans.items (omega arith))
