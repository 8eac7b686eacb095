use Rattle.std.proofs.Common.{◌+◌, sym, subst, arith}
use Rattle.std.proofs.lemmas.Bool.Decides.{nat_tests}
use Rattle.plane_model.specs.Points.{GridPoint}
use Rattle.hot_pixels.specs.HotEnds.{AddsEnd}
use Rattle.hot_pixels.proofs.EndLemmas.{AreFirstEnds, ends_begin, ends_more, ends_all}
use Rattle.hot_pixels.proofs.hot_edges.ends_of.Goals as goal

pub loop-s-init : goal.loop-s-init
loop-s-init c =
    ends_begin c.args.edges.now c.index-edges-0.result c.a-last.result c.in_ok-points.points.items c.push.new.self.items (grind (arith, nat_tests)) c.index-edges-0.is c.a-last.ensures.exact c.in_ok-points.ensures.items c.in_ok-push.ensures.items

pub loop-s-preserved : goal.loop-s-preserved
loop-s-preserved c =
    let s = c.s-item.result in
    let old = c.loop-s.points.items in
    let mid = c.add_end.new.points.items in
    let new = c.add_end-in-loop-s.new.points.items in
    let first : AddsEnd s.start old mid = subst (λ (p : GridPoint). AddsEnd p old mid) c.a.ensures.exact c.in_ok-add_end.ensures.ok in
    let second : AddsEnd s.stop mid new = subst (λ (p : GridPoint). AddsEnd p mid new) c.b.ensures.exact c.in_ok-add_end-2.ensures.ok in
    subst (λ (p : GridPoint). AreFirstEnds c.args.edges.now (c.loop-s.s-index + 1) p new) (sym c.b-last.ensures.exact)
    (ends_more c.args.edges.now c.loop-s.s-index c.loop-s.last s old mid new (omega arith) c.s-item.is first second c.loop-s.invariant)

pub returns : goal.returns
returns c = record { made = ends_all c.args.edges.now c.loop-s.s-index c.loop-s.last c.loop-s.points.items (omega arith) c.loop-s.invariant }
