use Rattle.std.proofs.Common.{◌≡◌, ◌⊎◌, inl, inr, sym, arith, ◌<◌, ◌≤◌, length}
use Rattle.std.proofs.lemmas.Bool.{cases_lt}
use Rattle.face_walk.specs.Crossings.{outer_of}
use Rattle.face_walk.proofs.CrossingLemmas.{done_by_longer, each_done_more, none_left}
use Rattle.face_walk.proofs.crossings.reach_all.Goals as goal

pub loop-k-preserved : goal.loop-k-preserved
loop-k-preserved c =
    let faces = c.args.f.now in
    let old = c.loop-k.crossings.items in
    let new = c.cross_next.new.crossings.items in
    let k = c.loop-k.k in
    let longer = c.in_ok-cross_next.ensures.longer in
    let cases : (k < length old) ⊎ (length old ≡ length new) = elim (cases_lt k (length old)) [ inl less ↦ inl less | inr more ↦ inr (sym (c.in_ok-cross_next.ensures.within more)) ] in
    record {
      marked = c.in_ok-cross_next.ensures.marked;
      outer_done = λ arcs built. done_by_longer faces old new (outer_of faces) longer (c.loop-k.invariant.outer_done arcs built);
      each_done = λ arcs built. each_done_more faces old new k longer (c.loop-k.invariant.each_done arcs built) (λ d found. c.in_ok-cross_next.ensures.done arcs built d found) cases;
    }

pub returns-clause-all : goal.returns-clause-all
returns-clause-all c = λ arcs built.
    let faces = c.args.f.now in
    let count = c.count-k-end.ensures.exact in
    let done = c.loop-k-test.false in
    let enough : faces.count ≤ c.loop-k.k = omega arith in
    none_left faces c.loop-k.crossings.items c.loop-k.reached c.loop-k.k enough c.loop-k.invariant.marked (c.loop-k.invariant.outer_done arcs built) (c.loop-k.invariant.each_done arcs built)
