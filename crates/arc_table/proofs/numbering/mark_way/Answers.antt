use Rattle.std.proofs.Common.{◌≡◌, ◌⊎◌, ◌+◌, ◌-◌, ◌<◌, ◌++◌, ℕ, Bool, false, List, AllPairs, length, get_or, refl, sym, ap, subst, ◌∙◌, add-one, arith}
use Rattle.std.specs.Prelude.{◌≢◌}
use Rattle.plane_model.specs.Points.{Segment}
use Rattle.arc_table.specs.Numbering.{place_after, GoesOn, HasMark, AddsMarks, links_from}
use Rattle.arc_table.proofs.Marks.{adds_one, back_at, goes_more, place_more}
use Rattle.arc_table.proofs.Runs.{too_long}
use Rattle.arc_table.proofs.numbering.mark_way.Goals as goal

pub returns-in-None-clause-marks : goal.returns-in-None-clause-marks
returns-in-None-clause-marks c =
    let net = c.args.net.now in
    let inv = c.loop-step.invariant in
    let all : c.twin.result < length net.steps = c.twin.ensures.there in
    let adds : AddsMarks net c.args.is_numbered.now.items c.mark_both.new.marks.items (c.loop-step._step + 1) c.args.start =
    adds_one net net.proper c.loop-step.is_numbered.items c.mark_both.new.marks.items c.loop-step.at c.twin.result inv.1 inv.0 all (back_at net.steps c.loop-step.at c.twin.result inv.0 c.twin.ensures.back)
    c.mark_both.ensures.exact c.args.is_numbered.now.items c.loop-step._step c.args.start inv.3 inv.4 inv.6 in
    subst (λ (n : ℕ). AddsMarks net c.args.is_numbered.now.items c.mark_both.new.marks.items (n + 1) c.args.start) (sym inv.2) adds

pub loop-step-preserved : goal.loop-step-preserved
loop-step-preserved c =
    let net = c.args.net.now in
    let inv = c.loop-step.invariant in
    let k = c.loop-step._step in
    let onward = net.onward.items in
    let all : c.twin.result < length net.steps = c.twin.ensures.there in (
      c.in-Some.ensures.there,
      c.mark_both.ensures.each ∙ inv.1,
      ap (λ (n : ℕ). n + 1) inv.2,
      c.in-Some.ensures.onward ∙ ap (λ (j : ℕ). get_or onward j 0) inv.3 ∙ sym (place_more onward k c.args.start) ∙ sym (ap (λ (j : ℕ). place_after onward j c.args.start) (add-one k)),
      subst (λ (marks : List Bool). get_or marks c.in-Some.next false ≡ false) c.deref.ensures.value c.in-Some.ensures.unmarked,
      goes_more onward k c.loop-step.at c.in-Some.next c.args.start c.in-Some.ensures.onward c.in-Some.ensures.on inv.5,
      adds_one net net.proper c.loop-step.is_numbered.items c.mark_both.new.marks.items c.loop-step.at c.twin.result inv.1 inv.0 all (back_at net.steps c.loop-step.at c.twin.result inv.0 c.twin.ensures.back)
          c.mark_both.ensures.exact c.args.is_numbered.now.items k c.args.start inv.3 inv.4 inv.6,
    )

pub returns-clause-on : goal.returns-clause-on
returns-clause-on c =
    let inv = c.loop-step.invariant in
    let count : c.loop-step._step + 0 ≡ c.loop-step.steps = (let e = inv.2 in omega arith) in
    subst (λ (n : ℕ). GoesOn c.args.net.now.onward.items n c.args.start) count (inv.5 0 tt)

pub returns-clause-marks : goal.returns-clause-marks
returns-clause-marks c =
    let inv = c.loop-step.invariant in
    subst (λ (n : ℕ). AddsMarks c.args.net.now c.args.is_numbered.now.items c.loop-step.is_numbered.items n c.args.start) (sym inv.2) inv.6

pub returns-in-None-clause-stops : goal.returns-in-None-clause-stops
returns-in-None-clause-stops c =
    let onward = c.args.net.now.onward.items in
    let start = c.args.start in
    let inv = c.loop-step.invariant in
    let at = c.loop-step.at in
    let marks = c.mark_both.new.marks.items in
    let count : c.loop-step._step ≡ c.loop-step.steps + 1 - 1 = (let e = inv.2 in omega arith) in
    let here : at ≡ place_after onward (c.loop-step.steps + 1 - 1) start = inv.3 ∙ ap (λ (j : ℕ). place_after onward j start) count in
    λ links m once. subst (λ (j : ℕ). (get_or onward j 0 ≡ j) ⊎ HasMark marks (get_or onward j 0)) here
    (subst (λ (ms : List Bool). (get_or onward at 0 ≡ at) ⊎ HasMark ms (get_or onward at 0)) c.deref.ensures.value (c.in-None.ensures.none refl))

pub returns-clause-stops : goal.returns-clause-stops
returns-clause-stops c =
    let net = c.args.net.now in
    let start = c.args.start in
    let inv = c.loop-step.invariant in
    let whole : c.loop-step._step ≡ length net.steps = omega arith in
    λ links m once. absurd (too_long net links start c.requires.there
    (subst (λ (n : ℕ). AllPairs (λ (k l : Segment). k ≢ l) (links ++ links_from net n start)) whole (inv.6 links m once).1))
