use Rattle.std.proofs.Common.{◌≡◌, inl, inr, ap, sym, subst, arith, ℕ, ◌+◌, ◌<◌, List, get_or, length, take}
use Rattle.std.proofs.lemmas.List.{get_or_default}
use Rattle.face_walk.specs.Holders.{AreAcross, IsFlipped}
use Rattle.face_walk.specs.declared.ring_steps.RingStep.{RingStep}
use Rattle.face_walk.proofs.OddLemmas.{across_held, across_step}
use Rattle.face_walk.proofs.labels.list_across.Goals.{then-is_next+in_ok-flip, else-is_next+in_ok-flip-2}
use Rattle.face_walk.proofs.labels.list_across.Goals as goal

-- the same of equal places and lists
kept : (steps : List RingStep) (held items new : List ℕ) (i k j l : ℕ) → new ≡ items → k ≡ i → l ≡ j → AreAcross (take j steps) (take i held) items → AreAcross (take l steps) (take k held) new
kept steps held items new i k j l e f g h =
    subst (λ (n : ℕ). AreAcross (take l steps) (take n held) new) (sym f)
    (subst (λ (n : ℕ). AreAcross (take n steps) (take i held) new) (sym g) (subst (AreAcross (take j steps) (take i held)) (sym e) h))

pub loop-number-preserved : goal.loop-number-preserved
loop-number-preserved c =
    let held = c.args.held.now in
    let steps = c.args.steps.now in
    let i = c.loop-number.i in
    let j = c.loop-number.j in
    let items = c.loop-number.items.items in
    let across = c.loop-number.invariant.across in
    let gone = c.loop-number.invariant.gone in
    let held_within = c.loop-number.invariant.held_within in
    let steps_within = c.loop-number.invariant.steps_within in
    let more = c.loop-number-test.true in
    elim c.if-is_next.branch [
      | then-is_next+in_ok-flip w ↦
          (let there : i < length held = c.is_next.ensures.yes w.if-is_next.true in
          let n = get_or held i 0 in
          let new = w.flip.new.items.items in
          let i_is = w.i-is in
          let j_is = w.j-is in
          record {
            gone = omega arith;
            held_within = omega arith;
            steps_within = omega arith;
            across = kept steps held new c.if-is_next.items.items (i + 1) c.if-is_next.i j c.if-is_next.j (ap (λ v. v.items) w.items-is) i_is j_is
                (across_held (take j steps) held items new i n there (get_or_default held i n 0 there) across w.in_ok-flip.ensures.flipped);
          })
      | else-is_next+in_ok-flip-2 w ↦
          (let there : j < length steps = elim (c.is_next.ensures.no w.if-is_next.false) [ inl past ↦ omega arith | inr less ↦ less ] in
          let s = w.index-steps-j.result in
          let new = w.flip-else-is_next.new.items.items in
          let i_is = w.i-is in
          let j_is = w.j-is in
          record {
            gone = omega arith;
            held_within = omega arith;
            steps_within = omega arith;
            across = kept steps held new c.if-is_next.items.items i c.if-is_next.i (j + 1) c.if-is_next.j (ap (λ v. v.items) w.items-is) i_is j_is
                (across_step steps (take i held) items new j s there (sym w.index-steps-j.is) across
                (subst (λ (n : ℕ). IsFlipped items n new) (sym (ap (λ (t : RingStep). t.item) w.index-steps-j.is)) w.in_ok-flip-2.ensures.flipped));
          })
    ]
