use Rattle.std.proofs.Common.{◌<◌, ◌∙◌, ℕ, length, refl, subst, arith}
use Rattle.std.proofs.lemmas.List.Elements.{All-from_get_or}
use Rattle.arc_table.specs.Steps.{AreLed}
use Rattle.arc_table.proofs.Others.{row_between, row_begins, rows_end, all_led, onward_there}
use Rattle.arc_table.proofs.half_links.onward_of.Goals.{then-not-goes_on, else-not-goes_on}
use Rattle.arc_table.proofs.half_links.onward_of.Goals as goal

pub loop-h-init : goal.loop-h-init
loop-h-init c =
    let count = c.len.ensures.exact in
    let own = c.in_ok-onward.ensures in
    record {
      each = own.each ∙ count;
      ordered = omega arith;
      begins = λ k p l. absurd (omega arith);
      together = λ p here. here;
      led = record { before = λ k l. absurd (omega arith); after = λ k l m. let twin = (c.requires.mutual k m).0 in own.own _ (omega arith) };
    }

pub lead_through-requires-clause-row : goal.lead_through-requires-clause-row
lead_through-requires-clause-row c =
    let so_far = c.loop-h.invariant in
    row_between c.args.steps.now c.requires.sorted c.loop-h.first c.loop-h.h so_far.ordered (omega arith) so_far.begins so_far.together (c.if-not-goes_on.ensures.no refl)

pub loop-h-preserved : goal.loop-h-preserved
loop-h-preserved c =
    let so_far = c.loop-h.invariant in
    elim c.if-not-goes_on.branch [
      | then-not-goes_on w ↦ rw w.first-is (rw w.onward-is (record {
        each = w.lead_through.ensures.all;
        ordered = omega arith;
        begins = row_begins c.args.steps.now c.requires.sorted c.loop-h.h (w.if-not-goes_on.ensures.no refl);
        together = λ p here. here;
        led = w.lead_through.ensures.led;
      }))
      | else-not-goes_on w ↦ rw w.first-is (rw w.onward-is (record {
        each = so_far.each;
        ordered = omega arith;
        begins = so_far.begins;
        together = λ p here. w.if-not-goes_on.ensures.yes refl p (so_far.together p here);
        led = so_far.led;
      }))
    ]

pub returns : goal.returns
returns c =
    let steps = c.args.steps.now in
    let onward = c.loop-h.onward.items in
    let so_far = c.loop-h.invariant in
    let size = so_far.each in
    let all = rows_end steps c.requires.sorted c.loop-h.first c.loop-h.h so_far.ordered (omega arith) so_far.together in
    let led = subst (AreLed steps c.args.turns.now c.args.twins.now onward) all so_far.led in
    record {
      each = size;
      on = all_led steps c.args.turns.now c.args.twins.now onward c.requires.mutual led;
      there = All-from_get_or (λ (t : ℕ). t < length steps) onward 0 (λ h l. onward_there steps c.args.turns.now c.args.twins.now onward c.requires.mutual led h (omega arith));
    }
