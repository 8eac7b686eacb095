use Rattle.std.proofs.Common.{◌<◌, ℕ, List, All, length, ap, sym, subst, ◌∙◌, arith}
use Rattle.std.proofs.lemmas.List.{length_push}
use Rattle.std.proofs.lemmas.List.Elements.{All-push}
use Rattle.arc_table.proofs.StepSearch.{one_twin_more}
use Rattle.arc_table.proofs.half_links.twins_of.Goals as goal

pub loop-h-preserved : goal.loop-h-preserved
loop-h-preserved c =
    let below : ℕ → Type 0 = λ t. t < length c.args.steps.now in
    let twins = c.loop-h.twins.items in
    let next = c.twin_of-twin in
    let pushed = c.in_ok-push.ensures.items in
    let (number, there, back) = c.loop-h.invariant in
    let grown = ap (λ (xs : List ℕ). length xs) pushed ∙ length_push twins next.result in
    (omega arith, subst (All below) (sym pushed) (All-push below twins next.result there next.ensures.there), one_twin_more c.args.steps.now twins c.push.new.self.items c.loop-h.h next.result number pushed back next.ensures.back)
