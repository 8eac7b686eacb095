use Rattle.std.proofs.Common.{◌++◌, ◌∷◌, [], ℕ, List, ap, sym, ◌∙◌, arith, rules}
use Rattle.std.proofs.lemmas.Grind.{common_steps}
use Rattle.run_plane.proofs.Growth.{range_more}
use Rattle.run_state.proofs.features.numbers_below.Goals as goal

pub loop-number-preserved : goal.loop-number-preserved
loop-number-preserved c =
    let n = c.loop-number.number in
    record {
      all = c.in_ok-push.ensures.ok ∙ (ap (λ (ns : List ℕ). ns ++ n ∷ []) c.loop-number.invariant.all ∙ sym (range_more n));
      below = first_of (search rules, grind (arith, common_steps));
      each = first_of (search rules, grind (arith, common_steps));
    }
