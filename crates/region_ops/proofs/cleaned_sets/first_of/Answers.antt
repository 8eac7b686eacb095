use Rattle.std.proofs.Common.{sym, subst, refl, ℕ, ◌+◌, get_or, take, Some}
use Rattle.region_ops.specs.Cleaned.{IsFirst}
use Rattle.region_ops.proofs.FirstLemmas.{first_more}
use Rattle.region_ops.proofs.cleaned_sets.first_of.Goals as goal

pub loop-n-preserved : goal.loop-n-preserved
loop-n-preserved c =
    let numbers = c.args.numbers.now in
    let j = c.loop-n.n-index in
    subst (λ (m : ℕ). IsFirst c.args.rule c.args.areas.now (take (j + 1) numbers) (Some m)) (sym c.earlier.ensures.exact)
    (first_more c.args.rule c.args.areas.now numbers j (get_or numbers j 0) 0 c.loop-n.first c.loop-n-test.true refl c.loop-n.invariant)
