use Rattle.std.proofs.Common.{◌∙◌, sym, subst, ℕ, List, length, Option}
use Rattle.std.proofs.lemmas.Result.{IfOk-weaker}
use Rattle.region_ops.specs.Cleaned.{AreFirsts, AreWon, IsCleaned}
use Rattle.region_ops.proofs.FirstLemmas.{are_cleaned}
use Rattle.region_ops.proofs.cleaned_sets.separate_sets.Goals as goal

pub returns : goal.returns
returns c = record {
  exact =
      let t = c.args.f.now in
      let old = c.args.old.now in
      let firsts = c.deref-2.result.now in
      let areas = c.deref.result.now in
      let first = subst (λ (list : List (Option ℕ)). AreFirsts c.args.rule areas old t.count list) (sym c.deref-2.ensures.value) c.in_ok-firsts_of.ensures.exact in
      IfOk-weaker c.without_overlaps.result (AreWon firsts old (length old)) (IsCleaned c.args.rule t.areas old)
      (λ won kept. are_cleaned c.args.rule t old firsts won areas first kept (c.deref.ensures.value ∙ c.in_ok-areas.ensures.exact) c.requires.faces) c.without_overlaps.ensures.exact;
}
