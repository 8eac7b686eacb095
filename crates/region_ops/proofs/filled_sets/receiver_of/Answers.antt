use Rattle.std.proofs.Common.{rules, ◌≡◌, ◌∙◌, inr, ap, subst, ℕ, true, List}
use Rattle.region_ops.specs.Cleaned.{IsFirst}
use Rattle.region_ops.specs.Filled.{is_filled, neighbours_of}
use Rattle.region_ops.proofs.filled_sets.receiver_of.Goals as goal

pub returns : goal.returns
returns c = record {
  exact = λ arcs built cleaned owned.
      let small : is_filled c.args.f.now c.args.most c.args.gap.now ≡ true = search rules in
      inr (
        small,
        subst (λ (numbers : List ℕ). IsFirst c.args.rule c.args.areas.now numbers c.first_of.result)
            (c.deref.ensures.value ∙ c.in_ok-numbers.ensures.exact arcs built cleaned owned ∙ ap (neighbours_of arcs c.args.f.now cleaned) c.faces.ensures.all)
            c.first_of.ensures.exact,
      );
}
