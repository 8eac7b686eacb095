use Rattle.std.proofs.Common.{◌∙◌, ℕ, List, Option, codes, sym, ap}
use Rattle.std.specs.Prelude.{unwrap_or}
use Rattle.std.specs.Option.{option_copied}
use Rattle.std.proofs.lemmas.Option.{unwrap_or-slice_get}
use Rattle.run_borders.proofs.borders.name_or_inner.Goals as goal

pub returns-in-None : goal.returns-in-None
returns-in-None c = record {
  exact =
      let inner : List ℕ = codes "inner" in
      let past = sym c.get.ensures.lookup ∙ ap option_copied c.in-None.is in
      sym (ap (λ (name : Option (List ℕ)). unwrap_or name inner) past) ∙ unwrap_or-slice_get c.args.fields.now c.args.number inner;
}
