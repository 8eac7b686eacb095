use Rattle.std.proofs.Common.{◌≡◌, ◌∙◌, sym, ap, arith, Some, List, ℕ}
use Rattle.std.specs.Prelude.{slice_get}
use Rattle.std.specs.Str.{bytes_eq}
use Rattle.std.proofs.lemmas.Grind.{common_steps}
use Rattle.std.proofs.lemmas.Option.{gets}
use Rattle.json_values.proofs.NamedValues.{seen_at}
use Rattle.json_values.proofs.table.stands_at.Goals as goal

pub returns-in-Some : goal.returns-in-Some
returns-in-Some c = record {
  yes = λ t.
      let e : slice_get c.args.names.now c.args.place ≡ Some c.in-Some.there.now = grind (arith, common_steps, gets, c.get.ensures.lookup) in
      seen_at c.args.names.now c.args.place c.in-Some.there.now c.args.name.now e (ap (λ (n : List ℕ). bytes_eq n c.args.name.now) (sym c.as_str.ensures.value) ∙ sym c.eq.ensures ∙ t);
}
