use Rattle.std.proofs.Common.{arith, subst, sym, length-append}
use Rattle.json_values.specs.Table.{NamedValues, IsNewName}
use Rattle.json_values.proofs.NamedValues.{Field, distinct_pushed}
use Rattle.json_values.proofs.fields.Fields.push_new.Goals as goal

pub invariant_of-self-2 : goal.invariant_of-self-2
invariant_of-self-2 c =
    rw c.in_ok-push.ensures.items (omega (arith, length-append {A = Field}), distinct_pushed c.self.inside.entries.items (c.args.name, c.args.value) c.self.invariant.1 (subst (λ (fs : NamedValues). IsNewName c.args.name fs) (sym c.self.view_is) c.requires.new))
