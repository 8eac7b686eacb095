use Rattle.std.proofs.Common.{ap, ◌∙◌, sym, List, ℕ}
use Rattle.json_values.specs.Table.{add_name}
use Rattle.json_values.proofs.Tables.{seen_names, seen_names-insert_key, add_name-there, list_any-seen}
use Rattle.json_values.proofs.table.add_name.Goals.{in-Ok, in-Err}
use Rattle.json_values.proofs.table.add_name.Goals as goal

pub returns-then-contains-clause-names : goal.returns-then-contains-clause-names
returns-then-contains-clause-names c = add_name-there _ _ (list_any-seen c.args.name.now c.args.names.now.keys ∙ sym c.contains.ensures ∙ c.if-contains.true)

pub returns-clause-names : goal.returns-clause-names
returns-clause-names c =
    elim c.match-insert.branch [
      | in-Ok w ↦ rw w.result-is (ap seen_names w.in-Ok.ensures.keys ∙ seen_names-insert_key c.args.names.now.keys c.in_ok-from_str.field-0 ∙ ap (λ (name : List ℕ). add_name (seen_names c.args.names.now.keys) name) c.in_ok-from_str.ensures.ok)
      | in-Err w ↦ rw w.result-is tt
    ]
