use Rattle.std.proofs.Common.{sym, subst, ◌∙◌, ◌≡◌, true, false, inr, List, ℕ}
use Rattle.std.specs.List.{list_any}
use Rattle.std.specs.Str.{bytes_eq}
use Rattle.json_values.specs.Lists.{fields_list, field_names}
use Rattle.json_values.specs.Putting.{PutsAt}
use Rattle.json_values.proofs.Indexing.{indexed_at, known_key, index_kept}
use Rattle.json_values.proofs.growing_fields.put_indexed.Goals as goal

pub set-requires : goal.set-requires
set-requires c =
    record { there = subst (λ (n : List ℕ). PutsAt (fields_list c.args.fields.now) n c.in-Some.place) c.as_str.ensures.lent (indexed_at c.as_str.result.now c.args.names.now.keys (fields_list c.args.fields.now) c.in-Some.place c.requires.index (sym c.get_index_of.ensures.index ∙ c.in-Some.is)) }

pub push_indexed-requires-clause-new : goal.push_indexed-requires-clause-new
push_indexed-requires-clause-new c =
    subst (λ (n : List ℕ). list_any (bytes_eq n) (field_names c.args.fields.now) ≡ false) c.as_str.ensures.lent (known_key c.as_str.result.now c.args.names.now.keys c.args.fields.now false c.requires.index (sym c.in-None.ensures.found))

pub returns-in-Some-clause-index : goal.returns-in-Some-clause-index
returns-in-Some-clause-index c =
    let known : list_any (bytes_eq c.args.name) (field_names c.args.fields.now) ≡ true = subst (λ (n : List ℕ). list_any (bytes_eq n) (field_names c.args.fields.now) ≡ true) c.as_str.ensures.lent (known_key c.as_str.result.now c.args.names.now.keys c.args.fields.now true c.requires.index (sym c.in-Some.ensures.found)) in
    inr (index_kept _ c.args.fields.now c.set.new.self c.args.name _ c.requires.index known c.set.ensures.exact)
