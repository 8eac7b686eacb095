use Rattle.std.proofs.Common.{sym, ap, ◌∙◌, string_bytes, map, not}
use Rattle.std.specs.List.{list_any}
use Rattle.std.specs.Str.{bytes_eq}
use Rattle.indexmap.specs.IndexSet.{insert_key}
use Rattle.table_terms.proofs.Mapped.{list_any-map, insert_key-map}
use Rattle.table_terms.proofs.Distinct.{IsDistinct-map}
use Rattle.table_terms.proofs.names.NameSet.add.Goals as goal

pub returns-clause-ok : goal.returns-clause-ok
returns-clause-ok c =
    ap (map string_bytes) c.in_ok-added.ensures.keys
    ∙ insert_key-map string_bytes bytes_eq c.self.inside.names.keys c.in_ok-own.own
    ∙ (λ i. insert_key bytes_eq (c.self.view_is i) (c.in_ok-own.ensures.ok i))

pub returns-clause-added : goal.returns-clause-added
returns-clause-added c =
    c.in_ok-added.ensures.added
    ∙ ap not (sym (list_any-map string_bytes (bytes_eq (string_bytes c.in_ok-own.own)) c.self.inside.names.keys))
    ∙ (λ i. not (list_any (bytes_eq (c.in_ok-own.ensures.ok i)) (c.self.view_is i)))

pub returns-clause-distinct : goal.returns-clause-distinct
returns-clause-distinct c = IsDistinct-map string_bytes bytes_eq c.insert_full.new.self.keys c.in_ok-added.ensures.unique
