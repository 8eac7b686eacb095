use Rattle.std.proofs.Common.{sym, ap, ◌∙◌, string_bytes}
use Rattle.std.specs.List.{list_any}
use Rattle.std.specs.Str.{bytes_eq}
use Rattle.table_terms.proofs.Mapped.{list_any-map}
use Rattle.table_terms.proofs.names.NameSet.has.Goals as goal

pub returns : goal.returns
returns c = record {
  found = c.contains.ensures ∙ sym (list_any-map string_bytes (bytes_eq c.args.name.now) c.self.inside.names.keys)
      ∙ ap (list_any (bytes_eq c.args.name.now)) c.self.view_is;
}
