use Rattle.std.proofs.Common.{sym, ap, ◌∙◌, string_bytes, length}
use Rattle.std.proofs.lemmas.List.{length-map}
use Rattle.std.specs.List.{position_or_len}
use Rattle.std.specs.Str.{bytes_eq}
use Rattle.table_terms.proofs.Mapped.{position_or_len-map, place_found, place_missing}
use Rattle.table_terms.proofs.names.NameSet.place_or_end.Goals as goal

pub returns-in-Some-clause-place : goal.returns-in-Some-clause-place
returns-in-Some-clause-place c =
    sym (place_found _ c.self.inside.names.keys c.in-Some.place c.in-Some.ensures.index)
    ∙ sym (position_or_len-map string_bytes (bytes_eq c.args.name.now) c.self.inside.names.keys)
    ∙ ap (position_or_len (bytes_eq c.args.name.now)) c.self.view_is

pub returns-in-None-clause-place : goal.returns-in-None-clause-place
returns-in-None-clause-place c =
    c.len.ensures.count
    ∙ sym (ap length c.self.view_is)
    ∙ length-map c.self.inside.names.keys string_bytes
    ∙ sym (place_missing _ c.self.inside.names.keys c.in-None.ensures.index)
    ∙ sym (position_or_len-map string_bytes (bytes_eq c.args.name.now) c.self.inside.names.keys)
    ∙ ap (position_or_len (bytes_eq c.args.name.now)) c.self.view_is
