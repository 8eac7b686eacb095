use Rattle.std.proofs.Common.{◌≡◌, ap, ◌∙◌, slice_get}
use Rattle.std.specs.List.{position_or_len}
use Rattle.std.specs.Str.{bytes_eq}
use Rattle.table_rows.specs.Columns.{fields_of_pairs}
use Rattle.table_rows.proofs.Renaming.{name_there, name_missing}
use Rattle.table_rows.proofs.rename.new_name.Goals as goal

pub returns-in-Some : goal.returns-in-Some
returns-in-Some c =
    let pairs = c.args.pairs.now in
    let name = c.args.name.now in
    let place : c.place_or_end.result ≡ position_or_len (bytes_eq name) (fields_of_pairs pairs) =
    c.place_or_end.ensures.place ∙ ap (position_or_len (bytes_eq name)) c.requires.fields in
    record { name = c.as_str.ensures.lent ∙ name_there pairs name c.in-Some.pair.now (c.in-Some.ensures.lookup ∙ ap (slice_get pairs) place) }

pub returns-in-None : goal.returns-in-None
returns-in-None c =
    let pairs = c.args.pairs.now in
    let name = c.args.name.now in
    let place : c.place_or_end.result ≡ position_or_len (bytes_eq name) (fields_of_pairs pairs) =
    c.place_or_end.ensures.place ∙ ap (position_or_len (bytes_eq name)) c.requires.fields in
    record { name = name_missing pairs name (c.in-None.ensures.lookup ∙ ap (slice_get pairs) place) }
