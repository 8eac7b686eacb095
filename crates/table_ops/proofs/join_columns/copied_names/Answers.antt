use Rattle.std.proofs.Common.{sym, subst}
use Rattle.std.specs.List.{IsDistinct}
use Rattle.std.specs.Str.{bytes_eq}
use Rattle.table_ops.proofs.Joining.{copied_differ}
use Rattle.table_ops.proofs.join_columns.copied_names.Goals as goal

pub of-requires : goal.of-requires
of-requires c = record { distinct = subst (IsDistinct bytes_eq) (sym c.in_ok-names.ensures.names) (copied_differ c.args.prefix.now c.args.fields.now c.requires.fields_differ) }
