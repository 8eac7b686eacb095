use Rattle.std.proofs.Common.{ℕ, length, ap, sym, ◌∙◌}
use Rattle.table_rows.specs.Groups.{with_member}
use Rattle.table_rows.proofs.Grouping.{counts_stay}
use Rattle.table_rows.proofs.groups.add_row.Goals as goal

pub returns-clause-counts : goal.returns-clause-counts
returns-clause-counts c =
    ap length c.in_ok-group.ensures.keys ∙ counts_stay c.args.key c.args.keys.now.keys c.args.members.now.items c.args.row c.requires.counts
    ∙ sym (ap length (c.in_ok-add_member.ensures.members ∙ ap (λ (p : ℕ). with_member c.args.members.now.items p c.args.row) c.in_ok-group.ensures.index))
