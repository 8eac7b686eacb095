use Rattle.std.proofs.Common.{rules, ◌≡◌, ◌<◌, [], All, length, get_or, ap, subst, sym, ◌∙◌}
use Rattle.std.specs.List.{IsDistinct, position_or_len}
use Rattle.indexmap.specs.IndexSet.{insert_key}
use Rattle.table_rows.specs.Groups.{with_member}
use Rattle.table_rows.specs.Keys.{same_values}
use Rattle.table_rows.specs.Rows.{picked}
use Rattle.table_terms.proofs.Distinct.{IsDistinct-none}
use Rattle.table_rows.proofs.Grouping.{keys_row, groups_row, groups_below}
use Rattle.table_rows.proofs.groups.add_rows.Goals as goal

pub loop-i-init : goal.loop-i-init
loop-i-init c = record {
  counts = ap length c.requires.no_keys ∙ sym (ap length c.requires.no_members);
  distinct = subst (IsDistinct same_values) (sym c.requires.no_keys) (IsDistinct-none same_values);
  keys = c.requires.no_keys;
  members = c.requires.no_members;
}

pub loop-i-preserved : goal.loop-i-preserved
loop-i-preserved c =
    let rows = c.args.rows.now in
    let places = c.args.places.now in
    let i = c.loop-i.i in
    let done = c.loop-i.invariant in
    let less : i < length rows = search rules in
    let key : c.in_ok-key.key ≡ picked places (get_or rows i []) = c.in_ok-key.ensures.picked ∙ ap (picked places) c.row_of.ensures.lent in
    record {
      counts = c.in_ok-add_row.ensures.counts;
      distinct = c.in_ok-add_row.ensures.distinct;
      keys = c.in_ok-add_row.ensures.keys ∙ (λ j. insert_key same_values (done.keys j) (key j)) ∙ sym (keys_row places rows i [] less);
      members = c.in_ok-add_row.ensures.members ∙ (λ j. with_member (done.members j) (position_or_len (same_values (key j)) (done.keys j)) i)
          ∙ sym (groups_row places rows i [] less (subst (IsDistinct same_values) done.keys done.distinct));
    }

-- the rows that the loop went over are all of them, at most
pub returns-clause-below : goal.returns-clause-below
returns-clause-below c =
    subst (All (All (λ n. n < length c.args.rows.now))) (sym c.loop-i.invariant.members) (groups_below c.args.places.now c.args.rows.now c.loop-i.i)
