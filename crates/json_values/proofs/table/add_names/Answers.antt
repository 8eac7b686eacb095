use Rattle.std.proofs.Common.{◌≡◌, ◌<◌, arith, subst, length, Some, List}
use Rattle.std.specs.Prelude.{slice_get}
use Rattle.json_values.proofs.Tables.{Name, seen_names}
use Rattle.json_values.proofs.NamedValues.{name_added, name_stays}
use Rattle.json_values.proofs.table.add_names.Goals.{then-not-stands_at+in_ok-add_name, else-not-stands_at}
use Rattle.json_values.proofs.table.add_names.Goals as goal

pub loop-i-preserved : goal.loop-i-preserved
loop-i-preserved c =
    let l : c.loop-i.i < length c.args.fields.now = omega arith in
    elim c.if-not-stands_at.branch [
      | then-not-stands_at+in_ok-add_name w ↦ rw w.names-is (name_added (seen_names c.args.names.now.keys) (seen_names c.loop-i.names.keys) _ c.args.fields.now c.loop-i.i c.index-fields-i.result _ l c.as_str-name.ensures.lent c.loop-i.invariant.0 w.in_ok-add_name.ensures.names, w.in_ok-add_name.ensures.unique)
      | else-not-stands_at w ↦
          let there : slice_get (seen_names c.loop-i.names.keys) c.loop-i.i ≡ Some c.as_str-name.result.now = subst (λ (ks : List Name). slice_get (seen_names ks) c.loop-i.i ≡ Some c.as_str-name.result.now) c.as_slice.ensures.keys (c.stands_at.ensures.yes w.if-not-stands_at.false) in
          rw w.names-is (name_stays (seen_names c.args.names.now.keys) (seen_names c.loop-i.names.keys) c.args.fields.now c.loop-i.i c.index-fields-i.result _ c.loop-i.i l c.as_str-name.ensures.lent c.loop-i.invariant.0 there, c.loop-i.invariant.1)
    ]
