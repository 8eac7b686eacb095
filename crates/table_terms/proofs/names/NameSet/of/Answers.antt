use Rattle.std.proofs.Common.{sym, ap, ◌∙◌, subst, take}
use Rattle.std.specs.List.{IsDistinct}
use Rattle.std.specs.Str.{bytes_eq}
use Rattle.std.specs.Cmp.Lexicographic.{nat_list_eq_equiv}
use Rattle.indexmap.specs.IndexSet.{insert_key}
use Rattle.table_terms.proofs.Distinct.{insert_key-take}
use Rattle.table_terms.proofs.names.NameSet.of.Goals as goal

pub loop-name-preserved : goal.loop-name-preserved
loop-name-preserved c =
    let names = c.as_slice-name-items.result.now in
    let distinct : IsDistinct bytes_eq names = subst (IsDistinct bytes_eq) (sym c.as_slice-name-items.ensures.all) c.requires.distinct in
    c.in_ok-add.ensures.ok ∙ (λ i. insert_key bytes_eq (c.loop-name.invariant i) (c.as_str.ensures.lent i))
    ∙ ap (insert_key bytes_eq (take c.loop-name.name-index names)) c.name-item.is
    ∙ insert_key-take nat_list_eq_equiv names c.loop-name.name-index c.name-item.result distinct c.loop-name-test.true
