use Rattle.std.proofs.Common.{◌∙◌, sym, ap, subst, ◌+◌, List, [], ◌∷◌, ◌++◌, take, append_assoc}
use Rattle.std.proofs.lemmas.List.{take_all, take_more}
use Rattle.table_terms.specs.Names.{Text}
use Rattle.union_ops.specs.ColumnNames.{IsNewName, AreNewNames}
use Rattle.union_ops.proofs.NameLemmas.{named_more}
use Rattle.union_ops.proofs.column_names.add_names.Goals as goal

pub loop-name-preserved : goal.loop-name-preserved
loop-name-preserved c =
    let made = c.in_ok-new_column.ensures in
    let text = c.in_ok-new_column.field-0 in
    let items = c.as_slice-name-items.result.now in
    let i = c.loop-name.name-index in
    let names = c.loop-name.names in
    let name = c.name-item.result in
    let so_far = c.loop-name.invariant in
    let pushed = c.in_ok-push.ensures.ok in
    let one : IsNewName names name text =
    subst (λ (n : Text). IsNewName names n text) c.as_str.ensures.lent (subst (λ (earlier : List Text). IsNewName earlier c.as_str.result.now text) (sym so_far.same) made.named) in
    record {
      same = pushed ∙ ap (λ (ns : List Text). ns ++ text ∷ []) so_far.same ∙ sym made.last;
      tried = made.tried;
      distinct = made.distinct;
      named = λ earlier h.
          subst (AreNewNames (earlier ++ take (i + 1) items)) (sym pushed)
          (subst (λ (ns : List Text). AreNewNames ns (names ++ text ∷ []))
          (append_assoc earlier (take i items) (name ∷ []) ∙ ap (λ (ns : List Text). earlier ++ ns) (ap (λ (n : Text). take i items ++ n ∷ []) c.name-item.is ∙ sym (take_more items i name c.loop-name-test.true)))
          (named_more (earlier ++ take i items) names name text (so_far.named earlier h) one));
    }

pub returns-clause-named : goal.returns-clause-named
returns-clause-named c = λ earlier h.
    subst (λ (ns : List Text). AreNewNames (earlier ++ ns) c.loop-name.names)
    (take_all c.loop-name.name-index c.as_slice-name-items.result.now c.loop-name-test.false ∙ c.as_slice-name-items.ensures.all) (c.loop-name.invariant.named earlier h)
