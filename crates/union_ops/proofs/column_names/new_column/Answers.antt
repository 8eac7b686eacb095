use Rattle.std.proofs.Common.{◌≡◌, ◌∙◌, sym, ap, subst, arith, ℕ, ◌+◌, ◌<◌, false, List, [], ◌∷◌, ◌++◌, length, get_or, set}
use Rattle.std.proofs.lemmas.List.{get_or_default}
use Rattle.table_terms.specs.Names.{Text, has_name}
use Rattle.union_ops.specs.ColumnNames.{numbered, IsNewName, AreTried, IsFree}
use Rattle.union_ops.proofs.NameLemmas.{place_of_name, name_missing, name_alone, name_numbered, tried_after}
use Rattle.union_ops.proofs.column_names.new_column.Goals as goal

pub add_column-requires-clause-new : goal.add_column-requires-clause-new
add_column-requires-clause-new c =
    let each = c.requires.tried.each in
    let len = c.len.ensures in
    let past = c.if-place-len.true in
    name_missing c.args.columns.now.names c.args.name.now c.place_or_end-place.result c.place_or_end-place.ensures.place (omega arith)

pub returns-then-place-len-clause-named : goal.returns-then-place-len-clause-named
returns-then-place-len-clause-named c =
    let names = c.args.columns.now.names in
    let name = c.args.name.now in
    let each = c.requires.tried.each in
    let len = c.len.ensures in
    let past = c.if-place-len.true in
    let missing : has_name names name ≡ false = name_missing names name c.place_or_end-place.result c.place_or_end-place.ensures.place (omega arith) in
    subst (IsNewName names name) (sym c.in_ok-own.ensures.copied) (name_alone names name missing)

pub returns-clause-named : goal.returns-clause-named
returns-clause-named c =
    let names = c.args.columns.now.names in
    let untried = c.args.columns.now.untried.items in
    let name = c.args.name.now in
    let h = c.requires.tried in
    let each = h.each in
    let len = c.len.ensures in
    let place = c.place_or_end-place.result in
    let number = c.in_ok-number.number in
    let small = c.in_ok-number.ensures.below in
    let before = c.if-place-len.false in
    let l : place < length untried = omega arith in
    let within : place < length names = omega arith in
    let is : name ≡ get_or names place [] = place_of_name names name place c.place_or_end-place.ensures.place within in
    let first : c.index.result.now ≡ get_or untried place 0 = c.index.ensures ∙ get_or_default untried place c.index.result.now 0 l in
    subst (IsNewName names name) (sym c.in_ok-text.ensures.exact)
    (name_numbered names untried name place number h within is (subst (λ (k : ℕ). IsFree names name k number) first c.in_ok-number.ensures.free) (omega arith))

pub returns-clause-tried : goal.returns-clause-tried
returns-clause-tried c =
    let names = c.args.columns.now.names in
    let untried = c.args.columns.now.untried.items in
    let name = c.args.name.now in
    let h = c.requires.tried in
    let each = h.each in
    let len = c.len.ensures in
    let place = c.place_or_end-place.result in
    let number = c.in_ok-number.number in
    let before = c.if-place-len.false in
    let l : place < length untried = omega arith in
    let within : place < length names = omega arith in
    let is : name ≡ get_or names place [] = place_of_name names name place c.place_or_end-place.ensures.place within in
    let first : c.index.result.now ≡ get_or untried place 0 = c.index.ensures ∙ get_or_default untried place c.index.result.now 0 l in
    let last : c.add_column-2.new.columns.names ≡ names ++ numbered name number ∷ [] =
    c.in_ok-add_column-2.ensures.last ∙ ap (λ (n : Text). names ++ n ∷ []) (c.as_str.ensures.lent ∙ c.in_ok-text.ensures.exact) in
    subst (λ (ns : List Text). AreTried ns (set c.add_column-2.new.columns.untried.items place (number + 1))) (sym last)
    (subst (λ (us : List ℕ). AreTried (names ++ numbered name number ∷ []) (set us place (number + 1))) (sym c.in_ok-add_column-2.ensures.untried)
    (tried_after names untried name place number h within is (subst (λ (k : ℕ). IsFree names name k number) first c.in_ok-number.ensures.free)))
