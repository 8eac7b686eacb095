use Rattle.std.proofs.Common.{◌≡◌, [], map, sym, ap, ◌∙◌}
use Rattle.std.specs.Prelude.{Option, None, Ok, Err, vec_items}
use Rattle.std.proofs.lemmas.Result.{err_from_is_err_and}
use Rattle.table_terms.specs.Names.{place_of}
use Rattle.table_terms.specs.Refusals.{unless}
use Rattle.table_rows.specs.Refusals.{refused_item}
use Rattle.table_rows.proofs.Answering.{seen_refusal, refused_alone}
use Rattle.table_rows.proofs.columns.listed_places.Goals as goal

pub returns-in_err-check_list-clause-exact : goal.returns-in_err-check_list-clause-exact
returns-in_err-check_list-clause-exact c =
    let p = err_from_is_err_and c.from_residual-in_err-check_list.result c.from_residual-in_err-check_list.ensures.1 in
    let same = sym (λ i. refused_item (c.in_ok-columns.ensures.all i) [] 0 c.args.listed.now) in
    seen_refusal vec_items _ c.in_err-check_list.field-0.0 _ _ (p.1 ∙ ap Err p.2) c.in_err-check_list.ensures.exact (λ why e. refused_alone _ _ why (same ∙ e))

pub returns-clause-exact : goal.returns-clause-exact
returns-clause-exact c =
    let names = c.args.names.now in
    let listed = c.args.listed.now in
    let columns = c.in_ok-columns.ensures.all in
    let accepted : refused_item names [] 0 listed ≡ None = sym (λ i. refused_item (columns i) [] 0 listed) ∙ c.in_ok-check_list.ensures.exact in
    ap (λ (o : Option _). unless o (Ok (map (place_of names) listed))) accepted
    ∙ ap Ok (sym (c.in_ok-places.ensures.places ∙ (λ i. map (place_of (columns i)) (c.as_slice.ensures.all i))))
