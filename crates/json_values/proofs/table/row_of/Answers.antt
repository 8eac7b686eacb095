use Rattle.std.proofs.Common.{◌≡◌, ◌∙◌, subst, length, false, map, Some, List, ℕ}
use Rattle.std.specs.Prelude.{IfNone, IfSome, slice_get}
use Rattle.std.specs.List.{list_any}
use Rattle.std.specs.Str.{bytes_eq}
use Rattle.std.specs.String.{string_bytes}
use Rattle.std.proofs.lemmas.Iterator.Adapters.{YieldsList-from_vec}
use Rattle.std.proofs.lemmas.Iterator.Consumers.{YieldsList-from_enumerate, YieldsList-turn, YieldsList-end}
use Rattle.std.proofs.lemmas.List.{length_push}
use Rattle.std.proofs.lemmas.List.FromFn.{length-enumerate_from}
use Rattle.std.proofs.lemmas.Result.{IfOk-weaker}
use Rattle.json_values.specs.Table.{AreDistinctNames, NamedValues, row_of}
use Rattle.json_values.proofs.Tables.{seen_names, distinct_seen}
use Rattle.json_values.proofs.NamedValues.{counted_field, row_done, row_set}
use Rattle.json_values.proofs.table.row_of.Goals as goal

pub loop-i-preserved : goal.loop-i-preserved
loop-i-preserved c =
    let names = seen_names c.args.names.now.keys in
    let n : ℕ = length c.loop-i.yielded in
    let fs = c.args.fields in
    let i = c.in-Some.i in
    let field = c.in-Some.field in
    let next = counted_field fs n i field (YieldsList-turn (YieldsList-from_enumerate (YieldsList-from_vec fs (cc) (cc)) (cc)) c.loop-i.yielded _ c.loop-i.yielded_by _ c.next.new.self (i, field) c.in-Some.is c.next.ensures.steps) in
    let place = c.place_of-place.result in
    rw (length_push c.loop-i.yielded (i, field)) (row_set names fs n field place c.loop-i.values.items c.set_value.new.values.items next.0 next.1 (distinct_seen c.args.names.now.keys c.requires.unique)
    (subst (λ (fs : NamedValues). AreDistinctNames (map (λ f. f.0) fs)) c.fields.view_is c.fields.invariant.1)
    (subst (λ (name : List ℕ). IfSome place (λ i. slice_get names i ≡ Some name)) c.as_str.ensures.lent c.place_of-place.ensures.some)
    (subst (λ (name : List ℕ). IfNone place (list_any (bytes_eq name) names ≡ false)) c.as_str.ensures.lent c.place_of-place.ensures.none)
    c.loop-i.invariant c.set_value.ensures.exact)

pub returns : goal.returns
returns c =
    let fs = c.args.fields in
    let end = YieldsList-end (YieldsList-from_enumerate (YieldsList-from_vec fs (cc) (cc)) (cc)) c.loop-i.yielded _ c.loop-i.yielded_by _ c.next.new.self c.in-None.is c.next.ensures.steps in
    record { exact = IfOk-weaker c.from_vec.result (λ row. row ≡ c.loop-i.values.items) (λ row. row ≡ row_of (map string_bytes c.args.names.now.keys) fs) (λ row same. same ∙ c.loop-i.invariant ∙ row_done (seen_names c.args.names.now.keys) fs (length c.loop-i.yielded) (end.1 ∙ length-enumerate_from 0 fs)) c.from_vec.ensures.same }
