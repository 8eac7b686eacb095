use Rattle.std.proofs.Common.{◌∙◌, sym, ap, arith, ℕ, ◌<◌, List, [], ◌++◌, length, map, set, Vec, Global}
use Rattle.std.proofs.lemmas.List.{get_or-map, map-set}
use Rattle.region_ops.proofs.filled_sets.append.Goals as goal

pub returns-in_ok-extend_from_slice-clause-exact : goal.returns-in_ok-extend_from_slice-clause-exact
returns-in_ok-extend_from_slice-clause-exact c =
    let lists = c.args.lists.now.items in
    let within : c.args.place < length lists = (let e = c.len.ensures in let l = c.if-place-len.true in omega arith) in
    map-set (λ (v : Vec ℕ Global). v.items) lists c.args.place c.extend_from_slice.new.self
    ∙ ap (set (map (λ (v : Vec ℕ Global). v.items) lists) c.args.place)
    (c.in_ok-extend_from_slice.ensures.items
    ∙ ap (λ (v : Vec ℕ Global). v.items ++ c.args.faces.now) c.index_mut.ensures.value
    ∙ ap (λ (xs : List ℕ). xs ++ c.args.faces.now) (sym (get_or-map (λ (v : Vec ℕ Global). v.items) lists c.args.place c.index_mut.result.now [] within)))
