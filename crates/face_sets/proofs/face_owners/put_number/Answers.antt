use Rattle.std.proofs.Common.{◌∙◌, sym, ap, arith, ℕ, ◌<◌, List, [], ◌∷◌, ◌++◌, length, map, set, Vec, Global}
use Rattle.std.proofs.lemmas.List.{get_or-map, map-set}
use Rattle.face_sets.proofs.face_owners.put_number.Goals as goal

pub returns-in_ok-push : goal.returns-in_ok-push
returns-in_ok-push c =
    let lists = c.args.lists.now.items in
    let within : c.args.place < length lists = (let e = c.len.ensures in let l = c.if-place-len.true in omega arith) in
    record {
      put = map-set (λ (v : Vec ℕ Global). v.items) lists c.args.place c.push.new.self
          ∙ ap (set (map (λ (v : Vec ℕ Global). v.items) lists) c.args.place)
          (c.in_ok-push.ensures.items
          ∙ ap (λ (v : Vec ℕ Global). v.items ++ c.args.n ∷ []) c.index_mut.ensures.value
          ∙ ap (λ (xs : List ℕ). xs ++ c.args.n ∷ []) (sym (get_or-map (λ (v : Vec ℕ Global). v.items) lists c.args.place c.index_mut.result.now [] within)));
    }
