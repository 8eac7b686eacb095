use Rattle.std.proofs.Common.{refl, sym, subst, ℕ, ◌+◌, List, get_or, map, take}
use Rattle.face_sets.specs.Owners.{IsNumbered}
use Rattle.face_sets.proofs.OwnerLemmas.{numbered_more}
use Rattle.spatial_join.proofs.matches.add_number.Goals as goal

pub loop-place-preserved : goal.loop-place-preserved
loop-place-preserved c =
    let old : List (List ℕ) = map (λ list. list.items) c.args.lists.now.items in
    subst (λ (lists : List (List ℕ)). IsNumbered c.args.n (take (c.loop-place.place-index + 1) c.args.places.now) old lists) (sym c.in_ok-put_number.ensures.put)
    (numbered_more c.args.n c.loop-place.place-index (get_or c.args.places.now c.loop-place.place-index 0) 0 c.args.places.now old (map (λ list. list.items) c.loop-place.lists.items)
    c.requires.ascending c.loop-place-test.true refl c.loop-place.invariant)
