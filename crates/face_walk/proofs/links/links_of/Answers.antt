use Rattle.std.proofs.Common.{◌≡◌, ◌<◌, List, length, ap, subst, ◌∙◌, arith}
use Rattle.std.specs.List.Sorted.{IsPermutation}
use Rattle.std.specs.Ordering.{ordering_then, bool_cmp, nat_cmp}
use Rattle.std.proofs.lemmas.List.Sorted.{All-permutation, IsPermutation-trans}
use Rattle.grid_base.specs.Order.{point_cmp}
use Rattle.face_walk.specs.Rays.{links_below}
use Rattle.link_search.specs.declared.links.ArcLink.{ArcLink}
use Rattle.link_search.proofs.RowLemmas.{by_start}
use Rattle.face_walk.proofs.links.links_of.Goals as goal

pub returns-clause-sorted : goal.returns-clause-sorted
returns-clause-sorted c =
    by_start c.sort_unstable.new.self.items (λ (a : ArcLink) (b : ArcLink). point_cmp a.link.stop b.link.stop)
    (λ (a : ArcLink) (b : ArcLink). ordering_then (nat_cmp a.along.arc b.along.arc) (bool_cmp a.along.is_reversed b.along.is_reversed)) c.sort_unstable.ensures.sorted

pub returns-clause-all : goal.returns-clause-all
returns-clause-all c =
    let end = c.loop-n.auto.n-end in
    let done = c.loop-n-test.false in
    let many = c.count-n-end.ensures.exact in
    let count : c.loop-n.n ≡ length c.args.t.now = omega arith in
    let made = c.loop-n.links.items in
    let sorted = c.sort_unstable.new.self.items in
    let is : made ≡ links_below c.args.t.now (length c.args.t.now) = c.loop-n.invariant.exact ∙ ap (links_below c.args.t.now) count in
    record { all = subst (λ (xs : List ArcLink). IsPermutation xs sorted) is (IsPermutation-trans made c.move_to_positions.new.items.items sorted c.move_to_positions.ensures.same c.sort_unstable.ensures.permutation) }

pub returns-clause-there : goal.returns-clause-there
returns-clause-there c =
    let made = c.loop-n.links.items in
    let sorted = c.sort_unstable.new.self.items in
    All-permutation (λ (k : ArcLink). k.along.arc < length c.args.t.now) made sorted
    (IsPermutation-trans made c.move_to_positions.new.items.items sorted c.move_to_positions.ensures.same c.sort_unstable.ensures.permutation) c.loop-n.invariant.there
