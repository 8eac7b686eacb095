use Rattle.std.proofs.Common.{sym, subst, get_or}
use Rattle.std.proofs.lemmas.List.{get_or_default}
use Rattle.grid_base.specs.Grid.{Corners}
use Rattle.bucket_grid.specs.Rects.{whole}
use Rattle.link_search.proofs.RayLemmas.{IsDownTo, IsReached, reached_after, near_of}
use Rattle.link_search.proofs.search.LinkSearch.topmost_below.Goals as goal

pub loop-next-preserved : goal.loop-next-preserved
loop-next-preserved c =
    let search = c.args.self.now in
    let links = search.links.items in
    let rects = search.buckets.rects in
    let p = c.args.p in
    let q = c.in-Some.at in
    let place = c.bucket_of-place.result in
    let held = c.bucket_of-place.ensures.place in
    let rect : Corners = get_or rects place whole in
    let best = c.loop-next.best in
    let result = c.topmost_in-best.result in
    let down : IsDownTo links p best q = subst (IsReached links p best) c.in-Some.is c.loop-next.invariant.reached in
    record {
      found = c.topmost_in-best.ensures.found;
      reached = reached_after links p best result q rect (held.held whole) down c.topmost_in-best.ensures.kept
          (λ k c' s b.
          let (ids, at, (i, listed, is)) = near_of links rects search.buckets.near place rect search.near held.below (sym (get_or_default rects place whole rect held.below)) k c' s in
          c.topmost_in-best.ensures.near ids at i k listed is b)
          c.next_below-next.result c.topmost_in-best.ensures.found search.on_grid c.next_below-next.ensures.on_grid c.next_below-next.ensures.exact;
    }
