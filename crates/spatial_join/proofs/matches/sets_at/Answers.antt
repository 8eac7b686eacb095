use Rattle.std.proofs.Common.{◌≡◌, ◌∙◌, nat_eq, List, ℕ}
use Rattle.std.proofs.lemmas.List.Filters.{dedup_is}
use Rattle.std.proofs.lemmas.Result.{IfOk-weaker}
use Rattle.face_sets.proofs.SetLemmas.{sorted_once}
use Rattle.spatial_join.specs.Matches.{AreSetsAt}
use Rattle.spatial_join.proofs.MatchLemmas.{sets_along}
use Rattle.spatial_join.proofs.matches.sets_at.Goals as goal

pub returns : goal.returns
returns c =
    let arcs = c.args.t.now in
    let f = c.args.f.now in
    let points = c.args.points.now in
    let found = c.in_ok-found.found.items in
    let once = dedup_is nat_eq _ _ c.dedup.ensures.filtered ∙ sorted_once found c.sort_unstable.new.self.items c.sort_unstable.ensures.permutation c.sort_unstable.ensures.sorted in
    record {
      exact = λ sets are. IfOk-weaker c.from_vec.result (λ (list : List ℕ). list ≡ c.dedup.new.self.items) (AreSetsAt arcs f sets points)
          (λ list same. sets_along arcs f sets c.args.owners.now points found list are c.in_ok-found.ensures.found (same ∙ once))
          c.from_vec.ensures.same;
    }
