use Rattle.std.proofs.Common.{ℕ, suc, unsigned_abs, ◌+ℤ◌, Option, Some, None}
use Rattle.plane_model.specs.Points.{GridPoint}
use Rattle.grid_base.specs.Grid.{greatest}
use Rattle.link_search.specs.Descent.{IsFound}
use Rattle.link_search.proofs.RayLemmas.{IsReached}
use Rattle.link_search.proofs.search.LinkSearch.topmost_below.Given as goal

-- how many points of the grid lie below
abbrev pub points_left : Option GridPoint → ℕ
points_left None = 0
points_left (Some q) = suc (unsigned_abs (q.y +ℤ greatest))

abbrev pub invariant-loop-next : goal.invariant-loop-next
invariant-loop-next l = record {
  found : IsFound l.self.links.items l.p l.best;
  reached : IsReached l.self.links.items l.p l.best l.next;
}

abbrev pub decreases-loop-next : goal.decreases-loop-next
decreases-loop-next l = points_left l.next
