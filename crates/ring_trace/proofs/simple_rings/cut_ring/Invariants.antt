use Rattle.std.proofs.Common.{◌≡◌, ℕ, ◌+◌, ◌≤◌, false, true, length, get_or, map, Contains, vec_len}
use Rattle.std.specs.List.{sum_by}
use Rattle.ring_trace.specs.Rings.{IsWalk, IsWhole}
use Rattle.ring_trace.specs.Ways.{AreMarked, start_in}
use Rattle.ring_trace.proofs.WayLemmas.{IsMoved}
use Rattle.ring_trace.proofs.simple_rings.cut_ring.Given as goal

abbrev pub invariant-loop-edge : goal.invariant-loop-edge
invariant-loop-edge l =
    IsWalk l.walk
    × (length l.walk.onward.items ≡ length l.fn.walk.onward.items)
    × IsWhole (length l.fn.walk.onward.items) l.rings
    × (l.begin ≤ length l.rings.edges.items)
    × ((g : ℕ → ℕ) → sum_by g l.rings.edges.items + sum_by g l.walk.way.items ≡ sum_by g l.fn.rings.edges.items + sum_by g l.fn.walk.way.items)
    × (l.walk.is_gone.items ≡ l.fn.walk.is_gone.items)
    × (l.rings.spans.items ≡ l.fn.rings.spans.items)
    × (l.begin ≡ length l.fn.rings.edges.items)
    × (l.walk.onward.items ≡ l.fn.walk.onward.items)
    × (l.walk.vertices.items ≡ l.fn.walk.vertices.items)
    × IsMoved l.begin l.fn.walk.way.items l.fn.rings.edges.items l.rings.edges.items l.walk.way.items
    × (AreMarked l.fn.walk.vertices.items l.fn.walk.is_passed.items l.fn.walk.way.items → AreMarked l.fn.walk.vertices.items l.walk.is_passed.items l.walk.way.items)
    × (AreMarked l.fn.walk.vertices.items l.fn.walk.is_passed.items l.fn.walk.way.items → get_or l.fn.walk.is_passed.items l.vertex false ≡ true →
    Contains (map (start_in l.fn.walk.vertices.items) l.walk.way.items) l.vertex)

abbrev pub decreases-loop-edge : goal.decreases-loop-edge
decreases-loop-edge l = vec_len l.walk.way
