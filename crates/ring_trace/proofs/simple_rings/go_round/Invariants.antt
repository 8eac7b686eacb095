use Rattle.std.proofs.Common.{◌≡◌, ◌<◌, length, get_or, true, false}
use Rattle.ring_trace.specs.Rings.{IsKept, IsWalk, IsWhole, StaysGone}
use Rattle.ring_trace.specs.Ways.{AreRingsByVertices, IsMarkedWay, start_in}
use Rattle.ring_trace.proofs.RoundLemmas.{IsRound, count_free}
use Rattle.ring_trace.proofs.simple_rings.go_round.Given as goal

abbrev pub invariant-loop-walk : goal.invariant-loop-walk
invariant-loop-walk l = record {
  walk : IsWalk l.walk;
  count : length l.walk.onward.items ≡ length l.fn.walk.onward.items;
  rings : IsWhole (length l.fn.walk.onward.items) l.rings;
  at : l.at < length l.fn.walk.onward.items;
  kept : IsKept l.walk l.rings;
  gone : get_or l.walk.is_gone.items l.first false ≡ true;
  stays : StaysGone l.fn.walk.is_gone.items l.walk.is_gone.items;
  onward : l.walk.onward.items ≡ l.fn.walk.onward.items;
  vertices : l.walk.vertices.items ≡ l.fn.walk.vertices.items;
  way : IsMarkedWay l.walk (start_in l.walk.vertices.items l.first) (start_in l.walk.vertices.items l.at);
  simple : AreRingsByVertices l.walk l.rings;
  round : IsRound l.walk.onward.items l.walk.is_gone.items l.first l.at;
}

abbrev pub decreases-loop-walk : goal.decreases-loop-walk
decreases-loop-walk l = count_free l.walk.is_gone.items
