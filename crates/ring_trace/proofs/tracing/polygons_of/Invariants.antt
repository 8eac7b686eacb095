use Rattle.std.proofs.Common.{◌≡◌, ℕ, ◌+◌, ◌<◌, All, take}
use Rattle.std.specs.List.{sum_by}
use Rattle.plane_model.specs.Arcs.{SignedArc}
use Rattle.ring_trace.specs.declared.pairing.Edge.{Edge}
use Rattle.ring_trace.specs.Keys.{along_key, path_along}
use Rattle.ring_trace.proofs.GatherLemmas.{IsGathered}
use Rattle.ring_trace.specs.Traced.{times_along, times_round, times_traced}
use Rattle.ring_trace.proofs.tracing.polygons_of.Given as goal

abbrev pub invariant-loop-i : goal.invariant-loop-i
invariant-loop-i l =
    ((n : ℕ) → All (λ (e : Edge). e.arc.arc < n) l.edges → All (All (All (λ (a : SignedArc). a.arc < n))) l.polygons)
    × ((n : ℕ) → All (λ (e : Edge). e.arc.arc < n) l.edges → All (All (λ (a : SignedArc). a.arc < n)) l.polygon)
    × ((a : SignedArc) → times_traced a l.polygons + times_round a l.polygon ≡ sum_by (along_key (times_along a l.edges) l.rings) (take l.i l.keys))
    × IsGathered (path_along l.edges l.rings) (take l.i l.keys) l.polygons l.polygon
