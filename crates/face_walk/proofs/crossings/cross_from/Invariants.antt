use Rattle.std.proofs.Common.{All, length, take}
use Rattle.plane_model.specs.Arcs.{SignedArc}
use Rattle.face_walk.specs.Crossings.{AreMarked, IsLonger, IsReached, face_across, outer_of}
use Rattle.face_walk.proofs.crossings.cross_from.Given as goal

abbrev pub invariant-loop-a : goal.invariant-loop-a
invariant-loop-a l = record {
  marked : AreMarked l.f l.crossings.items l.reached;
  longer : IsLonger l.initial.crossings.items l.crossings.items;
  right : All (λ (a : SignedArc). IsReached (outer_of l.f) l.crossings.items (length l.crossings.items) (face_across l.f.places a)) (take l.a-index l.a-items);
}
