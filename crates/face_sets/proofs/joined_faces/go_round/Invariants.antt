use Rattle.std.proofs.Common.{◌≡◌, ◌++◌, length, get_or, filter, map, take, All}
use Rattle.face_walk.specs.Places.{face_left_of}
use Rattle.face_sets.specs.Boundary.{is_outward, side_at}
use Rattle.face_sets.specs.Joined.{AreSound, IsCoarser, IsJoinedOver}
use Rattle.face_sets.specs.Parts.{IsSide}
use Rattle.face_sets.proofs.joined_faces.go_round.Given as goal

abbrev pub invariant-loop-arc : goal.invariant-loop-arc
invariant-loop-arc l = record {
  count : length l.joining ≡ length l.faces;
  kept : IsCoarser l.fn.joining l.joining;
  sound : All (λ a. face_left_of l.f.places a ≡ get_or l.faces l.i 0) l.round → AreSound l.f l.faces l.fn.joining → AreSound l.f l.faces l.joining;
  over : All (λ a. IsJoinedOver l.f l.faces l.i a l.joining) (take l.arc-index l.round);
  sides : l.sides.items ≡ l.fn.sides.items ++ map (side_at l.i) (filter (is_outward l.f.places l.faces) (take l.arc-index l.round));
  there : All (IsSide l.f (length l.faces)) l.sides.items;
}
