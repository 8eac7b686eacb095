use Rattle.std.proofs.Common.{◌≡◌, List, ℕ, length, map, take}
use Rattle.plane_model.specs.Points.{Path}
use Rattle.face_walk.specs.Places.{IsBuiltOf}
use Rattle.region_ops.specs.Filled.{AreGifts, AreSoleOwners}
use Rattle.region_ops.proofs.filled_sets.gifts_of.Given as goal

abbrev pub invariant-loop-gap : goal.invariant-loop-gap
invariant-loop-gap l = record {
  each : length l.gifts.items ≡ length l.areas;
  so_far : (arcs : List Path) → IsBuiltOf arcs l.f → (cleaned : List (List ℕ)) → AreSoleOwners cleaned l.f.count l.firsts → length l.areas ≡ length cleaned →
      AreGifts l.rule l.most arcs l.f l.areas cleaned (take l.gap-index l.gap-items) (map (λ list. list.items) l.gifts.items);
}
