-- A point of the region is held by some polygon, and its part by the same.
use Rattle.printed_laws.proofs.Counted.{joined_points_are_held_by_one}
use Rattle.printed_laws.proofs.joined_points_are_held_by_one.Goals as goal

pub returns : goal.returns
returns c = record { holds = joined_points_are_held_by_one }
