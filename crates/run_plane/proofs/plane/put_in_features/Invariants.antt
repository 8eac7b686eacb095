use Rattle.std.proofs.Common.{take}
use Rattle.run_plane.specs.LaidOut.{PutsInto}
use Rattle.run_plane.proofs.plane.put_in_features.Given as goal

abbrev pub invariant-loop-feature : goal.invariant-loop-feature
invariant-loop-feature l = PutsInto (take l.feature-index l.features) l.face l.initial.sets.items l.sets.items
