use Rattle.std.proofs.Common.{◌≡◌, ◌<◌, length, All}
use Rattle.arc_table.specs.Steps.{AreTwins}
use Rattle.arc_table.proofs.half_links.twins_of.Given as goal

abbrev pub invariant-loop-h : goal.invariant-loop-h
invariant-loop-h l = (length l.twins.items ≡ l.h) × All (λ t. t < length l.steps) l.twins.items × AreTwins l.steps l.twins.items l.h
