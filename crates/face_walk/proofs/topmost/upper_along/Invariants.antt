use Rattle.std.proofs.Common.{take}
use Rattle.face_walk.specs.Rays.{links_along}
use Rattle.link_search.specs.Descent.{IsBelowPoint}
use Rattle.link_search.specs.Topmost.{IsTopmostWith}
use Rattle.face_walk.proofs.topmost.upper_along.Given as goal

abbrev pub invariant-loop-i : goal.invariant-loop-i
invariant-loop-i l = record {
  below : IsBelowPoint l.p l.topmost;
  exact : IsTopmostWith (links_along l.id (take l.i l.points)) l.p l.fn.best l.topmost;
}
