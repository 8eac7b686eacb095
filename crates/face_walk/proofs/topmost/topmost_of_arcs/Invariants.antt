use Rattle.face_walk.specs.Rays.{links_below}
use Rattle.link_search.specs.Topmost.{IsTopmostBelow}
use Rattle.face_walk.proofs.topmost.topmost_of_arcs.Given as goal

abbrev pub invariant-loop-n : goal.invariant-loop-n
invariant-loop-n l = IsTopmostBelow (links_below l.t l.n) l.p l.topmost
