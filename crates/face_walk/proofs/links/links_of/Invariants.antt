use Rattle.std.proofs.Common.{◌≡◌, ◌<◌, length, All}
use Rattle.face_walk.specs.Rays.{links_below}
use Rattle.link_search.specs.declared.links.ArcLink.{ArcLink}
use Rattle.face_walk.proofs.links.links_of.Given as goal

abbrev pub invariant-loop-n : goal.invariant-loop-n
invariant-loop-n l = record {
  exact : l.links.items ≡ links_below l.t l.n;
  there : All (λ (k : ArcLink). k.along.arc < length l.t) l.links.items;
}
