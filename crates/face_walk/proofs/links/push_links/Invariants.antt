use Rattle.std.proofs.Common.{◌≡◌, ◌++◌, ℕ, ◌<◌, All, take}
use Rattle.face_walk.specs.Rays.{links_along}
use Rattle.link_search.specs.declared.links.ArcLink.{ArcLink}
use Rattle.face_walk.proofs.links.push_links.Given as goal

abbrev pub invariant-loop-i : goal.invariant-loop-i
invariant-loop-i l = record {
  exact : l.links.items ≡ l.fn.links.items ++ links_along l.id (take l.i l.points);
  there : (n : ℕ) → l.id < n → All (λ (k : ArcLink). k.along.arc < n) l.fn.links.items → All (λ (k : ArcLink). k.along.arc < n) l.links.items;
}
