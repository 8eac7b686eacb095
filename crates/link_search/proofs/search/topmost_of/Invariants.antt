use Rattle.std.proofs.Common.{◌≡◌, ℕ, true, ◌<◌, Some}
use Rattle.std.specs.Prelude.{slice_get}
use Rattle.plane_model.specs.Points.{at}
use Rattle.plane_model.specs.Parity.{is_below}
use Rattle.link_search.specs.declared.links.ArcLink.{ArcLink}
use Rattle.link_search.specs.Descent.{IsFound, IsNotAbove}
use Rattle.link_search.proofs.search.topmost_of.Given as goal

abbrev pub invariant-loop-i : goal.invariant-loop-i
invariant-loop-i l = record {
  found : IsFound l.links l.p l.topmost;
  kept : (k : ArcLink) → is_below (at l.p) k.link ≡ true → IsNotAbove l.p k l.fn.best → IsNotAbove l.p k l.topmost;
  near : (j i : ℕ) (k : ArcLink) → j < l.i-index → slice_get l.near j ≡ Some i → slice_get l.links i ≡ Some k → is_below (at l.p) k.link ≡ true → IsNotAbove l.p k l.topmost;
}
