use Rattle.std.proofs.Common.{◌≡◌, ℕ, ◌<◌, ◌≤◌, Contains, Some, pos}
use Rattle.std.specs.Prelude.{◌≤ℤ◌, slice_get}
use Rattle.plane_model.specs.Points.{cross}
use Rattle.link_search.specs.Rows.{start_at}
use Rattle.link_search.specs.declared.links.ArcLink.{ArcLink}
use Rattle.link_search.proofs.rows.first_round.Given as goal

abbrev pub invariant-loop-j : goal.invariant-loop-j
invariant-loop-j l = record {
  there : Contains l.links l.first;
  leaves : l.first.link.start ≡ start_at l.links l.i;
  first : (m : ℕ) (k : ArcLink) → l.i ≤ m → m < l.j → slice_get l.links m ≡ Some k → pos 0 ≤ℤ cross l.first.link k.link;
}
