use Rattle.std.proofs.Common.{◌≡◌, ◌++◌, ◌∷◌, drop}
use Rattle.hot_pixels.specs.Links.{path_links}
use Rattle.hot_pixels.proofs.path_links.add_links_after.Given as goal

abbrev pub invariant-loop-p : goal.invariant-loop-p
invariant-loop-p l = l.initial.links.items ++ path_links (l.fn.from ∷ l.rest) ≡ l.links.items ++ path_links (l.last ∷ drop l.p-index l.rest)
