use Rattle.std.proofs.Common.{◌∙◌, sym, ap, ℕ, List, Option}
use Rattle.std.specs.Borrow.{Bor}
use Rattle.std.specs.Option.{option_map}
use Rattle.hot_pixels.proofs.pairs.near_of.Goals as goal

pub returns : goal.returns
returns c = record { exact = sym c.each_near.ensures.lookup ∙ ap (λ (o : Option (Bor (List ℕ))). option_map (λ ids. ids.now) o) c.in-Some.is }
