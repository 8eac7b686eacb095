use Rattle.std.proofs.Common.{◌≡◌, List, take, ap, subst, ◌∙◌, arith}
use Rattle.std.specs.List.Sorted.{IsPermutation}
use Rattle.std.proofs.lemmas.List.{take_all}
use Rattle.std.proofs.lemmas.List.Sorted.{IsPermutation-trans}
use Rattle.plane_model.specs.Points.{GridPoint}
use Rattle.link_search.specs.Rows.{stops_of}
use Rattle.link_search.proofs.links.highs_of.Goals as goal

pub returns : goal.returns
returns c =
    let links = c.args.links.now in
    let end = c.loop-l.auto.l-index-end in
    let done = c.loop-l-test.false in
    let made = c.loop-l.highs.items in
    let sorted = c.sort_unstable.new.self.items in
    let all : take c.loop-l.l-index links ≡ links = take_all c.loop-l.l-index links (omega arith) in
    let is : made ≡ stops_of links = c.loop-l.invariant ∙ ap stops_of all in
    record {
      exact = record {
        all = subst (λ (xs : List GridPoint). IsPermutation xs sorted) is (IsPermutation-trans made c.move_to_positions.new.items.items sorted c.move_to_positions.ensures.same c.sort_unstable.ensures.permutation);
        sorted = c.sort_unstable.ensures.sorted;
      };
    }
