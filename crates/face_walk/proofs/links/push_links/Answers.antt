use Rattle.std.proofs.Common.{◌≡◌, ◌++◌, ◌∙◌, ◌<◌, ap, sym, subst, take, append_assoc, List, Option, All}
use Rattle.std.specs.Option.{option_to_list}
use Rattle.plane_model.specs.Points.{Path}
use Rattle.face_walk.specs.Rays.{links_along}
use Rattle.link_search.specs.declared.links.ArcLink.{ArcLink}
use Rattle.face_walk.proofs.LinkLemmas.{all_with, some_below}
use Rattle.face_walk.proofs.links.push_links.Goals as goal

pub loop-i-preserved : goal.loop-i-preserved
loop-i-preserved c =
    let id = c.args.id in
    let points : Path = c.args.points.now in
    let i = c.loop-i.i in
    let old : List ArcLink = c.args.links.now.items in
    let before : List ArcLink = c.loop-i.links.items in
    let found : Option ArcLink = c.link_to.result in
    let new : c.push_some.new.links.items ≡ before ++ option_to_list found = c.in_ok-push_some.ensures.exact in
    record {
      exact = new ∙ ap (λ (xs : List ArcLink). xs ++ option_to_list found) c.loop-i.invariant.exact ∙ append_assoc old (links_along id (take i points)) (option_to_list found)
          ∙ ap (λ (xs : List ArcLink). old ++ xs) (sym c.link_to.ensures.next);
      there = λ n l h.
          let P : ArcLink → Type 0 = λ k. k.along.arc < n in
          subst (All P) (sym new) (all_with P before found (c.loop-i.invariant.there n l h) (some_below n id found l c.link_to.ensures.arc));
    }
