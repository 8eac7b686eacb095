use Rattle.std.proofs.Common.{◌≡◌, ◌+◌, ◌++◌, ◌∙◌, ap, subst, arith, ℕ, suc, [], List, length}
use Rattle.std.specs.Prelude.{slice_index_or}
use Rattle.face_walk.specs.Rays.{links_along, links_below}
use Rattle.link_search.specs.Topmost.{IsTopmostBelow}
use Rattle.link_search.specs.declared.links.ArcLink.{ArcLink}
use Rattle.link_search.proofs.TopmostLemmas.{topmost_of_none, topmost_is_below}
use Rattle.face_walk.proofs.topmost.topmost_of_arcs.Goals as goal

pub loop-n-init : goal.loop-n-init
loop-n-init c = topmost_of_none c.args.p

pub upper_along-topmost-requires : goal.upper_along-topmost-requires
upper_along-topmost-requires c = record { below = topmost_is_below (links_below c.args.t.now c.loop-n.n) c.args.p c.loop-n.topmost c.loop-n.invariant }

pub loop-n-preserved : goal.loop-n-preserved
loop-n-preserved c =
    let arcs = c.args.t.now in
    let n = c.loop-n.n in
    let result = c.upper_along-topmost.result in
    let id = c.new-id.ensures.made in
    let points : c.points_of.result.now ≡ slice_index_or arcs n [] = c.points_of.ensures.exact ∙ ap (λ (m : ℕ). slice_index_or arcs m []) id in
    let more : List ArcLink = links_along n (slice_index_or arcs n []) in
    subst (λ (m : ℕ). IsTopmostBelow (links_below arcs m) c.args.p result) (let e : suc n ≡ n + 1 = omega arith in e)
    (subst (λ (xs : List ArcLink). IsTopmostBelow (links_below arcs n ++ xs) c.args.p result) (λ t. links_along (id t) (points t)) (c.upper_along-topmost.ensures.exact (links_below arcs n) c.loop-n.invariant))

pub returns : goal.returns
returns c =
    let end = c.loop-n.auto.n-end in
    let done = c.loop-n-test.false in
    let many = c.count-n-end.ensures.exact in
    let all : c.loop-n.n ≡ length c.args.t.now = omega arith in
    record { exact = subst (λ (n : ℕ). IsTopmostBelow (links_below c.args.t.now n) c.args.p c.loop-n.topmost) all c.loop-n.invariant }
