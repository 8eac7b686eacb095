use Rattle.std.proofs.Common.{◌≡◌, ◌∙◌, ◌∷◌, [], ◌++◌, sym, ap, subst, arith, ℕ, List, length}
use Rattle.face_walk.specs.Joining.{made_one}
use Rattle.face_walk.proofs.JoinLemmas.{joined_more}
use Rattle.face_walk.proofs.RaysBelow.{AreRaysBelow, one_more_ray, no_more_rays, all_rays}
use Rattle.face_walk.proofs.rays.join_rays.Goals.{then-lowest-i, else-lowest-i}
use Rattle.face_walk.proofs.rays.join_rays.Goals as goal

pub join_ray-requires-clause-row : goal.join_ray-requires-clause-row
join_ray-requires-clause-row c = let each = c.requires.each in (c.requires.lowest c.loop-i.i (omega arith)).row c.if-lowest-i.true

pub join_ray-requires-clause-vertex : goal.join_ray-requires-clause-vertex
join_ray-requires-clause-vertex c = let each = c.requires.each in (c.requires.lowest c.loop-i.i (omega arith)).vertex c.if-lowest-i.true

pub loop-i-preserved : goal.loop-i-preserved
loop-i-preserved c =
    let links = c.args.search.now.links.items in
    let i = c.loop-i.i in
    let old = c.args.joining.now in
    let each = c.requires.each in
    let there = c.loop-i-test.true in
    let many = c.len-i-end.ensures in
    let (rays, below, joined) = c.loop-i.invariant.joined in
    elim c.if-lowest-i.branch [
      | then-lowest-i w ↦
          (let (ray, is_ray, e) = w.join_ray.ensures.exact in
          record {
            count = ap (λ (xs : List ℕ). length xs) w.joining-is ∙ w.join_ray.ensures.count ∙ c.loop-i.invariant.count;
            joined = (rays ++ ray ∷ [], one_more_ray links i rays ray below is_ray, w.joining-is ∙ e ∙ ap (made_one ray.0 ray.1) joined ∙ sym (joined_more rays ray old));
          })
      | else-lowest-i w ↦ record {
        count = ap (λ (xs : List ℕ). length xs) w.joining-is ∙ c.loop-i.invariant.count;
        joined = (rays, no_more_rays links i rays below ((c.requires.lowest i (omega arith)).no w.if-lowest-i.false), w.joining-is ∙ joined);
      }
    ]

pub returns-clause-exact : goal.returns-clause-exact
returns-clause-exact c =
    let links = c.args.search.now.links.items in
    let (rays, below, joined) = c.loop-i.invariant.joined in
    let end = c.loop-i.auto.i-end in
    let done = c.loop-i-test.false in
    let many = c.len-i-end.ensures in
    let all : c.loop-i.i ≡ length links = omega arith in
    (rays, all_rays links rays c.args.search.now.sorted (subst (λ (n : ℕ). AreRaysBelow links n rays) all below), joined)
