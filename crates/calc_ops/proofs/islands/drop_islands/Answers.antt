use Rattle.std.proofs.Common.{◌≡◌, ◌∙◌, ◌+◌, ◌<◌, sym, subst, ap, ℕ, List, [], All, length, get_or, arith}
use Rattle.std.proofs.lemmas.List.{get_or_default}
use Rattle.std.proofs.lemmas.List.Elements.{All-push}
use Rattle.face_sets.specs.Sets.{IsSetOf}
use Rattle.calc_ops.specs.Islands.{AreWithoutIslands, IsWithoutIslands, set_at}
use Rattle.calc_ops.proofs.IslandLemmas.{left_more}
use Rattle.calc_ops.proofs.islands.drop_islands.Goals as goal

pub loop-n-preserved : goal.loop-n-preserved
loop-n-preserved c =
    let t = c.args.t.now in
    let f = c.args.f.now in
    let area = c.args.least_area in
    let links = c.args.least_links in
    let n = c.loop-n.n in
    let old = c.args.old.now in
    let read = c.index-as_slice-n in
    let within : n < length old = (let e = c.len-n-end.ensures.count in let l = c.loop-n-test.true in omega arith) in
    let set = c.in_ok-without_islands.field-0 in
    let set_is : read.result ≡ set_at old n = read.is ∙ ap (λ (sets : List (List ℕ)). get_or sets n read.result) c.as_slice.ensures.all ∙ get_or_default old n read.result [] within in
    record {
      so_far = subst (λ (sets : List (List ℕ)). AreWithoutIslands t f old area links (n + 1) sets) (sym c.in_ok-push.ensures.ok)
          (left_more t f old area links n c.loop-n.sets set c.loop-n.invariant.so_far
          (subst (λ (from : List ℕ). IsWithoutIslands t f old area links n from set) set_is (c.in_ok-without_islands.ensures.exact old c.in_ok-owners.ensures.exact)));
      inner = subst (All (IsSetOf f)) (sym c.in_ok-push.ensures.ok) (All-push (IsSetOf f) c.loop-n.sets set c.loop-n.invariant.inner c.in_ok-without_islands.ensures.inner);
    }

pub returns-clause-exact : goal.returns-clause-exact
returns-clause-exact c =
    let all : c.loop-n.n ≡ length c.args.old.now = (let e = c.len-n-end.ensures.count in let l = c.loop-n-test.false in let k = c.loop-n.auto.n-end in omega arith) in
    subst (λ (n : ℕ). AreWithoutIslands c.args.t.now c.args.f.now c.args.old.now c.args.least_area c.args.least_links n c.loop-n.sets) all c.loop-n.invariant.so_far
