use Rattle.std.proofs.Common.{◌<◌, ◌∙◌, ℕ, List, length, ap, subst}
use Rattle.std.specs.List.Sorted.{IsPermutation}
use Rattle.std.proofs.lemmas.List.Sorted.{All-permutation, IsPermutation-map}
use Rattle.std.proofs.lemmas.Result.{IfOk-weaker}
use Rattle.plane_model.specs.Points.{Segment}
use Rattle.arc_table.specs.StepCodes.{link_numbered, links_numbered, AreLinkNumbers}
use Rattle.arc_table.proofs.StepMerge.{all_there, all_numbered}
use Rattle.arc_table.proofs.merging.falling_of.Goals as goal

pub returns-clause-there : goal.returns-clause-there
returns-clause-there c =
    let links = c.args.links.now in
    let rising = c.deref.result.now in
    let there : AreLinkNumbers links rising = rw c.deref.ensures.value (all_there links c.in_ok-rising.rising.items c.in_ok-rising.ensures.each c.in_ok-rising.ensures.own) in
    IfOk-weaker _ (λ v. IsPermutation rising v.items) (λ v. AreLinkNumbers links v.items) (λ v same. All-permutation (λ (k : ℕ). k < length links) rising v.items same there) c.gathered.ensures.same

pub returns-clause-same : goal.returns-clause-same
returns-clause-same c =
    let links = c.args.links.now in
    let rising = c.deref.result.now in
    let all = ap (links_numbered links) c.deref.ensures.value ∙ all_numbered links c.in_ok-rising.rising.items c.in_ok-rising.ensures.each c.in_ok-rising.ensures.own in
    IfOk-weaker _ (λ v. IsPermutation rising v.items) (λ v. IsPermutation links (links_numbered links v.items))
    (λ v same. subst (λ (xs : List Segment). IsPermutation xs (links_numbered links v.items)) all (IsPermutation-map (link_numbered links) rising v.items same)) c.gathered.ensures.same
