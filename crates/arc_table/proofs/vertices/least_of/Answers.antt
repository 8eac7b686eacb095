use Rattle.std.proofs.Common.{◌≡◌, ◌+◌, ℕ, List, [], ◌∷◌, ◌++◌, Some, take, sym, ap, subst, ◌∙◌, arith}
use Rattle.std.proofs.lemmas.List.{take_all, take_more}
use Rattle.plane_model.specs.Arcs.{SignedArc}
use Rattle.arc_table.specs.Lookup.{IsLeastNamed, lesser_of}
use Rattle.arc_table.proofs.LeastAt.{least_more}
use Rattle.arc_table.proofs.vertices.least_of.Goals as goal

pub loop-a-init : goal.loop-a-init
loop-a-init c = λ a h. absurd (let l = h.1 in omega arith)

pub loop-a-preserved : goal.loop-a-preserved
loop-a-preserved c =
    let named = c.args.named.now in
    let i = c.loop-a.a-index in
    let a = c.a-item.result in
    let all : take (i + 1) named ≡ take i named ++ a ∷ [] = take_more named i a c.loop-a-test.true ∙ ap (λ (b : SignedArc). take i named ++ b ∷ []) (sym c.a-item.is) in
    let least : c.lesser_of-least.result ≡ lesser_of c.loop-a.least (Some a.arc) = c.lesser_of-least.ensures.exact ∙ ap (λ (n : ℕ). lesser_of c.loop-a.least (Some n)) c.id.ensures.exact in
    subst (λ (xs : List SignedArc). IsLeastNamed xs c.lesser_of-least.result) (sym all) (subst (IsLeastNamed (take i named ++ a ∷ [])) (sym least) (least_more (take i named) a c.loop-a.least c.loop-a.invariant))

pub returns : goal.returns
returns c =
    let done = c.loop-a-test.false in
    record { exact = subst (λ (xs : List SignedArc). IsLeastNamed xs c.loop-a.least) (take_all c.loop-a.a-index c.args.named.now (omega arith)) c.loop-a.invariant }
