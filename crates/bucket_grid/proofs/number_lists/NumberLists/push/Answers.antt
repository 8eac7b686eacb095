use Rattle.std.proofs.Common.{◌≡◌, ◌∙◌, ℕ, List, [], ◌∷◌, ◌++◌, length, refl, ap, arith, length-append}
use Rattle.std.proofs.lemmas.Slice.{pushed}
use Rattle.span_pool.specs.SpanPool.{cut}
use Rattle.span_pool.proofs.Cutting.{cut-pushed, CutsUp-push}
use Rattle.bucket_grid.proofs.number_lists.NumberLists.push.Goals as goal

pub invariant_of-self-2 : goal.invariant_of-self-2
invariant_of-self-2 c =
    let numbers = c.self.inside.numbers.items in
    let ends = c.self.inside.ends.items in
    let more = c.args.list.now in
    let all : c.in_ok-end.end ≡ length (numbers ++ more) = omega (arith, c.in_ok-end.ensures.exact, c.len.ensures, c.self.inside.numbers.ok.0, length-append numbers more) in
    let ends_after : c.push.new.self.items ≡ ends ++ length (numbers ++ more) ∷ [] =
    pushed (c.in_ok-end.end ∷ []) refl c.unwrap.ensures c.push.ensures.items ∙ (λ i. c.in_ok-reserve.ensures.items i ++ all i ∷ []) in
    let numbers_after : c.extend_from_slice.new.self.items ≡ numbers ++ more = c.in_ok-extend_from_slice.ensures.items in
    rw (ends_after, numbers_after) (CutsUp-push 0 ends (length numbers) (length (numbers ++ more)) c.self.invariant (omega (arith, length-append numbers more)))

pub returns-clause-ok : goal.returns-clause-ok
returns-clause-ok c =
    let numbers = c.self.inside.numbers.items in
    let ends = c.self.inside.ends.items in
    let more = c.args.list.now in
    let all : c.in_ok-end.end ≡ length (numbers ++ more) = omega (arith, c.in_ok-end.ensures.exact, c.len.ensures, c.self.inside.numbers.ok.0, length-append numbers more) in
    let ends_after : c.push.new.self.items ≡ ends ++ length (numbers ++ more) ∷ [] =
    pushed (c.in_ok-end.end ∷ []) refl c.unwrap.ensures c.push.ensures.items ∙ (λ i. c.in_ok-reserve.ensures.items i ++ all i ∷ []) in
    let numbers_after : c.extend_from_slice.new.self.items ≡ numbers ++ more = c.in_ok-extend_from_slice.ensures.items in
    (λ i. cut 0 (ends_after i) (numbers_after i)) ∙ cut-pushed ends numbers more c.self.invariant ∙ ap (λ (lists : List (List ℕ)). lists ++ more ∷ []) c.self.view_is
