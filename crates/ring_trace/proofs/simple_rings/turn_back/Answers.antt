use Rattle.std.proofs.Common.{rules, ◌≡◌, ◌∙◌, sym, ap, subst, arith, ℕ, ◌-◌, List, ◌++◌, length, take, drop, reverse, append-nil}
use Rattle.std.specs.List.Sorted.{IsPermutation}
use Rattle.std.proofs.lemmas.List.{take_at, take_rest, drop_all, length-drop}
use Rattle.std.proofs.lemmas.List.Sorted.{length_permutation, IsPermutation-put_mid}
use borrow.Rule.Slice.PartMut.{put_mid, mid_of}
use Rattle.ring_trace.proofs.simple_rings.turn_back.Goals as goal

written : (xs whole : List ℕ) (len : ℕ) → IsPermutation xs whole → length xs ≡ len → take len (whole ++ drop (length whole) xs) ≡ whole
written xs whole len moved size = take_at whole (drop (length whole) xs) len (length_permutation xs whole moved ∙ size)

turned : (xs : List ℕ) (begin : ℕ) → put_mid begin (length xs - begin) xs (reverse (mid_of begin (length xs - begin) xs)) ≡ take begin xs ++ reverse (drop begin xs)
turned xs begin =
    let size = length-drop begin xs in
    ap (λ (ys : List ℕ). take begin xs ++ (reverse ys ++ drop (length xs - begin) (drop begin xs))) (take_rest xs begin)
    ∙ ap (λ (ys : List ℕ). take begin xs ++ (reverse (drop begin xs) ++ ys)) (drop_all (length xs - begin) (drop begin xs) (omega arith))
    ∙ ap (λ (ys : List ℕ). take begin xs ++ ys) (append-nil (reverse (drop begin xs)))

pub returns-clause-moved : goal.returns-clause-moved
returns-clause-moved c =
    let xs = c.args.edges.now.items in
    let seen = c.deref_mut.result.now in
    let size : length xs ≡ c.args.edges.now.len = search rules in
    let whole : List ℕ = put_mid c.args.begin (length seen - c.args.begin) seen c.reverse.new.self in
    let moved : IsPermutation xs whole = subst (λ (zs : List ℕ). IsPermutation zs whole) c.deref_mut.ensures.value
    (IsPermutation-put_mid c.args.begin (length seen - c.args.begin) seen c.reverse.new.self c.reverse.ensures.permutation) in
    subst (λ (ys : List ℕ). IsPermutation xs ys) (sym (written xs whole c.args.edges.now.len moved size)) moved

pub returns-clause-exact : goal.returns-clause-exact
returns-clause-exact c =
    let xs = c.args.edges.now.items in
    let seen = c.deref_mut.result.now in
    let begin = c.args.begin in
    let size : length xs ≡ c.args.edges.now.len = search rules in
    let whole : List ℕ = put_mid begin (length seen - begin) seen c.reverse.new.self in
    let moved : IsPermutation xs whole = subst (λ (zs : List ℕ). IsPermutation zs whole) c.deref_mut.ensures.value
    (IsPermutation-put_mid begin (length seen - begin) seen c.reverse.new.self c.reverse.ensures.permutation) in
    written xs whole c.args.edges.now.len moved size
    ∙ ap (put_mid begin (length seen - begin) seen) c.reverse.ensures.after
    ∙ ap (λ (zs : List ℕ). put_mid begin (length zs - begin) zs (reverse (mid_of begin (length zs - begin) zs))) c.deref_mut.ensures.value
    ∙ turned xs begin
