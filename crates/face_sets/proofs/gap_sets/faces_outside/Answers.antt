use Rattle.std.proofs.Common.{◌≡◌, ◌∙◌, sym, ap, subst, ℕ, Bool, cond, not, nat_eq, List, [], ◌∷◌, ◌++◌, filter, append-nil, Vec, Global}
use Rattle.std.specs.List.{range_with_len}
use Rattle.std.specs.List.Sorted.{IsStrictlyIncreasing}
use Rattle.lists.specs.Lists.{has}
use Rattle.face_sets.proofs.GapLemmas.{outside_more, outside_rises}
use Rattle.face_sets.proofs.gap_sets.faces_outside.Goals.{then-not-has+in_ok-push, else-not-has}
use Rattle.face_sets.proofs.gap_sets.faces_outside.Goals as goal

pub loop-n-preserved : goal.loop-n-preserved
loop-n-preserved c =
    let set = c.args.set.now in
    let n = c.loop-n.n in
    let old : List ℕ = c.loop-n.outside.items in
    let made : c.new-face.result ≡ n = c.new-face.ensures.made in
    let says : c.has.result ≡ has nat_eq set n = c.has.ensures.exact ∙ ap (has nat_eq set) made in
    let more = sym (outside_more set n c.has.result says) in
    elim c.if-not-has.branch [
      | then-not-has+in_ok-push w ↦
          ap (λ (v : Vec ℕ Global). v.items) w.outside-is ∙ w.in_ok-push.ensures.items
          ∙ (λ i. c.loop-n.invariant i ++ made i ∷ [])
          ∙ ap (λ (b : Bool). filter (λ k. not (has nat_eq set k)) (range_with_len 0 n) ++ cond (not b) (n ∷ []) []) (sym w.if-not-has.true)
          ∙ more
      | else-not-has w ↦
          ap (λ (v : Vec ℕ Global). v.items) w.outside-is ∙ c.loop-n.invariant
          ∙ sym (append-nil (filter (λ k. not (has nat_eq set k)) (range_with_len 0 n)))
          ∙ ap (λ (b : Bool). filter (λ k. not (has nat_eq set k)) (range_with_len 0 n) ++ cond (not b) (n ∷ []) []) (sym w.if-not-has.false)
          ∙ more
    ]

pub returns-clause-ascending : goal.returns-clause-ascending
returns-clause-ascending c = subst IsStrictlyIncreasing (sym c.loop-n.invariant) (outside_rises c.args.set.now c.loop-n.n)
