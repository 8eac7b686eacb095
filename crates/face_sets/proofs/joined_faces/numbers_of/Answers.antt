use Rattle.std.proofs.Common.{rules, ◌≡◌, ◌⊎◌, ◌∙◌, inl, inr, sym, ap, subst, arith, ◌^◌, ◌<◌, List, [], ◌∷◌, ◌++◌, get_or, set, length, take, length-set}
use Rattle.std.proofs.lemmas.Bool.{cases_lt}
use Rattle.std.proofs.lemmas.List.{take_more, get_or_read}
use Rattle.face_sets.specs.declared.joined_faces.Side.{Side}
use Rattle.face_sets.specs.Joined.{AreLeastNumbers}
use Rattle.face_sets.proofs.JoinedLemmas.{least_more}
use Rattle.face_sets.proofs.joined_faces.numbers_of.Goals as goal

pub loop-side-preserved : goal.loop-side-preserved
loop-side-preserved c =
    let sides = c.args.sides.now in
    let numbers = c.loop-side.numbers.items in
    let classes = c.args.joining.now in
    let s = c.side-item.result in
    let i = c.loop-side.side-index in
    let n = c.least-least.result in
    let v = c.min.result in
    let l : i < length sides = c.loop-side-test.true in
    let each = c.loop-side.invariant.0 in
    let number : c.num.result ≡ s.arc.arc = search rules in
    let small : c.num.result < 2 ^ 32 = search rules in
    let within : n < length numbers = search (rules, arith) in
    let here : c.index.result.now ≡ get_or numbers n 0 = get_or_read numbers n c.index.result.now within c.index.ensures 0 in
    let m = c.min.ensures in
    let which : (v ≡ get_or numbers n 0) ⊎ (v ≡ s.arc.arc) = elim (cases_lt (get_or numbers n 0) s.arc.arc) [ inl less ↦ inl (omega arith) | inr more ↦ inr (omega arith) ] in (
      length-set numbers n v ∙ each,
      subst (λ (ss : List Side). AreLeastNumbers classes ss (set numbers n v)) (sym (take_more sides i s l ∙ ap (λ (x : Side). take i sides ++ x ∷ []) (sym c.side-item.is)))
          (least_more classes (take i sides) numbers s n v c.loop-side.invariant.1 (sym c.least-least.ensures.exact) within (omega arith) (omega arith) (omega arith) which),
    )
