use Rattle.std.proofs.Common.{◌≡◌, ◌∙◌, ◌+◌, ◌<◌, ℕ, List, [], ◌∷◌, ◌++◌, sym, ap, subst, arith, length, get_or, take}
use Rattle.face_walk.specs.Numbering.{IsNumbering}
use Rattle.face_walk.proofs.NumberingLemmas.{numbering_again, numbering_new, numbered_step}
use Rattle.face_walk.proofs.numbering.numbering_of.Goals.{then-least-n+in_ok-push, else-least-n+in_ok-push-2}
use Rattle.face_walk.proofs.numbering.numbering_of.Goals as goal

pub loop-n-preserved : goal.loop-n-preserved
loop-n-preserved c =
    let classes = c.args.joining.now in
    let n = c.loop-n.n in
    let places = c.loop-n.places.items in
    let least = c.least-least.result in
    let end = c.count-n-end.ensures.exact in
    let test = c.loop-n-test.true in
    let few = c.loop-n.invariant.1 in
    let l : n < length classes = omega arith in
    elim c.if-least-n.branch [
      | then-least-n+in_ok-push w ↦
          (let read : w.face_at-face.result ≡ get_or places least 0 = w.face_at-face.ensures.exact ∙ ap (λ (xs : List ℕ). get_or xs least 0) w.deref.ensures.value in
          let items : c.if-least-n.places.items ≡ places ++ get_or places least 0 ∷ [] = ap (λ v. v.items) w.places-is ∙ w.in_ok-push.ensures.items ∙ ap (λ (k : ℕ). places ++ k ∷ []) read in
          let e = w.count-is in
          numbered_step classes c.if-least-n.places.items c.if-least-n.count n l (omega arith)
          (subst (λ (xs : List ℕ). IsNumbering (take (n + 1) classes) xs c.if-least-n.count) (sym items)
          (subst (λ (k : ℕ). IsNumbering (take (n + 1) classes) (places ++ get_or places least 0 ∷ []) k) (sym e)
          (numbering_again classes places c.loop-n.count n least c.count.ensures.classes l c.least-least.ensures.exact w.if-least-n.true c.loop-n.invariant.3))))
      | else-least-n+in_ok-push-2 w ↦
          (let items : c.if-least-n.places.items ≡ places ++ c.loop-n.count ∷ [] = ap (λ v. v.items) w.places-is ∙ w.in_ok-push-2.ensures.items in
          let e = w.count-is in
          numbered_step classes c.if-least-n.places.items c.if-least-n.count n l (omega arith)
          (subst (λ (xs : List ℕ). IsNumbering (take (n + 1) classes) xs c.if-least-n.count) (sym items)
          (subst (λ (k : ℕ). IsNumbering (take (n + 1) classes) (places ++ c.loop-n.count ∷ []) k) (sym e)
          (numbering_new classes places c.loop-n.count n least c.count.ensures.classes l c.least-least.ensures.exact w.if-least-n.false c.loop-n.invariant.3))))
    ]
