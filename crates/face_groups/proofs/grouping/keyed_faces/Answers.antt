use Rattle.std.proofs.Common.{◌≡◌, ◌∙◌, sym, ap, subst, inl, inr, arith, ℕ, List, [], ◌∷◌, ◌++◌, All, Contains}
use Rattle.std.proofs.lemmas.Bool.{cases_lt}
use Rattle.std.proofs.lemmas.List.Elements.{All-push, Contains-append_left, Contains-push}
use Rattle.face_groups.specs.Groups.{IsKeyed}
use Rattle.face_groups.proofs.grouping.keyed_faces.Goals.{then-is_keyed+in_ok-push, else-is_keyed}
use Rattle.face_groups.proofs.grouping.keyed_faces.Goals as goal

pub loop-n-preserved : goal.loop-n-preserved
loop-n-preserved g c =
    let P = IsKeyed c.args.f.now (g.K.FaceKeys.is_keyed c.args.keys.now) in
    let n = c.loop-n.n in
    let old = c.loop-n.faces.items in
    let face = c.new-face.result in
    let is : face ≡ n = c.new-face.ensures.made in
    elim c.if-is_keyed.branch [
      | then-is_keyed+in_ok-push w ↦
          (let items = ap (λ v. v.items) w.faces-is ∙ w.in_ok-push.ensures.items in (
            subst (λ (xs : List ℕ). All P xs) (sym items) (All-push P old face c.loop-n.invariant.0 (c.is_keyed.ensures.yes w.if-is_keyed.true)),
            λ k l h. subst (λ (xs : List ℕ). Contains xs k) (sym items) (elim (cases_lt k n) [
              | inl less ↦ Contains-append_left old (face ∷ []) k (c.loop-n.invariant.1 k less h)
              | inr more ↦ (let same : face ≡ k = is ∙ (let e : n ≡ k = omega arith in e) in subst (λ (j : ℕ). Contains (old ++ face ∷ []) j) same (Contains-push old face))
            ]),
          ))
      | else-is_keyed w ↦
          (let items = ap (λ v. v.items) w.faces-is in (
            subst (λ (xs : List ℕ). All P xs) (sym items) c.loop-n.invariant.0,
            λ k l h. subst (λ (xs : List ℕ). Contains xs k) (sym items) (elim (cases_lt k n) [
              | inl less ↦ c.loop-n.invariant.1 k less h
              | inr more ↦ (let same : k ≡ face = (let e : k ≡ n = omega arith in e) ∙ sym is in absurd (c.is_keyed.ensures.no w.if-is_keyed.false (subst P same h)))
            ]),
          ))
    ]

pub returns : goal.returns
returns g c =
    let done = c.loop-n-test.false in
    let end = c.loop-n.auto.n-end in
    let count = c.count-n-end.ensures.exact in
    record { all = record { each = c.loop-n.invariant.0; all = λ k h. (let there = h.inner.there in c.loop-n.invariant.1 k (omega arith) h) } }
