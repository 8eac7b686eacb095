use Rattle.std.proofs.Common.{◌≡◌, ◌∙◌, sym, ap, subst, ℕ, ◌+◌, ◌<◌, List, [], ◌∷◌, ◌++◌, length, get_or, take, All}
use Rattle.std.proofs.lemmas.List.{take_more}
use Rattle.std.proofs.lemmas.List.Elements.{All-push}
use Rattle.face_sets.specs.declared.part_sets.PartFace.{PartFace}
use Rattle.face_sets.specs.Parts.{AreGroups, IsPieceOf, faces_of_part}
use Rattle.face_sets.proofs.PartLemmas.{none, groups_new, groups_same}
use Rattle.face_sets.proofs.part_sets.sets_of.Goals.{then-begins_part+in_ok-set_of+in_ok-push, else-begins_part}
use Rattle.face_sets.proofs.part_sets.sets_of.Goals as goal

pub set_of-requires-clause-begins : goal.set_of-requires-clause-begins
set_of-requires-clause-begins c = c.begins_part.ensures.begins c.if-begins_part.true

pub loop-i-preserved : goal.loop-i-preserved
loop-i-preserved c =
    let numbered = c.args.numbered.now in
    let i = c.loop-i.i in
    let l : i < length numbered = c.loop-i-test.true in
    let x = get_or numbered i none in
    let more = take_more numbered i none l in
    elim c.if-begins_part.branch [
      | then-begins_part+in_ok-set_of+in_ok-push w ↦
          (let begins = c.begins_part.ensures.begins w.if-begins_part.true in
          let made : c.if-begins_part.sets ≡ c.loop-i.sets ++ faces_of_part numbered x.part ∷ [] = w.sets-is ∙ w.in_ok-push.ensures.ok ∙ ap (λ (s : List ℕ). c.loop-i.sets ++ s ∷ []) (w.in_ok-set_of.ensures.exact none) in (
            λ faces h.
                subst (λ (sets : List (List ℕ)). All (IsPieceOf faces) sets) (sym (w.sets-is ∙ w.in_ok-push.ensures.ok))
                (All-push (IsPieceOf faces) c.loop-i.sets _ (c.loop-i.invariant.0 faces h) (w.in_ok-set_of.ensures.of_them faces h)),
            subst (λ (sets : List (List ℕ)). AreGroups numbered (take (i + 1) numbered) sets) (sym made)
                (subst (λ (some : List PartFace). AreGroups numbered some (c.loop-i.sets ++ faces_of_part numbered x.part ∷ [])) (sym more)
                (groups_new numbered (take i numbered) c.loop-i.sets x c.loop-i.invariant.1 (λ p there. begins p none there))),
          ))
      | else-begins_part w ↦
          (let (p, there, is) = c.begins_part.ensures.goes_on w.if-begins_part.false none in (
            λ faces h. subst (λ (sets : List (List ℕ)). All (IsPieceOf faces) sets) (sym w.sets-is) (c.loop-i.invariant.0 faces h),
            subst (λ (sets : List (List ℕ)). AreGroups numbered (take (i + 1) numbered) sets) (sym w.sets-is)
                (subst (λ (some : List PartFace). AreGroups numbered some c.loop-i.sets) (sym more)
                (groups_same numbered (take i numbered) c.loop-i.sets x p c.loop-i.invariant.1 there is)),
          ))
    ]
