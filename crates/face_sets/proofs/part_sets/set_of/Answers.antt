use Rattle.std.proofs.Common.{rules, ◌≡◌, ◌∙◌, sym, ap, subst, arith, ℕ, ◌<◌, List, [], ◌∷◌, ◌++◌, length, get_or, map, nat_lt, All, Contains}
use Rattle.std.proofs.lemmas.List.{get_or_default}
use Rattle.std.proofs.lemmas.List.Elements.{All-push, All-get_or, All-nil}
use Rattle.lists.specs.Lists.{ascending}
use Rattle.face_sets.specs.declared.part_sets.PartFace.{PartFace}
use Rattle.face_sets.specs.Parts.{IsFaceOf, HasPart}
use Rattle.face_sets.proofs.SetLemmas.{All-ascending}
use Rattle.face_sets.proofs.PartLemmas.{none, picked_first, picked_more, picked_all}
use Rattle.face_sets.proofs.part_sets.set_of.Goals as goal

pub loop-i-init : goal.loop-i-init
loop-i-init c =
    let e : c.new-faces.result.items ≡ [] = search rules in (
      λ faces h. subst (λ (xs : List ℕ). All (Contains faces) xs) (sym e) (All-nil (Contains faces)),
      λ n is. e ∙ sym (picked_first c.args.numbered.now n c.args.first c.requires.begins is),
    )

pub loop-i-preserved : goal.loop-i-preserved
loop-i-preserved c =
    let numbered = c.args.numbered.now in
    let i = c.loop-i.i in
    let d = c.index-numbered-i.result in
    let run = c.end_of_part-end.ensures.run in
    let within = run.within in
    let before = c.loop-i-test.true in
    let l : i < length numbered = omega arith in
    let items = c.in_ok-push.ensures.items in (
      λ faces h.
          let one = All-get_or (IsFaceOf faces) numbered i d l h in
          subst (λ (xs : List ℕ). All (Contains faces) xs) (sym items) (All-push (Contains faces) c.loop-i.faces.items (get_or numbered i d).face (c.loop-i.invariant.0 faces h) one.listed),
      λ n is.
          let here : HasPart numbered i n = λ (q : PartFace). run.inside i c.loop-i.auto.i before q ∙ sym (c.part_at.ensures.exact none) ∙ is none in
          items ∙ ap (λ (xs : List ℕ). xs ++ (get_or numbered i d).face ∷ []) (c.loop-i.invariant.1 n is) ∙ sym (picked_more numbered n i d l here),
    )

pub returns-clause-exact : goal.returns-clause-exact
returns-clause-exact c = λ d.
    let numbered = c.args.numbered.now in
    let first = c.args.first in
    let n = (get_or numbered first d).part in
    let run = c.end_of_part-end.ensures.run in
    let done = c.loop-i-test.false in
    let is : HasPart numbered first n = λ (q : PartFace). ap (λ (p : PartFace). p.part) (get_or_default numbered first q d c.requires.place) in
    c.from_faces.ensures.exact
    ∙ ap (ascending nat_lt) (c.loop-i.invariant.1 n is ∙ ap (map (λ (p : PartFace). p.face)) (picked_all numbered n c.loop-i.i (λ k q past there same. run.beyond k q (omega arith) there (same ∙ c.part_at.ensures.exact d))))

pub returns-clause-of_them : goal.returns-clause-of_them
returns-clause-of_them c = λ faces h. record {
  faces = subst (λ (xs : List ℕ). All (Contains faces) xs) (sym c.from_faces.ensures.exact) (All-ascending (Contains faces) c.loop-i.faces.items (c.loop-i.invariant.0 faces h));
}
