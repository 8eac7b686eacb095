use Rattle.std.proofs.Common.{rules, ◌≡◌, ◌∙◌, sym, ap, subst, arith, ℕ, ◌+◌, ◌<◌, List, length, get_or, All}
use Rattle.std.proofs.lemmas.List.{length_push}
use Rattle.std.proofs.lemmas.List.Elements.{All-push}
use Rattle.std.proofs.lemmas.List.Sorted.{All-permutation, IsNonDecreasingBy-from_sort_by_key}
use Rattle.face_sets.specs.declared.part_sets.PartFace.{PartFace}
use Rattle.face_sets.specs.Parts.{IsFaceOf}
use Rattle.face_sets.specs.Joined.{IsRanked}
use Rattle.face_sets.proofs.PartLemmas.{face_pushed, numbered_each, numbered_moved}
use Rattle.face_sets.proofs.part_sets.numbered_faces.Goals as goal

pub loop-i-preserved : goal.loop-i-preserved
loop-i-preserved c =
    let faces = c.args.faces.now in
    let old = c.loop-i.numbered.items in
    let one = c.numbered_face.result in
    let i = c.loop-i.i in
    let items = c.in_ok-push.ensures.items in
    let each = c.loop-i.invariant.1 in
    let pushed = length_push old one in (
      subst (λ (xs : List PartFace). All (IsFaceOf faces) xs) (sym items) (All-push (IsFaceOf faces) old one c.loop-i.invariant.0 c.numbered_face.ensures.of_them),
      ap (λ (xs : List PartFace). length xs) items ∙ (omega arith),
      subst (λ (xs : List PartFace). (k : ℕ) (d : PartFace) → k < i + 1 → (get_or xs k d).face ≡ get_or faces k 0) (sym items) (face_pushed old one faces i each c.numbered_face.ensures.face c.loop-i.invariant.2),
      subst (λ (xs : List PartFace). All (IsRanked faces c.args.parts.now.joining c.args.parts.now.numbers.items) xs) (sym items) (All-push (IsRanked faces c.args.parts.now.joining c.args.parts.now.numbers.items) old one c.loop-i.invariant.3 c.numbered_face.ensures.ranked),
    )

pub returns-clause-in_order : goal.returns-clause-in_order
returns-clause-in_order c = IsNonDecreasingBy-from_sort_by_key (λ (p : PartFace). p.part) c.sort_unstable_by_key.new.self.items c.sort_unstable_by_key.ensures.sorted (λ a r q k. search rules)

pub returns-clause-numbered : goal.returns-clause-numbered
returns-clause-numbered c =
    let faces = c.args.faces.now in
    let items = c.loop-i.numbered.items in
    let each = c.loop-i.invariant.1 in
    let end = c.loop-i.auto.i-end in
    let done = c.loop-i-test.false in
    numbered_moved faces items c.sort_unstable_by_key.new.self.items c.sort_unstable_by_key.ensures.permutation
    (numbered_each faces items c.requires.ascending (omega arith) (λ k d l. c.loop-i.invariant.2 k d (omega arith)))

pub returns-clause-of_them : goal.returns-clause-of_them
returns-clause-of_them c = All-permutation (IsFaceOf c.args.faces.now) c.loop-i.numbered.items c.sort_unstable_by_key.new.self.items c.sort_unstable_by_key.ensures.permutation c.loop-i.invariant.0

pub returns-clause-ranked : goal.returns-clause-ranked
returns-clause-ranked c = All-permutation (IsRanked c.args.faces.now c.args.parts.now.joining c.args.parts.now.numbers.items) c.loop-i.numbered.items c.sort_unstable_by_key.new.self.items c.sort_unstable_by_key.ensures.permutation c.loop-i.invariant.3
