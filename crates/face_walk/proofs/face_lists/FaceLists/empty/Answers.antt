use Rattle.std.proofs.Common.{rules, ◌≡◌, ◌∙◌, ap, arith, length, replicate}
use Rattle.std.proofs.lemmas.List.Elements.{All-replicate, All-same}
use Rattle.face_walk.specs.FaceLists.{IsWithin, lists_in, nowhere}
use Rattle.face_walk.proofs.FaceListLemmas.{lists_none}
use Rattle.face_walk.proofs.face_lists.FaceLists.empty.Goals as goal

pub invariant_of-result : goal.invariant_of-result
invariant_of-result g c =
    let n = length c.new.result.items in
    let none : c.in_ok-spans.spans.items ≡ replicate c.args.count nowhere = search rules in
    All-same (IsWithin n) c.in_ok-spans.spans.items (replicate c.args.count nowhere) none (All-replicate (IsWithin n) c.args.count nowhere (record { ordered = omega arith; within = omega arith }))

pub returns : goal.returns
returns g c =
    let none : c.in_ok-spans.spans.items ≡ replicate c.args.count nowhere = search rules in
    record { exact = ap (lists_in c.new.result.items) none ∙ lists_none c.new.result.items c.args.count }
