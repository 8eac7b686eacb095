use Rattle.std.proofs.Common.{rules, ◌≡◌, ℕ, List, [], ◌∷◌, ◌++◌, ◌+◌, ◌-◌, ◌<◌, false, map, length, get_or, take, refl, sym, ap, subst, ◌∙◌, arith}
use Rattle.std.specs.List.Sorted.{IsPermutation}
use Rattle.std.specs.Vec.{vec_len}
use Rattle.std.proofs.lemmas.Bool.{eqb-true, eqb-false}
use Rattle.std.proofs.lemmas.List.{get_or_default, get_or-map, length-map, nil_from_length, take_all, take_more}
use Rattle.std.proofs.lemmas.List.Sorted.{All-permutation}
use Rattle.plane_model.specs.Points.{GridPoint, Segment, is_before, same_point}
use Rattle.plane_model.specs.Arcs.{SignedArc, forward}
use Rattle.arc_table.specs.Around.{signed_below, signed_of, start_of}
use Rattle.arc_table.specs.Direction.{point_at}
use Rattle.arc_table.specs.declared.first_steps.FirstStep.{FirstStep}
use Rattle.arc_table.proofs.SignedArcs.{all_below}
use Rattle.arc_table.proofs.TurnTable.{IsUnderWay, AreAllRows, same_way, never_back, kept, closed, one_more, none_left, last_closed}
use Rattle.arc_table.proofs.node_rows.rows_of.Goals.{then-ends_before+in_ok-add, else-ends_before, then-not-is_empty+in_ok-add-2, else-not-is_empty}
use Rattle.arc_table.proofs.node_rows.rows_of.Goals as goal

pub first_step-step-requires-clause-there : goal.first_step-step-requires-clause-there
first_step-step-requires-clause-there c =
    let n = length c.args.arcs.now.spans in
    let codes = c.args.codes.now in
    let l = c.loop-code-test.true in
    let many = length-map codes signed_of in
    let d = c.signed_of-arc.result in
    subst (λ (a : SignedArc). a.arc < n) (sym (c.signed_of-arc.ensures.exact ∙ sym (get_or-map signed_of codes c.loop-code.code-index 0 d l)))
    (All-permutation (λ (a : SignedArc). a.arc < n) (signed_below n) (map signed_of codes) c.requires.all (all_below n n (omega arith)) c.loop-code.code-index d (omega arith))

pub loop-code-preserved : goal.loop-code-preserved
loop-code-preserved c =
    let arcs = c.args.arcs.now.spans in
    let by_start = map signed_of c.args.codes.now in
    let many = length-map c.args.codes.now signed_of in
    let i = c.loop-code.code-index in
    let a = c.signed_of-arc.result in
    let here_of : a ≡ get_or by_start i a = c.signed_of-arc.ensures.exact ∙ sym (get_or-map signed_of c.args.codes.now i 0 a c.loop-code-test.true) in
    let inside : i < length by_start = (let l = c.loop-code-test.true in omega arith) in
    let p = start_of arcs (get_or by_start (i - 1) (forward 0)) in
    let q = c.from.result in
    let done = c.loop-code.done in
    let row = c.loop-code.row.items in
    let here : start_of arcs a ≡ q = sym (c.from.ensures.exact ∙ ap (λ (s : Segment). s.start) c.first_step-step.ensures.exact) in
    let up : is_before q p ≡ false = subst (λ (z : GridPoint). is_before z p ≡ false) here (never_back arcs by_start c.requires.sorted i a inside here_of) in
    let before : IsUnderWay arcs (take i by_start) c.if-ends_before.done c.if-ends_before.row.items q = elim c.if-ends_before.branch [
      | then-ends_before+in_ok-add w ↦ same_way arcs (take i by_start) w.add.new.self c.if-ends_before.done [] c.if-ends_before.row.items q w.done-is (ap (λ r. r.items) w.row-is ∙ w.in_ok-add.ensures.none)
          (closed arcs (take i by_start) done row p c.loop-code.invariant (subst (λ (fs : List FirstStep). 0 < length fs) c.deref.ensures.value (w.if-ends_before.ensures.some refl)) w.add.new.self w.in_ok-add.ensures.added q up
          (subst (λ (fs : List FirstStep). same_point (point_at (map (λ (f : FirstStep). f.step.start) fs) 0) q ≡ false) c.deref.ensures.value (w.if-ends_before.ensures.ends refl)))
      | else-ends_before w ↦ same_way arcs (take i by_start) done c.if-ends_before.done row c.if-ends_before.row.items q w.done-is (ap (λ r. r.items) w.row-is)
          (kept arcs (take i by_start) done row p c.loop-code.invariant q up (subst (λ (fs : List FirstStep). 0 < length fs → point_at (map (λ (f : FirstStep). f.step.start) fs) 0 ≡ q) c.deref.ensures.value (w.if-ends_before.ensures.goes refl)))
    ] in
    let taken : take (i + 1) by_start ≡ take i by_start ++ a ∷ [] = take_more by_start i a inside ∙ ap (λ (b : SignedArc). take i by_start ++ b ∷ []) (sym here_of) in
    let last : start_of arcs (get_or by_start (i + 1 - 1) (forward 0)) ≡ q = ap (λ (j : ℕ). start_of arcs (get_or by_start j (forward 0))) (let e : i + 1 - 1 ≡ i = omega arith in e) ∙ ap (start_of arcs) (sym (here_of ∙ get_or_default by_start i a (forward 0) inside)) ∙ here in
    subst (λ (t : List SignedArc × GridPoint). IsUnderWay arcs t.0 c.if-ends_before.done c.push.new.self.items t.1) (λ k. (sym taken k, sym last k))
    (one_more arcs (take i by_start) c.if-ends_before.done c.if-ends_before.row.items q before a _ (λ k. record { step = c.first_step-step.ensures.exact k; arc = a }) here c.push.new.self.items c.in_ok-push.ensures.items)

pub returns : goal.returns
returns c =
    let arcs = c.args.arcs.now.spans in
    let by_start = map signed_of c.args.codes.now in
    let many = length-map c.args.codes.now signed_of in
    let i = c.loop-code.code-index in
    let p = start_of arcs (get_or by_start (i - 1) (forward 0)) in
    let done = c.loop-code.done in
    let row = c.loop-code.row.items in
    let all = subst (IsPermutation (signed_below (length arcs))) (sym (take_all i by_start (let h = c.loop-code-test.false in omega arith))) c.requires.all in
    let size : length row ≡ vec_len c.loop-code.row = search rules in
    let both : AreAllRows arcs c.if-not-is_empty.done = elim c.if-not-is_empty.branch [
      | then-not-is_empty+in_ok-add-2 w ↦ subst (AreAllRows arcs) (sym w.done-is) (last_closed arcs (take i by_start) done row p c.loop-code.invariant (let n = eqb-false (vec_len c.loop-code.row) 0 (sym w.if-not-is_empty.ensures) in omega arith) w.add-then-not-is_empty.new.self w.in_ok-add-2.ensures.added all)
      | else-not-is_empty w ↦ subst (AreAllRows arcs) (sym w.done-is) (none_left arcs (take i by_start) done row p c.loop-code.invariant (nil_from_length row (size ∙ eqb-true (vec_len c.loop-code.row) 0 (sym w.if-not-is_empty.ensures))) all)
    ] in
    record { turned = both.0; rows = both.1 }
