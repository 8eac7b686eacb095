use Rattle.std.proofs.Common.{◌≡◌, ◌+◌, ◌++◌, ◌∷◌, [], Bool, List, ap, cond, arith, false, sym, take, true, ◌∙◌, ℕ}
use Rattle.std.proofs.lemmas.Bool.{not-false, not-true}
use Rattle.table_terms.specs.Names.{has_name}
use Rattle.run_state.specs.Targets.{is_selected}
use Rattle.run_state.proofs.TargetLemmas.{other_next}
use Rattle.run_texts.specs.Written.{has_name_twice, names_of_layers}
use Rattle.run_texts.proofs.LayerNames.{name_differs, name_repeats, names_next, target_names}
use Rattle.run_texts.proofs.texts.has_repeat.Goals.{else-is_selected-via-then-is_selected+in_ok-add+else-not-branch, else-is_selected-via-else-is_selected}
use Rattle.run_texts.proofs.texts.has_repeat.Goals as goal

pub returns-then-not-branch : goal.returns-then-not-branch
returns-then-not-branch c =
    let t = c.args.target.now in
    let all = c.args.layers.now in
    let i = c.loop-held.held-index in
    let held = c.held-item.result in
    let text : List ℕ = c.as_str.result.now in
    let lent : text ≡ held.layer.name = c.as_str.ensures.lent in
    let before : c.loop-held.seen ≡ target_names t (take i all) = c.loop-held.invariant.seen in
    let selected : is_selected t held ≡ true = cc in
    let is_new : c.in_ok-add.field-0 ≡ false = grind (arith, c.if-not-branch.true) in
    let seen : has_name c.loop-held.seen text ≡ true = not-false (has_name c.loop-held.seen text) (sym c.in_ok-add.ensures.added ∙ is_new) in
    let same : has_name c.loop-held.seen text ≡ has_name (target_names t (take i all)) held.layer.name = λ j. has_name (before j) (lent j) in
    record { exact = sym (name_repeats t all i held c.loop-held-test.true c.held-item.is selected (sym same ∙ seen)) }

pub loop-held-preserved : goal.loop-held-preserved
loop-held-preserved c =
    let t = c.args.target.now in
    let all = c.args.layers.now in
    let i = c.loop-held.held-index in
    let held = c.held-item.result in
    let before : c.loop-held.seen ≡ target_names t (take i all) = c.loop-held.invariant.seen in
    elim c.else-is_selected.branch [
      | else-is_selected-via-then-is_selected+in_ok-add+else-not-branch w ↦
          let text : List ℕ = w.as_str.result.now in
          let lent : text ≡ held.layer.name = w.as_str.ensures.lent in
          let selected : is_selected t held ≡ true = cc in
          let is_new : w.in_ok-add.field-0 ≡ true = grind (arith, w.if-not-branch.false) in
          let fresh : has_name c.loop-held.seen text ≡ false = not-true (has_name c.loop-held.seen text) (sym w.in_ok-add.ensures.added ∙ is_new) in
          let same : has_name c.loop-held.seen text ≡ has_name (target_names t (take i all)) held.layer.name = λ j. has_name (before j) (lent j) in
          let more : c.loop-held.seen ++ text ∷ [] ≡ target_names t (take i all) ++ held.layer.name ∷ [] = λ j. before j ++ lent j ∷ [] in
          rw w.seen-is (record {
            seen = w.in_ok-add.ensures.ok ∙ ap (λ (b : Bool). cond b c.loop-held.seen (c.loop-held.seen ++ text ∷ [])) fresh ∙ more ∙ sym (names_next t all i held c.loop-held-test.true c.held-item.is selected);
            once = name_differs t all i held c.loop-held-test.true c.held-item.is selected (sym same ∙ fresh) c.loop-held.invariant.once;
          })
      | else-is_selected-via-else-is_selected w ↦
          let other : is_selected t held ≡ false = cc in
          let passed : target_names t (take (i + 1) all) ≡ target_names t (take i all) = ap names_of_layers (other_next t all i held c.loop-held-test.true c.held-item.is other) in
          rw w.seen-is (record {
            seen = before ∙ sym passed;
            once = ap has_name_twice passed ∙ c.loop-held.invariant.once;
          })
    ]
