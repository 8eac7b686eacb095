use Rattle.std.proofs.Common.{rules, ℕ, List, length, map, subst, ◌∙◌, arith}
use Rattle.std.specs.List.Sorted.{IsPermutation}
use Rattle.std.proofs.lemmas.Fn.{always_returns_same}
use Rattle.std.proofs.lemmas.List.Sorted.{IsPermutation-map, IsPermutation-trans}
use Rattle.plane_model.specs.Arcs.{SignedArc}
use Rattle.arc_table.specs.Around.{signed_of, start_of}
use Rattle.arc_table.proofs.SignedCodes.{codes_are, sorted_arcs}
use Rattle.arc_table.proofs.first_steps.codes_by_start.Goals as goal

pub returns-clause-all : goal.returns-clause-all
returns-clause-all c =
    let codes = c.sort_unstable_by_key.new.self.items in
    let all = c.in_ok-all.all.items in
    let counted = c.count.ensures.exact in
    let again = c.count-2.ensures.exact in
    let same = c.in_ok-codes.ensures.same in
    subst (λ (bs : List SignedArc). IsPermutation bs (map signed_of codes)) (codes_are (length c.args.arcs.now.spans) all (c.in_ok-all.ensures.each ∙ omega arith) (λ k l. c.in_ok-all.ensures.own k (omega arith)))
    (IsPermutation-map signed_of all codes (IsPermutation-trans all c.in_ok-codes.codes.items codes (subst (λ (ns : List ℕ). IsPermutation ns c.in_ok-codes.codes.items) c.deref-2.ensures.value same) c.sort_unstable_by_key.ensures.permutation))

pub returns-clause-sorted : goal.returns-clause-sorted
returns-clause-sorted c =
    let arcs = c.args.arcs.now.spans in
    sorted_arcs arcs c.sort_unstable_by_key.new.self.items (c.sort_unstable_by_key.ensures.sorted (λ (code : ℕ). start_of arcs (signed_of code)) (always_returns_same _ _ _ (λ a r q k. search rules)))
