use Rattle.std.proofs.Common.{◌∙◌, sym, ap, subst, cond, List, [], ◌∷◌, ◌++◌, filter, All, append-nil, arith}
use Rattle.std.proofs.lemmas.List.{take_all}
use Rattle.std.proofs.lemmas.List.Elements.{All-get_or}
use Rattle.plane_model.specs.Arcs.{SignedArc}
use Rattle.face_walk.specs.Places.{HasArc}
use Rattle.face_sets.specs.Boundary.{is_outward}
use Rattle.calc_ops.proofs.IslandLemmas.{picked_more, All-if}
use Rattle.calc_ops.proofs.islands.push_border.Goals as goal

pub loop-arc-init : goal.loop-arc-init
loop-arc-init c = record { so_far = sym (append-nil c.args.around.now.items); there = c.requires.there }

pub loop-arc-preserved : goal.loop-arc-preserved
loop-arc-preserved c =
    let P = HasArc c.args.f.now in
    let test = is_outward c.args.f.now.places c.args.piece.now in
    let round = c.arcs_of-round.result.now in
    let k = c.loop-arc.arc-index in
    let a = c.arc-item.result in
    let here : P a = subst P (sym c.arc-item.is) (All-get_or P round k a c.loop-arc-test.true c.arcs_of-round.ensures.there) in
    record {
      so_far = c.in_ok-push_if.ensures.pushed
          ∙ (λ j. c.loop-arc.invariant.so_far j ++ cond (c.leads_out.ensures.exact j) (a ∷ []) [])
          ∙ picked_more test c.args.around.now.items round k a c.loop-arc-test.true c.arc-item.is;
      there = subst (All P) (sym c.in_ok-push_if.ensures.pushed) (All-if P c.loop-arc.around.items a c.leads_out.result c.loop-arc.invariant.there here);
    }

pub returns-clause-exact : goal.returns-clause-exact
returns-clause-exact c = λ arcs built.
    let test = is_outward c.args.f.now.places c.args.piece.now in
    let done = c.loop-arc-test.false in
    c.loop-arc.invariant.so_far
    ∙ ap (λ (xs : List SignedArc). c.args.around.now.items ++ filter test xs) (take_all c.loop-arc.arc-index c.arcs_of-round.result.now (omega arith) ∙ c.arcs_of-round.ensures.exact arcs built)
