use Rattle.std.proofs.Common.{◌≡◌, ◌∙◌, sym, ap, arith, ◌<◌, List, [], ◌∷◌, ◌++◌, append-nil, length, filter, get_or, map, take, subst, All, Contains}
use Rattle.std.proofs.lemmas.List.{take_all, get_or_default}
use Rattle.std.proofs.lemmas.List.Elements.{All-more, All-weaker, All-contains, All-nil}
use Rattle.plane_model.specs.Arcs.{SignedArc}
use Rattle.face_walk.specs.Places.{face_left_of, arcs_with_left}
use Rattle.face_sets.specs.declared.joined_faces.Side.{Side}
use Rattle.face_sets.specs.Boundary.{is_outward, side_at}
use Rattle.face_sets.specs.Joined.{IsJoinedOver}
use Rattle.face_sets.proofs.BoundaryLemmas.{left_listed, listed_left, outward_more}
use Rattle.face_sets.proofs.JoinedLemmas.{over_kept}
use Rattle.face_sets.proofs.joined_faces.go_round.Goals as goal

pub loop-arc-init : goal.loop-arc-init
loop-arc-init c = record {
  count = c.requires.count;
  kept = λ i j l m e. e;
  sound = λ left sound. sound;
  over = All-nil (λ (a : SignedArc). IsJoinedOver c.args.f.now c.args.faces.now c.args.i a c.args.joining.now);
  sides = sym (append-nil c.args.sides.now.items);
  there = c.requires.there;
}

pub loop-arc-preserved : goal.loop-arc-preserved
loop-arc-preserved c =
    let step = c.in_ok-cross.ensures in
    let table = c.args.f.now in
    let faces = c.args.faces.now in
    let round = c.arcs_of-round.result.now in
    let before = c.loop-arc.invariant in
    let new = c.cross.new.joining in
    let a = c.arc-item.result in
    let k = c.loop-arc.arc-index in
    let l : k < length round = c.loop-arc-test.true in
    let P : SignedArc → Type 0 = λ (b : SignedArc). IsJoinedOver table faces c.args.i b new in
    record {
      count = step.count;
      kept = λ i j m n e. step.kept i j (let r = c.requires.count in omega arith) (let r = c.requires.count in omega arith) (before.kept i j m n e);
      sound = λ left sound. step.sound (ap (face_left_of table.places) c.arc-item.is ∙ left k a l) (before.sound left sound);
      over = All-more P round k a l
          (All-weaker (λ (b : SignedArc). IsJoinedOver table faces c.args.i b c.loop-arc.joining) P (λ b. over_kept table faces c.loop-arc.joining new c.args.i b before.count c.requires.face step.kept) (take k round) before.over)
          (subst P c.arc-item.is step.over);
      sides = step.sides
          ∙ ap (λ (ss : List Side). ss ++ map (side_at c.args.i) (filter (is_outward table.places faces) (a ∷ []))) before.sides
          ∙ ap (λ (b : SignedArc). (c.args.sides.now.items ++ map (side_at c.args.i) (filter (is_outward table.places faces) (take k round))) ++ map (side_at c.args.i) (filter (is_outward table.places faces) (b ∷ []))) c.arc-item.is
          ∙ outward_more table.places faces c.args.i round k a c.args.sides.now.items l;
      there = step.there;
    }

pub returns-clause-sound : goal.returns-clause-sound
returns-clause-sound c = λ arcs built sound.
    let f = get_or c.args.faces.now c.args.i 0 in
    let face : c.index-faces-i.result ≡ f = c.index-faces-i.is ∙ get_or_default c.args.faces.now c.args.i c.index-faces-i.result 0 c.requires.face in
    let is : c.arcs_of-round.result.now ≡ arcs_with_left c.args.f.now.places (length arcs) f = c.arcs_of-round.ensures.exact arcs built ∙ ap (arcs_with_left c.args.f.now.places (length arcs)) face in
    c.loop-arc.invariant.sound
    (subst (λ (round : List SignedArc). All (λ (a : SignedArc). face_left_of c.args.f.now.places a ≡ f) round) (sym is) (left_listed c.args.f.now.places (length arcs) f))
    sound

pub returns-clause-around : goal.returns-clause-around
returns-clause-around c = λ arcs built a arc left.
    let round = c.arcs_of-round.result.now in
    let f = get_or c.args.faces.now c.args.i 0 in
    let done = c.loop-arc-test.false in
    let face : c.index-faces-i.result ≡ f = c.index-faces-i.is ∙ get_or_default c.args.faces.now c.args.i c.index-faces-i.result 0 c.requires.face in
    let is : round ≡ arcs_with_left c.args.f.now.places (length arcs) f = c.arcs_of-round.ensures.exact arcs built ∙ ap (arcs_with_left c.args.f.now.places (length arcs)) face in
    let P : SignedArc → Type 0 = λ (b : SignedArc). IsJoinedOver c.args.f.now c.args.faces.now c.args.i b c.loop-arc.joining in
    All-contains P round a (subst (λ (xs : List SignedArc). All P xs) (take_all c.loop-arc.arc-index round (omega arith)) c.loop-arc.invariant.over)
    (subst (λ (xs : List SignedArc). Contains xs a) (sym is) (listed_left arcs c.args.f.now f a built arc left))

pub returns-clause-sides : goal.returns-clause-sides
returns-clause-sides c = λ arcs built.
    let table = c.args.f.now in
    let faces = c.args.faces.now in
    let round = c.arcs_of-round.result.now in
    let done = c.loop-arc-test.false in
    let pick : List SignedArc → List Side = λ (xs : List SignedArc). c.args.sides.now.items ++ map (side_at c.args.i) (filter (is_outward table.places faces) xs) in
    let face : c.index-faces-i.result ≡ get_or faces c.args.i 0 = c.index-faces-i.is ∙ get_or_default faces c.args.i c.index-faces-i.result 0 c.requires.face in
    c.loop-arc.invariant.sides ∙ ap pick (take_all c.loop-arc.arc-index round (omega arith) ∙ c.arcs_of-round.ensures.exact arcs built ∙ ap (arcs_with_left table.places (length arcs)) face)
