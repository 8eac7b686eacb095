use Rattle.std.proofs.Common.{◌≡◌, ◌∙◌, ap, sym, subst, inr, arith, ℕ, ◌∷◌, [], ◌++◌, true, false, Some, List, get_or, length, set}
use Rattle.std.specs.Prelude.{slice_get}
use Rattle.std.proofs.lemmas.List.{length_push}
use Rattle.std.proofs.lemmas.Option.{get_or_from_slice_get}
use Rattle.plane_model.specs.Arcs.{SignedArc}
use Rattle.bucket_grid.proofs.Growth.{slice_get-append_end}
use Rattle.face_walk.specs.Places.{place_of}
use Rattle.face_walk.specs.Sectors.{place_right_of}
use Rattle.face_walk.specs.Crossings.{AreMarked, IsReached, face_across, outer_of}
use Rattle.face_walk.specs.declared.crossings.Crossing.{Crossing}
use Rattle.face_walk.proofs.CrossingLemmas.{marked_more}
use Rattle.face_walk.proofs.crossings.cross.Goals as goal

pub returns-clause-marked : goal.returns-clause-marked
returns-clause-marked c =
    let faces = c.args.f.now in
    let old = c.args.crossings.now.items in
    let marks = c.args.reached.now in
    let a = c.args.a in
    let into = c.left_of-into.result in
    let crossing : Crossing = record { from = c.args.face; into = into; arc = c.id.result } in
    let right : face_across faces.places a ≡ into = get_or_from_slice_get faces.places (place_right_of a) into 0 (subst (λ (b : SignedArc). slice_get faces.places (place_of b) ≡ Some into) c.flip.ensures.turned c.left_of-into.ensures.exact) in
    let unmarked : get_or marks into false ≡ false = ap (λ (n : ℕ). get_or marks n false) (sym c.num.ensures.exact) ∙ c.if-reached-num.false in
    subst (λ (xs : List Crossing). AreMarked faces xs (set marks c.num-2.result true)) (sym c.in_ok-push.ensures.items)
    (subst (λ (n : ℕ). AreMarked faces (old ++ crossing ∷ []) (set marks n true)) (sym c.num-2.ensures.exact)
    (marked_more faces old marks crossing c.requires.marked
    (record { along = a; there = c.requires.arc; arc = sym c.id.ensures.exact; left = c.requires.left; right = right; from_there = c.requires.there; into_there = c.left_of-into.ensures.there })
    c.requires.from unmarked))

pub returns-clause-right : goal.returns-clause-right
returns-clause-right c =
    let faces = c.args.f.now in
    let old = c.args.crossings.now.items in
    let a = c.args.a in
    let into = c.left_of-into.result in
    let crossing : Crossing = record { from = c.args.face; into = into; arc = c.id.result } in
    let right : face_across faces.places a ≡ into = get_or_from_slice_get faces.places (place_right_of a) into 0 (subst (λ (b : SignedArc). slice_get faces.places (place_of b) ≡ Some into) c.flip.ensures.turned c.left_of-into.ensures.exact) in
    let size = length_push old crossing in
    subst (λ (xs : List Crossing). IsReached (outer_of faces) xs (length xs) (face_across faces.places a)) (sym c.in_ok-push.ensures.items)
    (inr (length old, crossing, omega arith, slice_get-append_end old crossing, sym right))
