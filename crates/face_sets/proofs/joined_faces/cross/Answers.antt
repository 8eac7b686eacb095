use Rattle.std.proofs.Common.{◌≡◌, ◌∙◌, sym, ap, subst, arith, ℕ, Bool, List, [], ◌∷◌, ◌++◌, append-nil, cond, false, get_or, length, map, not, All, Contains}
use Rattle.std.proofs.lemmas.List.{get_or_default}
use Rattle.std.proofs.lemmas.List.Elements.{All-push}
use Rattle.face_sets.specs.Boundary.{face_right_of, is_outward, side_at}
use Rattle.face_sets.specs.declared.joined_faces.Side.{Side}
use Rattle.face_sets.specs.Parts.{IsSide}
use Rattle.face_sets.specs.Joined.{AreJoined, AreSound}
use Rattle.face_sets.proofs.BoundaryLemmas.{Contains_has, one_place, outward_if}
use Rattle.face_sets.proofs.JoinedLemmas.{joined_over, made_sound, made_same}
use Rattle.face_sets.proofs.joined_faces.cross.Goals as goal

pub returns-in-Some-clause-sound : goal.returns-in-Some-clause-sound
returns-in-Some-clause-sound c = λ left sound.
    let table = c.args.f.now in
    let faces = c.args.faces.now in
    let right = face_right_of table.places c.args.arc in
    let place = c.in-Some.place in
    let there = c.in-Some.ensures.there in
    let found : get_or faces place 0 ≡ right = c.in-Some.ensures.found in
    let into : Contains faces right = (place, there, get_or_default faces place right 0 there ∙ found) in
    let over : AreJoined table faces (get_or faces c.args.i 0) right = joined_over table faces (get_or faces c.args.i 0) c.args.arc (record { arc = c.requires.arc; from = left; into = into }) in
    let two : AreJoined table faces (get_or faces c.args.i 0) (get_or faces place 0) = subst (λ (x : ℕ). AreJoined table faces (get_or faces c.args.i 0) x) (sym found) over in
    let made : AreSound table faces _ = made_sound table faces c.args.joining.now c.args.i place c.requires.count c.requires.face there two sound in
    subst (λ (classes : List ℕ). AreSound table faces classes) (sym c.join.ensures.exact) made

pub returns-in-Some-clause-over : goal.returns-in-Some-clause-over
returns-in-Some-clause-over c = λ j l e.
    let faces = c.args.faces.now in
    let place = c.in-Some.place in
    let there = c.in-Some.ensures.there in
    let same : place ≡ j = one_place faces place j c.requires.ascending there l (c.in-Some.ensures.found ∙ sym e) in
    let count = c.requires.count in
    subst (λ (k : ℕ). get_or c.join.new.self c.args.i 0 ≡ get_or c.join.new.self k 0) same
    (subst (λ (classes : List ℕ). get_or classes c.args.i 0 ≡ get_or classes place 0) (sym c.join.ensures.exact)
    (made_same c.args.joining.now c.args.i place (let f = c.requires.face in omega arith) (omega arith)))

pub returns-in-Some-clause-sides : goal.returns-in-Some-clause-sides
returns-in-Some-clause-sides c =
    let places = c.args.f.now.places in
    let faces = c.args.faces.now in
    let right = face_right_of places c.args.arc in
    let place = c.in-Some.place in
    let inward : is_outward places faces c.args.arc ≡ false =
    ap not (Contains_has faces right (place, c.in-Some.ensures.there, get_or_default faces place right 0 c.in-Some.ensures.there ∙ c.in-Some.ensures.found)) in
    sym (append-nil c.args.sides.now.items) ∙ ap (λ (b : Bool). c.args.sides.now.items ++ map (side_at c.args.i) (cond b (c.args.arc ∷ []) [])) (sym inward)

pub returns-in_ok-push-in-None-clause-over : goal.returns-in_ok-push-in-None-clause-over
returns-in_ok-push-in-None-clause-over c = λ j l e. absurd (c.place_across.ensures.missed c.in-None.is (j, l, get_or_default c.args.faces.now j (face_right_of c.args.f.now.places c.args.arc) 0 l ∙ e))

pub returns-in_ok-push-in-None-clause-sides : goal.returns-in_ok-push-in-None-clause-sides
returns-in_ok-push-in-None-clause-sides c =
    let outward = outward_if c.args.f.now.places c.args.faces.now c.args.arc (c.place_across.ensures.missed c.in-None.is) in
    c.in_ok-push-in-None.ensures.items ∙ ap (λ (b : Bool). c.args.sides.now.items ++ map (side_at c.args.i) (cond b (c.args.arc ∷ []) [])) (sym outward)

pub returns-in_ok-push-in-None-clause-there : goal.returns-in_ok-push-in-None-clause-there
returns-in_ok-push-in-None-clause-there c =
    let P : Side → Type 0 = λ (s : Side). IsSide c.args.f.now (length c.args.faces.now) s in
    subst (λ (ss : List Side). All P ss) (sym c.in_ok-push-in-None.ensures.items) (All-push P c.args.sides.now.items (side_at c.args.i c.args.arc) c.requires.there (record { arc = c.requires.arc; place = c.requires.face }))
