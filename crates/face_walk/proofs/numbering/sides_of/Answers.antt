use Rattle.std.proofs.Common.{◌≡◌, ◌∙◌, sym, ap, subst, arith, ℕ, ◌+◌, List, [], ◌∷◌, ◌++◌, get_or, map}
use Rattle.std.specs.List.Sorted.{IsPermutation}
use Rattle.std.proofs.lemmas.List.Sorted.{IsPermutation-trans}
use Rattle.plane_model.specs.Arcs.{SignedArc, forward, backward}
use Rattle.face_walk.specs.Places.{place_of, signed_below}
use Rattle.face_walk.specs.declared.numbering.FaceSide.{FaceSide}
use Rattle.face_walk.specs.Sides.{AreSides, HasLeft}
use Rattle.face_walk.proofs.SideLemmas.{sides_more, sides_moved}
use Rattle.face_walk.proofs.ListedLemmas.{side_with, sides_with_more, sides_are_listed}
use Rattle.face_walk.proofs.SortedSides.{RiseBelow, faces_up, sides_of_one, sides_rise}
use Rattle.face_walk.proofs.numbering.sides_of.Goals as goal

pub loop-n-preserved : goal.loop-n-preserved
loop-n-preserved c =
    let places = c.args.places.now in
    let n = c.loop-n.n in
    let s = c.side_of.result in
    let t = c.side_of-in-loop-n.result in
    let sl : HasLeft places s = c.side_of.ensures.face ∙ ap (λ (a : SignedArc). get_or places (place_of a) 0) (sym c.side_of.ensures.arc) in
    let tl : HasLeft places t = c.side_of-in-loop-n.ensures.face ∙ ap (λ (a : SignedArc). get_or places (place_of a) 0) (sym c.side_of-in-loop-n.ensures.arc) in
    let se : s.arc ≡ forward n = c.side_of.ensures.arc ∙ c.forward.ensures.made ∙ ap forward c.new-id.ensures.made in
    let te : t.arc ≡ backward n = c.side_of-in-loop-n.ensures.arc ∙ c.backward.ensures.made ∙ ap backward c.new-id.ensures.made in
    let items = sym (c.in_ok-push-2.ensures.items ∙ ap (λ (xs : List FaceSide). xs ++ t ∷ []) c.in_ok-push.ensures.items) in (
      subst (λ (xs : List FaceSide). AreSides places (n + 1) xs) items (sides_more places n c.loop-n.sides.items s t c.loop-n.invariant.0 sl tl se te),
      sym items ∙ sides_with_more places n c.loop-n.sides.items s t c.loop-n.invariant.1 sl tl se te,
    )

pub returns-clause-exact : goal.returns-clause-exact
returns-clause-exact c =
    let end = c.loop-n.auto.n-end in
    let done = c.loop-n-test.false in
    let all : c.loop-n.n ≡ c.args.arc_count = omega arith in
    let old = c.loop-n.sides.items in
    let new = c.sort_unstable.new.self.items in
    let moved : IsPermutation old new = IsPermutation-trans old c.move_to_positions.new.items.items new c.move_to_positions.ensures.same c.sort_unstable.ensures.permutation in
    sides_moved c.args.places.now c.args.arc_count old new moved (subst (λ (n : ℕ). AreSides c.args.places.now n old) all c.loop-n.invariant.0)

pub returns-clause-in_order : goal.returns-clause-in_order
returns-clause-in_order c = faces_up c.sort_unstable.new.self.items c.sort_unstable.ensures.sorted

pub returns-clause-there : goal.returns-clause-there
returns-clause-there c =
    let end = c.loop-n.auto.n-end in
    let done = c.loop-n-test.false in
    let all : c.loop-n.n ≡ c.args.arc_count = omega arith in
    let old = c.loop-n.sides.items in
    let new = c.sort_unstable.new.self.items in
    let moved : IsPermutation old new = IsPermutation-trans old c.move_to_positions.new.items.items new c.move_to_positions.ensures.same c.sort_unstable.ensures.permutation in
    (sides_moved c.args.places.now c.args.arc_count old new moved (subst (λ (n : ℕ). AreSides c.args.places.now n old) all c.loop-n.invariant.0)).there

pub returns-clause-listed : goal.returns-clause-listed
returns-clause-listed c =
    let end = c.loop-n.auto.n-end in
    let done = c.loop-n-test.false in
    let places = c.args.places.now in
    let many = c.args.arc_count in
    let old = c.loop-n.sides.items in
    let new = c.sort_unstable.new.self.items in
    let moved : IsPermutation old new = IsPermutation-trans old c.move_to_positions.new.items.items new c.move_to_positions.ensures.same c.sort_unstable.ensures.permutation in
    let all : c.loop-n.n ≡ many = omega arith in
    let is : old ≡ map (side_with places) (signed_below many) = c.loop-n.invariant.1 ∙ ap (λ (n : ℕ). map (side_with places) (signed_below n)) all in
    let sides = sides_moved places many old new moved (subst (λ (n : ℕ). AreSides places n old) all c.loop-n.invariant.0) in
    let rising : RiseBelow many old = subst (RiseBelow many) (sym is) (sides_rise places many) in
    sides_are_listed places many old new is sides.left (sides_of_one many old new rising moved c.sort_unstable.ensures.sorted) c.requires.each
    (faces_up new c.sort_unstable.ensures.sorted)
