use Rattle.std.proofs.Common.{◌≡◌, ◌∙◌, sym, ap, subst, arith, ◌+◌, ◌*◌, ◌<◌, ℕ, List, All, length}
use Rattle.plane_model.specs.Arcs.{SignedArc}
use Rattle.face_walk.specs.Places.{FaceTable, arcs_with_left, face_left_of}
use Rattle.face_walk.specs.Sides.{arcs_from}
use Rattle.face_walk.proofs.SplitLemmas.{all_left, arcs_are, next_there, none_past, ordered, within}
use Rattle.face_walk.proofs.faces.Faces.arcs_of.Goals as goal

pub returns-then-num-self-clause-exact : goal.returns-then-num-self-clause-exact
returns-then-num-self-clause-exact c = λ arcs built.
    let inside = c.self.inside in
    let past = c.if-num-self.true in
    let number = c.num.ensures.exact in
    sym (ap (λ (t : FaceTable). arcs_with_left t.places (length arcs) c.args.f) (sym c.self.view_is)
    ∙ none_past inside.places.items inside.count c.args.f (length arcs) c.self.invariant.0 c.self.invariant.2 (omega arith))

pub arcs_left-requires : goal.arcs_left-requires
arcs_left-requires c =
    let inside = c.self.inside in
    let f = c.num-2.result in
    let below = c.if-num-self.false in
    let same = c.num.ensures.exact in
    let again = c.num-2.ensures.exact in
    let there : f < inside.count = omega arith in
    let places = inside.places.items in
    let arcs = inside.side_arcs.items in
    let starts = inside.side_starts.items in
    let split = c.self.invariant.6 in
    let size : length c.deref.result.now ≡ length arcs = ap (λ (xs : List SignedArc). length xs) c.deref.ensures.value in
    let now : c.deref-2.result.now ≡ starts = c.deref-2.ensures.value in
    rw (now, size) (record {
      there = next_there places inside.count arcs starts split f there;
      ordered = ordered places inside.count arcs starts split f there;
      within = within places inside.count arcs starts split f there;
    })

pub returns-clause-exact : goal.returns-clause-exact
returns-clause-exact c = λ arcs built.
    let inside = c.self.inside in
    let places = inside.places.items in
    let many = length arcs in
    let f = c.num-2.result in
    let below = c.if-num-self.false in
    let first = c.num.ensures.exact in
    let again = c.num-2.ensures.exact in
    let there : f < inside.count = omega arith in
    let same : places ≡ c.args.self.now.places = ap (λ (t : FaceTable). t.places) c.self.view_is in
    let counted : length places ≡ 2 * many + 1 = ap (λ (xs : List ℕ). length xs) same ∙ built.places_counted in
    c.arcs_left.ensures.exact ∙ (λ i. arcs_from (c.deref.ensures.value i) (c.deref-2.ensures.value i) f)
    ∙ arcs_are places inside.count inside.side_arcs.items inside.side_starts.items c.self.invariant.6 f there many counted
    ∙ (λ i. arcs_with_left (same i) many (again i))

pub returns-clause-left : goal.returns-clause-left
returns-clause-left c =
    let inside = c.self.inside in
    let places = inside.places.items in
    let f = c.num-2.result in
    let below = c.if-num-self.false in
    let first = c.num.ensures.exact in
    let again = c.num-2.ensures.exact in
    let there : f < inside.count = omega arith in
    let same : places ≡ c.args.self.now.places = ap (λ (t : FaceTable). t.places) c.self.view_is in
    let arcs : c.arcs_left.result.now ≡ arcs_from inside.side_arcs.items inside.side_starts.items f = c.arcs_left.ensures.exact ∙ (λ i. arcs_from (c.deref.ensures.value i) (c.deref-2.ensures.value i) f) in
    let left = all_left places inside.count inside.side_arcs.items inside.side_starts.items c.self.invariant.6 f there in
    subst (λ (n : ℕ). All (λ (a : SignedArc). face_left_of c.args.self.now.places a ≡ n) c.arcs_left.result.now) again
    (subst (λ (xs : List ℕ). All (λ (a : SignedArc). face_left_of xs a ≡ f) c.arcs_left.result.now) same
    (subst (λ (xs : List SignedArc). All (λ (a : SignedArc). face_left_of places a ≡ f) xs) (sym arcs) left))
