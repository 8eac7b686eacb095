use Rattle.std.proofs.Common.{◌≡◌, ◌∙◌, sym, ap, subst, ◌<◌, List, ℕ, All, arith, length, map}
use Rattle.std.specs.List.Sorted.{IsNonDecreasingBy}
use Rattle.std.proofs.lemmas.List.Elements.{All-same, All-map, All-weaker}
use Rattle.plane_model.specs.Arcs.{SignedArc}
use Rattle.face_walk.specs.Places.{HasPlaces}
use Rattle.face_walk.specs.Sides.{AreListed, AreSplit, AreStarts}
use Rattle.face_walk.specs.declared.numbering.FaceSide.{FaceSide}
use Rattle.face_walk.proofs.SplitLemmas.{split_of}
use Rattle.face_walk.proofs.faces.Faces.of_sides.Goals as goal

abbrev below : ℕ → SignedArc → Type 0
below n a = a.arc < n

arcs_below : (n : ℕ) (sides : List FaceSide) (arcs : List SignedArc) → arcs ≡ map (λ (s : FaceSide). s.arc) sides → All (λ (s : FaceSide). s.arc.arc < n) sides → All (below n) arcs
arcs_below n sides arcs e h = All-same (below n) arcs (map (λ (s : FaceSide). s.arc) sides) e (All-map (below n) (λ (s : FaceSide). s.arc) sides h)

split_here : (places faces : List ℕ) (count : ℕ) (sides : List FaceSide) (arcs : List SignedArc) (starts : List ℕ) → faces ≡ map (λ (s : FaceSide). s.face) sides → arcs ≡ map (λ (s : FaceSide). s.arc) sides →
    AreListed places (map (λ (s : FaceSide). s.face) sides) (map (λ (s : FaceSide). s.arc) sides) → AreStarts faces count starts → AreSplit places count arcs starts
split_here places faces count sides arcs starts e f h s =
    split_of places faces count arcs starts
    (subst (λ (xs : List ℕ). AreListed places xs arcs) (sym e) (subst (λ (xs : List SignedArc). AreListed places (map (λ (s : FaceSide). s.face) sides) xs) (sym f) h)) s

pub starts_of-requires : goal.starts_of-requires
starts_of-requires c =
    let sides = c.args.sides.items in
    let faces : c.deref-3.result.now ≡ map (λ (s : FaceSide). s.face) sides = c.deref-3.ensures.value ∙ c.in_ok-side_faces.ensures.exact ∙ ap (map (λ (s : FaceSide). s.face)) c.deref.ensures.value in
    record { in_order = subst (λ (xs : List ℕ). IsNonDecreasingBy (λ (f : ℕ). f) xs) (sym faces) c.requires.listed.in_order }

pub areas_of-requires-clause-split : goal.areas_of-requires-clause-split
areas_of-requires-clause-split c =
    let sides = c.args.sides.items in
    let places = c.args.numbering.places.items in
    let faces : c.deref-3.result.now ≡ map (λ (s : FaceSide). s.face) sides = c.deref-3.ensures.value ∙ c.in_ok-side_faces.ensures.exact ∙ ap (map (λ (s : FaceSide). s.face)) c.deref.ensures.value in
    let arcs : c.deref-4.result.now ≡ map (λ (s : FaceSide). s.arc) sides = c.deref-4.ensures.value ∙ c.in_ok-side_arcs.ensures.exact ∙ ap (map (λ (s : FaceSide). s.arc)) c.deref-2.ensures.value in (
      places,
      subst (λ (xs : List ℕ). AreSplit places c.args.numbering.count c.deref-4.result.now xs) (sym c.deref-5.ensures.value)
          (split_here places c.deref-3.result.now c.args.numbering.count sides c.deref-4.result.now c.in_ok-side_starts.side_starts.items faces arcs c.requires.listed c.in_ok-side_starts.ensures.exact),
    )

pub areas_of-requires-clause-there : goal.areas_of-requires-clause-there
areas_of-requires-clause-there c =
    let sides = c.args.sides.items in
    arcs_below (length c.args.t.now) sides c.deref-4.result.now (c.deref-4.ensures.value ∙ c.in_ok-side_arcs.ensures.exact ∙ ap (map (λ (s : FaceSide). s.arc)) c.deref-2.ensures.value) c.requires.sides

pub invariant_of-result : goal.invariant_of-result
invariant_of-result c =
    let sides = c.args.sides.items in
    let n = length c.args.t.now in
    let faces : c.in_ok-side_faces.side_faces.items ≡ map (λ (s : FaceSide). s.face) sides = c.in_ok-side_faces.ensures.exact ∙ ap (map (λ (s : FaceSide). s.face)) c.deref.ensures.value in
    let arcs : c.in_ok-side_arcs.side_arcs.items ≡ map (λ (s : FaceSide). s.arc) sides = c.in_ok-side_arcs.ensures.exact ∙ ap (map (λ (s : FaceSide). s.arc)) c.deref-2.ensures.value in
    let places = c.requires.places in
    let few = c.requires.few in (
      omega arith,
      omega arith,
      c.args.numbering.below,
      All-weaker (below n) (HasPlaces (length c.args.numbering.places.items)) (λ a h. omega arith) c.in_ok-side_arcs.side_arcs.items (arcs_below n sides c.in_ok-side_arcs.side_arcs.items arcs c.requires.sides),
      c.in_ok-areas.ensures.count,
      c.requires.links,
      split_here c.args.numbering.places.items c.in_ok-side_faces.side_faces.items c.args.numbering.count sides c.in_ok-side_arcs.side_arcs.items c.in_ok-side_starts.side_starts.items faces arcs c.requires.listed
          (subst (λ (xs : List ℕ). AreStarts xs c.args.numbering.count c.in_ok-side_starts.side_starts.items) c.deref-3.ensures.value c.in_ok-side_starts.ensures.exact),
      c.requires.among,
    )
