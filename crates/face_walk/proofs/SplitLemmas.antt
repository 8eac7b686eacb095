-- Signed arcs that stand by the faces on their left: those of one face lie between where it begins and where the next does.
use Rattle.std.proofs.Common.{◌≡◌, ◌∙◌, inl, inr, refl, sym, ap, subst, arith, ℕ, ◌+◌, ◌-◌, ◌*◌, ◌<◌, ◌≤◌, List, [], ◌∷◌, ◌++◌, All, length, get_or, drop, length-drop}
use Rattle.std.proofs.lemmas.Bool.{cases_lt, eq-eqb, ne_eqb, ltb-true, ltb-false}
use Rattle.std.proofs.lemmas.List.{get_or-append-add, get_or-drop, get_or_append_left, get_or_past, length-map}
use Rattle.plane_model.specs.Arcs.{SignedArc}
use Rattle.face_walk.specs.Places.{arcs_with_left, face_left_of, faces_left_of, has_left, place_of, signed_below}
use Rattle.face_walk.specs.Sides.{AreListed, AreSplit, AreStarts, IsStartOf, arcs_from}
use Rattle.face_walk.proofs.ListedLemmas.{IsRunOf, all_of_one, filter_none, run_of_one}

-- no face begins before a lesser one does
starts_rise : (faces : List ℕ) (f first next : ℕ) → IsStartOf faces f first → IsStartOf faces (f + 1) next → first ≤ next
starts_rise faces f first next a b = elim (cases_lt next first) [
  | inl less ↦
      (let w = a.within in
      let low = ltb-true (get_or faces next 0) f (a.point.0 next 0 (omega arith) less) in
      let high = ltb-false (get_or faces next 0) (f + 1) (b.point.1 next 0 (omega arith) (omega arith)) in
      absurd (omega arith))
  | inr more ↦ more
]

-- from where a face begins to where the next does is its run
run_between : (faces : List ℕ) (f first next : ℕ) → IsStartOf faces f first → IsStartOf faces (f + 1) next → IsRunOf faces f first (next - first)
run_between faces f first next a b =
    let size = length-drop first faces in
    let up = starts_rise faces f first next a b in
    let end = b.within in
    record {
      bound = a.within;
      at_first = a.point;
      count_bound = omega arith;
      at_count = (
        (λ k d _ l.
            (let g = get_or-drop first faces k d in
            let low = ltb-false (get_or faces (first + k) d) f (a.point.1 (first + k) d (omega arith) (omega arith)) in
            let high = ltb-true (get_or faces (first + k) d) (f + 1) (b.point.0 (first + k) d (omega arith) (omega arith)) in
            eq-eqb (get_or (drop first faces) k d) f (omega arith))),
        (λ k d m l.
            (let g = get_or-drop first faces k d in
            let high = ltb-false (get_or faces (first + k) d) (f + 1) (b.point.1 (first + k) d (omega arith) (omega arith)) in
            ne_eqb (get_or (drop first faces) k d) f (λ same. omega arith))),
      );
    }

module _ (places : List ℕ) (count : ℕ) (arcs : List SignedArc) (starts : List ℕ) (split : AreSplit places count arcs starts) (f : ℕ) (there : f < count) where
  this : IsStartOf (faces_left_of places arcs) f (get_or starts f 0)
  this = split.started.each f (omega arith)

  next : IsStartOf (faces_left_of places arcs) (f + 1) (get_or starts (f + 1) 0)
  next = split.started.each (f + 1) (omega arith)

  run : IsRunOf (faces_left_of places arcs) f (get_or starts f 0) (get_or starts (f + 1) 0 - get_or starts f 0)
  run = run_between (faces_left_of places arcs) f (get_or starts f 0) (get_or starts (f + 1) 0) this next

  pub next_there : f + 1 < length starts
  next_there = let n = split.started.number in omega arith

  pub ordered : get_or starts f 0 ≤ get_or starts (f + 1) 0
  ordered = starts_rise (faces_left_of places arcs) f (get_or starts f 0) (get_or starts (f + 1) 0) this next

  pub within : get_or starts (f + 1) 0 ≤ length arcs
  within = let n = length-map arcs (face_left_of places) in let w = next.within in omega arith

  pub all_left : All (λ (a : SignedArc). face_left_of places a ≡ f) (arcs_from arcs starts f)
  all_left = all_of_one (faces_left_of places arcs) arcs (face_left_of places) refl f (get_or starts f 0) (get_or starts (f + 1) 0 - get_or starts f 0) run

  pub arcs_are : (many : ℕ) → length places ≡ 2 * many + 1 → arcs_from arcs starts f ≡ arcs_with_left places many f
  arcs_are many counted = run_of_one (faces_left_of places arcs) arcs (face_left_of places) refl f (get_or starts f 0) (get_or starts (f + 1) 0 - get_or starts f 0) run ∙ split.listed.each many f counted

-- a number past the faces is left of no arc
pub none_past : (places : List ℕ) (count f many : ℕ) → 0 < length places → All (λ (n : ℕ). n < count) places → count ≤ f → arcs_with_left places many f ≡ []
none_past places count f many some below past =
    filter_none (has_left places f) (signed_below many) (λ k d l. (let m = face_below (place_of (get_or (signed_below many) k d)) in ne_eqb (face_left_of places (get_or (signed_below many) k d)) f (λ same. omega arith)))
  where
    face_below : (i : ℕ) → get_or places i 0 < count
    face_below i = elim (cases_lt i (length places)) [
      | inl less ↦ below i 0 less
      | inr more ↦ (let first = below 0 0 some in let zero = get_or_past places i 0 more in omega arith)
    ]

-- one start more
pub starts_more : (faces : List ℕ) (f : ℕ) (old new : List ℕ) (place : ℕ) → length old ≡ f → ((k : ℕ) → k < f → IsStartOf faces k (get_or old k 0)) → IsStartOf faces f place → new ≡ old ++ place ∷ [] →
    (k : ℕ) → k < f + 1 → IsStartOf faces k (get_or new k 0)
starts_more faces f old new place number each here e k l = elim (cases_lt k f) [
  | inl less ↦ subst (IsStartOf faces k) (sym (ap (λ (xs : List ℕ). get_or xs k 0) e ∙ get_or_append_left old (place ∷ []) 0 k (omega arith))) (each k less)
  | inr more ↦
      (let last : k ≡ length old + 0 = omega arith in
      let same : f ≡ k = omega arith in
      let read : get_or new k 0 ≡ place = (λ i. get_or (e i) (last i) 0) ∙ get_or-append-add old (place ∷ []) 0 0 in
      subst (IsStartOf faces k) (sym read) (subst (λ (n : ℕ). IsStartOf faces n place) same here))
]

pub split_of : (places faces : List ℕ) (count : ℕ) (arcs : List SignedArc) (starts : List ℕ) → AreListed places faces arcs → AreStarts faces count starts → AreSplit places count arcs starts
split_of places faces count arcs starts h s = record {
  listed = subst (λ (xs : List ℕ). AreListed places xs arcs) h.left h;
  started = subst (λ (xs : List ℕ). AreStarts xs count starts) h.left s;
}
