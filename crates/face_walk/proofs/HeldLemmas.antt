-- Lists of items for faces, filled crossing by crossing, and lists of their owners.
use Rattle.std.proofs.Common.{◌≡◌, inl, inr, refl, sym, ap, subst, ◌∙◌, arith, ℕ, zero, suc, ◌+◌, ◌<◌, ◌≤◌, Some, List, [], ◌∷◌, ◌++◌, All, length, get_or, map, replicate, set, take}
use Rattle.std.specs.Prelude.{slice_get}
use Rattle.std.specs.List.Sorted.{IsNonDecreasing, IsStrictlyIncreasing}
use Rattle.std.proofs.lemmas.Bool.{cases_lt}
use Rattle.std.proofs.lemmas.List.{get_or_past, get_or-set_other, get_or-set_same, get_or-take, length-take-le}
use Rattle.std.proofs.lemmas.List.Elements.{All-cons, All-push, All-replicate, All-same, All-weaker}
use Rattle.lists.proofs.Members.{Contains-nil}
use Rattle.plane_model.specs.Drawing.{Polygon}
use Rattle.std.proofs.lemmas.Option.{get_or_from_slice_get, slice_get-get_or, slice_get_within}
use Rattle.face_walk.specs.Places.{FaceTable}
use Rattle.face_walk.specs.Crossings.{outer_of, IsReached, AreCrossings}
use Rattle.face_walk.specs.RingSteps.{owners_from}
use Rattle.face_walk.specs.Holders.{AreAcross, AreHeldBy, AreOwnersOf, AreOwnersOfEach, list_at, steps_on}
use Rattle.face_walk.specs.declared.crossings.Crossing.{Crossing}
use Rattle.face_walk.specs.declared.ring_steps.RingStep.{RingStep}
use Rattle.face_walk.proofs.OddLemmas.{across_none}
use Rattle.face_walk.proofs.RingStepLemmas.{take_found}

-- ---- no item yet

pub none_yet : (lists : List (List ℕ)) (count : ℕ) → lists ≡ replicate count [] → All (λ (items : List ℕ). items ≡ []) lists
none_yet lists count e = All-same (λ (items : List ℕ). items ≡ []) lists (replicate count []) e (All-replicate (λ (items : List ℕ). items ≡ []) count [] refl)

pub rising_none : (lists : List (List ℕ)) → All (λ (items : List ℕ). items ≡ []) lists → All IsStrictlyIncreasing lists
rising_none lists h = All-weaker (λ (items : List ℕ). items ≡ []) IsStrictlyIncreasing (λ items e. subst IsStrictlyIncreasing (sym e) (λ k l. absurd (omega arith))) lists h

free_at : (lists : List (List ℕ)) (f : ℕ) → All (λ (items : List ℕ). items ≡ []) lists → list_at lists f ≡ []
free_at lists f h = elim (cases_lt f (length lists)) [ inl less ↦ h f [] less | inr more ↦ get_or_past lists f [] more ]

pub held_none : (steps : List RingStep) (outer : ℕ) (lists : List (List ℕ)) → All (λ (items : List ℕ). items ≡ []) lists → AreHeldBy steps outer [] lists
held_none steps outer lists h = record { outer_free = free_at lists outer h; across = λ k d l. absurd (omega arith) }

-- without steps no item holds a face
pub held_by_none : (steps : List RingStep) (outer : ℕ) (crossings : List Crossing) (lists : List (List ℕ)) → steps ≡ [] → All (λ (items : List ℕ). items ≡ []) lists → AreHeldBy steps outer crossings lists
held_by_none steps outer crossings lists none h = record {
  outer_free = free_at lists outer h;
  across = λ k d l.
      (let c = get_or crossings k d in
      subst (λ (along : List RingStep). AreAcross (steps_on along c.arc) (list_at lists c.from) (list_at lists c.into)) (sym none)
      (subst (λ (from : List ℕ). AreAcross [] from (list_at lists c.into)) (sym (free_at lists c.from h))
      (subst (AreAcross [] []) (sym (free_at lists c.into h)) across_none)));
}

-- ---- one crossing more

abbrev Leads : List RingStep → List (List ℕ) → Crossing → Type 0
Leads steps lists d = AreAcross (steps_on steps d.arc) (list_at lists d.from) (list_at lists d.into)

pub held_more : (faces : FaceTable) (steps : List RingStep) (crossings : List Crossing) (k : ℕ) (c : Crossing) (lists : List (List ℕ)) (into : List ℕ) → AreCrossings faces crossings → length lists ≡ faces.count
    → slice_get crossings k ≡ Some c → AreHeldBy steps (outer_of faces) (take k crossings) lists → AreAcross (steps_on steps c.arc) (list_at lists c.from) into →
    AreHeldBy steps (outer_of faces) (take (k + 1) crossings) (set lists c.into into)
held_more faces steps crossings k c lists into are each found h step = record {
  outer_free = get_or-set_other lists c.into (outer_of faces) into [] (λ same. fresh (inl (sym same))) ∙ h.outer_free;
  across = subst (λ (cs : List Crossing). All (Leads steps (set lists c.into into)) cs) (sym (take_found crossings k c found)) (All-push (Leads steps (set lists c.into into)) (take k crossings) c earlier this);
}
  where
    fresh : IsReached (outer_of faces) crossings k c.into → ⊥
    fresh r = are.new k c found r

    within : k < length crossings
    within = slice_get_within crossings k c found

    there : c.into < length lists
    there =
        let one = are.each k c within in
        let at_k = get_or_from_slice_get crossings k c c found in
        let limit = subst (λ (d : Crossing). d.into < faces.count) at_k one.into_there in
        let many = each in
        omega arith

    later : (j : ℕ) (f : ℕ) → j ≤ k → IsReached (outer_of faces) crossings j f → f ≡ c.into → ⊥
    later j f l (inl e) same = fresh (inl (sym same ∙ e))
    later j f l (inr r) same = fresh (inr (r.0, r.1, (let less = r.2 in omega arith), r.3, r.4 ∙ same))

    kept : (f : ℕ) → (f ≡ c.into → ⊥) → list_at lists f ≡ list_at (set lists c.into into) f
    kept f other = sym (get_or-set_other lists c.into f into [] other)

    this : Leads steps (set lists c.into into) c
    this = subst (λ (from : List ℕ). AreAcross (steps_on steps c.arc) from (list_at (set lists c.into into) c.into)) (kept c.from (later k c.from (omega arith) (are.onward k c found)))
        (subst (AreAcross (steps_on steps c.arc) (list_at lists c.from)) (sym (get_or-set_same lists c.into into [] there)) step)

    earlier : All (Leads steps (set lists c.into into)) (take k crossings)
    earlier j e l =
        let long = within in
        let size = length-take-le k crossings (omega arith) in
        let d = get_or (take k crossings) j e in
        let below : j < k = omega arith in
        let here : slice_get crossings j ≡ Some d = slice_get-get_or crossings j e (omega arith) ∙ ap Some (sym (get_or-take k crossings j e below)) in
        subst (λ (from : List ℕ). AreAcross (steps_on steps d.arc) from (list_at (set lists c.into into) d.into)) (kept d.from (later j d.from (omega arith) (are.onward j d here)))
        (subst (AreAcross (steps_on steps d.arc) (list_at lists d.from)) (kept d.into (λ same. fresh (inr (j, d, below, here, same)))) (h.across j e l))

-- ---- owners of one list more

pub owned_put : (owners : List ℕ) (items features : List (List ℕ)) (k : ℕ) (next : List ℕ) → k < length features → AreOwnersOfEach owners k items features → AreOwnersOf owners (list_at items k) next → AreOwnersOfEach owners (k + 1) items (set features k next)
owned_put owners items features k next there h more f l = elim (cases_lt f k) [
  | inl less ↦ subst (AreOwnersOf owners (list_at items f)) (sym (get_or-set_other features k f next [] (λ same. omega arith))) (h f less)
  | inr not_less ↦ (let same : k ≡ f = omega arith in
      subst (λ (n : ℕ). AreOwnersOf owners (list_at items n) (list_at (set features k next) n)) same
      (subst (AreOwnersOf owners (list_at items k)) (sym (get_or-set_same features k next [] there)) more))
]

pub owners_free : (owners features : List ℕ) → AreOwnersOf owners [] features → features ≡ []
owners_free owners [] h = refl
owners_free owners (f ∷ features) h = let (i, there, owned) = (h.each f).0 (0, omega arith, refl) in Contains-nil i there

-- ---- the owners of polygons do not fall

falls_never : (n : ℕ) (xs : List ℕ) → All (λ (m : ℕ). n ≤ m) xs → IsNonDecreasing xs → IsNonDecreasing (n ∷ xs)
falls_never n xs above up zero zero d l m = omega arith
falls_never n xs above up zero (suc j) d l m = above j d (omega arith)
falls_never n xs above up (suc i) zero d l m = absurd (omega arith)
falls_never n xs above up (suc i) (suc j) d l m = up i j d (omega arith) (omega arith)

same_first : (n : ℕ) (polygons : List Polygon) (xs : List ℕ) → All (λ (m : ℕ). n ≤ m) xs → IsNonDecreasing xs →
    All (λ (m : ℕ). n ≤ m) (map (λ (p : Polygon). n) polygons ++ xs) × IsNonDecreasing (map (λ (p : Polygon). n) polygons ++ xs)
same_first n [] xs above up = (above, up)
same_first n (p ∷ polygons) xs above up =
    let (rest, rise) = same_first n polygons xs above up in
    (All-cons (λ (m : ℕ). n ≤ m) n (map (λ (q : Polygon). n) polygons ++ xs) (omega arith) rest, falls_never n (map (λ (q : Polygon). n) polygons ++ xs) rest rise)

owners_rise : (n : ℕ) (features : List (List Polygon)) → All (λ (m : ℕ). n ≤ m) (owners_from n features) × IsNonDecreasing (owners_from n features)
owners_rise n [] = (λ k d l. absurd (omega arith), λ i j d l m. absurd (omega arith))
owners_rise n (polygons ∷ features) =
    let (rest, rise) = owners_rise (n + 1) features in
    same_first n polygons (owners_from (n + 1) features) (All-weaker (λ (m : ℕ). n + 1 ≤ m) (λ (m : ℕ). n ≤ m) (λ m l. omega arith) (owners_from (n + 1) features) rest) rise

pub owners_in_order : (features : List (List Polygon)) → IsNonDecreasing (owners_from 0 features)
owners_in_order features = (owners_rise 0 features).1
