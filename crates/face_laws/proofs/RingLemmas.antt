-- Rings go along each link of an arc as often as they go along the arc.
use Rattle.std.proofs.Common.{◌≡◌, ◌≢◌, inl, inr, refl, sym, ap, subst, ◌∙◌, arith, ℕ, zero, suc, ◌<◌, Bool, true, false, List, [], ◌∷◌, ◌++◌, All, length, get_or, map, take, drop, reverse}
use Rattle.std.specs.Prelude.{nat_eq}
use Rattle.std.specs.List.{flat_map}
use Rattle.std.proofs.lemmas.Bool.{cases_eq, cases_lt, eq-eqb, ne_eqb}
use Rattle.std.proofs.lemmas.List.{get_or_past, get_or-map, length-map, map-append}
use Rattle.lists.specs.Lists.{last_of}
use Rattle.plane_model.specs.Points.{GridPoint, Segment, Path, link_between, same_segment}
use Rattle.plane_model.specs.Drawing.{Drawing, steps, steps_of_paths}
use Rattle.plane_model.specs.Arcs.{SignedArc, points_of}
use Rattle.plane_model.specs.Arrangement.{IsArrangement}
use Rattle.plane_model.specs.Joined.{IsClosed}
use Rattle.plane_model.specs.Parity.{xor, odd_count, links_of_paths}
use Rattle.plane_parity.proofs.Telescope.{odd_count-append, xor_comm}
use Rattle.plane_parity.proofs.Abscissa.{same_link-self, same_link-false}
use Rattle.plane_faces.proofs.Lists.{odd_count-permutation}
use Rattle.arc_table.specs.Along.{GoAlong}
use Rattle.arc_table.specs.PathArcs.{AreArcsOf, IsDrawn, ArePathArcs, round_from}
use Rattle.arc_table.proofs.Along.{links_turned}
use Rattle.face_walk.specs.RingSteps.{AreArcsOfAll}
use Rattle.face_laws.proofs.DartLemmas.{ends_differ}
use Rattle.face_laws.proofs.StepLemmas.{IsStep, arc_of, one_place, step_at, step_moves}

-- ---- a closed path, gone round from one of its vertices

abbrev links_on : Path → List Segment
links_on path = map link_between (steps path)

steps_join : (q : GridPoint) (after ys : Path) → steps ((q ∷ after) ++ ys) ≡ steps (q ∷ after) ++ steps (last_of q after ∷ ys)
steps_join q [] ys = refl
steps_join q (r ∷ after) ys = ap (λ (ss : List Segment). record { start = q; stop = r } ∷ ss) (steps_join r after ys)

-- the path from its vertex k on
record FromVertex (k : ℕ) (p : GridPoint) (rest : Path) : Type 0 where
  q : GridPoint
  after : Path
  is : drop k (p ∷ rest) ≡ q ∷ after
  last : last_of q after ≡ last_of p rest
  cut : steps (p ∷ rest) ≡ steps (take (suc k) (p ∷ rest)) ++ steps (q ∷ after)

from_vertex : (k : ℕ) (p : GridPoint) (rest : Path) → k < length (p ∷ rest) → FromVertex k p rest
from_vertex zero p rest l = record { q = p; after = rest; is = refl; last = refl; cut = refl }
from_vertex (suc k) p [] l = absurd (omega arith)
from_vertex (suc k) p (r ∷ rest) l =
    let h = from_vertex k r rest (omega arith) in
    record { q = h.q; after = h.after; is = h.is; last = h.last; cut = ap (λ (ss : List Segment). record { start = p; stop = r } ∷ ss) h.cut }

round_parity : (f : Segment → Bool) (k : ℕ) (path : Path) → k < length path → IsClosed path → odd_count f (links_on (round_from k path)) ≡ odd_count f (links_on path)
round_parity f k [] l closed = absurd (omega arith)
round_parity f k (p ∷ rest) l closed =
    let h = from_vertex k p rest l in
    let back : List Segment = steps (take (suc k) (p ∷ rest)) in
    let on : List Segment = steps (h.q ∷ h.after) in
    let turned : steps (round_from k (p ∷ rest)) ≡ on ++ back =
    ap (λ (xs : Path). steps (xs ++ take k rest)) h.is ∙ steps_join h.q h.after (take k rest) ∙ ap (λ (v : GridPoint). on ++ steps (v ∷ take k rest)) (h.last ∙ closed) in
    ap (λ (ss : List Segment). odd_count f (map link_between ss)) turned ∙ ap (odd_count f) (map-append link_between on back) ∙ odd_count-append f (map link_between on) (map link_between back)
    ∙ xor_comm (odd_count f (map link_between on)) (odd_count f (map link_between back))
    ∙ sym (ap (λ (ss : List Segment). odd_count f (map link_between ss)) h.cut ∙ ap (odd_count f) (map-append link_between back on) ∙ odd_count-append f (map link_between back) (map link_between on))

-- ---- a link in one arc

odd_never : {X : Type 0} (t : X → Bool) (xs : List X) → ((i : ℕ) (d : X) → i < length xs → t (get_or xs i d) ≡ false) → odd_count t xs ≡ false
odd_never t [] h = refl
odd_never t (x ∷ xs) h = λ k. xor (h 0 x (omega arith) k) (odd_never t xs (λ i d l. h (suc i) d (omega arith)) k)

odd_once : {X : Type 0} (t : X → Bool) (xs : List X) (j : ℕ) → j < length xs → ((i : ℕ) (d : X) → i < length xs → i ≡ j → t (get_or xs i d) ≡ true) → ((i : ℕ) (d : X) → i < length xs → i ≢ j → t (get_or xs i d) ≡ false) → odd_count t xs ≡ true
odd_once t [] j l on_it off_it = absurd (omega arith)
odd_once t (x ∷ xs) zero l on_it off_it = λ k. xor (on_it 0 x (omega arith) refl k) (odd_never t xs (λ i d m. off_it (suc i) d (omega arith) (λ e. omega arith)) k)
odd_once t (x ∷ xs) (suc j) l on_it off_it =
    λ k. xor (off_it 0 x (omega arith) (λ e. omega arith) k) (odd_once t xs j (omega arith) (λ i d m e. on_it (suc i) d (omega arith) (ap suc e)) (λ i d m n. off_it (suc i) d (omega arith) (λ e. n (omega arith))) k)

module _ (S : List Segment) (arr : IsArrangement S) (arcs : List Path) (long : All (λ arc. 1 < length arc) arcs) (along : GoAlong S arcs) (n j : ℕ) (s : Segment) (h : IsStep arcs n j s) where
  abbrev l : Segment
  l = link_between s

  -- step i of arc m is along the link only where it is that step
  at_other : (m i : ℕ) (d : Segment) → m < length arcs → i < length (steps (arc_of arcs m)) → ((m ≡ n) × (i ≡ j) → ⊥) → same_segment l (get_or (links_on (arc_of arcs m)) i d) ≡ false
  at_other m i d below there other =
      let step = step_at arcs m i s below there in
      same_link-false l (get_or (links_on (arc_of arcs m)) i d)
      (λ e. other (one_place arcs along.once m n i j (get_or (steps (arc_of arcs m)) i s) s step h (sym (get_or-map link_between (steps (arc_of arcs m)) i s d there) ∙ e)))

  at_this : (i : ℕ) (d : Segment) → i ≡ j → same_segment l (get_or (links_on (arc_of arcs n)) i d) ≡ true
  at_this i d e =
      ap (λ (k : ℕ). same_segment l (get_or (links_on (arc_of arcs n)) k d)) e ∙ ap (same_segment l) (get_or-map link_between (steps (arc_of arcs n)) j s d h.there ∙ ap link_between h.is) ∙ same_link-self l

  in_arc : (m : ℕ) → odd_count (same_segment l) (links_on (arc_of arcs m)) ≡ nat_eq m n
  in_arc m = elim (cases_lt m (length arcs)) [
    | inl below ↦ elim (cases_eq m n) [
      | inl e ↦
          odd_once (same_segment l) (links_on (arc_of arcs m)) j (let many = length-map (steps (arc_of arcs m)) link_between in let more = ap (λ (k : ℕ). length (steps (arc_of arcs k))) e in let there = h.there in omega arith)
          (λ i d v is. subst (λ (k : ℕ). same_segment l (get_or (links_on (arc_of arcs k)) i d) ≡ true) (sym e) (at_this i d is))
          (λ i d v other. at_other m i d below (let many = length-map (steps (arc_of arcs m)) link_between in omega arith) (λ both. other both.1))
          ∙ sym (eq-eqb m n e)
      | inr other ↦ odd_never (same_segment l) (links_on (arc_of arcs m)) (λ i d v. at_other m i d below (let many = length-map (steps (arc_of arcs m)) link_between in omega arith) (λ both. other both.0)) ∙ sym (ne_eqb m n other)
    ]
    | inr past ↦ ap (λ (path : Path). odd_count (same_segment l) (links_on path)) (get_or_past arcs m [] past) ∙ sym (ne_eqb m n (λ e. let below = h.arc in omega arith))
  ]

  in_signed : (a : SignedArc) → odd_count (same_segment l) (links_on (points_of arcs a)) ≡ nat_eq a.arc n
  in_signed a = go a.is_reversed
    where
      differ : All (λ (t : Segment). t.start ≢ t.stop) (steps (arc_of arcs a.arc))
      differ i d there = elim (cases_lt a.arc (length arcs)) [
        | inl below ↦ (let step = step_at arcs a.arc i d below there in ends_differ (get_or (steps (arc_of arcs a.arc)) i d) (step_moves arcs S arr long along a.arc i (get_or (steps (arc_of arcs a.arc)) i d) step))
        | inr past ↦ absurd (let none = ap (λ (path : Path). length (steps path)) (get_or_past arcs a.arc [] past) in omega arith)
      ]

      go : (b : Bool) → odd_count (same_segment l) (links_on (points_of arcs (record { arc = a.arc; is_reversed = b }))) ≡ nat_eq a.arc n
      go false = in_arc a.arc
      go true = sym (odd_count-permutation (same_segment l) (links_on (arc_of arcs a.arc)) (links_on (reverse (arc_of arcs a.arc))) (links_turned (arc_of arcs a.arc) differ)) ∙ in_arc a.arc

  in_named : (named : List SignedArc) → odd_count (same_segment l) (map link_between (flat_map (λ (a : SignedArc). steps (points_of arcs a)) named)) ≡ odd_count (λ (a : SignedArc). nat_eq a.arc n) named
  in_named [] = refl
  in_named (a ∷ named) =
      ap (odd_count (same_segment l)) (map-append link_between (steps (points_of arcs a)) (flat_map (λ (b : SignedArc). steps (points_of arcs b)) named))
      ∙ odd_count-append (same_segment l) (links_on (points_of arcs a)) (map link_between (flat_map (λ (b : SignedArc). steps (points_of arcs b)) named))
      ∙ (λ k. xor (in_signed a k) (in_named named k))

  -- ---- rings

  in_ring : (d : Drawing) (path : Path) (named : List SignedArc) → 0 < length path → IsClosed path → ArePathArcs d arcs path named → odd_count (same_segment l) (links_on path) ≡ odd_count (λ (a : SignedArc). nat_eq a.arc n) named
  in_ring d [] named some closed are = absurd (omega arith)
  in_ring d (p ∷ []) named some closed are = ap (λ (xs : List SignedArc). odd_count (λ (a : SignedArc). nat_eq a.arc n) xs) (sym (are.none refl))
  in_ring d (p ∷ q ∷ rest) named some closed are =
      let runs = are.along (omega arith) in
      sym (round_parity (same_segment l) runs.first (p ∷ q ∷ rest) (let there = runs.there in omega arith) closed) ∙ ap (λ (ss : List Segment). odd_count (same_segment l) (map link_between ss)) runs.stepped ∙ in_named named

  pub in_rings : (d : Drawing) → AreArcsOf d arcs → (paths : List Path) (named : List SignedArc) → All (λ path. (0 < length path) × IsClosed path × IsDrawn d path) paths → AreArcsOfAll arcs paths named →
      odd_count (same_segment l) (links_of_paths paths) ≡ odd_count (λ (a : SignedArc). nat_eq a.arc n) named
  in_rings d table [] named drawn h = ap (λ (xs : List SignedArc). odd_count (λ (a : SignedArc). nat_eq a.arc n) xs) (sym h)
  in_rings d table (path ∷ paths) named drawn h =
      let (some, closed, is) = drawn 0 path (omega arith) in
      ap (odd_count (same_segment l)) (map-append link_between (steps path) (steps_of_paths paths)) ∙ odd_count-append (same_segment l) (links_on path) (links_of_paths paths)
      ∙ (λ k. xor (in_ring d path h.0 some closed (h.2 d table is) k) (in_rings d table paths h.1 (λ i e m. drawn (suc i) e (omega arith)) h.3 k))
      ∙ sym (odd_count-append (λ (a : SignedArc). nat_eq a.arc n) h.0 h.1) ∙ ap (λ (xs : List SignedArc). odd_count (λ (a : SignedArc). nat_eq a.arc n) xs) (sym h.4)
