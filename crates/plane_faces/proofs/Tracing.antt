-- A balanced list of edges is, in some order, the edges of rings: follow edges until a point comes again, and cut
-- there.
use Rattle.std.proofs.Common.{◌≡◌, ◌⊎◌, inl, inr, ℕ, zero, suc, ◌+◌, ◌≤◌, refl, sym, ap, subst, ◌∙◌, arith, Bool, true, false, List, [], ◌∷◌, ◌++◌, length}
use Rattle.std.specs.Prelude.{All, Contains}
use Rattle.std.specs.List.{remove}
use Rattle.std.specs.List.Sorted.{IsPermutation}
use Rattle.std.proofs.lemmas.List.{length-append, append_assoc}
use Rattle.std.proofs.lemmas.List.Elements.{All-head, All-tail, All-cons, All-nil}
use Rattle.std.proofs.lemmas.List.Sorted.{IsPermutation-refl, IsPermutation-sym, IsPermutation-trans, IsPermutation-middle, IsPermutation-remove, IsPermutation-append_right, length_permutation}
use Rattle.plane_snapping.proofs.Steps.{last_of-append}
use Rattle.lists.specs.Lists.{last_of}
use Rattle.plane_parity.proofs.Telescope.{same_point-true, same_point-self}
use Rattle.plane_model.specs.Points.{GridPoint, same_point, Path}
use Rattle.plane_faces.proofs.Runs.{AreDifferent, pairs_differ}
use Rattle.plane_faces.specs.Rings.{IsRing}
use Rattle.plane_faces.proofs.Around.{last-All}

-- ---- lists of points

-- r stands in the list, or not
cut : (r : GridPoint) (qs : List GridPoint) → ((xs : List GridPoint) × (ys : List GridPoint) × (qs ≡ xs ++ (r ∷ ys))) ⊎ All (λ q. q ≡ r → ⊥) qs
cut r [] = inr (All-nil (λ q. q ≡ r → ⊥))
cut r (q ∷ qs) = go (same_point r q) refl (cut r qs)
  where
    go : (b : Bool) → same_point r q ≡ b → ((xs : List GridPoint) × (ys : List GridPoint) × (qs ≡ xs ++ (r ∷ ys))) ⊎ All (λ q. q ≡ r → ⊥) qs
        → ((xs : List GridPoint) × (ys : List GridPoint) × (q ∷ qs ≡ xs ++ (r ∷ ys))) ⊎ All (λ q. q ≡ r → ⊥) (q ∷ qs)
    go true e h = inl ([], qs, ap (λ (p : GridPoint). p ∷ qs) (same_point-true r q e))
    go false e (inl h) = inl (q ∷ h.0, h.1, ap (λ (ps : List GridPoint). q ∷ ps) h.2)
    go false e (inr h) = inr (All-cons (λ p. p ≡ r → ⊥) q qs (λ f. clash (subst (λ (p : GridPoint). same_point r p ≡ true) (sym f) (same_point-self r))) h)
      where
        clash : same_point r q ≡ true → ⊥
        clash g = let f : true ≡ false = sym g ∙ e in absurd (cc)

front : (P : GridPoint → Type 0) (xs : List GridPoint) (r : GridPoint) (ys : List GridPoint) → All P (xs ++ (r ∷ ys)) → All P (xs ++ (r ∷ []))
front P [] r ys h = All-cons P r [] (All-head P r ys h) (All-nil P)
front P (x ∷ xs) r ys h = All-cons P x (xs ++ (r ∷ [])) (All-head P x (xs ++ (r ∷ ys)) h) (front P xs r ys (All-tail P x (xs ++ (r ∷ ys)) h))

different_front : (xs : List GridPoint) (r : GridPoint) (ys : List GridPoint) → AreDifferent (xs ++ (r ∷ ys)) → AreDifferent (xs ++ (r ∷ []))
different_front [] r ys h = (All-nil (λ q. q ≡ r → ⊥), tt)
different_front (x ∷ xs) r ys h = (front (λ q. q ≡ x → ⊥) xs r ys h.0, different_front xs r ys h.1)

-- ---- one element taken out

pub take_out : {E : Type 0} (M : List E) (x : E) → Contains M x → (M' : List E) × IsPermutation M (x ∷ M')
take_out M x c = (remove M c.0, IsPermutation-remove M c.0 x c.1 (sym c.2))

module _ {E : Type 0} (edge : GridPoint → GridPoint → E) where
  -- the edges of the run that goes on from p
  abbrev pub edges_from : GridPoint → List GridPoint → List E
  edges_from p [] = []
  edges_from p (q ∷ run) = edge p q ∷ edges_from q run

  abbrev pub edges_of : List GridPoint → List E
  edges_of [] = []
  edges_of (p ∷ run) = edges_from p run

  abbrev pub edges_of_all : List Path → List E
  edges_of_all [] = []
  edges_of_all (run ∷ runs) = edges_of run ++ edges_of_all runs

  edges_cut : (q : GridPoint) (xs : List GridPoint) (r : GridPoint) (ys : List GridPoint) → edges_from q (xs ++ (r ∷ ys)) ≡ edges_from q (xs ++ (r ∷ [])) ++ edges_from r ys
  edges_cut q [] r ys = refl
  edges_cut q (x ∷ xs) r ys = ap (λ (es : List E). edge q x ∷ es) (edges_cut x xs r ys)

  -- what is asked of the lists of edges
  pub record Traces (Balanced : List E → Type 0) : Type 0 where
    pub shuffled : (L M : List E) → IsPermutation L M → Balanced L → Balanced M
    -- each edge has two different ends
    pub ends : (x : E) (M : List E) → Balanced (x ∷ M) → (r : GridPoint) × (q : GridPoint) × (x ≡ edge r q) × (r ≡ q → ⊥)
    -- where a run that is not closed begins, another edge ends
    pub more : (q : GridPoint) (run : List GridPoint) (M : List E) → (last_of q run ≡ q → ⊥) → Balanced (edges_from q run ++ M) → (r : GridPoint) × Contains M (edge r q) × (r ≡ q → ⊥)
    -- without a closed run the list stays balanced
    pub rest : (p : GridPoint) (run : List GridPoint) (M : List E) → last_of p run ≡ p → Balanced (edges_from p run ++ M) → Balanced M

  module _ (Balanced : List E → Type 0) (traces : Traces Balanced) where
    Found : List E → Type 0
    Found L = (ring : List GridPoint) × (N : List E) × IsRing ring × IsPermutation (edges_of ring ++ N) L

    module _ (L : List E) (balanced : Balanced L) where
      closes : (q : GridPoint) (run : List GridPoint) (M : List E) (r : GridPoint) (M' : List E) → AreDifferent (q ∷ run) → IsPermutation (edges_from q run ++ M) L → IsPermutation M (edge r q ∷ M')
          → (xs ys : List GridPoint) → run ≡ xs ++ (r ∷ ys) → Found L
      unfolding Found
      closes q run M r M' different perm out xs ys e = (
        r ∷ (q ∷ (xs ++ (r ∷ []))),
        edges_from r ys ++ M',
        (last_of-append q xs (r ∷ []), pairs_differ (q ∷ (xs ++ (r ∷ []))) (different_front (q ∷ xs) r ys (subst (λ (ps : List GridPoint). AreDifferent (q ∷ ps)) e different))),
        IsPermutation-trans (edge r q ∷ (edges_from q (xs ++ (r ∷ [])) ++ (edges_from r ys ++ M'))) (edges_from q run ++ (edge r q ∷ M')) L
            (subst (λ (es : List E). IsPermutation (edge r q ∷ es) (edges_from q run ++ (edge r q ∷ M'))) regroup
            (IsPermutation-sym (edges_from q run ++ (edge r q ∷ M')) (edge r q ∷ (edges_from q run ++ M')) (IsPermutation-middle (edges_from q run) (edge r q) M')))
            (IsPermutation-trans (edges_from q run ++ (edge r q ∷ M')) (edges_from q run ++ M) L (IsPermutation-append_right (edges_from q run) (edge r q ∷ M') M (IsPermutation-sym M (edge r q ∷ M') out)) perm),
      )
        where
          regroup : edges_from q run ++ M' ≡ edges_from q (xs ++ (r ∷ [])) ++ (edges_from r ys ++ M')
          regroup = ap (λ (ps : List GridPoint). edges_from q ps ++ M') e ∙ ap (λ (es : List E). es ++ M') (edges_cut q xs r ys) ∙ append_assoc (edges_from q (xs ++ (r ∷ []))) (edges_from r ys) M'

      -- another edge is found, which closes the run or makes it longer
      step : (q : GridPoint) (run : List GridPoint) (M : List E) → AreDifferent (q ∷ run) → (last_of q run ≡ q → ⊥) → IsPermutation (edges_from q run ++ M) L
          → ((r : GridPoint) (M' : List E) → suc (length M') ≡ length M → AreDifferent (r ∷ (q ∷ run)) → (last_of q run ≡ r → ⊥) → IsPermutation (edge r q ∷ (edges_from q run ++ M')) L → Found L) → Found L
      step q run M different open' perm on = go (traces.more q run M open' (traces.shuffled L (edges_from q run ++ M) (IsPermutation-sym (edges_from q run ++ M) L perm) balanced))
        where
          go : (r : GridPoint) × Contains M (edge r q) × (r ≡ q → ⊥) → Found L
          go t =
              let out : (M' : List E) × IsPermutation M (edge t.0 q ∷ M') = take_out M (edge t.0 q) t.1 in
              elim (cut t.0 run) [
                | inl h ↦ closes q run M t.0 out.0 different perm out.1 h.0 h.1 h.2
                | inr n ↦ on t.0 out.0 (length_permutation M (edge t.0 q ∷ out.0) out.1) (All-cons (λ p. p ≡ t.0 → ⊥) q run (λ e. t.2 (sym e)) n, different)
                    (λ e. last-All (λ p. p ≡ t.0 → ⊥) q run (All-cons (λ p. p ≡ t.0 → ⊥) q run (λ f. t.2 (sym f)) n) e)
                    (IsPermutation-trans (edge t.0 q ∷ (edges_from q run ++ out.0)) (edges_from q run ++ (edge t.0 q ∷ out.0)) L
                    (IsPermutation-sym (edges_from q run ++ (edge t.0 q ∷ out.0)) (edge t.0 q ∷ (edges_from q run ++ out.0)) (IsPermutation-middle (edges_from q run) (edge t.0 q) out.0))
                    (IsPermutation-trans (edges_from q run ++ (edge t.0 q ∷ out.0)) (edges_from q run ++ M) L (IsPermutation-append_right (edges_from q run) (edge t.0 q ∷ out.0) M (IsPermutation-sym M (edge t.0 q ∷ out.0) out.1)) perm))
              ]

      walk : (m : ℕ) (q : GridPoint) (run : List GridPoint) (M : List E) → length M ≤ m → AreDifferent (q ∷ run) → (last_of q run ≡ q → ⊥) → IsPermutation (edges_from q run ++ M) L → Found L
      walk zero q run M le different open' perm = step q run M different open' perm (λ r M' e d o p. absurd (omega arith))
      walk (suc m) q run M le different open' perm = step q run M different open' perm (λ r M' e d o p. walk m r (q ∷ run) M' (omega arith) d o p)

    found : (x : E) (M : List E) → Balanced (x ∷ M) → Found (x ∷ M)
    found x M balanced = go (traces.ends x M balanced)
      where
        go : (r : GridPoint) × (q : GridPoint) × (x ≡ edge r q) × (r ≡ q → ⊥) → Found (x ∷ M)
        go t = walk (x ∷ M) balanced (length M) t.0 (t.1 ∷ []) M (omega arith)
            (All-cons (λ p. p ≡ t.0 → ⊥) t.1 [] (λ e. t.3 (sym e)) (All-nil (λ p. p ≡ t.0 → ⊥)), (All-nil (λ p. p ≡ t.1 → ⊥), tt)) (λ e. t.3 (sym e))
            (subst (λ (y : E). IsPermutation (edge t.0 t.1 ∷ M) (y ∷ M)) (sym t.2) (IsPermutation-refl (edge t.0 t.1 ∷ M)))

    Rings : List E → Type 0
    Rings L = (runs : List Path) × All IsRing runs × IsPermutation (edges_of_all runs) L

    has_edges : (ring : List GridPoint) → IsRing ring → 1 ≤ length (edges_of ring)
    has_edges [] h = absurd h
    has_edges (p ∷ []) h = absurd h
    has_edges (p ∷ (q ∷ run)) h = omega arith

    ring_closed : (ring : List GridPoint) → IsRing ring → (M : List E) → Balanced (edges_of ring ++ M) → Balanced M
    ring_closed [] h M b = absurd h
    ring_closed (p ∷ []) h M b = absurd h
    ring_closed (p ∷ (q ∷ run)) h M b = traces.rest p (q ∷ run) M h.0 b

    rings_from : (n : ℕ) (L : List E) → length L ≤ n → Balanced L → Rings L
    unfolding Rings Found
    rings_from n [] le b = ([], All-nil IsRing, IsPermutation-refl [])
    rings_from zero (x ∷ M) le b = absurd (omega arith)
    rings_from (suc n) (x ∷ M) le b =
        let f : Found (x ∷ M) = found x M b in
        let s : length (edges_of f.0 ++ f.1) ≡ length (edges_of f.0) + length f.1 = length-append (edges_of f.0) f.1 in
        let t : length (x ∷ M) ≡ length (edges_of f.0 ++ f.1) = length_permutation (edges_of f.0 ++ f.1) (x ∷ M) f.3 in
        let r : Rings f.1 = rings_from n f.1 (omega (arith, s, t, has_edges f.0 f.2, le)) (ring_closed f.0 f.2 f.1 (traces.shuffled (x ∷ M) (edges_of f.0 ++ f.1) (IsPermutation-sym (edges_of f.0 ++ f.1) (x ∷ M) f.3) b)) in (
          f.0 ∷ r.0,
          All-cons IsRing f.0 r.0 f.2 r.1,
          IsPermutation-trans (edges_of f.0 ++ edges_of_all r.0) (edges_of f.0 ++ f.1) (x ∷ M) (IsPermutation-append_right (edges_of f.0) (edges_of_all r.0) f.1 r.2) f.3,
        )

    pub rings : (L : List E) → Balanced L → (runs : List Path) × All IsRing runs × IsPermutation (edges_of_all runs) L
    unfolding Rings
    rings L b = rings_from (length L) L (omega arith) b
