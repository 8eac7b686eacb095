-- The signed arcs that start at a vertex stand together in a table by start and in turn.
use Rattle.std.proofs.Common.{◌≡◌, inl, inr, sym, ap, ◌∙◌, subst, arith, ℕ, ◌+◌, ◌-◌, ◌<◌, ◌≤◌, true, false, List, [], ◌∷◌, length, get_or, take, drop, length-drop, All, Contains}
use Rattle.std.specs.List.Sorted.{IsPartitionPoint}
use Rattle.std.proofs.lemmas.Bool.{cases_lt}
use Rattle.std.proofs.lemmas.List.{get_or-map, length-map, get_or-take, get_or-drop, length-take-le}
use Rattle.std.proofs.lemmas.List.Sorted.{All-permutation, Contains-permutation, sorted_far}
use Rattle.plane_model.specs.Points.{GridPoint, Path, same_point, is_before}
use Rattle.plane_model.specs.Arcs.{SignedArc}
use Rattle.plane_model.proofs.PointOrder.{clash, same_point_from, same_point_to, is_before-IsStrictOrder}
use Rattle.arc_table.specs.Around.{signed_below, first_step, start_of, comes_first, comes_round_first, IsTurned, IsAround}
use Rattle.arc_table.proofs.SignedArcs.{all_below, Contains-signed_below, once_in}
use Rattle.arc_table.proofs.TurnOrder.{comes_first-IsStrictWeakOrder, not_first_from}

-- ---- rows

module _ (arcs : List Path) (starts : List GridPoint) (outs : List SignedArc) (t : IsTurned arcs starts outs) (p : GridPoint) where
  as_many : length starts ≡ length outs
  as_many = ap (λ (xs : List GridPoint). length xs) t.starts_of ∙ length-map outs (start_of arcs)

  start_at : (k : ℕ) (d : SignedArc) (e : GridPoint) → k < length outs → get_or starts k e ≡ start_of arcs (get_or outs k d)
  start_at k d e l = ap (λ (xs : List GridPoint). get_or xs k e) t.starts_of ∙ get_or-map (start_of arcs) outs k d e l

  far : (i j : ℕ) (d : SignedArc) → i ≤ j → j < length outs → comes_first (first_step arcs (get_or outs j d)) (first_step arcs (get_or outs i d)) ≡ false
  far i j d l m = sorted_far (λ (a : SignedArc) (b : SignedArc). comes_first (first_step arcs a) (first_step arcs b)) (comes_first-IsStrictWeakOrder (first_step arcs)) outs t.sorted i j d l m

  module _ (first : ℕ) (bound : first ≤ length starts) (at_first : IsPartitionPoint (λ (q : GridPoint). is_before q p ≡ true) (λ (q : GridPoint). is_before q p ≡ false) starts first) where
    dropped : (k : ℕ) (d : GridPoint) → get_or (drop first starts) k d ≡ get_or starts (first + k) d
    dropped k d = get_or-drop first starts k d

    left : length (drop first starts) ≡ length outs - first
    left = length-drop first starts ∙ ap (λ (n : ℕ). n - first) as_many

    module _ (count : ℕ) (count_bound : count ≤ length (drop first starts)) (at_count : IsPartitionPoint (λ (q : GridPoint). same_point q p ≡ true) (λ (q : GridPoint). same_point q p ≡ false) (drop first starts) count) where
      abbrev rows : List SignedArc
      rows = take count (drop first outs)

      how_many : length rows ≡ count
      how_many =
          let k = left in
          let m = length-drop first outs in
          length-take-le count (drop first outs) (omega arith)

      row : (k : ℕ) (d : SignedArc) → k < count → get_or rows k d ≡ get_or outs (first + k) d
      row k d l = get_or-take count (drop first outs) k d l ∙ get_or-drop first outs k d

      within : (k : ℕ) → k < count → first + k < length outs
      within k l = let m = left in omega arith

      starts_here : (k : ℕ) (d : SignedArc) → k < count → start_of arcs (get_or outs (first + k) d) ≡ p
      starts_here k d l =
          sym (start_at (first + k) d p (within k l)) ∙ sym (dropped k p) ∙ same_point_from (get_or (drop first starts) k p) p (at_count.0 k p (omega arith) l)

      below : All (λ (a : SignedArc). a.arc < length arcs) outs
      below = All-permutation (λ (a : SignedArc). a.arc < length arcs) (signed_below (length arcs)) outs t.all (all_below (length arcs) (length arcs) (omega arith))

      none_left_out : (a : SignedArc) → a.arc < length arcs → start_of arcs a ≡ p → Contains rows a
      none_left_out a l e =
          let c = Contains-permutation (signed_below (length arcs)) outs a t.all (Contains-signed_below (length arcs) a l) in
          let n = as_many in
          let m = left in
          let there : c.0 < length outs = c.1 in
          let start : get_or starts c.0 p ≡ p = start_at c.0 a p there ∙ ap (start_of arcs) c.2 ∙ e in
          elim (cases_lt c.0 first) [
            | inl h ↦ absurd (is_before-IsStrictOrder.irreflexive p (subst (λ (q : GridPoint). is_before q p ≡ true) start (at_first.0 c.0 p (omega arith) h)))
            | inr h ↦ (
                let place : first + (c.0 - first) ≡ c.0 = omega arith in
                elim (cases_lt (c.0 - first) count) [
                  | inl k ↦ (c.0 - first, (let q = how_many in omega arith), row (c.0 - first) a k ∙ ap (λ (j : ℕ). get_or outs j a) place ∙ c.2)
                  | inr k ↦ clash (same_point (get_or (drop first starts) (c.0 - first) p) p)
                      (same_point_to (get_or (drop first starts) (c.0 - first) p) p (dropped (c.0 - first) p ∙ ap (λ (j : ℕ). get_or starts j p) place ∙ start))
                      (at_count.1 (c.0 - first) p k (omega arith))
                ])
          ]

      pub rows_are_around : IsAround arcs p rows
      rows_are_around = record {
        all = none_left_out;
        others = λ k d l.
            (let n = how_many in
            let h : k < count = omega arith in
            let e = row k d h in (
              subst (λ (a : SignedArc). a.arc < length arcs) (sym e) (below (first + k) d (within k h)),
              ap (start_of arcs) e ∙ starts_here k d h,
            ));
        once = λ i j d l m.
            (let n = how_many in
            let h : j < count = omega arith in
            let k : i < count = omega arith in
            let e = row i d k in
            let f = row j d h in
            λ g. once_in (length arcs) outs t.all (first + i) (first + j) d (omega arith) (within j h) (sym e ∙ g ∙ f));
        in_turn = λ i j d l m.
            (let n = how_many in
            let h : j < count = omega arith in
            let k : i < count = omega arith in
            let e = row i d k in
            let f = row j d h in
            (λ x. comes_round_first (first_step arcs (f x)) (first_step arcs (e x)))
            ∙ (not_first_from (first_step arcs (get_or outs (first + j) d)) (first_step arcs (get_or outs (first + i) d)) (far (first + i) (first + j) d (omega arith) (within j h))).1
            (starts_here j d h ∙ sym (starts_here i d k)));
      }

-- ---- a vertex where none starts

pub none_around : (arcs : List Path) (p : GridPoint) (around : List SignedArc) → IsAround arcs p around → length around ≡ 0 → IsAround arcs p []
none_around arcs p [] h e = h
none_around arcs p (a ∷ around) h e = absurd (omega (arith, e))
