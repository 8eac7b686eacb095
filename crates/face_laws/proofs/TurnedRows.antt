-- The rows of signed arcs that start at one vertex, in a table of signed arcs by their starts.
use Rattle.std.proofs.Common.{rules, ◌≡◌, refl, sym, ap, ◌∙◌, subst, arith, ℕ, zero, suc, ◌+◌, ◌<◌, ◌≤◌, Bool, true, false, cond, nat_lt, List, length, get_or, pos}
use Rattle.std.proofs.lemmas.Bool.{ltb-true, and_parts, and_from}
use Rattle.std.proofs.lemmas.List.{get_or-map, get_or_default, length-map}
use Rattle.std.proofs.lemmas.List.Sorted.{All-permutation, Contains-permutation, sorted_far}
use Rattle.plane_model.specs.Points.{GridPoint, Path, same_point, is_before}
use Rattle.plane_model.specs.Arcs.{SignedArc, forward}
use Rattle.plane_model.proofs.PointOrder.{clash, same_point_from, same_point_to, is_before-IsStrictOrder}
use Rattle.arc_table.specs.Direction.{point_at}
use Rattle.arc_table.specs.Around.{signed_below, first_step, start_of, comes_first, comes_round_first, IsTurned}
use Rattle.arc_table.proofs.SignedArcs.{all_below, Contains-signed_below}
use Rattle.arc_table.proofs.TurnOrder.{comes_first-IsStrictWeakOrder, not_first_from}
use Rattle.face_walk.specs.Sectors.{arc_at, goes_on, first_in_row}

module _ (arcs : List Path) (starts : List GridPoint) (outs : List SignedArc) (t : IsTurned arcs starts outs) where
  pub as_many : length starts ≡ length outs
  as_many = ap (λ (xs : List GridPoint). length xs) t.starts_of ∙ length-map outs (start_of arcs)

  pub start_is : (k : ℕ) → k < length outs → point_at starts k ≡ start_of arcs (arc_at outs k)
  start_is k l = ap (λ (xs : List GridPoint). get_or xs k (record { x = pos 0; y = pos 0 })) t.starts_of ∙ get_or-map (start_of arcs) outs k (forward 0) (record { x = pos 0; y = pos 0 }) l

  far : (i j : ℕ) → i ≤ j → j < length outs → comes_first (first_step arcs (arc_at outs j)) (first_step arcs (arc_at outs i)) ≡ false
  far i j l m = sorted_far (λ (a : SignedArc) (b : SignedArc). comes_first (first_step arcs a) (first_step arcs b)) (comes_first-IsStrictWeakOrder (first_step arcs)) outs t.sorted i j (forward 0) l m

  -- signed arcs of one start stand in turn
  pub in_turn : (i j : ℕ) → i ≤ j → j < length outs → start_of arcs (arc_at outs j) ≡ start_of arcs (arc_at outs i) → comes_round_first (first_step arcs (arc_at outs j)) (first_step arcs (arc_at outs i)) ≡ false
  in_turn i j l m e = (not_first_from (first_step arcs (arc_at outs j)) (first_step arcs (arc_at outs i)) (far i j l m)).1 e

  ascend : (i j : ℕ) → i ≤ j → j < length outs → is_before (point_at starts j) (point_at starts i) ≡ false
  ascend i j l m = (λ x. is_before (start_is j m x) (start_is i (omega arith) x)) ∙ (not_first_from (first_step arcs (arc_at outs j)) (first_step arcs (arc_at outs i)) (far i j l m)).0

  -- between two of one start all have it
  between : (i m j : ℕ) → i ≤ m → m ≤ j → j < length outs → point_at starts i ≡ point_at starts j → point_at starts m ≡ point_at starts i
  between i m j l h k e = is_before-IsStrictOrder.total (point_at starts m) (point_at starts i) (ascend i m l (omega arith)) (subst (λ (p : GridPoint). is_before p (point_at starts m) ≡ false) (sym e) (ascend m j h k))

  on_from : (i : ℕ) → goes_on starts i ≡ true → (i + 1 < length outs) × (point_at starts i ≡ point_at starts (i + 1))
  on_from i e =
      let (l, s) = and_parts (nat_lt (i + 1) (length starts)) (same_point (point_at starts i) (point_at starts (i + 1))) e in
      let n = as_many in
      let m = ltb-true (i + 1) (length starts) l in
      (omega arith, same_point_from (point_at starts i) (point_at starts (i + 1)) s)

  on_to : (i : ℕ) → i + 1 < length outs → point_at starts i ≡ point_at starts (i + 1) → goes_on starts i ≡ true
  on_to i l e =
      let n = as_many in
      and_from (nat_lt (i + 1) (length starts)) (same_point (point_at starts i) (point_at starts (i + 1))) (lt_to (i + 1) (length starts) (omega arith)) (same_point_to (point_at starts i) (point_at starts (i + 1)) e)
    where
      lt_to : (m n : ℕ) → m < n → nat_lt m n ≡ true
      lt_to m n l = search rules

  -- the first of a row has its start, and none before has
  pub first_starts : (i : ℕ) → i < length outs → point_at starts (first_in_row starts i) ≡ point_at starts i
  first_starts zero l = refl
  first_starts (suc i) l = go (goes_on starts i) refl (first_starts i (omega arith))
    where
      go : (b : Bool) → goes_on starts i ≡ b → point_at starts (first_in_row starts i) ≡ point_at starts i → point_at starts (cond b (first_in_row starts i) (suc i)) ≡ point_at starts (suc i)
      go true e h = h ∙ (on_from i e).1 ∙ ap (point_at starts) (let f : i + 1 ≡ suc i = omega arith in f)
      go false e h = refl

  pub none_before : (i k : ℕ) → i < length outs → k < first_in_row starts i → point_at starts k ≡ point_at starts i → ⊥
  none_before zero k l m e = absurd (omega arith)
  none_before (suc i) k l m e = go (goes_on starts i) refl (λ m e. none_before i k (omega arith) m e) m
    where
      go : (b : Bool) → goes_on starts i ≡ b → (k < first_in_row starts i → point_at starts k ≡ point_at starts i → ⊥) → k < cond b (first_in_row starts i) (suc i) → ⊥
      go true f h m = h m (e ∙ ap (point_at starts) (let g : suc i ≡ i + 1 = omega arith in g) ∙ sym (on_from i f).1)
      go false f h m =
          let same : point_at starts i ≡ point_at starts k = between k i (suc i) (omega arith) (omega arith) l e in
          clash (goes_on starts i) (on_to i (omega arith) (same ∙ e ∙ ap (point_at starts) (let g : suc i ≡ i + 1 = omega arith in g))) f

  -- no link after the last of a row has its start
  pub none_after : (i k : ℕ) → goes_on starts i ≡ false → i < k → k < length outs → point_at starts k ≡ point_at starts i → ⊥
  none_after i k f l m e =
      let same : point_at starts (i + 1) ≡ point_at starts i = between i (i + 1) k (omega arith) (omega arith) m (sym e) in
      clash (goes_on starts i) (on_to i (omega arith) (sym same)) f

  pub on_starts : (i : ℕ) → goes_on starts i ≡ true → (i + 1 < length outs) × (point_at starts (i + 1) ≡ point_at starts i)
  on_starts i e = let h = on_from i e in (h.0, sym h.1)

  -- each signed arc stands in the table, and none that is not of the arcs
  pub stands : (a : SignedArc) → a.arc < length arcs → (k : ℕ) × (k < length outs) × (arc_at outs k ≡ a)
  stands a l =
      let (k, m, e) = Contains-permutation (signed_below (length arcs)) outs a t.all (Contains-signed_below (length arcs) a l) in
      (k, m, get_or_default outs k (forward 0) a m ∙ e)

  pub is_there : (k : ℕ) → k < length outs → (arc_at outs k).arc < length arcs
  is_there k l = All-permutation (λ (a : SignedArc). a.arc < length arcs) (signed_below (length arcs)) outs t.all (all_below (length arcs) (length arcs) (omega arith)) k (forward 0) l
