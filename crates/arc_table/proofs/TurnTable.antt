-- Signed arcs by their starts, turned row by row.
use Rattle.std.proofs.Common.{rules, ◌≡◌, inl, inr, refl, sym, ap, ◌∙◌, subst, arith, ℕ, ◌+◌, ◌-◌, ◌<◌, ◌≤◌, true, false, List, [], ◌∷◌, ◌++◌, append_assoc, map, length, length-append, get_or, All}
use Rattle.std.specs.List.Sorted.{IsPermutation, IsSortedBy, IsSortedByKey}
use Rattle.std.specs.Ordering.{is_lt}
use Rattle.std.proofs.Math.ListN.{get_or-append}
use Rattle.std.proofs.Math.Seq.{get_or-append_right}
use Rattle.std.proofs.lemmas.Bool.{cases_lt}
use Rattle.std.proofs.lemmas.List.{append-nil, get_or_default, get_or-map, length-map, map-append}
use Rattle.std.proofs.lemmas.List.Elements.{All-append, All-cons, All-nil, All-same}
use Rattle.std.proofs.lemmas.List.Sorted.{All-permutation, IsPermutation-append_left, IsPermutation-append_right, IsPermutation-map, IsPermutation-trans, length_permutation}
use Rattle.plane_model.specs.Points.{GridPoint, Segment, Path, same_point, is_before}
use Rattle.plane_model.specs.Arcs.{SignedArc, forward}
use Rattle.plane_model.proofs.PointOrder.{is_before-IsStrictOrder}
use Rattle.grid_base.specs.Order.{point_cmp}
use Rattle.arc_table.specs.Around.{signed_below, first_step, start_of, comes_first, IsTurned}
use Rattle.arc_table.specs.Direction.{point_at}
use Rattle.arc_table.specs.FirstSteps.{AddsRow}
use Rattle.arc_table.specs.Rows.{AreRows}
use Rattle.arc_table.specs.declared.first_steps.FirstStep.{FirstStep}
use Rattle.arc_table.specs.declared.node_rows.NodeRows.{NodeRows}
use Rattle.arc_table.proofs.Everywhere.{All-mapped}
use Rattle.arc_table.proofs.RowTable.{before_later, before_other, never_before, row_added}
use Rattle.arc_table.proofs.TurnOrder.{later_not_first}

abbrev arcs_of : List FirstStep → List SignedArc
arcs_of fs = map (λ (f : FirstStep). f.arc) fs

abbrev pub first_of : List Path → SignedArc → FirstStep
first_of arcs a = record { step = first_step arcs a; arc = a }

-- the step is the first of its arc, and starts at p
abbrev pub IsFrom : List Path → GridPoint → FirstStep → Type 0
IsFrom arcs p f = (f.step ≡ first_step arcs f.arc) × (f.step.start ≡ p)

abbrev pub AreInTurn : List Path → List SignedArc → Type 0
AreInTurn arcs outs = IsSortedBy (λ (a : SignedArc) (b : SignedArc). comes_first (first_step arcs a) (first_step arcs b)) outs

-- the arcs taken are those of the rows that are done, and after them the row from p
pub record IsUnderWay (arcs : List Path) (taken : List SignedArc) (done : NodeRows) (row : List FirstStep) (p : GridPoint) : Type 0 where
  pub table : AreRows (map (start_of arcs) done.outs.items) done.nodes.items done.rows.items
  pub turned : AreInTurn arcs done.outs.items
  pub all : IsPermutation taken (done.outs.items ++ arcs_of row)
  pub past : All (λ (a : SignedArc). is_before (start_of arcs a) p ≡ true) done.outs.items
  pub here : All (IsFrom arcs p) row

abbrev pub AreAllRows : List Path → NodeRows → Type 0
AreAllRows arcs r = IsTurned arcs (map (start_of arcs) r.outs.items) r.outs.items × AreRows (map (start_of arcs) r.outs.items) r.nodes.items r.rows.items

-- the same, by other names
pub same_way : (arcs : List Path) (taken : List SignedArc) (d e : NodeRows) (r s : List FirstStep) (p : GridPoint) → e ≡ d → s ≡ r → IsUnderWay arcs taken d r p → IsUnderWay arcs taken e s p
same_way arcs taken d e r s p f g h = subst (λ (t : NodeRows × List FirstStep). IsUnderWay arcs taken t.0 t.1 p) (λ i. (sym f i, sym g i)) h

-- what is not less does not come before
not_before : (p q : GridPoint) → is_lt (point_cmp p q) ≡ false → is_before p q ≡ false
not_before p q e = search rules

module _ (arcs : List Path) where
  abbrev start : SignedArc → GridPoint
  start = start_of arcs

  -- no arc starts before the one that it stands after
  pub never_back : (by_start : List SignedArc) → IsSortedByKey (start_of arcs) point_cmp by_start → (i : ℕ) (a : SignedArc) → i < length by_start → a ≡ get_or by_start i a → is_before (start a) (start (get_or by_start (i - 1) (forward 0))) ≡ false
  never_back by_start sorted i a l e =
      let d = forward 0 in
      let here : a ≡ get_or by_start i d = e ∙ get_or_default by_start i a d l in
      subst (λ (b : SignedArc). is_before (start b) (start (get_or by_start (i - 1) d)) ≡ false) (sym here) (elim (cases_lt 0 i) [
        | inl h ↦ (let n : i - 1 + 1 ≡ i = omega arith in
            subst (λ (j : ℕ). is_before (start (get_or by_start j d)) (start (get_or by_start (i - 1) d)) ≡ false) n (not_before (start (get_or by_start (i - 1 + 1) d)) (start (get_or by_start (i - 1) d)) (sorted (i - 1) d (omega arith) (omega arith))))
        | inr h ↦ never_before (start (get_or by_start i d)) (start (get_or by_start (i - 1) d)) (ap (λ (j : ℕ). start (get_or by_start j d)) (let n : i ≡ i - 1 = omega arith in n))
      ])

  -- in turn, row after row
  turned_more : (p : GridPoint) (before row : List SignedArc) → AreInTurn arcs before → AreInTurn arcs row → All (λ (a : SignedArc). is_before (start a) p ≡ true) before → All (λ (a : SignedArc). start a ≡ p) row → AreInTurn arcs (before ++ row)
  turned_more p before row f g past here k d l m =
      let many = length-append before row in
      let left : (j : ℕ) → j < length before → get_or (before ++ row) j d ≡ get_or before j d = λ j h. get_or-append before row d j h in
      let right : (j : ℕ) → length before ≤ j → get_or (before ++ row) j d ≡ get_or row (j - length before) d = λ j h. get_or-append_right before row j d h in
      elim (cases_lt (k + 1) (length before)) [
        | inl h ↦ (λ i. comes_first (first_step arcs (left (k + 1) h i)) (first_step arcs (left k (omega arith) i))) ∙ f k d l h
        | inr h ↦ elim (cases_lt k (length before)) [
          | inl n ↦ (λ i. comes_first (first_step arcs (right (k + 1) h i)) (first_step arcs (left k n i)))
              ∙ later_not_first (first_step arcs (get_or before k d)) (first_step arcs (get_or row (k + 1 - length before) d)) (subst (λ (q : GridPoint). is_before (start (get_or before k d)) q ≡ true) (sym (here (k + 1 - length before) d (omega arith))) (past k d n))
          | inr n ↦ (λ i. comes_first (first_step arcs (right (k + 1) h i)) (first_step arcs (right k n i)))
              ∙ ap (λ (j : ℕ). comes_first (first_step arcs (get_or row j d)) (first_step arcs (get_or row (k - length before) d))) (let e : k + 1 - length before ≡ k - length before + 1 = omega arith in e) ∙ g (k - length before) d (omega arith) (omega arith)
        ]
      ]

  module _ (taken : List SignedArc) (done : NodeRows) (row : List FirstStep) (p : GridPoint) (way : IsUnderWay arcs taken done row p) where
    -- the row starts at p
    starts_at : 0 < length row → point_at (map (λ (f : FirstStep). f.step.start) row) 0 ≡ p
    starts_at l = get_or-map (λ (f : FirstStep). f.step.start) row 0 (first_of arcs (forward 0)) _ l ∙ (way.here 0 (first_of arcs (forward 0)) l).1

    -- all are taken, and no row is left
    pub none_left : row ≡ [] → IsPermutation (signed_below (length arcs)) taken → AreAllRows arcs done
    none_left e all = (
      record {
        starts_of = refl;
        all = IsPermutation-trans (signed_below (length arcs)) taken done.outs.items all (subst (IsPermutation taken) (ap (λ (fs : List FirstStep). done.outs.items ++ arcs_of fs) e ∙ append-nil done.outs.items) way.all);
        sorted = way.turned;
      },
      way.table,
    )

    -- the next arc starts where the row does, or it is the first
    pub kept : (q : GridPoint) → is_before q p ≡ false → (0 < length row → point_at (map (λ (f : FirstStep). f.step.start) row) 0 ≡ q) → IsUnderWay arcs taken done row q
    kept q f e = record {
      table = way.table;
      turned = way.turned;
      all = way.all;
      past = λ k d l. before_later (start (get_or done.outs.items k d)) p q (way.past k d l) f;
      here = λ k d l. (let h = way.here k d l in (h.0, h.1 ∙ sym (starts_at (omega arith)) ∙ e (omega arith)));
    }

    pub one_more : (a : SignedArc) (f : FirstStep) → f ≡ first_of arcs a → start a ≡ p → (more : List FirstStep) → more ≡ row ++ f ∷ [] → IsUnderWay arcs (taken ++ a ∷ []) done more p
    one_more a f e s more g = record {
      table = way.table;
      turned = way.turned;
      all = subst (IsPermutation (taken ++ a ∷ [])) (append_assoc done.outs.items (arcs_of row) (a ∷ []) ∙ ap (λ (bs : List SignedArc). done.outs.items ++ bs) (sym (ap arcs_of g ∙ map-append (λ (z : FirstStep). z.arc) row (f ∷ []) ∙ (λ i. arcs_of row ++ (e i).arc ∷ []))))
          (IsPermutation-append_left (a ∷ []) taken (done.outs.items ++ arcs_of row) way.all);
      past = way.past;
      here = All-same (IsFrom arcs p) more (row ++ f ∷ []) g (All-append (IsFrom arcs p) row (f ∷ []) way.here (All-cons (IsFrom arcs p) f [] (subst (IsFrom arcs p) (sym e) (refl, s)) (All-nil (IsFrom arcs p))));
    }

    module _ (some : 0 < length row) (new : NodeRows) (adds : AddsRow row done new) where
      abbrev turned : List FirstStep
      turned = adds.turned

      starts_here : All (λ (a : SignedArc). start a ≡ p) (arcs_of turned)
      starts_here = All-mapped (IsFrom arcs p) (λ (a : SignedArc). start a ≡ p) (λ (f : FirstStep). f.arc) (λ f h. sym (ap (λ (s : Segment). s.start) h.0) ∙ h.1) turned (All-permutation (IsFrom arcs p) row turned adds.same way.here)

      row_in_turn : AreInTurn arcs (arcs_of turned)
      row_in_turn k d l m =
          let n = length-map turned (λ (f : FirstStep). f.arc) in
          let step : (j : ℕ) → j < length turned → first_step arcs (get_or (arcs_of turned) j d) ≡ (get_or turned j (first_of arcs d)).step = λ j h.
          ap (first_step arcs) (get_or-map (λ (f : FirstStep). f.arc) turned j (first_of arcs d) d h) ∙ sym (All-permutation (IsFrom arcs p) row turned adds.same way.here j (first_of arcs d) h).0 in
          (λ i. comes_first (step (k + 1) (omega arith) i) (step k (omega arith) i)) ∙ adds.in_turn k (first_of arcs d) l (omega arith)

      all_taken : IsPermutation taken new.outs.items
      all_taken = subst (IsPermutation taken) (sym adds.outs) (IsPermutation-trans taken (done.outs.items ++ arcs_of row) (done.outs.items ++ arcs_of turned) way.all
          (IsPermutation-append_right done.outs.items (arcs_of row) (arcs_of turned) (IsPermutation-map (λ (f : FirstStep). f.arc) row turned adds.same)))

      in_turn : AreInTurn arcs new.outs.items
      in_turn = subst (AreInTurn arcs) (sym adds.outs) (turned_more p done.outs.items (arcs_of turned) way.turned row_in_turn way.past starts_here)

      rows_right : AreRows (map start new.outs.items) new.nodes.items new.rows.items
      rows_right =
          let points = map start done.outs.items in
          let added = map start (arcs_of turned) in
          let many = length-map (arcs_of turned) start ∙ length-map turned (λ (f : FirstStep). f.arc) ∙ length_permutation row turned adds.same in
          let e : map start new.outs.items ≡ points ++ added = ap (map start) adds.outs ∙ map-append start done.outs.items (arcs_of turned) in
          let f = adds.nodes ∙ ap (λ (q : GridPoint). done.nodes.items ++ q ∷ []) (starts_at some) in
          let g = adds.rows ∙ ap (λ (n : ℕ). done.rows.items ++ n ∷ []) (sym (length-map new.outs.items start) ∙ ap (λ (ps : List GridPoint). length ps) e) in
          subst (λ (t : List GridPoint × (List GridPoint × List ℕ)). AreRows t.0 t.1.0 t.1.1) (λ i. (sym e i, (sym f i, sym g i)))
          (row_added points done.nodes.items done.rows.items way.table p added (omega arith)
          (All-mapped (λ (a : SignedArc). start a ≡ p) (λ (q : GridPoint). q ≡ p) start (λ a h. h) (arcs_of turned) starts_here)
          (All-mapped (λ (a : SignedArc). is_before (start a) p ≡ true) (λ (q : GridPoint). is_before q p ≡ true) start (λ a h. h) done.outs.items way.past))

      -- all are taken, and the last row is closed
      pub last_closed : IsPermutation (signed_below (length arcs)) taken → AreAllRows arcs new
      last_closed all = (record { starts_of = refl; all = IsPermutation-trans (signed_below (length arcs)) taken new.outs.items all all_taken; sorted = in_turn }, rows_right)

      -- the row is closed, and the next arc starts past it
      pub closed : (q : GridPoint) → is_before q p ≡ false → same_point (point_at (map (λ (f : FirstStep). f.step.start) row) 0) q ≡ false → IsUnderWay arcs taken new [] q
      closed q f e =
          let Past : SignedArc → Type 0 = λ a. is_before (start a) q ≡ true in
          let up = before_other p q f (subst (λ (z : GridPoint). same_point z q ≡ false) (starts_at some) e) in
          record {
            table = rows_right;
            turned = in_turn;
            all = subst (IsPermutation taken) (sym (append-nil new.outs.items)) all_taken;
            past = All-same Past new.outs.items (done.outs.items ++ arcs_of turned) adds.outs (All-append Past done.outs.items (arcs_of turned)
                (λ k d l. is_before-IsStrictOrder.trans (start (get_or done.outs.items k d)) p q (way.past k d l) up)
                (λ k d l. subst (λ (z : GridPoint). is_before z q ≡ true) (sym (starts_here k d l)) up));
            here = All-nil (IsFrom arcs q);
          }
