-- Points in order, in rows of equal ones.
use Rattle.std.proofs.Common.{rules, ◌≡◌, inl, inr, refl, sym, ap, ◌∙◌, subst, arith, ℕ, zero, suc, ◌+◌, ◌-◌, ◌<◌, ◌≤◌, true, false, List, [], ◌∷◌, ◌++◌, map, length, length-append, get_or, take, drop, length-drop, All, AllPairs, Contains, pos}
use Rattle.std.specs.List.Sorted.{IsPartitionPoint, IsPartitionedBy}
use Rattle.std.proofs.lemmas.Bool.{cases_lt, false_from_ne_true}
use Rattle.std.proofs.Math.ListN.{get_or-append}
use Rattle.std.proofs.Math.Seq.{get_or-append_right, get_or-append_seam}
use Rattle.std.proofs.lemmas.List.{get_or_default, get_or-map, get_or-drop, length-map}
use Rattle.std.proofs.lemmas.List.Elements.{All-append, Contains-append_left, Contains-append_right}
use Rattle.std.proofs.lemmas.List.Quantifiers.{all_pairs_push}
use Rattle.std.proofs.lemmas.List.Sorted.{Contains-permutation}
use Rattle.std.proofs.lemmas.Grind.{common_steps}
use Rattle.plane_model.specs.Points.{GridPoint, Path, same_point, is_before}
use Rattle.plane_model.specs.Arcs.{SignedArc}
use Rattle.plane_model.proofs.PointOrder.{clash, same_point_from, same_point_to, is_before-IsStrictOrder}
use Rattle.arc_table.specs.Around.{signed_below, start_of, IsTurned, IsAround}
use Rattle.arc_table.specs.Direction.{point_at}
use Rattle.arc_table.specs.Rows.{IsRow, AreRows}
use Rattle.arc_table.proofs.AroundRows.{rows_are_around}
use Rattle.arc_table.proofs.SignedArcs.{Contains-signed_below}
use Rattle.arc_table.proofs.TurnOrder.{not_back}

-- ---- the order of points

-- a point before another, which is not after a third
pub before_later : (p q r : GridPoint) → is_before p q ≡ true → is_before r q ≡ false → is_before p r ≡ true
before_later p q r e f = grind (arith, common_steps)

-- points in order that differ
pub before_other : (p q : GridPoint) → is_before q p ≡ false → same_point p q ≡ false → is_before p q ≡ true
before_other p q e f = search rules

pub never_before : (p q : GridPoint) → p ≡ q → is_before p q ≡ false
never_before p q e = search rules

row_same : (points : List GridPoint) (p q : GridPoint) (a b m n : ℕ) → p ≡ q → a ≡ m → b ≡ n → IsRow points p a b → IsRow points q m n
row_same points p q a b m n e f g h = subst (λ (t : GridPoint × (ℕ × ℕ)). IsRow points t.0 t.1.0 t.1.1) (λ i. (e i, (f i, g i))) h

abbrev origin : GridPoint
origin = record { x = pos 0; y = pos 0 }

-- ---- one row more

module _ (points nodes : List GridPoint) (rows : List ℕ) (table : AreRows points nodes rows) where
  abbrev m : ℕ
  m = length nodes

  -- the last row ends where the points do
  at_end : get_or rows m 0 ≡ length points
  at_end =
      let g = table.ends in
      elim (cases_lt 0 m) [
        | inl l ↦ (let w = (table.row (m - 1) (omega arith)).within in let e : m - 1 + 1 ≡ m = omega arith in let f = ap (λ (j : ℕ). get_or rows j 0) e in omega arith)
        | inr l ↦ (let e : m ≡ 0 = omega arith in let f = ap (λ (j : ℕ). get_or rows j 0) e in let b = table.begins in omega arith)
      ]

  -- points more that are all p, and lie past the others
  module _ (p : GridPoint) (added : List GridPoint) (some : 0 < length added) (here : All (λ (q : GridPoint). q ≡ p) added) (past : All (λ (q : GridPoint). is_before q p ≡ true) points) where
    abbrev grown : List GridPoint
    grown = points ++ added

    abbrev more : List GridPoint
    more = nodes ++ p ∷ []

    abbrev places : List ℕ
    places = rows ++ length grown ∷ []

    count : length grown ≡ length points + length added
    count = length-append points added

    one_more : length more ≡ m + 1
    one_more = length-append nodes (p ∷ [])

    old_place : (k : ℕ) → k ≤ m → get_or rows k 0 ≡ get_or places k 0
    old_place k l = let e = table.each in sym (get_or-append rows (length grown ∷ []) 0 k (omega arith))

    new_place : get_or places (m + 1) 0 ≡ length grown
    new_place = ap (λ (k : ℕ). get_or places k 0) (sym table.each) ∙ get_or-append_seam rows (length grown) [] 0

    old_point : (j : ℕ) → j < length points → point_at points j ≡ point_at grown j
    old_point j l = sym (get_or-append points added origin j l)

    new_point : (j : ℕ) → length points ≤ j → j < length grown → p ≡ point_at grown j
    new_point j l n = let c = count in sym (get_or-append_right points added j origin l ∙ here (j - length points) origin (omega arith))

    rises : All (λ (q : GridPoint). is_before q p ≡ true) nodes
    rises k d l =
        let r = table.row k l in
        let s = r.some in
        let w = r.within in
        subst (λ (q : GridPoint). is_before q p ≡ true) (r.here (get_or rows k 0) (omega arith) s ∙ get_or_default nodes k origin d l) (past (get_or rows k 0) origin (omega arith))

    longer : (q : GridPoint) (first stop : ℕ) → is_before q p ≡ true → IsRow points q first stop → IsRow grown q first stop
    longer q first stop up r =
        let w = r.within in
        let s = r.some in
        let c = count in
        record {
          some = s;
          within = omega arith;
          before = λ i l. subst (λ (z : GridPoint). is_before z q ≡ true) (old_point i (omega arith)) (r.before i l);
          here = λ i l n. sym (old_point i (omega arith)) ∙ r.here i l n;
          after = λ i l n. elim (cases_lt i (length points)) [
            | inl h ↦ subst (λ (z : GridPoint). is_before q z ≡ true) (old_point i h) (r.after i l h)
            | inr h ↦ subst (λ (z : GridPoint). is_before q z ≡ true) (new_point i h n) up
          ];
        }

    own_row : IsRow grown p (length points) (length grown)
    own_row =
        let c = count in
        record {
          some = omega arith;
          within = omega arith;
          before = λ i l. subst (λ (z : GridPoint). is_before z p ≡ true) (old_point i l) (past i origin l);
          here = λ i l n. sym (new_point i l n);
          after = λ i l n. absurd (omega arith);
        }

    pub row_added : AreRows grown more places
    row_added =
        let e = table.each in
        let o = one_more in
        record {
          each = length-append rows (length grown ∷ []) ∙ omega arith;
          begins = sym (old_place 0 (omega arith)) ∙ table.begins;
          ends = (let n = ap (λ (k : ℕ). get_or places k 0) o ∙ new_place in omega arith);
          ascending = all_pairs_push (λ (q r : GridPoint). is_before q r ≡ true) nodes p table.ascending rises;
          row = λ k l. elim (cases_lt k m) [
            | inl h ↦ row_same grown (point_at nodes k) (point_at more k) (get_or rows k 0) (get_or rows (k + 1) 0) (get_or places k 0) (get_or places (k + 1) 0) (sym (get_or-append nodes (p ∷ []) origin k h)) (old_place k (omega arith)) (old_place (k + 1) (omega arith))
                (longer (point_at nodes k) (get_or rows k 0) (get_or rows (k + 1) 0) (rises k origin h) (table.row k h))
            | inr h ↦ subst (λ (j : ℕ). IsRow grown (point_at more j) (get_or places j 0) (get_or places (j + 1) 0)) (let f : m ≡ k = omega arith in f)
                (row_same grown p (point_at more m) (length points) (length grown) (get_or places m 0) (get_or places (m + 1) 0) (sym (get_or-append_seam nodes p [] origin)) (sym at_end ∙ old_place m (omega arith)) (sym new_place) own_row)
          ];
          all = All-append (Contains more) points added (λ j d l. Contains-append_left nodes (p ∷ []) (get_or points j d) (table.all j d l))
              (λ j d l. Contains-append_right nodes (p ∷ []) (get_or added j d) (0, omega arith, sym (here j d l)));
        }

-- ---- where rows begin and end

pub rows_within : (points nodes : List GridPoint) (rows : List ℕ) → AreRows points nodes rows → All (λ (n : ℕ). n ≤ length points) rows
rows_within points nodes rows table k d l = subst (λ (n : ℕ). n ≤ length points) (get_or_default rows k 0 d l) (go k l)
  where
    go : (k : ℕ) → k < length rows → get_or rows k 0 ≤ length points
    go zero l = let e = table.begins in omega arith
    go (suc j) l = let n = table.each in subst (λ (k : ℕ). get_or rows k 0 ≤ length points) (let e : j + 1 ≡ suc j = omega arith in e) (table.row j (omega arith)).within

-- ---- the row of a point

-- points in order are parted by another
pub parted : (nodes : List GridPoint) (p : GridPoint) → AllPairs (λ q r. is_before q r ≡ true) nodes → IsPartitionedBy (λ (q : GridPoint). is_before q p) nodes
parted nodes p rise i j d l m e = elim (cases_lt i j) [
  | inl h ↦ is_before-IsStrictOrder.trans (get_or nodes i d) (get_or nodes j d) p (rise i j d h m) e
  | inr h ↦ subst (λ (k : ℕ). is_before (get_or nodes k d) p ≡ true) (let f : j ≡ i = omega arith in f) e
]

module _ (arcs : List Path) (outs : List SignedArc) (turned : IsTurned arcs (map (start_of arcs) outs) outs) (nodes : List GridPoint) (rows : List ℕ) (table : AreRows (map (start_of arcs) outs) nodes rows) (p : GridPoint) (k : ℕ) where
  abbrev points : List GridPoint
  points = map (start_of arcs) outs

  abbrev first : ℕ
  first = get_or rows k 0

  abbrev stop : ℕ
  stop = get_or rows (k + 1) 0

  module _ (l : k < length nodes) (e : point_at nodes k ≡ p) where
    row : IsRow points p first stop
    row = row_same points (point_at nodes k) p first stop first stop e refl refl (table.row k l)

    read : (i : ℕ) (d : GridPoint) → i < length points → get_or points i d ≡ point_at points i
    read i d n = get_or_default points i d origin n

    at_first : IsPartitionPoint (λ (q : GridPoint). is_before q p ≡ true) (λ (q : GridPoint). is_before q p ≡ false) points first
    at_first = (
      (λ i d n m. let w = row.within in let s = row.some in subst (λ (q : GridPoint). is_before q p ≡ true) (sym (read i d (omega arith))) (row.before i m)),
      (λ i d m n. subst (λ (q : GridPoint). is_before q p ≡ false) (sym (read i d n)) (elim (cases_lt i stop) [
        | inl h ↦ never_before (point_at points i) p (row.here i m h)
        | inr h ↦ not_back p (point_at points i) (row.after i h n)
      ])),
    )

    left : length (drop first points) ≡ length points - first
    left = length-drop first points

    past : (i : ℕ) (d : GridPoint) → first + i < length points → get_or (drop first points) i d ≡ point_at points (first + i)
    past i d n = get_or-drop first points i d ∙ read (first + i) d n

    at_count : IsPartitionPoint (λ (q : GridPoint). same_point q p ≡ true) (λ (q : GridPoint). same_point q p ≡ false) (drop first points) (stop - first)
    at_count = (
      (λ i d n m.
          (let s = left in
          let w = row.within in
          subst (λ (q : GridPoint). same_point q p ≡ true) (sym (past i d (omega arith))) (same_point_to (point_at points (first + i)) p (row.here (first + i) (omega arith) (omega arith))))),
      (λ i d m n.
          (let s = left in
          let w = row.some in
          let h : first + i < length points = omega arith in
          subst (λ (q : GridPoint). same_point q p ≡ false) (sym (past i d h)) (false_from_ne_true (same_point (point_at points (first + i)) p)
          (λ t. clash (is_before p (point_at points (first + i))) (row.after (first + i) (omega arith) h) (never_before p (point_at points (first + i)) (sym (same_point_from (point_at points (first + i)) p t))))))),
    )

    pub row_bounds : (first ≤ stop) × (stop ≤ length outs)
    row_bounds =
        let n = length-map outs (start_of arcs) in
        let w = row.within in
        let s = row.some in
        (omega arith, omega arith)

    pub row_around : IsAround arcs p (take (stop - first) (drop first outs))
    row_around =
        let n = left in
        let w = row.within in
        let s = row.some in
        rows_are_around arcs points outs turned p first (omega arith) at_first (stop - first) (omega arith) at_count

  pub none_at : IsPartitionPoint (λ (q : GridPoint). is_before q p ≡ true) (λ (q : GridPoint). is_before q p ≡ false) nodes k → (k < length nodes → same_point (point_at nodes k) p ≡ false) → IsAround arcs p []
  none_at at_k off = record {
    all = λ a l e.
        (let c = Contains-permutation (signed_below (length arcs)) outs a turned.all (Contains-signed_below (length arcs) a l) in
        let n = length-map outs (start_of arcs) in
        let here : get_or points c.0 p ≡ p = get_or-map (start_of arcs) outs c.0 a p c.1 ∙ ap (start_of arcs) c.2 ∙ e in
        absurd (no_node (subst (Contains nodes) here (table.all c.0 p (omega arith)))));
    others = λ j d l. absurd (omega (arith, l));
    once = λ i j d l m. absurd (omega (arith, m));
    in_turn = λ i j d l m. absurd (omega (arith, m));
  }
    where
      no_node : Contains nodes p → ⊥
      no_node (j, l, e) = elim (cases_lt j k) [
        | inl h ↦ clash (is_before (get_or nodes j p) p) (at_k.0 j p (omega arith) h) (never_before (get_or nodes j p) p e)
        | inr h ↦ elim (cases_lt k j) [
          | inl f ↦ clash (is_before (get_or nodes k p) p) (subst (λ (q : GridPoint). is_before (get_or nodes k p) q ≡ true) e (table.ascending k j p f l)) (at_k.1 k p (omega arith) (omega arith))
          | inr f ↦ (
              let i : j ≡ k = omega arith in
              clash (same_point (point_at nodes k) p) (same_point_to (point_at nodes k) p (sym (get_or_default nodes k p origin (omega arith)) ∙ sym (ap (λ (z : ℕ). get_or nodes z p) i) ∙ e)) (off (omega arith)))
        ]
      ]
