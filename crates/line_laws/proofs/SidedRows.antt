-- The arcs between sets, by the lists of sets at their two sides.
use Rattle.std.proofs.Common.{◌≡◌, refl, sym, ap, ◌∙◌, arith, ℕ, zero, suc, ◌+◌, ◌<◌, ◌≤◌, Bool, true, false, cond, nat_eq, List, [], ◌∷◌, map, filter, get_or, All, AllPairs, Contains, Option, Some, None}
use Rattle.std.specs.Prelude.{◌≢◌, filter_map, is_some, slice_get}
use Rattle.std.specs.List.{cons_option, range_with_len}
use Rattle.std.specs.List.Sorted.{IsStrictlyIncreasing}
use Rattle.std.proofs.lemmas.Bool.{and_from, and_parts}
use Rattle.std.proofs.lemmas.List.{get_or-map, length-map}
use Rattle.std.proofs.lemmas.List.Elements.{All-nil, All-cons, All-weaker}
use Rattle.std.proofs.lemmas.List.Kept.{AllPairs-cons, AllPairs-filter}
use Rattle.lists.specs.Lists.{same_list}
use Rattle.lists.proofs.Members.{Contains-map, map-Contains, Contains-filter, filter-Contains, Contains-filter_map, filter_map-Contains}
use Rattle.plane_model.proofs.PointOrder.{clash}
use Rattle.face_walk.specs.Places.{FaceTable}
use Rattle.face_sets.proofs.GapLemmas.{in_range}
use Rattle.face_sets.proofs.SetLemmas.{same_from_test, test_from_same}
use Rattle.line_ops.specs.Sided.{has_both, left_sets, right_sets, sided, sided_among}
use Rattle.line_ops.specs.declared.sides.SidedArc.{SidedArc}
use Rattle.line_laws.specs.ArcsBetween.{IsSidedBy}

module _ (t : FaceTable) (sets : List (List ℕ)) where
  -- the lists at the sides of an arc are the same
  abbrev are_same : ℕ → Bool
  are_same a = same_list nat_eq (left_sets t sets a) (right_sets t sets a)

  -- an arc with the first of each
  abbrev with_first : ℕ → SidedArc
  with_first a = record { arc = a; left = slice_get (left_sets t sets a) 0; right = slice_get (right_sets t sets a) 0 }

  -- ---- they stand once, rising

  put_in : (P : SidedArc → Type 0) (b : Bool) (s : SidedArc) (rest : List SidedArc) → P s → All P rest → All P (cons_option (cond b None (Some s)) rest)
  put_in P true s rest one more = more
  put_in P false s rest one more = All-cons P s rest one more

  arcs_from : (a n : ℕ) → All (λ (s : SidedArc). a ≤ s.arc) (filter_map (sided t sets) (range_with_len a n))
  arcs_from a zero = All-nil (λ (s : SidedArc). a ≤ s.arc)
  arcs_from a (suc n) =
      put_in (λ (s : SidedArc). a ≤ s.arc) (are_same a) (with_first a) (filter_map (sided t sets) (range_with_len (a + 1) n)) (omega arith)
      (All-weaker (λ (s : SidedArc). a + 1 ≤ s.arc) (λ (s : SidedArc). a ≤ s.arc) (λ s l. omega arith) (filter_map (sided t sets) (range_with_len (a + 1) n)) (arcs_from (a + 1) n))

  abbrev pub Later : SidedArc → SidedArc → Type 0
  Later s u = s.arc < u.arc

  pairs_put_in : (b : Bool) (s : SidedArc) (rest : List SidedArc) → All (Later s) rest → AllPairs Later rest → AllPairs Later (cons_option (cond b None (Some s)) rest)
  pairs_put_in true s rest one more = more
  pairs_put_in false s rest one more = AllPairs-cons Later s rest one more

  arcs_rise : (a n : ℕ) → AllPairs Later (filter_map (sided t sets) (range_with_len a n))
  arcs_rise a zero = λ i j d l m. absurd (omega arith)
  arcs_rise a (suc n) =
      pairs_put_in (are_same a) (with_first a) (filter_map (sided t sets) (range_with_len (a + 1) n))
      (All-weaker (λ (s : SidedArc). a + 1 ≤ s.arc) (Later (with_first a)) (λ s l. omega arith) (filter_map (sided t sets) (range_with_len (a + 1) n)) (arcs_from (a + 1) n)) (arcs_rise (a + 1) n)

  increasing_arcs : (ss : List SidedArc) → AllPairs Later ss → IsStrictlyIncreasing (map (λ (s : SidedArc). s.arc) ss)
  increasing_arcs ss h k within =
      let o : SidedArc = record { arc = 0; left = None; right = None } in
      let many = length-map ss (λ (s : SidedArc). s.arc) in
      let first : get_or (map (λ (s : SidedArc). s.arc) ss) k 0 ≡ (get_or ss k o).arc = get_or-map (λ (s : SidedArc). s.arc) ss k o 0 (omega arith) in
      let second : get_or (map (λ (s : SidedArc). s.arc) ss) (k + 1) 0 ≡ (get_or ss (k + 1) o).arc = get_or-map (λ (s : SidedArc). s.arc) ss (k + 1) o 0 (omega arith) in
      let less : (get_or ss k o).arc < (get_or ss (k + 1) o).arc = h k (k + 1) o (omega arith) (omega arith) in
      omega arith

  pub sided_once : (count : ℕ) → IsStrictlyIncreasing (map (λ (s : SidedArc). s.arc) (sided_among t sets count))
  sided_once count = increasing_arcs (sided_among t sets count) (arcs_rise 0 count)

  pub inner_once : (count : ℕ) → IsStrictlyIncreasing (map (λ (s : SidedArc). s.arc) (filter has_both (sided_among t sets count)))
  inner_once count = increasing_arcs (filter has_both (sided_among t sets count)) (AllPairs-filter Later has_both (sided_among t sets count) (arcs_rise 0 count))

  -- ---- which arcs there are

  some_of : (b : Bool) (r s : SidedArc) → cond b None (Some r) ≡ Some s → (b ≡ false) × (r ≡ s)
  some_of true r s e = absurd (let f : ◌≡◌ {A = Option SidedArc} None (Some s) = e in cc)
  some_of false r s e = (refl, let f : ◌≡◌ {A = Option SidedArc} (Some r) (Some s) = e in cc)

  -- an arc that stands there has different lists, and the first of each
  stands_there : (count : ℕ) (s : SidedArc) → Contains (sided_among t sets count) s → (are_same s.arc ≡ false) × (with_first s.arc ≡ s)
  stands_there count s c =
      let (a, among, is) = filter_map-Contains (sided t sets) (range_with_len 0 count) s c in
      let (differ, same) = some_of (are_same a) (with_first a) s is in
      let at_arc : a ≡ s.arc = ap (λ (r : SidedArc). r.arc) same in
      (ap are_same (sym at_arc) ∙ differ, ap with_first (sym at_arc) ∙ same)

  put_there : (count a : ℕ) → a < count → are_same a ≡ false → Contains (sided_among t sets count) (with_first a)
  put_there count a l e =
      Contains-filter_map (sided t sets) (range_with_len 0 count) a (with_first a) (in_range count a l)
      (λ j. cond (e j) None (Some (with_first a)))

  differ_means : (a : ℕ) → are_same a ≡ false → left_sets t sets a ≢ right_sets t sets a
  differ_means a e f = clash (are_same a) (ap (λ (xs : List ℕ). same_list nat_eq (left_sets t sets a) xs) (sym f) ∙ test_from_same (left_sets t sets a) (left_sets t sets a) refl) e

  means_differ : (a : ℕ) → left_sets t sets a ≢ right_sets t sets a → are_same a ≡ false
  means_differ a n = go (are_same a) refl
    where
      go : (b : Bool) → are_same a ≡ b → b ≡ false
      go true e = absurd (n (same_from_test (left_sets t sets a) (right_sets t sets a) e))
      go false e = refl

  some_first : (xs : List ℕ) → is_some (slice_get xs 0) ≡ true → xs ≢ []
  some_first xs e f = clash (is_some (slice_get xs 0)) e (ap (λ (ys : List ℕ). is_some (slice_get ys 0)) f)

  first_some : (xs : List ℕ) → xs ≢ [] → is_some (slice_get xs 0) ≡ true
  first_some [] n = absurd (n refl)
  first_some (x ∷ xs) n = refl

  pub is_sided : (count a : ℕ) → a < count → IsSidedBy (sided_among t sets count) a (left_sets t sets a) (right_sets t sets a)
  is_sided count a l = record {
    listed = (
      λ c.
          let (s, among, is) = map-Contains (λ (r : SidedArc). r.arc) (sided_among t sets count) a c in
          differ_means a (ap are_same (sym is) ∙ (stands_there count s among).0),
      λ n. Contains-map (λ (r : SidedArc). r.arc) (sided_among t sets count) (with_first a) (put_there count a l (means_differ a n)),
    );
    least = λ s among is.
        (let same : with_first a ≡ s = ap with_first (sym is) ∙ (stands_there count s among).1 in
        (ap (λ (r : SidedArc). r.left) (sym same), ap (λ (r : SidedArc). r.right) (sym same)));
    inner = (
      λ c.
          let (s, kept, is) = map-Contains (λ (r : SidedArc). r.arc) (filter has_both (sided_among t sets count)) a c in
          let (among, both) = filter-Contains has_both (sided_among t sets count) s kept in
          let (differ, same) = stands_there count s among in
          let here : has_both (with_first a) ≡ true = ap has_both (ap with_first (sym is) ∙ same) ∙ both in (
            some_first (left_sets t sets a) (and_parts (is_some (slice_get (left_sets t sets a) 0)) (is_some (slice_get (right_sets t sets a) 0)) here).0,
            some_first (right_sets t sets a) (and_parts (is_some (slice_get (left_sets t sets a) 0)) (is_some (slice_get (right_sets t sets a) 0)) here).1,
            differ_means a (ap are_same (sym is) ∙ differ),
          ),
      λ n. Contains-map (λ (r : SidedArc). r.arc) (filter has_both (sided_among t sets count)) (with_first a)
          (Contains-filter has_both (sided_among t sets count) (with_first a) (put_there count a l (means_differ a n.2))
          (and_from (is_some (slice_get (left_sets t sets a) 0)) (is_some (slice_get (right_sets t sets a) 0)) (first_some (left_sets t sets a) n.0) (first_some (right_sets t sets a) n.1))),
    );
  }
