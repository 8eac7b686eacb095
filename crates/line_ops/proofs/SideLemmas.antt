-- Arcs with their sides, one more arc at a time.
use Rattle.std.proofs.Common.{◌≡◌, refl, sym, ap, ◌∙◌, arith, ℕ, zero, suc, ◌+◌, ◌<◌, ◌≤◌, Bool, true, false, cond, nat_eq, List, [], ◌∷◌, ◌++◌, All, Option, Some, None}
use Rattle.std.specs.Prelude.{filter_map, slice_get}
use Rattle.std.specs.Option.{option_to_list}
use Rattle.std.specs.List.{cons_option, range_with_len}
use Rattle.std.specs.Cmp.Lexicographic.{pointwise}
use Rattle.std.proofs.lemmas.List.Elements.{All-nil, All-cons, filter_map-append}
use Rattle.lists.specs.Lists.{same_list}
use Rattle.face_walk.specs.Places.{FaceTable}
use Rattle.face_sets.proofs.GapLemmas.{range_more}
use Rattle.face_sets.proofs.SetLemmas.{same_pointwise}
use Rattle.line_ops.specs.declared.sides.SidedArc.{SidedArc}
use Rattle.line_ops.specs.Sided.{left_sets, right_sets, sided, sided_among}

-- ---- one arc, from the lists at its sides

module _ (t : FaceTable) (sets : List (List ℕ)) (a : ℕ) (l r : List ℕ) (left : l ≡ left_sets t sets a) (right : r ≡ right_sets t sets a) where
  are_same : same_list nat_eq (left_sets t sets a) (right_sets t sets a) ≡ pointwise nat_eq l r
  are_same = (λ j. same_list nat_eq (sym left j) (sym right j)) ∙ same_pointwise l r

  pub none_sided : pointwise nat_eq l r ≡ true → None ≡ sided t sets a
  none_sided e = λ j. cond (sym (are_same ∙ e) j) None (Some (record { arc = a; left = slice_get (left_sets t sets a) 0; right = slice_get (right_sets t sets a) 0 }))

  pub some_sided : pointwise nat_eq l r ≡ false → (x y : Option ℕ) → x ≡ slice_get l 0 → y ≡ slice_get r 0 → Some (record { arc = a; left = x; right = y }) ≡ sided t sets a
  some_sided e x y p q =
      (λ j. Some (record { arc = a; left = (p ∙ ap (λ (ns : List ℕ). slice_get ns 0) left) j; right = (q ∙ ap (λ (ns : List ℕ). slice_get ns 0) right) j }))
      ∙ (λ j. cond (sym (are_same ∙ e) j) None (Some (record { arc = a; left = slice_get (left_sets t sets a) 0; right = slice_get (right_sets t sets a) 0 })))

-- ---- one more arc

one_option : (r : Option SidedArc) → cons_option r [] ≡ option_to_list r
one_option None = refl
one_option (Some s) = refl

pub among_more : (t : FaceTable) (sets : List (List ℕ)) (n : ℕ) → sided_among t sets (n + 1) ≡ sided_among t sets n ++ option_to_list (sided t sets n)
among_more t sets n =
    ap (filter_map (sided t sets)) (range_more n) ∙ filter_map-append (sided t sets) (range_with_len 0 n) (n ∷ [])
    ∙ ap (λ (arcs : List SidedArc). sided_among t sets n ++ arcs) (one_option (sided t sets n))

-- ---- the numbers of the arcs are below their count

put_in : (P : SidedArc → Type 0) (b : Bool) (s : SidedArc) (rest : List SidedArc) → P s → All P rest → All P (cons_option (cond b None (Some s)) rest)
put_in P true s rest one more = more
put_in P false s rest one more = All-cons P s rest one more

below_from : (t : FaceTable) (sets : List (List ℕ)) (a n m : ℕ) → a + n ≤ m → All (λ (s : SidedArc). s.arc < m) (filter_map (sided t sets) (range_with_len a n))
below_from t sets a zero m l = All-nil (λ (s : SidedArc). s.arc < m)
below_from t sets a (suc n) m l =
    put_in (λ (s : SidedArc). s.arc < m) (same_list nat_eq (left_sets t sets a) (right_sets t sets a))
    (record { arc = a; left = slice_get (left_sets t sets a) 0; right = slice_get (right_sets t sets a) 0 })
    (filter_map (sided t sets) (range_with_len (a + 1) n)) (omega arith) (below_from t sets (a + 1) n m (omega arith))

pub among_below : (t : FaceTable) (sets : List (List ℕ)) (n m : ℕ) → n ≤ m → All (λ (s : SidedArc). s.arc < m) (sided_among t sets n)
among_below t sets n m l = below_from t sets 0 n m (omega arith)
