-- The sets at the sides of an arc are sets of the list.
use Rattle.std.proofs.Common.{◌≡◌, ℕ, zero, suc, ◌+◌, ◌<◌, ◌≤◌, Bool, true, false, cond, nat_eq, List, [], ◌∷◌, All, Some, None, length, sym, subst, arith}
use Rattle.std.specs.Prelude.{IfSome, filter_map, slice_get}
use Rattle.std.specs.List.{cons_option, range_with_len}
use Rattle.std.proofs.lemmas.List.Elements.{All-nil, All-cons}
use Rattle.lists.specs.Lists.{has, numbers_from, same_list}
use Rattle.face_walk.specs.Places.{FaceTable}
use Rattle.line_ops.specs.Inside.{left_of}
use Rattle.line_ops.specs.Sided.{left_sets, right_sets, sided, sided_among}
use Rattle.line_ops.specs.declared.sides.SidedArc.{SidedArc}
use Rattle.run_borders.specs.Borders.{IsAmong}

-- the first number of an element that passes is below their count
first_below : {X : Type 0} (k : ℕ) (test : X → Bool) (xs : List X) (count : ℕ) → k + length xs ≤ count → IfSome (slice_get (numbers_from k test xs) 0) (λ n. n < count)
first_below k test [] count l = tt
first_below {X} k test (x ∷ xs) count l = go (test x) (first_below (k + 1) test xs count (omega arith))
  where
    go : (b : Bool) → IfSome (slice_get (numbers_from (k + 1) test xs) 0) (λ n. n < count) → IfSome (slice_get (cond b (k ∷ numbers_from (k + 1) test xs) (numbers_from (k + 1) test xs)) 0) (λ n. n < count)
    go true rest = omega arith
    go false rest = rest

module _ (t : FaceTable) (sets : List (List ℕ)) (count : ℕ) (many : length sets ≡ count) where
  owner_below : (face : ℕ) → IfSome (slice_get (numbers_from 0 (λ (set : List ℕ). has nat_eq set face) sets) 0) (λ n. n < count)
  owner_below face = first_below 0 (λ (set : List ℕ). has nat_eq set face) sets count (omega arith)

  at_sides : (a : ℕ) → IsAmong count (record { arc = a; left = slice_get (left_sets t sets a) 0; right = slice_get (right_sets t sets a) 0 })
  at_sides a = record {
    left = owner_below (left_of t (record { arc = a; is_reversed = false }));
    right = owner_below (left_of t (record { arc = a; is_reversed = true }));
  }

  put_in : (b : Bool) (s : SidedArc) (rest : List SidedArc) → IsAmong count s → All (IsAmong count) rest → All (IsAmong count) (cons_option (cond b None (Some s)) rest)
  put_in true s rest one more = more
  put_in false s rest one more = All-cons (IsAmong count) s rest one more

  among_from : (a n : ℕ) → All (IsAmong count) (filter_map (sided t sets) (range_with_len a n))
  among_from a zero = All-nil (IsAmong count)
  among_from a (suc n) =
      put_in (same_list nat_eq (left_sets t sets a) (right_sets t sets a))
      (record { arc = a; left = slice_get (left_sets t sets a) 0; right = slice_get (right_sets t sets a) 0 })
      (filter_map (sided t sets) (range_with_len (a + 1) n)) (at_sides a) (among_from (a + 1) n)

  pub sides_among : (n : ℕ) (arcs : List SidedArc) → arcs ≡ sided_among t sets n → All (IsAmong count) arcs
  sides_among n arcs e = subst (All (IsAmong count)) (sym e) (among_from 0 n)
