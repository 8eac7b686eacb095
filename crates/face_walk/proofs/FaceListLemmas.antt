-- Lists for faces, of items that stand in one list: the list of one face, and another list for it.
use Rattle.std.proofs.Common.{◌≡◌, ◌∙◌, refl, sym, ap, subst, arith, ℕ, zero, suc, ◌+◌, ◌-◌, ◌≤◌, Some, List, [], ◌∷◌, ◌++◌, All, length, get_or, take, drop, set, replicate, length-append, length-drop}
use Rattle.std.specs.Prelude.{slice_get, slice_range}
use Rattle.std.proofs.lemmas.List.{drop-append-le, drop_at, get_or-map, length-map, map-set, take-append-le, take_all}
use Rattle.std.proofs.lemmas.List.Elements.{All-head, All-set, All-tail, All-weaker}
use Rattle.std.proofs.lemmas.Option.{get_or_from_slice_get, slice_get_within}
use Rattle.face_walk.specs.FaceLists.{IsWithin, lists_in, nowhere}
use Rattle.face_walk.specs.declared.face_lists.Span.{Span}

module _ {A : Type 0} where
  -- more items at the end
  part_kept : (items more : List A) (a b : ℕ) → a ≤ b → b ≤ length items → slice_range (items ++ more) a b ≡ slice_range items a b
  part_kept items more a b h k =
      let within : a ≤ length items = omega arith in
      let room : b - a ≤ length (drop a items) = omega (arith, length-drop a items) in
      ap (take (b - a)) (drop-append-le a items more within) ∙ take-append-le (b - a) (drop a items) more room

  part_added : (items more : List A) → slice_range (items ++ more) (length items) (length (items ++ more)) ≡ more
  part_added items more =
      let rest : drop (length items) (items ++ more) ≡ more = drop_at items more (length items) refl in
      let count : length more ≤ length (items ++ more) - length items = omega (arith, length-append items more) in
      ap (take (length (items ++ more) - length items)) rest ∙ take_all (length (items ++ more) - length items) more count

  pub lists_none : (items : List A) (n : ℕ) → lists_in items (replicate n nowhere) ≡ replicate n []
  lists_none items zero = refl
  lists_none items (suc n) = ap (λ (lists : List (List A)). [] ∷ lists) (lists_none items n)

  pub length-lists_in : (items : List A) (spans : List Span) → length (lists_in items spans) ≡ length spans
  length-lists_in items spans = length-map spans (λ (s : Span). slice_range items s.start s.stop)

  pub list_in : (items : List A) (spans : List Span) (k : ℕ) (s : Span) → slice_get spans k ≡ Some s → get_or (lists_in items spans) k [] ≡ slice_range items s.start s.stop
  list_in items spans k s found =
      get_or-map (λ (t : Span). slice_range items t.start t.stop) spans k s [] (slice_get_within spans k s found)
      ∙ ap (λ (t : Span). slice_range items t.start t.stop) (get_or_from_slice_get spans k s s found)

  lists_kept : (items more : List A) (spans : List Span) → All (IsWithin (length items)) spans → lists_in (items ++ more) spans ≡ lists_in items spans
  lists_kept items more [] h = refl
  lists_kept items more (s ∷ spans) h =
      let first = All-head (IsWithin (length items)) s spans h in
      let one = part_kept items more s.start s.stop first.ordered first.within in
      let rest = lists_kept items more spans (All-tail (IsWithin (length items)) s spans h) in
      λ i. one i ∷ rest i

  -- another list for one face
  pub lists_put : (items more new : List A) (spans : List Span) (k : ℕ) (s : Span) → All (IsWithin (length items)) spans → new ≡ items ++ more → s.start ≡ length items → s.stop ≡ length items + length more
      → lists_in new (set spans k s) ≡ set (lists_in items spans) k more
  lists_put items more new spans k s h e start stop =
      let same : lists_in new spans ≡ lists_in items spans = ap (λ (xs : List A). lists_in xs spans) e ∙ lists_kept items more spans h in
      let all : s.stop ≡ length (items ++ more) = stop ∙ sym (length-append items more) in
      let here : slice_range new s.start s.stop ≡ more = (λ i. slice_range (e i) (start i) (all i)) ∙ part_added items more in
      map-set (λ (t : Span). slice_range new t.start t.stop) spans k s ∙ (λ i. set (same i) k (here i))

  pub spans_put : (items more new : List A) (spans : List Span) (k : ℕ) (s : Span) → All (IsWithin (length items)) spans → new ≡ items ++ more → s.start ≡ length items → s.stop ≡ length items + length more
      → All (IsWithin (length new)) (set spans k s)
  spans_put items more new spans k s h e start stop =
      let size : length new ≡ length items + length more = ap (λ (xs : List A). length xs) e ∙ length-append items more in
      All-set (IsWithin (length new)) spans k s (record { ordered = omega arith; within = omega arith })
      (All-weaker (IsWithin (length items)) (IsWithin (length new)) (λ t w. record { ordered = w.ordered; within = (let inside = w.within in omega arith) }) spans h)

pub span_within : (count : ℕ) (spans : List Span) (k : ℕ) (s : Span) → All (IsWithin count) spans → slice_get spans k ≡ Some s → IsWithin count s
span_within count spans k s h found = subst (IsWithin count) (get_or_from_slice_get spans k s s found) (h k s (slice_get_within spans k s found))
