-- The rings of a part: exactly one turns left and holds the part, the others turn right and are its holes.
use Rattle.std.proofs.Common.{int_lt, pos, ◌≡◌, ℕ, refl, sym, ap, subst, ◌∙◌, Bool, true, false, List, [], ◌∷◌, ◌++◌, ◌⊎◌, inl, inr, map}
use Rattle.std.specs.Prelude.{All, Contains, ◌<ℤ◌}
use Rattle.std.specs.List.Sorted.{IsPermutation}
use Rattle.std.proofs.lemmas.List.Elements.{All-head, All-tail, All-cons, All-nil, All-append, All-weaker, All-contains, All-contains_itself}
use Rattle.std.proofs.lemmas.List.Sorted.{All-permutation, IsPermutation-sym, IsPermutation-map}
use Rattle.std.proofs.Math.IntN.{ℤ}
use Rattle.lists.proofs.Members.{Contains-head, Contains-later}
use Rattle.plane_model.specs.Sees.{midpoint}
use Rattle.plane_model.specs.Sides.{counts_on_left}
use Rattle.plane_model.specs.Drawing.{steps}
use Rattle.plane_faces.proofs.BorderRings.{link_of}
use Rattle.plane_faces.proofs.Turns.{HasLeastStart}
use Rattle.plane_model.specs.Rings.{turn_at_least}
use Rattle.plane_algebra.proofs.Tests.{lt_from, lt_to}
use Rattle.plane_parity.proofs.ClosedRun.{closed_run_even}
use Rattle.plane_parity.proofs.Boundary.{filter_distinct}
use Rattle.plane_model.specs.Points.{RationalPoint, GridPoint, Segment, Path}
use Rattle.plane_model.specs.Parity.{xor, odd, is_below}
use Rattle.plane_model.specs.Arrangement.{IsArrangement, IsDistinct}
use Rattle.plane_model.specs.Joined.{IsClosed}
use Rattle.plane_model.specs.Rotation.{odd_left_of}
use Rattle.plane_faces.specs.Rings.{links_of_path, ring_by, darts_of_path, StartsLeast, turns_left, IsPolygon}
use Rattle.plane_faces.proofs.Runs.{links_of_runs, dart_between, darts_from, darts_of_runs, passes, turn_by_ends, all_links}
use Rattle.plane_faces.specs.Places.{Place, outside, left_of, left_side, right_side, IsBeside, border, odd_at, IsLowest}
use Rattle.plane_faces.specs.Labels.{IsFaceLabelling, among, IsPartLabelling, in_part}
use Rattle.plane_faces.proofs.Lists.{all_left, all_right, odd_count-permutation}
use Rattle.plane_faces.proofs.Connected.{HasRotations, border_at}
use Rattle.plane_faces.proofs.Parts.{border_in}
use Rattle.plane_faces.proofs.Corner.{lowest_exists}
use Rattle.plane_faces.proofs.Nesting.{counted_at_part, held_by_rings, held_agrees, held_none, run_within}
use Rattle.plane_faces.proofs.Exterior.{OnePasses, one_passes}
use Rattle.plane_faces.proofs.Orientation.{last_is, oriented_at, turns}

last_dart : (r : GridPoint) (ps : List GridPoint) (q p : GridPoint) → Contains (darts_from r (ps ++ (q ∷ (p ∷ [])))) (dart_between q p)
last_dart r [] q p = Contains-later (dart_between r q) (dart_between q p ∷ []) (dart_between q p) (Contains-head (dart_between q p) [])
last_dart r (s ∷ ps) q p = Contains-later (dart_between r s) (darts_from s (ps ++ (q ∷ (p ∷ [])))) (dart_between q p) (last_dart s ps q p)

pub starts_closed : (run : List GridPoint) → StartsLeast run → IsClosed run
starts_closed run s = subst IsClosed (sym s.is) (last_is s.least s.last s.last_after s.next s.others)

module _ (S : List Segment) (arr : IsArrangement S) (label : Place → ℕ) (faces : IsFaceLabelling S label) (F : ℕ → Bool) (part : ℕ → ℕ) (parts : IsPartLabelling S label F part) (n : ℕ) where
  abbrev held : Place → Bool
  held = among label (in_part F part n)

  abbrev B : List Segment
  B = border held S

  -- a ring with the part on its left is odd on the part just if it turns left at its least vertex
  pub turned_at : (run : List GridPoint) → StartsLeast run → All (Contains B) (links_of_path run) → All (λ d. held (left_of d) ≡ true) (darts_of_path run)
      → (b : Place) → IsBeside S b → held b ≡ true → odd_at (links_of_path run) b ≡ turns_left run
  turned_at run s within left b hb e =
      subst (λ (r : List GridPoint). odd_at (links_of_path r) b ≡ turns_left r) (sym s.is)
      (oriented_at S arr label faces F part parts n s.least s.next s.others s.last s.next_after s.others_after s.last_after
      (subst (λ (r : List GridPoint). All (Contains B) (links_of_path r)) s.is within)
      (All-head (λ d. held (left_of d) ≡ true) (dart_between s.least s.next) (darts_from s.next (s.others ++ (s.last ∷ (s.least ∷ [])))) left')
      (All-contains (λ d. held (left_of d) ≡ true) (darts_from s.next (s.others ++ (s.last ∷ (s.least ∷ [])))) (dart_between s.last s.least)
      (All-tail (λ d. held (left_of d) ≡ true) (dart_between s.least s.next) (darts_from s.next (s.others ++ (s.last ∷ (s.least ∷ [])))) left') (last_dart s.next s.others s.last s.least))
      b hb e
      ∙ sym (ap (int_lt (pos 0)) (turn_by_ends s.least s.next s.last s.next_after s.last_after s.others s.others_after)))
    where
      left' : All (λ d. held (left_of d) ≡ true) (darts_of_path (ring_by s.least s.next s.others s.last))
      left' = subst (λ (r : List GridPoint). All (λ d. held (left_of d) ≡ true) (darts_of_path r)) s.is left

  -- it turns one way or the other there
  turns_there : (run : List GridPoint) → StartsLeast run → All (Contains B) (links_of_path run) → All (λ d. held (left_of d) ≡ true) (darts_of_path run) → (pos 0 <ℤ turn_at_least run) ⊎ (turn_at_least run <ℤ pos 0)
  turns_there run s within left =
      subst (λ (t : ℤ). (pos 0 <ℤ t) ⊎ (t <ℤ pos 0)) (sym (ap turn_at_least s.is ∙ turn_by_ends s.least s.next s.last s.next_after s.last_after s.others s.others_after))
      (turns S arr label faces F part parts n s.least s.next s.others s.last s.next_after s.others_after s.last_after
      (subst (λ (r : List GridPoint). All (Contains B) (links_of_path r)) s.is within)
      (All-head (λ d. held (left_of d) ≡ true) (dart_between s.least s.next) (darts_from s.next (s.others ++ (s.last ∷ (s.least ∷ [])))) left')
      (All-contains (λ d. held (left_of d) ≡ true) (darts_from s.next (s.others ++ (s.last ∷ (s.least ∷ [])))) (dart_between s.last s.least)
      (All-tail (λ d. held (left_of d) ≡ true) (dart_between s.least s.next) (darts_from s.next (s.others ++ (s.last ∷ (s.least ∷ [])))) left') (last_dart s.next s.others s.last s.least)))
    where
      left' : All (λ d. held (left_of d) ≡ true) (darts_of_path (ring_by s.least s.next s.others s.last))
      left' = subst (λ (r : List GridPoint). All (λ d. held (left_of d) ≡ true) (darts_of_path r)) s.is left

  -- ---- the same for a ring that may begin elsewhere

  links_begun : (run : Path) (s : HasLeastStart run) → IsPermutation (links_of_path run) (links_of_path s.begun)
  links_begun run s =
      subst (IsPermutation (links_of_path run)) (all_links (steps s.begun))
      (subst (λ (ls : List Segment). IsPermutation ls (map link_of (darts_of_path s.begun))) (all_links (steps run)) (IsPermutation-map link_of (darts_of_path run) (darts_of_path s.begun) s.same_darts))

  odd_at-permutation : (L M : List Segment) → IsPermutation L M → (b : Place) → odd_at L b ≡ odd_at M b
  odd_at-permutation L M h outside = refl
  odd_at-permutation L M h (left_of d) = go d.link d.forward
    where
      go : (l : Segment) (forward : Bool) → odd_left_of L (record { link = l; forward = forward }) ≡ odd_left_of M (record { link = l; forward = forward })
      go l true = odd_count-permutation (counts_on_left l) L M h
      go l false = odd_count-permutation (is_below (midpoint l)) L M h

  module _ (run : Path) (s : HasLeastStart run) (within : All (Contains B) (links_of_path run)) (left : All (λ d. held (left_of d) ≡ true) (darts_of_path run)) where
    within_begun : All (Contains B) (links_of_path s.begun)
    within_begun = All-permutation (Contains B) (links_of_path run) (links_of_path s.begun) (links_begun run s) within

    left_begun : All (λ d. held (left_of d) ≡ true) (darts_of_path s.begun)
    left_begun = All-permutation (λ d. held (left_of d) ≡ true) (darts_of_path run) (darts_of_path s.begun) s.same_darts left

    pub turned_anywhere : (b : Place) → IsBeside S b → held b ≡ true → odd_at (links_of_path run) b ≡ turns_left run
    turned_anywhere b hb e =
        odd_at-permutation (links_of_path run) (links_of_path s.begun) (links_begun run s) b
        ∙ turned_at s.begun s.least within_begun left_begun b hb e
        ∙ ap (int_lt (pos 0)) (sym s.same_turn)

    pub turns_anywhere : (pos 0 <ℤ turn_at_least run) ⊎ (turn_at_least run <ℤ pos 0)
    turns_anywhere = subst (λ (t : ℤ). (pos 0 <ℤ t) ⊎ (t <ℤ pos 0)) (sym s.same_turn) (turns_there s.begun s.least within_begun left_begun)

module _ (S : List Segment) (arr : IsArrangement S) (distinct : IsDistinct S) (rotations : HasRotations S) (label : Place → ℕ) (faces : IsFaceLabelling S label)
    (F : ℕ → Bool) (none : F (label outside) ≡ false) (part : ℕ → ℕ) (parts : IsPartLabelling S label F part) (n : ℕ) where
  abbrev part_of : Place → Bool
  part_of = among label (in_part F part n)

  abbrev border_of : List Segment
  border_of = border part_of S

  module _ (runs : List Path) (starts : All HasLeastStart runs) (left : All (λ d. part_of (left_of d) ≡ true) (darts_of_runs runs)) (tracing : IsPermutation (links_of_runs runs) border_of)
      (b : Place) (hb : IsBeside S b) (some' : part_of b ≡ true) where
    closed : All IsClosed runs
    closed = All-weaker HasLeastStart IsClosed (λ run s. s.closed) runs starts

    module _ (a : Segment) (ca : Contains border_of a) (lowest : IsLowest border_of a) where
      abbrev Same : List GridPoint → Type 0
      Same run = passes a run ≡ turns_left run

      same_of : (rs : List Path) → All HasLeastStart rs → All (λ run. All (Contains border_of) (links_of_path run)) rs → All (λ d. part_of (left_of d) ≡ true) (darts_of_runs rs) → All Same rs
      same_of [] s w l = All-nil Same
      same_of (run ∷ rs) s w l =
          All-cons Same run rs
          (sym (counted_at_part S arr distinct rotations label faces F none part parts n a ca lowest (links_of_path run) (All-head (λ r. All (Contains border_of) (links_of_path r)) run rs w) (closed_run_even run ((All-head HasLeastStart run rs s).closed)) b hb some')
          ∙ turned_anywhere S arr label faces F part parts n run (All-head HasLeastStart run rs s) (All-head (λ r. All (Contains border_of) (links_of_path r)) run rs w) (all_left (λ d. part_of (left_of d) ≡ true) (darts_of_path run) (darts_of_runs rs) l) b hb some')
          (same_of rs (All-tail HasLeastStart run rs s) (All-tail (λ r. All (Contains border_of) (links_of_path r)) run rs w) (all_right (λ d. part_of (left_of d) ≡ true) (darts_of_path run) (darts_of_runs rs) l))

      same : All Same runs
      same = same_of runs starts
          (run_within S arr distinct rotations label faces F none part parts n a ca lowest runs (All-permutation (Contains border_of) border_of (links_of_runs runs) (IsPermutation-sym (links_of_runs runs) border_of tracing) (All-contains_itself border_of))) left

      abbrev Turns : List GridPoint → Type 0
      Turns run = (pos 0 <ℤ turn_at_least run) ⊎ (turn_at_least run <ℤ pos 0)

      turns_of : (rs : List Path) → All HasLeastStart rs → All (λ run. All (Contains border_of) (links_of_path run)) rs → All (λ d. part_of (left_of d) ≡ true) (darts_of_runs rs) → All Turns rs
      turns_of [] s w l = All-nil Turns
      turns_of (run ∷ rs) s w l =
          All-cons Turns run rs
          (turns_anywhere S arr label faces F part parts n run (All-head HasLeastStart run rs s) (All-head (λ r. All (Contains border_of) (links_of_path r)) run rs w) (all_left (λ d. part_of (left_of d) ≡ true) (darts_of_path run) (darts_of_runs rs) l))
          (turns_of rs (All-tail HasLeastStart run rs s) (All-tail (λ r. All (Contains border_of) (links_of_path r)) run rs w) (all_right (λ d. part_of (left_of d) ≡ true) (darts_of_path run) (darts_of_runs rs) l))

      within' : All (λ run. All (Contains border_of) (links_of_path run)) runs
      within' = run_within S arr distinct rotations label faces F none part parts n a ca lowest runs (All-permutation (Contains border_of) border_of (links_of_runs runs) (IsPermutation-sym (links_of_runs runs) border_of tracing) (All-contains_itself border_of))

      turned_right : (t : ℤ) → (pos 0 <ℤ t) ⊎ (t <ℤ pos 0) → int_lt (pos 0) t ≡ false → t <ℤ pos 0
      turned_right t (inl h) e = let f : true ≡ false = sym (lt_to (pos 0) t h) ∙ e in absurd (cc)
      turned_right t (inr h) e = h

      from_one : OnePasses a runs → IsPolygon S part_of runs
      from_one o = record {
        before = o.0;
        exterior = o.1;
        after = o.2;
        are = o.3;
        exterior_turns_left = lt_from (pos 0) (turn_at_least o.1) (sym (All-head Same o.1 o.2 (all_right Same o.0 (o.1 ∷ o.2) there)) ∙ o.4);
        holes_turn_right = All-weaker (Contains (o.0 ++ o.2)) (λ r. turn_at_least r <ℤ pos 0)
            (λ r c. turned_right (turn_at_least r) (All-contains Turns (o.0 ++ o.2) r turning c) (sym (All-contains Same (o.0 ++ o.2) r others c) ∙ All-contains (λ q. passes a q ≡ false) (o.0 ++ o.2) r o.5 c)) (o.0 ++ o.2) (All-contains_itself (o.0 ++ o.2));
        inside = λ z c h e.
            let g : All (Agrees z) (o.0 ++ (o.1 ∷ o.2)) = subst (All (Agrees z)) o.3 ((held_by_rings S arr distinct rotations label faces F none part parts n a ca lowest runs closed tracing z c h).0 e) in (
              All-head (Agrees z) o.1 o.2 (all_right (Agrees z) o.0 (o.1 ∷ o.2) g) ∙ o.4,
              All-weaker (Contains (o.0 ++ o.2)) (λ r. odd (links_of_path r) z ≡ false)
                  (λ r i. All-contains (Agrees z) (o.0 ++ o.2) r (All-append (Agrees z) o.0 o.2 (all_left (Agrees z) o.0 (o.1 ∷ o.2) g) (All-tail (Agrees z) o.1 o.2 (all_right (Agrees z) o.0 (o.1 ∷ o.2) g))) i ∙ All-contains (λ q. passes a q ≡ false) (o.0 ++ o.2) r o.5 i)
                  (o.0 ++ o.2) (All-contains_itself (o.0 ++ o.2)),
            );
        held = λ z c h x y.
            let none' : All (Agrees z) (o.0 ++ o.2) = All-weaker (Contains (o.0 ++ o.2)) (Agrees z) (λ r i. All-contains (λ q. odd (links_of_path q) z ≡ false) (o.0 ++ o.2) r y i ∙ sym (All-contains (λ q. passes a q ≡ false) (o.0 ++ o.2) r o.5 i)) (o.0 ++ o.2) (All-contains_itself (o.0 ++ o.2)) in
            (held_by_rings S arr distinct rotations label faces F none part parts n a ca lowest runs closed tracing z c h).1
            (subst (All (Agrees z)) (sym o.3) (All-append (Agrees z) o.0 (o.1 ∷ o.2) (all_left (Agrees z) o.0 o.2 none') (All-cons (Agrees z) o.1 o.2 (x ∙ sym o.4) (all_right (Agrees z) o.0 o.2 none'))));
      }
        where
          Agrees : RationalPoint → List GridPoint → Type 0
          Agrees z run = odd (links_of_path run) z ≡ passes a run

          there : All Same (o.0 ++ (o.1 ∷ o.2))
          there = subst (All Same) o.3 same

          turning : All Turns (o.0 ++ o.2)
          turning =
              let all : All Turns (o.0 ++ (o.1 ∷ o.2)) = subst (All Turns) o.3 (turns_of runs starts within' left) in
              All-append Turns o.0 o.2 (all_left Turns o.0 (o.1 ∷ o.2) all) (All-tail Turns o.1 o.2 (all_right Turns o.0 (o.1 ∷ o.2) all))

          others : All Same (o.0 ++ o.2)
          others = All-append Same o.0 o.2 (all_left Same o.0 (o.1 ∷ o.2) there) (All-tail Same o.1 o.2 (all_right Same o.0 (o.1 ∷ o.2) there))

    pub polygon : IsPolygon S part_of runs
    polygon = go border_of refl
      where
        nothing_odd : (b : Place) → odd_at [] b ≡ false
        nothing_odd outside = refl
        nothing_odd (left_of d) = by d.link d.forward
          where
            by : (l : Segment) (f : Bool) → odd_left_of [] (record { link = l; forward = f }) ≡ false
            by l true = refl
            by l false = refl

        go : (xs : List Segment) → border_of ≡ xs → IsPolygon S part_of runs
        go [] e =
            let f : true ≡ false =
            sym some' ∙ sym (border_at S arr distinct rotations part_of (held_agrees S arr distinct rotations label faces F none part parts n) (held_none S arr distinct rotations label faces F none part parts n) b hb)
            ∙ ap (λ (L : List Segment). odd_at L b) e ∙ nothing_odd b in
            absurd (cc)
        go (x ∷ xs) e =
            let t : (a : Segment) × Contains (x ∷ xs) a × IsLowest (x ∷ xs) a = lowest_exists S arr x xs (subst (All (Contains S)) e (border_in S part_of)) in
            let ca : Contains border_of t.0 = subst (λ (L : List Segment). Contains L t.0) (sym e) t.1 in
            from_one t.0 ca (subst (λ (L : List Segment). IsLowest L t.0) (sym e) t.2)
            (one_passes t.0 border_of (filter_distinct (λ l. xor (part_of (left_side l)) (part_of (right_side l))) S distinct) ca runs tracing)
