-- How a ring turns at its least vertex does not depend on where it begins.
use Rattle.std.proofs.Common.{◌≡◌, refl, sym, ap, ◌∙◌, Bool, true, false, cond, List, [], ◌∷◌, ◌++◌}
use Rattle.std.specs.Prelude.{All, if◌then◌else◌}
use Rattle.std.specs.List.Sorted.{IsPermutation}
use Rattle.std.proofs.lemmas.List.{append_assoc}
use Rattle.std.proofs.lemmas.List.Elements.{All-head, All-tail}
use Rattle.plane_snapping.proofs.Steps.{last_of-append}
use Rattle.lists.specs.Lists.{first_or, last_of, least_of}
use Rattle.plane_parity.proofs.Telescope.{same_point-self, same_point-true}
use Rattle.plane_model.specs.Points.{GridPoint, Path, at, turn, same_point, is_before}
use Rattle.plane_model.specs.Arrangement.{IsBefore}
use Rattle.plane_model.specs.Joined.{IsClosed}
use Rattle.plane_model.specs.Rings.{turn_at, turn_at_least}
use Rattle.plane_model.proofs.PointOrder.{before_to}
use Rattle.plane_faces.specs.Rings.{darts_of_path, StartsLeast}

-- a closed path that, begun at another of its points, starts at its least vertex, and turns there as it did
pub record HasLeastStart (run : Path) : Type 0 where
  pub closed : IsClosed run
  pub begun : Path
  pub least : StartsLeast begun
  pub same_darts : IsPermutation (darts_of_path run) (darts_of_path begun)
  pub same_turn : turn_at_least run ≡ turn_at_least begun

module _ (p : GridPoint) where
  abbrev pub Other : GridPoint → Type 0
  Other z = z ≡ p → ⊥

  not_there : (z : GridPoint) → Other z → same_point z p ≡ false
  not_there z n = go (same_point z p) refl
    where
      go : (b : Bool) → same_point z p ≡ b → b ≡ false
      go true e = absurd (n (sym (same_point-true z p e)))
      go false e = refl

  -- the path turns at the first p that is not its first point
  found : (a : GridPoint) (zs : List GridPoint) (n : GridPoint) (rest : List GridPoint) → All Other zs → turn_at p (a ∷ (zs ++ (p ∷ (n ∷ rest)))) ≡ turn (at (last_of a zs)) (at p) (at n)
  found a [] n rest h = ap (λ (b : Bool). cond b (turn (at a) (at p) (at n)) (turn_at p (p ∷ (n ∷ rest)))) (same_point-self p)
  found a (z ∷ []) n rest h =
      ap (λ (b : Bool). cond b (turn (at a) (at z) (at p)) (turn_at p (z ∷ (p ∷ (n ∷ rest))))) (not_there z (All-head Other z [] h))
      ∙ found z [] n rest (All-tail Other z [] h)
  found a (z ∷ (y ∷ zs)) n rest h =
      ap (λ (b : Bool). cond b (turn (at a) (at z) (at y)) (turn_at p (z ∷ (y ∷ (zs ++ (p ∷ (n ∷ rest))))))) (not_there z (All-head Other z (y ∷ zs) h))
      ∙ found z (y ∷ zs) n rest (All-tail Other z (y ∷ zs) h)

  found_before : (c : GridPoint) (xs ys : List GridPoint) (q : GridPoint) → All Other xs → turn_at p (c ∷ (xs ++ (p ∷ (ys ++ (q ∷ []))))) ≡ turn (at (last_of c xs)) (at p) (at (first_or q ys))
  found_before c xs [] q h = found c xs q [] h
  found_before c xs (y ∷ ys) q h = found c xs y (ys ++ (q ∷ [])) h

  lesser : (m x : GridPoint) → m ≡ p → IsBefore p x → (if is_before m x then m else x) ≡ p
  lesser m x e h = ap (λ (n : GridPoint). if is_before n x then n else x) e ∙ ap (λ (b : Bool). if b then p else x) (before_to p x h)

  least_last : (d : GridPoint) (zs : List GridPoint) → All (IsBefore p) zs → least_of is_before d (zs ++ (p ∷ [])) ≡ p
  least_last d [] h = refl
  least_last d (z ∷ []) h = lesser p z refl (All-head (IsBefore p) z [] h)
  least_last d (z ∷ (y ∷ zs)) h = lesser (least_of is_before d ((y ∷ zs) ++ (p ∷ []))) z (least_last d (y ∷ zs) (All-tail (IsBefore p) z (y ∷ zs) h)) (All-head (IsBefore p) z (y ∷ zs) h)

first_there : (a b p : GridPoint) (xs : List GridPoint) → first_or a (xs ++ (p ∷ [])) ≡ first_or b (xs ++ (p ∷ []))
first_there a b p [] = refl
first_there a b p (x ∷ xs) = refl

first_round : (p q : GridPoint) (run xs ys : List GridPoint) → q ∷ run ≡ xs ++ (p ∷ ys) → first_or p ((ys ++ xs) ++ (p ∷ [])) ≡ first_or q ys
first_round p q run xs [] e = first_there p q p xs ∙ sym (ap (first_or q) e)
first_round p q run xs (y ∷ ys) e = refl

-- begun at c, and begun at its least vertex p
pub turn_begun_at : (c q p : GridPoint) (run xs ys : List GridPoint) → q ∷ run ≡ xs ++ (p ∷ ys) → last_of p ys ≡ c → least_of is_before c (q ∷ run) ≡ p
    → All (Other p) xs → All (Other p) (ys ++ xs) → All (IsBefore p) (ys ++ xs) → turn_at_least (c ∷ (q ∷ run)) ≡ turn_at_least (p ∷ ((ys ++ xs) ++ (p ∷ [])))
turn_begun_at c q p run xs ys e closed least before others after =
    ap (λ (m : GridPoint). turn_at m (c ∷ ((q ∷ run) ++ (q ∷ [])))) least
    ∙ ap (λ (ps : List GridPoint). turn_at p (c ∷ (ps ++ (q ∷ [])))) e
    ∙ ap (λ (ps : List GridPoint). turn_at p (c ∷ ps)) (append_assoc xs (p ∷ ys) (q ∷ []))
    ∙ found_before p c xs ys q before
    ∙ ap (λ (a : GridPoint). turn (at a) (at p) (at (first_or q ys))) (ap (λ (z : GridPoint). last_of z xs) (sym closed) ∙ sym (last_of-append p ys xs))
    ∙ ap (λ (n : GridPoint). turn (at (last_of p (ys ++ xs))) (at p) (at n)) (sym (first_round p q run xs ys e))
    ∙ sym (found p p (ys ++ xs) (first_or p ((ys ++ xs) ++ (p ∷ []))) [] others)
    ∙ sym (ap (λ (ps : List GridPoint). turn_at p (p ∷ ps)) (append_assoc (ys ++ xs) (p ∷ []) (first_or p ((ys ++ xs) ++ (p ∷ [])) ∷ [])))
    ∙ sym (ap (λ (m : GridPoint). turn_at m (p ∷ (((ys ++ xs) ++ (p ∷ [])) ++ (first_or p ((ys ++ xs) ++ (p ∷ [])) ∷ [])))) (least_last p p (ys ++ xs) after))
