-- Loops that append something for each item: what is there, and what is still to come.
use Rattle.std.proofs.Common.{◌≡◌, sym, ap, ◌∙◌, arith, ℕ, ◌+◌, ◌<◌, ◌≤◌, List, [], ◌∷◌, ◌++◌, length, get_or, drop, Some, append_assoc}
use Rattle.std.specs.List.{flat_map, slice_get}
use Rattle.std.proofs.lemmas.List.{at_drop_more, at_drop_all, append-nil}
use Rattle.std.proofs.lemmas.Option.{get_or_from_slice_get, slice_get_within}
use Rattle.plane_model.specs.Points.{GridPoint, Segment, Path}
use Rattle.hot_pixels.specs.Spots.{spots_after, path_spots}

module _ {A B : Type 0} (f : A → List B) where
  pub appends_more : (all out more : List B) (x : A) (xs : List A) (i : ℕ) → i < length xs → x ≡ get_or xs i x → all ≡ out ++ flat_map f (drop i xs) → more ≡ out ++ f x → all ≡ more ++ flat_map f (drop (i + 1) xs)
  appends_more all out more x xs i l e h m =
      h ∙ ap (λ (t : List B). out ++ t) (at_drop_more (flat_map f) xs i x l ∙ ap (λ (y : A). f y ++ flat_map f (drop (i + 1) xs)) (sym e))
      ∙ sym (append_assoc out (f x) (flat_map f (drop (i + 1) xs))) ∙ ap (λ (t : List B). t ++ flat_map f (drop (i + 1) xs)) (sym m)

  pub appends_found : (all out more : List B) (x : A) (xs : List A) (i : ℕ) → slice_get xs i ≡ Some x → all ≡ out ++ flat_map f (drop i xs) → more ≡ out ++ f x → all ≡ more ++ flat_map f (drop (i + 1) xs)
  appends_found all out more x xs i g h m = appends_more all out more x xs i (slice_get_within xs i x g) (sym (get_or_from_slice_get xs i x x g)) h m

  pub appends_all : (all out : List B) (xs : List A) (i : ℕ) → length xs ≤ i → all ≡ out ++ flat_map f (drop i xs) → out ≡ all
  appends_all all out xs i l h = sym (h ∙ ap (λ (t : List B). out ++ t) (at_drop_all (flat_map f) xs i l) ∙ append-nil out)

pub steps_more : (all out more : List Segment) (from p : GridPoint) (xs : Path) (i : ℕ) (s : Segment) → i < length xs → p ≡ get_or xs i p → all ≡ out ++ spots_after from (drop i xs) → more ≡ out ++ s ∷ [] → s ≡ record { start = from; stop = p } → all ≡ more ++ spots_after p (drop (i + 1) xs)
steps_more all out more from p xs i s l e h m k =
    h ∙ ap (λ (t : List Segment). out ++ t) (at_drop_more (spots_after from) xs i p l ∙ ap (λ (y : GridPoint). record { start = from; stop = y } ∷ spots_after y (drop (i + 1) xs)) (sym e))
    ∙ sym (append_assoc out (record { start = from; stop = p } ∷ []) (spots_after p (drop (i + 1) xs)))
    ∙ ap (λ (t : List Segment). t ++ spots_after p (drop (i + 1) xs)) (ap (λ (z : Segment). out ++ z ∷ []) (sym k) ∙ sym m)

pub steps_all : (all out : List Segment) (from : GridPoint) (xs : Path) (i : ℕ) → length xs ≤ i → all ≡ out ++ spots_after from (drop i xs) → out ≡ all
steps_all all out from xs i l h = sym (h ∙ ap (λ (t : List Segment). out ++ t) (at_drop_all (spots_after from) xs i l) ∙ append-nil out)

pub path_begins : (path : Path) (p : GridPoint) → 0 < length path → p ≡ get_or path 0 p → spots_after p path ≡ path_spots path
path_begins [] p l e = absurd (omega arith)
path_begins (q ∷ rest) p l e = ap (λ (r : GridPoint). spots_after r (q ∷ rest)) e
