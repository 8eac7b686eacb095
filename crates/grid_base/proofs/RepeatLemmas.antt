-- A path whose equal neighbours count once: it begins and ends as before, and has no equal neighbours.
use Rattle.std.proofs.Common.{◌≡◌, ◌≢◌, refl, sym, ap, ◌∙◌, Bool, true, false, cond, ℤ, [], ◌∷◌}
use Rattle.std.specs.List.{dedup, dedup_from}
use Rattle.std.specs.Ordering.{int_eq}
use Rattle.std.proofs.lemmas.Bool.Decides.{Decides-int_eq, same_from_decides}
use Rattle.lists.specs.Lists.{last_of}
use Rattle.plane_model.specs.Points.{GridPoint, Path, same_int, same_point}
use Rattle.plane_model.specs.Joined.{IsClosed}
use Rattle.plane_model.proofs.PointOrder.{same_int_from, same_int_to, same_point_from, same_point_to, clash}
use Rattle.grid_base.specs.Drawn.{without_repeats, IsPath, IsRing}

pub drop_first : (x : GridPoint) (xs : Path) → (zs : Path) × (without_repeats (x ∷ xs) ≡ x ∷ zs)
drop_first x [] = ([], refl)
drop_first x (y ∷ rest) = go (same_point x y) refl (drop_first y rest)
  where
    go : (b : Bool) → same_point x y ≡ b → ((zs : Path) × (without_repeats (y ∷ rest) ≡ y ∷ zs))
        → (zs : Path) × (cond b (without_repeats (y ∷ rest)) (x ∷ without_repeats (y ∷ rest)) ≡ x ∷ zs)
    go true e h = (h.0, h.1 ∙ ap (λ (p : GridPoint). p ∷ h.0) (sym (same_point_from x y e)))
    go false e h = (without_repeats (y ∷ rest), refl)

pub drop_last : (d x : GridPoint) (xs : Path) → last_of d (without_repeats (x ∷ xs)) ≡ last_of x xs
drop_last d x [] = refl
drop_last d x (y ∷ rest) = go (same_point x y) (drop_last d y rest) (drop_last x y rest)
  where
    go : (b : Bool) → last_of d (without_repeats (y ∷ rest)) ≡ last_of y rest → last_of x (without_repeats (y ∷ rest)) ≡ last_of y rest
        → last_of d (cond b (without_repeats (y ∷ rest)) (x ∷ without_repeats (y ∷ rest))) ≡ last_of y rest
    go true h k = h
    go false h k = k

-- a point before a path that begins with another stays
drop_other : (x y : GridPoint) (zs : Path) → same_point x y ≡ false → without_repeats (y ∷ zs) ≡ y ∷ zs → without_repeats (x ∷ y ∷ zs) ≡ x ∷ y ∷ zs
drop_other x y zs e h = ap (λ (b : Bool). cond b (without_repeats (y ∷ zs)) (x ∷ without_repeats (y ∷ zs))) e ∙ ap (λ (ws : Path). x ∷ ws) h

-- nothing more is left out
pub drop_again : (path : Path) → without_repeats (without_repeats path) ≡ without_repeats path
drop_again [] = refl
drop_again (x ∷ []) = refl
drop_again (x ∷ y ∷ rest) = go (same_point x y) refl (drop_first y rest) (drop_again (y ∷ rest))
  where
    go : (b : Bool) → same_point x y ≡ b → ((zs : Path) × (without_repeats (y ∷ rest) ≡ y ∷ zs)) → without_repeats (without_repeats (y ∷ rest)) ≡ without_repeats (y ∷ rest)
        → without_repeats (cond b (without_repeats (y ∷ rest)) (x ∷ without_repeats (y ∷ rest))) ≡ cond b (without_repeats (y ∷ rest)) (x ∷ without_repeats (y ∷ rest))
    go true e f h = h
    go false e f h =
        let again : without_repeats (y ∷ f.0) ≡ y ∷ f.0 = sym (ap without_repeats f.1) ∙ h ∙ f.1 in
        ap (λ (ws : Path). without_repeats (x ∷ ws)) f.1 ∙ drop_other x y f.0 e again ∙ sym (ap (λ (ws : Path). x ∷ ws) f.1)

-- what is added to a drawing is a path, and a closed one a ring
pub is_path : (path : Path) → path ≢ [] → IsPath (without_repeats path)
is_path [] some = absurd (some refl)
is_path (x ∷ xs) some = record {
  not_empty = λ e. let f : x ∷ (drop_first x xs).0 ≡ [] = sym (drop_first x xs).1 ∙ e in cc;
  no_repeats = drop_again (x ∷ xs);
}

pub is_ring : (path : Path) → path ≢ [] → IsClosed path → IsRing (without_repeats path)
is_ring [] some closed = absurd (some refl)
is_ring (x ∷ xs) some closed = record { is_path = is_path (x ∷ xs) some; closed = ends (without_repeats (x ∷ xs)) (drop_first x xs) (drop_last x x xs ∙ closed) }
  where
    ends : (ws : Path) → ((zs : Path) × (ws ≡ x ∷ zs)) → last_of x ws ≡ x → IsClosed ws
    ends [] f l = tt
    ends (w ∷ ws) f l =
        let h : w ∷ ws ≡ x ∷ f.0 = f.1 in
        let first : w ≡ x = cc in
        l ∙ sym first

-- the last of each run of equal points in place of the first
pub first_of_each_run : (same : GridPoint → GridPoint → Bool) → ((x y : GridPoint) → same x y ≡ same_point x y) → (path : Path) → dedup same path ≡ without_repeats path
first_of_each_run same agree [] = refl
first_of_each_run same agree (x ∷ xs) = runs x xs
  where
    runs : (k : GridPoint) (ys : Path) → dedup_from same k ys ≡ without_repeats (k ∷ ys)
    runs k [] = refl
    runs k (y ∷ ys) = go (same_point k y) refl (same y k) refl (runs k ys) (runs y ys)
      where
        go : (b : Bool) → same_point k y ≡ b → (c : Bool) → same y k ≡ c → dedup_from same k ys ≡ without_repeats (k ∷ ys) → dedup_from same y ys ≡ without_repeats (y ∷ ys)
            → cond c (dedup_from same k ys) (k ∷ dedup_from same y ys) ≡ cond b (without_repeats (y ∷ ys)) (k ∷ without_repeats (y ∷ ys))
        go true e true f h g = h ∙ ap (λ (p : GridPoint). without_repeats (p ∷ ys)) (same_point_from k y e)
        go false e false f h g = ap (λ (ws : Path). k ∷ ws) g
        go true e false f h g = clash (same_point y k) (same_point_to y k (sym (same_point_from k y e))) (sym (agree y k) ∙ f)
        go false e true f h g = clash (same_point k y) (same_point_to k y (sym (same_point_from y k (sym (agree y k) ∙ f)))) e

-- std's test of equal whole numbers is the plane's
pub int_eq_is : (a b : ℤ) → int_eq a b ≡ same_int a b
int_eq_is a b = same_from_decides (int_eq a b) (same_int a b) (Decides-int_eq a b) (same_int_from a b, same_int_to a b)
