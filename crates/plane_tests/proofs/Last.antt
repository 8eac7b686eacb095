-- What stands last in a drawing to which something was just added.
use Rattle.std.proofs.Common.{◌≡◌, ◌<◌, List, [], ◌∷◌, ◌++◌, length, refl, ap, arith}
use Rattle.lists.specs.Lists.{last_of}
use Rattle.plane_model.specs.Drawing.{Polygon}
use Rattle.plane_model.specs.Points.{Path}
use Rattle.grid_base.specs.Drawn.{with_last, add_polygon, add_ring, without_repeats}

done_to_last : {A : Type 0} (f : A → A) (xs : List A) (x : A) → with_last f (xs ++ x ∷ []) ≡ xs ++ f x ∷ []
done_to_last f [] x = refl
done_to_last f (y ∷ []) x = refl
done_to_last f (y ∷ z ∷ xs) x = ap (λ (rest : List _). y ∷ rest) (done_to_last f (z ∷ xs) x)

stands_last : {A : Type 0} (d : A) (xs : List A) (x : A) → last_of d (xs ++ x ∷ []) ≡ x
stands_last d [] x = refl
stands_last d (y ∷ xs) x = stands_last y xs x

-- a feature of one polygon
pub polygon_added : (features : List (List Polygon)) → 0 < length (last_of [] (add_polygon (features ++ [] ∷ [])))
polygon_added features =
    rw (done_to_last (λ (feature : List Polygon). feature ++ [] ∷ []) features [])
    (rw (stands_last [] features ([] ∷ [])) (omega arith))

last_done : {A : Type 0} (f : A → A) (d : A) (x : A) (xs : List A) → last_of d (with_last f (x ∷ xs)) ≡ f (last_of d (x ∷ xs))
last_done f d x [] = refl
last_done f d x (y ∷ xs) = last_done f x y xs

as_long : {A : Type 0} (f : A → A) (xs : List A) → length (with_last f xs) ≡ length xs
as_long f [] = refl
as_long f (x ∷ []) = refl
as_long f (x ∷ y ∷ xs) = let e = as_long f (y ∷ xs) in omega arith

-- a ring more doesn't take the polygon away
pub polygon_kept : (ring : Path) (features : List (List Polygon)) → 0 < length (last_of [] features) → 0 < length (last_of [] (add_ring ring features))
polygon_kept ring [] l = l
polygon_kept ring (f ∷ fs) l =
    let more : Polygon → Polygon = λ (polygon : Polygon). polygon ++ without_repeats ring ∷ [] in
    let e = as_long more (last_of [] (f ∷ fs)) in
    rw (last_done (with_last more) [] f fs) (omega arith)
