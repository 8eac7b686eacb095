-- The ring of a cell, the draws of the next, and a drawing with one cell more.
use Rattle.std.proofs.Common.{◌≡◌, ◌≢◌, ◌∙◌, refl, sym, ap, subst, arith, ℕ, zero, suc, ◌+◌, ◌*◌, ◌/◌, ◌%◌, ◌^◌, ◌<◌, ◌≤◌, pos, Bool, false, cond, List, [], ◌∷◌, ◌++◌, length, length-append, map}
use Rattle.std.specs.List.{range_with_len}
use Rattle.std.proofs.lemmas.List.FromFn.{map-range_with_len_more}
use Rattle.std.proofs.lemmas.Bool.{false_from_ne_true}
use Rattle.lists.specs.Lists.{last_of}
use Rattle.plane_model.specs.Points.{GridPoint, Path, same_point}
use Rattle.plane_model.specs.Drawing.{Drawing, Polygon}
use Rattle.plane_model.specs.Joined.{IsClosed}
use Rattle.plane_model.proofs.PointOrder.{same_point_from}
use Rattle.grid_base.specs.Drawn.{add_polygon, add_ring, with_last, without_repeats}
use Rattle.snap_round.proofs.LastLemmas.{new_there}
use Rattle.synth_model.specs.Draws.{drawn, draw, state_after}
use Rattle.synth_model.specs.Cells.{cell, cell_ring, point}

-- ---- the ring of a cell

module _ (x y : ℕ) (d : ℕ → ℕ) (ring : Path) (e : ring ≡ cell_ring x y d) where
  pub has_points : ring ≢ []
  has_points none = let h : cell_ring x y d ≡ [] = sym e ∙ none in cc

  pub closes : IsClosed ring
  closes = subst IsClosed (sym e) refl

apart : (p q : GridPoint) → (p ≡ q → ⊥) → same_point p q ≡ false
apart p q differ = false_from_ne_true (same_point p q) (λ e. differ (same_point_from p q e))

aside : (a b c d : ℕ) → (a ≡ b → ⊥) → same_point (point a c) (point b d) ≡ false
aside a b c d differ = apart (point a c) (point b d) (λ e. differ (let h : pos a ≡ pos b = ap (λ (p : GridPoint). p.x) e in cc))

above : (a b c d : ℕ) → (c ≡ d → ⊥) → same_point (point a c) (point b d) ≡ false
above a b c d differ = apart (point a c) (point b d) (λ e. differ (let h : pos c ≡ pos d = ap (λ (p : GridPoint). p.y) e in cc))

kept_first : (p q : GridPoint) (rest : Path) → same_point p q ≡ false → without_repeats (q ∷ rest) ≡ q ∷ rest → without_repeats (p ∷ q ∷ rest) ≡ p ∷ q ∷ rest
kept_first p q rest e h = ap (λ (b : Bool). cond b (without_repeats (q ∷ rest)) (p ∷ without_repeats (q ∷ rest))) e ∙ ap (λ (path : Path). p ∷ path) h

-- small draws leave no two neighbours on one point
pub without_neighbours : (x y : ℕ) (d : ℕ → ℕ) → ((k : ℕ) → d k ≤ 40) → without_repeats (cell_ring x y d) ≡ cell_ring x y d
without_neighbours x y d small =
    let one = small 2 in
    let two = small 5 in
    kept_first (point x y) (point (x + 140 + d 1) (y + d 2)) _ (aside x (x + 140 + d 1) y (y + d 2) (λ e. omega arith))
    (kept_first (point (x + 140 + d 1) (y + d 2)) (point (x + 140 + d 3) (y + 140 + d 4)) _ (above (x + 140 + d 1) (x + 140 + d 3) (y + d 2) (y + 140 + d 4) (λ e. omega arith))
    (kept_first (point (x + 140 + d 3) (y + 140 + d 4)) (point (x + d 5) (y + 140 + d 6)) _ (aside (x + 140 + d 3) (x + d 5) (y + 140 + d 4) (y + 140 + d 6) (λ e. omega arith))
    (kept_first (point (x + d 5) (y + 140 + d 6)) (point x y) _ (above (x + d 5) x (y + 140 + d 6) y (λ e. omega arith)) refl)))

pub small_draw : (state : ℕ) → drawn state ≤ 40
small_draw state = omega arith

-- ---- the draws of a cell

-- draws go on from a state
pub draws_on : (seed m k : ℕ) → state_after (state_after seed m) k ≡ state_after seed (m + k)
draws_on seed m zero = ap (state_after seed) (let e : m ≡ m + zero = omega arith in e)
draws_on seed m (suc k) = ap (λ (s : ℕ). (s * 1103515245 + 12345) % 2 ^ 32) (draws_on seed m k) ∙ ap (state_after seed) (let e : suc (m + k) ≡ m + suc k = omega arith in e)

-- cell number c, by the state that its draws begin with
pub next_cell : (seed n c state x y : ℕ) (ring : Path) → state ≡ state_after seed (6 * c) → x ≡ c / n → y ≡ c % n → ring ≡ cell_ring (100 * x) (100 * y) (λ (k : ℕ). drawn (state_after state k)) →
    (without_repeats ring ∷ []) ∷ [] ≡ cell seed n c
next_cell seed n c state x y ring begun column row is =
    let e : ring ≡ cell_ring (100 * (c / n)) (100 * (c % n)) (λ (k : ℕ). draw seed (6 * c + k)) =
    is ∙ (λ i. cell_ring (100 * column i) (100 * row i) (λ (k : ℕ). drawn ((ap (λ (s : ℕ). state_after s k) begun ∙ draws_on seed (6 * c) k) i))) in
    ap (λ (path : Path). (path ∷ []) ∷ [])
    (ap without_repeats e ∙ without_neighbours (100 * (c / n)) (100 * (c % n)) (λ (k : ℕ). draw seed (6 * c + k)) (λ k. small_draw (state_after seed (6 * c + k))))

-- the first `count` cells
abbrev pub cells_below : ℕ → ℕ → ℕ → Drawing
cells_below seed n count = record { polygons = map (cell seed n) (range_with_len 0 count); lines = []; points = []; boxes = [] }

pub one_more : (seed n c : ℕ) (old new : Drawing) (added : List Polygon) → old ≡ cells_below seed n c → new ≡ record old { polygons = old.polygons ++ added ∷ [] } → added ≡ cell seed n c → new ≡ cells_below seed n (c + 1)
one_more seed n c old new added before is cell_is =
    is
    ∙ (λ i. let d : Drawing = before i in record d { polygons = d.polygons ++ cell_is i ∷ [] })
    ∙ (λ i. record { polygons = sym (map-range_with_len_more (cell seed n) 0 c c (omega arith)) i; lines = []; points = []; boxes = [] })

-- ---- a ring put into a new polygon of a new feature

last_put : {A : Type 0} (f : A → A) (xs : List A) (x : A) → with_last f (xs ++ x ∷ []) ≡ xs ++ f x ∷ []
last_put f [] x = refl
last_put f (y ∷ []) x = refl
last_put {A} f (y ∷ z ∷ rest) x = ap (λ (ys : List A). y ∷ ys) (last_put f (z ∷ rest) x)

-- a new feature is there, and a new polygon in it
pub feature_there : (features : List (List Polygon)) → 0 < length (features ++ [] ∷ [])
feature_there features = let l : List Polygon = [] in omega (arith, length-append features (l ∷ []))

pub polygon_there : (features : List (List Polygon)) → 0 < length (last_of [] (add_polygon (features ++ [] ∷ [])))
polygon_there features = new_there [] (features ++ [] ∷ []) (feature_there features)

-- and the ring in that
pub ring_there : (features : List (List Polygon)) (ring : Path) → add_ring ring (add_polygon (features ++ [] ∷ [])) ≡ features ++ ((without_repeats ring ∷ []) ∷ []) ∷ []
ring_there features ring =
    ap (add_ring ring) (last_put (λ (feature : List Polygon). feature ++ [] ∷ []) features [])
    ∙ last_put (with_last (λ (polygon : Polygon). polygon ++ without_repeats ring ∷ [])) features ([] ∷ [])
