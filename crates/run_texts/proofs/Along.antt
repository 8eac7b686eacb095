-- Points along arcs, arc by arc.
use Rattle.std.proofs.Common.{◌≡◌, ◌-◌, ◌+◌, ℕ, ◌<◌, cond, List, [], ◌∷◌, ◌++◌, length, take, drop, get_or, refl, sym, ap, ◌∙◌, arith, append-nil, append_assoc}
use Rattle.std.specs.Prelude.{reverse, ◌==◌}
use Rattle.std.specs.List.{flat_map}
use Rattle.std.proofs.lemmas.List.{take_more, take_all, reverse-append, length-take-le, flat_map_more}
use Rattle.lists.specs.Lists.{tail}
use Rattle.plane_model.specs.Arcs.{SignedArc, points_of}
use Rattle.plane_model.specs.Points.{GridPoint, Path}
use Rattle.run_texts.specs.Pictures.{points_along, without_shared}

after_some : (before way : Path) → 0 < length before → without_shared before way ≡ tail way
after_some [] way h = absurd (omega (arith, h))
after_some (p ∷ ps) way h = refl

-- one more arc
pub along_more : (table : List Path) (path : List SignedArc) (a : SignedArc) (points : Path) → points ≡ points_along table path → (0 < length path → 0 < length points) → points_along table (path ++ a ∷ []) ≡ points ++ without_shared points (points_of table a)
along_more table [] a points e some =
    append-nil (points_of table a) ∙ ap (λ (ps : Path). ps ++ without_shared ps (points_of table a)) (sym e)
along_more table (b ∷ later) a points e some =
    let later_points = λ (c : SignedArc). tail (points_of table c) in
    ap (λ (ps : Path). points_of table b ++ ps) (sym (flat_map_more later_points [] later a))
    ∙ sym (append_assoc (points_of table b) (flat_map later_points later) (tail (points_of table a)))
    ∙ ap (λ (ps : Path). ps ++ tail (points_of table a)) (sym e)
    ∙ ap (λ (ps : Path). points ++ ps) (sym (after_some points (points_of table a) (some (omega arith))))

dropped : (way : Path) → drop 1 way ≡ tail way
dropped [] = refl
dropped (p ∷ ps) = refl

pub shared_forward : (before way : Path) (s : ℕ) → s ≡ cond (length before == 0) 0 1 → drop s way ≡ without_shared before way
shared_forward [] way s e = ap (λ (n : ℕ). drop n way) e
shared_forward (p ∷ ps) way s e = ap (λ (n : ℕ). drop n way) (let f : s ≡ 1 = grind (arith, e) in f) ∙ dropped way

last_off : (way : Path) (d : GridPoint) → 0 < length way → reverse (take (length way - 1) way) ≡ tail (reverse way)
last_off way d some =
    let n = length way - 1 in
    let last : GridPoint = get_or way n d in
    let whole : take n way ++ last ∷ [] ≡ way = sym (take_more way n d (omega arith)) ∙ take_all (n + 1) way (omega arith) in
    sym (ap tail (ap reverse (sym whole) ∙ reverse-append (take n way) (last ∷ [])))

pub shared_backward : (before way : Path) (d : GridPoint) (s : ℕ) → s ≡ cond (length before == 0) 0 1 → 0 < length way → reverse (take (length way - s) way) ≡ without_shared before (reverse way)
shared_backward [] way d s e some = ap reverse (take_all (length way - s) way (omega (arith, e)))
shared_backward (p ∷ ps) way d s e some = ap (λ (n : ℕ). reverse (take (length way - n) way)) (let f : s ≡ 1 = grind (arith, e) in f) ∙ last_off way d some

-- the arc at a place, after the points of those before it
pub along_next : (table : List Path) (path : List SignedArc) (i : ℕ) (a : SignedArc) (points more : Path) → points ≡ points_along table (take i path) → (0 < i → 0 < length points) → i < length path → a ≡ get_or path i a → more ≡ points ++ without_shared points (points_of table a) → more ≡ points_along table (take (i + 1) path)
along_next table path i a points more along some there is pushed =
    let next : take (i + 1) path ≡ take i path ++ a ∷ [] = take_more path i a there ∙ ap (λ (z : SignedArc). take i path ++ z ∷ []) (sym is) in
    let counted : length (take i path) ≡ i = length-take-le i path (omega arith) in
    pushed ∙ sym (along_more table (take i path) a points along (λ h. some (let k : 0 < i = omega (arith, counted, h) in k))) ∙ ap (points_along table) (sym next)
