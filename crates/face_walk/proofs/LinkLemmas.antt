-- The links of arcs, step by step and arc by arc.
use Rattle.std.proofs.Common.{◌≡◌, refl, sym, ap, ◌∙◌, subst, arith, ℕ, zero, suc, ◌+◌, ◌-◌, ◌<◌, List, [], ◌∷◌, ◌++◌, length, get_or, take, append-nil, Option, Some, None}
use Rattle.std.specs.List.{filter_map, cons_option}
use Rattle.std.specs.Option.{option_to_list}
use Rattle.std.proofs.lemmas.List.{take_more}
use Rattle.std.specs.Prelude.{All, IfSome}
use Rattle.std.proofs.lemmas.List.Elements.{All-append, All-cons, All-nil, filter_map-append}
use Rattle.plane_model.specs.Points.{GridPoint, Segment, Path}
use Rattle.plane_model.specs.Drawing.{steps, step_of}
use Rattle.face_walk.specs.Rays.{link_at, links_along}
use Rattle.link_search.specs.declared.links.ArcLink.{ArcLink}

-- one step more
steps_more : (path : Path) (p q : GridPoint) → steps ((path ++ p ∷ []) ++ q ∷ []) ≡ steps (path ++ p ∷ []) ++ record { start = p; stop = q } ∷ []
steps_more [] p q = refl
steps_more (a ∷ []) p q = refl
steps_more (a ∷ b ∷ rest) p q = ap (λ (xs : List Segment). step_of (a, b) ∷ xs) (steps_more (b ∷ rest) p q)

-- as far as a place of the path
steps_taken : (path : Path) (i : ℕ) (d : GridPoint) → 0 < i → i < length path → steps (take (i + 1) path) ≡ steps (take i path) ++ record { start = get_or path (i - 1) d; stop = get_or path i d } ∷ []
steps_taken path zero d some l = absurd (omega arith)
steps_taken path (suc i) d some l =
    subst (λ (k : ℕ). steps (take (suc i + 1) path) ≡ steps (take (suc i) path) ++ record { start = get_or path k d; stop = get_or path (suc i) d } ∷ []) (let e : i ≡ suc i - 1 = omega arith in e)
    (ap steps (take_more path (suc i) d l) ∙ ap (λ (xs : Path). steps (xs ++ get_or path (suc i) d ∷ [])) one ∙ steps_more (take i path) (get_or path i d) (get_or path (suc i) d)
    ∙ sym (ap (λ (xs : Path). steps xs ++ record { start = get_or path i d; stop = get_or path (suc i) d } ∷ []) one))
  where
    one : take (suc i) path ≡ take i path ++ get_or path i d ∷ []
    one = subst (λ (k : ℕ). take k path ≡ take i path ++ get_or path i d ∷ []) (let e : i + 1 ≡ suc i = omega arith in e) (take_more path i d (omega arith))

-- the link of the next step is appended
pub links_taken : (n : ℕ) (path : Path) (i : ℕ) (d : GridPoint) → 0 < i → i < length path →
    links_along n (take (i + 1) path) ≡ links_along n (take i path) ++ option_to_list (link_at n (record { start = get_or path (i - 1) d; stop = get_or path i d }))
links_taken n path i d some l =
    let s : Segment = record { start = get_or path (i - 1) d; stop = get_or path i d } in
    ap (filter_map (link_at n)) (steps_taken path i d some l) ∙ filter_map-append (link_at n) (steps (take i path)) (s ∷ []) ∙ ap (λ (xs : List ArcLink). links_along n (take i path) ++ xs) (one (link_at n s))
  where
    one : (o : Option ArcLink) → cons_option o [] ≡ option_to_list o
    one None = refl
    one (Some l) = refl

-- a path of one point at most has no link
pub no_links : (n : ℕ) (path : Path) → links_along n (take 1 path) ≡ []
no_links n [] = refl
no_links n (p ∷ rest) = refl

pub all_with : (P : ArcLink → Type 0) (xs : List ArcLink) (o : Option ArcLink) → All P xs → IfSome o P → All P (xs ++ option_to_list o)
all_with P xs None h k = subst (All P) (sym (append-nil xs)) h
all_with P xs (Some l) h k = All-append P xs (l ∷ []) h (All-cons P l [] k (All-nil P))

pub some_below : (n id : ℕ) (o : Option ArcLink) → id < n → IfSome o (λ (l : ArcLink). l.along.arc ≡ id) → IfSome o (λ (l : ArcLink). l.along.arc < n)
some_below n id None l h = h
some_below n id (Some k) l h = omega arith
