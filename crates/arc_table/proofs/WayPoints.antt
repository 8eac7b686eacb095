-- The points along an arc, one step after another.
use Rattle.std.proofs.Common.{◌≡◌, sym, ap, ◌∙◌, ℕ, ◌+◌, ◌<◌, suc, List, [], ◌∷◌, ◌++◌, map, take, length, get_or, Some, append_assoc, pos}
use Rattle.std.specs.Prelude.{slice_get, slice_index}
use Rattle.std.proofs.lemmas.List.{append-nil, take_more, map-append}
use Rattle.std.proofs.lemmas.Option.{get_or_from_slice_get}
use Rattle.plane_model.specs.Points.{GridPoint, Segment, Path}
use Rattle.arc_table.specs.Numbering.{step_at, ends_along, points_along}
use Rattle.arc_table.specs.declared.half_links.Net.{Net}
use Rattle.arc_table.specs.declared.numbering.Way.{Way}

step_is : (steps : List Segment) (h : ℕ) (s : Segment) → slice_get steps h ≡ Some s → s ≡ step_at steps h
step_is steps h s e = sym (get_or_from_slice_get steps h s (record { start = record { x = pos 0; y = pos 0 }; stop = record { x = pos 0; y = pos 0 } }) e)

pub begun : (net : Net) (way : Way) (s : Segment) (p : GridPoint) (xs ys : Path) → slice_get net.steps way.start ≡ Some s → p ≡ s.start → xs ≡ [] → ys ≡ xs ++ p ∷ []
    → ys ++ ends_along net way.steps way.start ≡ points_along net way
begun net way s p xs ys e f g h =
    let start : p ≡ (step_at net.steps way.start).start = f ∙ ap (λ (t : Segment). t.start) (step_is net.steps way.start s e) in
    ap (λ (zs : Path). zs ++ ends_along net way.steps way.start) (h ∙ (λ i. g i ++ start i ∷ []))

pub more : (net : Net) (xs ys whole : Path) (n m at next : ℕ) (s : Segment) (p : GridPoint) → n ≡ suc m → slice_get net.steps at ≡ Some s → p ≡ s.stop → next ≡ slice_index net.onward.items at → ys ≡ xs ++ p ∷ []
    → xs ++ ends_along net n at ≡ whole → ys ++ ends_along net m next ≡ whole
more net xs ys whole n m at next s p count e f g h k =
    let stop : p ≡ (step_at net.steps at).stop = f ∙ ap (λ (t : Segment). t.stop) (step_is net.steps at s e) in
    ap (λ (zs : Path). zs ++ ends_along net m next) h ∙ append_assoc xs (p ∷ []) (ends_along net m next)
    ∙ (λ i. xs ++ stop i ∷ ends_along net m (g i))
    ∙ sym (ap (λ (j : ℕ). xs ++ ends_along net j at) count) ∙ k

pub ended : (net : Net) (xs whole : Path) (n at : ℕ) → n ≡ 0 → xs ++ ends_along net n at ≡ whole → xs ≡ whole
ended net xs whole n at e h = sym (append-nil xs) ∙ sym (ap (λ (j : ℕ). xs ++ ends_along net j at) e) ∙ h

pub one_more_of : {A B : Type 0} (f : A → B) (xs : List A) (i : ℕ) (d : A) (before all : List B) (y : B) → i < length xs → before ≡ map f (take i xs) → y ≡ f (get_or xs i d) → all ≡ before ++ y ∷ [] → all ≡ map f (take (i + 1) xs)
one_more_of f xs i d before all y l e g h = h ∙ (λ k. e k ++ g k ∷ []) ∙ sym (map-append f (take i xs) (get_or xs i d ∷ [])) ∙ sym (ap (map f) (take_more xs i d l))
