-- Marks set one after another.
use Rattle.std.proofs.Common.{◌≡◌, ℕ, ◌+◌, ◌<◌, ◌≤◌, Bool, true, List, [], ◌∷◌, ◌++◌, length, drop, get_or, slice_set, refl, sym, ap, ◌∙◌}
use Rattle.std.specs.List.{flat_map}
use Rattle.std.proofs.Math.Seq.{drop-cons}
use Rattle.std.proofs.Math.Numerals.{add-one}
use Rattle.std.proofs.Math.ListN.{drop_of_length-le}
use Rattle.topo_io.specs.Arcs.{marked}

pub marked-append : (marks : List Bool) (ns ms : List ℕ) → marked marks (ns ++ ms) ≡ marked (marked marks ns) ms
marked-append marks [] ms = refl
marked-append marks (n ∷ ns) ms = marked-append (slice_set marks n true) ns ms

-- the items that are left after item i
pub left_after : {A : Type 0} (xs : List A) (i : ℕ) (x : A) → i < length xs → x ≡ get_or xs i x → drop i xs ≡ x ∷ drop (i + 1) xs
left_after xs i x l is = drop-cons xs i x l ∙ (λ j. sym is j ∷ drop (sym (add-one i) j) xs)

-- the marks of one item more
pub mark_more : {A : Type 0} (names : A → List ℕ) (marks now all : List Bool) (xs : List A) (i : ℕ) (x : A) → i < length xs → x ≡ get_or xs i x → now ≡ marked marks (names x)
    → marked marks (flat_map names (drop i xs)) ≡ all → marked now (flat_map names (drop (i + 1) xs)) ≡ all
mark_more names marks now all xs i x l is e h =
    ap (λ (m : List Bool). marked m (flat_map names (drop (i + 1) xs))) e
    ∙ sym (marked-append marks (names x) (flat_map names (drop (i + 1) xs)))
    ∙ ap (λ ys. marked marks (flat_map names ys)) (sym (left_after xs i x l is)) ∙ h

pub all_marked : {A : Type 0} (names : A → List ℕ) (marks all : List Bool) (xs : List A) (i : ℕ) → length xs ≤ i → marked marks (flat_map names (drop i xs)) ≡ all → marks ≡ all
all_marked names marks all xs i l h = ap (λ ys. marked marks (flat_map names ys)) (sym (drop_of_length-le xs l)) ∙ h
