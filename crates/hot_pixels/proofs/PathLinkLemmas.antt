-- Links along a path, added one after the other.
use Rattle.std.proofs.Common.{◌≡◌, refl, sym, ap, ◌∙◌, arith, ℕ, ◌+◌, ◌<◌, ◌≤◌, Bool, true, false, cond, List, [], ◌∷◌, ◌++◌, length, get_or, drop, append_assoc, Contains, Some, None}
use Rattle.std.specs.Option.{option_to_list}
use Rattle.std.proofs.lemmas.List.{at_drop_more, at_drop_all, append-nil, get_or_default}
use Rattle.plane_model.specs.Points.{GridPoint, Segment, Path, same_point, link_between}
use Rattle.plane_model.specs.Hot.{chain_among}
use Rattle.hot_pixels.specs.Links.{link_along, path_links, links_of_chains}
use Rattle.hot_pixels.specs.Marking.{MeetsEndsAlone, ends_of}
use Rattle.hot_pixels.proofs.Appending.{appends_more}
use Rattle.hot_pixels.proofs.MarkingLemmas.{clear_chain}

-- the link between two points, if they differ
abbrev pub link_to : GridPoint → GridPoint → List Segment
link_to p q = option_to_list (link_along (record { start = p; stop = q }))

pub links_more : (all out more : List Segment) (from p : GridPoint) (xs : Path) (i : ℕ) → i < length xs → p ≡ get_or xs i p → all ≡ out ++ path_links (from ∷ drop i xs) → more ≡ out ++ link_to from p → all ≡ more ++ path_links (p ∷ drop (i + 1) xs)
links_more all out more from p xs i l e h m =
    h ∙ ap (λ (t : List Segment). out ++ t) (at_drop_more (λ (ys : Path). path_links (from ∷ ys)) xs i p l ∙ ap (λ (y : GridPoint). link_to from y ++ path_links (y ∷ drop (i + 1) xs)) (sym e))
    ∙ sym (append_assoc out (link_to from p) (path_links (p ∷ drop (i + 1) xs)))
    ∙ ap (λ (t : List Segment). t ++ path_links (p ∷ drop (i + 1) xs)) (sym m)

pub links_all : (all out : List Segment) (from : GridPoint) (xs : Path) (i : ℕ) → length xs ≤ i → all ≡ out ++ path_links (from ∷ drop i xs) → out ≡ all
links_all all out from xs i l h = sym (h ∙ ap (λ (t : List Segment). out ++ t) (at_drop_all (λ (ys : Path). path_links (from ∷ ys)) xs i l) ∙ append-nil out)

-- along the chain of a segment that meets its ends alone
pub ends_links : (s : Segment) → path_links (ends_of s) ≡ option_to_list (link_along s)
ends_links s = go (same_point s.start s.stop) refl
  where
    go : (b : Bool) → same_point s.start s.stop ≡ b → path_links (cond b (s.start ∷ []) (s.start ∷ s.stop ∷ [])) ≡ option_to_list (cond b None (Some (link_between s)))
    go true e = refl
    go false e = append-nil (option_to_list (link_along s)) ∙ ap (λ (b : Bool). option_to_list (cond b None (Some (link_between s)))) e

pub clear_links : (points : List GridPoint) (s : Segment) → Contains points s.start → Contains points s.stop → MeetsEndsAlone points s → option_to_list (link_along s) ≡ path_links (chain_among points s)
clear_links points s from to h = sym (ends_links s) ∙ ap path_links (clear_chain points s from to h)

-- edges whose links are added, one after the other
pub edges_more : (points : List GridPoint) (all out more : List Segment) (edges : List Segment) (i : ℕ) → i < length edges → all ≡ out ++ links_of_chains points (drop i edges) → ((d : Segment) → more ≡ out ++ path_links (chain_among points (get_or edges i d))) → all ≡ more ++ links_of_chains points (drop (i + 1) edges)
edges_more points all out more edges i l h m = go edges refl
  where
    go : (xs : List Segment) → edges ≡ xs → all ≡ more ++ links_of_chains points (drop (i + 1) edges)
    go [] e = absurd (let n = ap length e in omega arith)
    go (x ∷ xs) e =
        let y : Segment = get_or edges i x in
        appends_more (λ s. path_links (chain_among points s)) all out more y edges i l (get_or_default edges i x y l) h (m x)
