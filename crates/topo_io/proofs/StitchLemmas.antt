-- Paths that are stitched from arcs, one arc after another.
use Rattle.std.proofs.Common.{◌≡◌, ℕ, ◌+◌, ◌-◌, ◌<◌, ◌≤◌, cond, List, [], ◌∷◌, length, drop, map, get_or, sym, ap, ◌∙◌, arith, Result, Ok, Err}
use Rattle.std.proofs.Math.ListN.{drop_of_length-le}
use Rattle.lists.specs.Lists.{last_of}
use Rattle.json_values.specs.Seen.{json_value}
use Rattle.json_values.specs.declared.json.Json.{Json}
use Rattle.plane_model.specs.Points.{GridPoint, Path, same_point}
use Rattle.grid_base.proofs.LastLemmas.{last_is}
use Rattle.geojson_io.specs.Reads.{on_ok}
use Rattle.topo_io.specs.Stitching.{fresh_points, stitched, with_arc}
use Rattle.topo_io.specs.declared.fault.TopoWhy.{TopoWhy}
use Rattle.topo_io.specs.declared.fault.TopoWhy.TheVariants.{Unstitched}
use Rattle.topo_io.proofs.MarkLemmas.{left_after}

-- ## What an arc adds

pub fresh_after : (path points : Path) (last first : GridPoint) (rest : Path) → 1 ≤ length path → last ≡ get_or path (length path - 1) last → points ≡ first ∷ rest
    → fresh_points path points ≡ cond (same_point last first) (Ok rest) (Err Unstitched)
fresh_after [] points last first rest l e is = absurd (omega arith)
fresh_after (p ∷ path) points last first rest l e is =
    let end : last_of p path ≡ last = sym (e ∙ last_is (p ∷ path) last p (omega arith)) in
    ap (fresh_points (p ∷ path)) is ∙ (λ i. cond (same_point (end i) first) (Ok rest) (Err Unstitched))

-- ## One arc after another

-- after the first i items the path is this
abbrev pub IsStitchedTo : List Path → List Json → ℕ → ℕ → Path → ℕ → Type 0
IsStitchedTo arcs items room i path left = stitched arcs [] (map json_value items) room ≡ stitched arcs path (map json_value (drop i items)) left

next : (arcs : List Path) (items : List Json) (room i : ℕ) (path : Path) (left : ℕ) (j : Json) (r : Result (Path × ℕ) TopoWhy)
    → i < length items → j ≡ get_or items i j → IsStitchedTo arcs items room i path left → with_arc arcs (json_value j) path left ≡ r
    → stitched arcs [] (map json_value items) room ≡ on_ok r (λ (p : Path × ℕ). stitched arcs p.0 (map json_value (drop (i + 1) items)) p.1)
next arcs items room i path left j r l is h e =
    h ∙ ap (λ (js : List Json). stitched arcs path (map json_value js) left) (left_after items i j l is)
    ∙ ap (λ (r : Result (Path × ℕ) TopoWhy). on_ok r (λ (p : Path × ℕ). stitched arcs p.0 (map json_value (drop (i + 1) items)) p.1)) e

pub stitched_more : (arcs : List Path) (items : List Json) (room i : ℕ) (path : Path) (left : ℕ) (j : Json) (longer : Path) (after : ℕ)
    → i < length items → j ≡ get_or items i j → IsStitchedTo arcs items room i path left → with_arc arcs (json_value j) path left ≡ Ok (longer, after) → IsStitchedTo arcs items room (i + 1) longer after
stitched_more arcs items room i path left j longer after l is h e = next arcs items room i path left j (Ok (longer, after)) l is h e

pub stitched_stops : (arcs : List Path) (items : List Json) (room i : ℕ) (path : Path) (left : ℕ) (j : Json) (why : TopoWhy)
    → i < length items → j ≡ get_or items i j → IsStitchedTo arcs items room i path left → with_arc arcs (json_value j) path left ≡ Err why → stitched arcs [] (map json_value items) room ≡ Err why
stitched_stops arcs items room i path left j why l is h e = next arcs items room i path left j (Err why) l is h e

pub stitched_all : (arcs : List Path) (items : List Json) (room i : ℕ) (path : Path) (left : ℕ) → length items ≤ i → IsStitchedTo arcs items room i path left → stitched arcs [] (map json_value items) room ≡ Ok (path, left)
stitched_all arcs items room i path left l h = h ∙ ap (λ (js : List Json). stitched arcs path (map json_value js) left) (drop_of_length-le items l)
