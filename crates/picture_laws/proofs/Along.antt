-- The points along arcs that follow each other, in whichever way they are joined.
use Rattle.std.proofs.Common.{◌≡◌, refl, sym, ap, ◌∙◌, arith, ℕ, zero, suc, ◌-◌, ◌<◌, Bool, true, false, List, [], ◌∷◌, ◌++◌, length, take, get_or, All, append_assoc, append-nil}
use Rattle.std.specs.List.{flat_map}
use Rattle.std.proofs.lemmas.List.Elements.{All-head, All-tail}
use Rattle.lists.specs.Lists.{tail, without_last}
use Rattle.plane_model.specs.Points.{GridPoint, Path}
use Rattle.plane_model.specs.Arcs.{SignedArc, joined_points, points_of}
use Rattle.arc_table.specs.Around.{start_of}
use Rattle.arc_table.specs.Direction.{point_at}
use Rattle.arc_table.proofs.DrawnPaths.{points_counted}
use Rattle.ring_trace.specs.Pairing.{stop_of}
use Rattle.ring_trace.specs.Turns.{round_of}
use Rattle.ring_trace.specs.Turns as turns
use Rattle.ring_trace.specs.Ways.{IsWay, IsSimpleRing}
use Rattle.ring_trace.proofs.LeastTurn.{point_along}
use Rattle.line_laws.specs.Linked.{AreLinked}
use Rattle.run_texts.specs.Pictures.{points_along}

-- ---- paths that meet

-- the end of one path is where the next begins: it is left out of either
meet_once : (P Q : Path) (t : ℕ) → suc t ≡ length P → 0 < length Q → point_at P t ≡ point_at Q 0 → without_last P ++ Q ≡ P ++ tail Q
meet_once [] Q t size some e = absurd (omega arith)
meet_once (p ∷ P) [] t size some e = absurd (omega arith)
meet_once (p ∷ []) (q ∷ Q) t size some e =
    let meets : p ≡ q = ap (λ (k : ℕ). point_at (p ∷ []) k) (let z : 0 ≡ t = omega arith in z) ∙ e in
    ap (λ (x : GridPoint). x ∷ Q) (sym meets)
meet_once (p ∷ r ∷ P) (q ∷ Q) zero size some e = absurd (omega arith)
meet_once (p ∷ r ∷ P) (q ∷ Q) (suc t) size some e = ap (λ (xs : Path). p ∷ xs) (meet_once (r ∷ P) (q ∷ Q) t (omega arith) some e)

tail_over : (P Q : Path) → 0 < length P → tail (P ++ Q) ≡ tail P ++ Q
tail_over [] Q some = absurd (omega arith)
tail_over (p ∷ P) Q some = refl

first_over : (P Q : Path) → 0 < length P → (point_at (P ++ Q) 0 ≡ point_at P 0) × (0 < length (P ++ Q))
first_over [] Q some = absurd (omega arith)
first_over (p ∷ P) Q some = (refl, omega arith)

long_of : (arcs : List Path) (a : SignedArc) (rest : List SignedArc) → AreLinked arcs (a ∷ rest) → 1 < length (points_of arcs a)
long_of arcs a [] h = h
long_of arcs a (b ∷ rest) h = h.0

-- ---- arcs that follow each other

pub along_joined : (arcs : List Path) (named : List SignedArc) → AreLinked arcs named → points_along arcs named ≡ joined_points arcs named
along_joined arcs [] h = refl
along_joined arcs (a ∷ []) h = append-nil (points_of arcs a)
along_joined arcs (a ∷ b ∷ rest) h =
    let P = points_of arcs a in
    let Q = points_of arcs b in
    let more = flat_map (λ (c : SignedArc). tail (points_of arcs c)) rest in
    let long : 1 < length P = h.0 in
    let some : 1 < length Q = long_of arcs b rest h.2 in
    let (first, size) = first_over Q more (omega arith) in
    sym (
    ap (λ (xs : Path). without_last P ++ xs) (sym (along_joined arcs (b ∷ rest) h.2))
    ∙ meet_once P (Q ++ more) (length P - 1) (omega arith) size (h.1 ∙ sym first)
    ∙ ap (λ (xs : Path). P ++ xs) (tail_over Q more (omega arith)))

-- ---- rings

module _ (arcs : List Path) (long : All (λ arc. 1 < length arc) arcs) where
  long_arc : (a : SignedArc) → a.arc < length arcs → 1 < length (points_of arcs a)
  long_arc a below =
      let many = points_counted arcs a in
      let l : 1 < length (get_or arcs a.arc []) = long a.arc [] below in
      omega arith

  starts_at : (a : SignedArc) → a.arc < length arcs → point_at (points_of arcs a) 0 ≡ start_of arcs a
  starts_at a below = go a.is_reversed
    where
      go : (b : Bool) → let x : SignedArc = record { arc = a.arc; is_reversed = b } in point_at (points_of arcs x) 0 ≡ start_of arcs x
      go true =
          let x : SignedArc = record { arc = a.arc; is_reversed = true } in
          let l : 1 < length (get_or arcs a.arc []) = long a.arc [] below in
          sym (point_along arcs x 0 (point_at [] 0) (omega arith)) ∙ ap (point_at (get_or arcs a.arc [])) (let e : length (get_or arcs a.arc []) - 1 - 0 ≡ length (get_or arcs a.arc []) - 1 = omega arith in e)
      go false = refl

  stops_at : (a : SignedArc) → a.arc < length arcs → point_at (points_of arcs a) (length (points_of arcs a) - 1) ≡ stop_of arcs a
  stops_at a below = go a.is_reversed
    where
      go : (b : Bool) → let x : SignedArc = record { arc = a.arc; is_reversed = b } in point_at (points_of arcs x) (length (points_of arcs x) - 1) ≡ stop_of arcs x
      go true =
          let x : SignedArc = record { arc = a.arc; is_reversed = true } in
          let many = points_counted arcs x in
          let l : 1 < length (get_or arcs a.arc []) = long a.arc [] below in
          sym (point_along arcs x (length (points_of arcs x) - 1) (point_at [] 0) (omega arith)) ∙ ap (point_at (get_or arcs a.arc [])) (let e : length (get_or arcs a.arc []) - 1 - (length (points_of arcs x) - 1) ≡ 0 = omega arith in e)
      go false = refl

  -- a way of signed arcs has arcs that follow each other
  pub way_linked : (v w : GridPoint) (ring : List SignedArc) → All (λ a. a.arc < length arcs) ring → IsWay (start_of arcs) (stop_of arcs) v ring w → AreLinked arcs ring
  way_linked v w [] there h = tt
  way_linked v w (a ∷ []) there h = long_arc a (All-head (λ b. b.arc < length arcs) a [] there)
  way_linked v w (a ∷ b ∷ rest) there h =
      let later = All-tail (λ c. c.arc < length arcs) a (b ∷ rest) there in
      let first : a.arc < length arcs = All-head (λ c. c.arc < length arcs) a (b ∷ rest) there in
      let second : b.arc < length arcs = All-head (λ c. c.arc < length arcs) b rest later in
      (long_arc a first, stops_at a first ∙ sym h.1.0 ∙ sym (starts_at b second), way_linked (stop_of arcs a) w (b ∷ rest) later h.1)

  -- a path and its last point, left out and put back
  last_back : (points : Path) (t : ℕ) → suc t ≡ length points → without_last points ++ point_at points t ∷ [] ≡ points
  last_back [] t size = absurd (omega arith)
  last_back (p ∷ []) t size = ap (λ (k : ℕ). point_at (p ∷ []) k ∷ []) (let z : t ≡ 0 = omega arith in z)
  last_back (p ∷ q ∷ rest) zero size = absurd (omega arith)
  last_back (p ∷ q ∷ rest) (suc t) size = ap (λ (xs : Path). p ∷ xs) (last_back (q ∷ rest) t (omega arith))

  -- the arcs of a way, each without its last point, and then the end of the way
  way_joined : (v w : GridPoint) (a : SignedArc) (ring : List SignedArc) → All (λ b. b.arc < length arcs) (a ∷ ring) → IsWay (start_of arcs) (stop_of arcs) v (a ∷ ring) w →
      turns.points_along arcs (a ∷ ring) ++ w ∷ [] ≡ joined_points arcs (a ∷ ring)
  way_joined v w a [] there h =
      let P = points_of arcs a in
      let first : a.arc < length arcs = All-head (λ b. b.arc < length arcs) a [] there in
      let size : 1 < length P = long_arc a first in
      ap (λ (xs : Path). xs ++ w ∷ []) (append-nil (without_last P))
      ∙ ap (λ (x : GridPoint). without_last P ++ x ∷ []) (sym h.1 ∙ sym (stops_at a first))
      ∙ last_back P (length P - 1) (omega arith)
  way_joined v w a (b ∷ rest) there h =
      let P = points_of arcs a in
      let later = All-tail (λ c. c.arc < length arcs) a (b ∷ rest) there in
      append_assoc (without_last P) (turns.points_along arcs (b ∷ rest)) (w ∷ [])
      ∙ ap (λ (xs : Path). without_last P ++ xs) (way_joined (stop_of arcs a) w b rest later h.1)

  take_first : (points : Path) (x : GridPoint) → 0 < length points → point_at points 0 ≡ x → take 1 points ≡ x ∷ []
  take_first [] x some e = absurd (omega arith)
  take_first (p ∷ points) x some e = ap (λ (y : GridPoint). y ∷ []) e

  first_kept : (P Q : Path) → 1 < length P → (point_at (without_last P ++ Q) 0 ≡ point_at P 0) × (0 < length (without_last P ++ Q))
  first_kept [] Q some = absurd (omega arith)
  first_kept (p ∷ []) Q some = absurd (omega arith)
  first_kept (p ∷ q ∷ rest) Q some = (refl, omega arith)

  -- round a ring, back to where it starts
  pub along_round : (ring : List SignedArc) → 0 < length ring → All (λ a. a.arc < length arcs) ring → IsSimpleRing (start_of arcs) (stop_of arcs) ring → points_along arcs ring ≡ round_of arcs ring
  along_round [] some there h = absurd (omega arith)
  along_round (a ∷ ring) some there h =
      let first : a.arc < length arcs = All-head (λ b. b.arc < length arcs) a ring there in
      let (head, size) = first_kept (points_of arcs a) (turns.points_along arcs ring) (long_arc a first) in
      along_joined arcs (a ∷ ring) (way_linked h.at h.at (a ∷ ring) there h.way)
      ∙ sym (way_joined h.at h.at a ring there h.way)
      ∙ ap (λ (xs : Path). turns.points_along arcs (a ∷ ring) ++ xs)
      (sym (take_first (turns.points_along arcs (a ∷ ring)) h.at size (head ∙ starts_at a first ∙ h.way.0)))
