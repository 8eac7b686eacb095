-- The arcs found on a line, a ring or a box are those that it goes along.
use Rattle.std.proofs.Common.{◌≡◌, ◌⊎◌, inl, inr, refl, sym, ap, ◌∙◌, subst, arith, ℕ, zero, suc, ◌+◌, ◌-◌, ◌<◌, ◌≤◌, Bool, true, false, List, [], ◌∷◌, ◌++◌, map, take, drop, length, get_or, Contains, Option, Some, None, pos}
use Rattle.std.specs.Prelude.{◌≢◌}
use Rattle.std.specs.List.{flat_map}
use Rattle.std.proofs.lemmas.Bool.{cases_lt}
use Rattle.std.proofs.lemmas.List.{append-nil, length-append, length-drop, length-take-le, ext_get_or, get_or-drop, get_or-take, get_or_append_left, get_or-append_right, get_or_read, length-reverse}
use Rattle.std.proofs.lemmas.List.Elements.{Contains-append_left, Contains-append_right, Contains-append_cases}
use Rattle.lists.specs.Lists.{tail, last_of, joined_up}
use Rattle.lists.proofs.Ascending.{Contains-ascending}
use Rattle.lists.proofs.Members.{Contains-map, Contains-flat_map}
use Rattle.plane_model.specs.Points.{GridPoint, Segment, Path, link_between, link_before}
use Rattle.plane_model.specs.Drawing.{Drawing, steps, steps_of_paths, rings_of, paths_of}
use Rattle.plane_model.specs.Arcs.{SignedArc, points_of, joined_points}
use Rattle.plane_model.specs.Joined.{IsClosed}
use Rattle.plane_model.specs.Snapped.{links_of}
use Rattle.plane_model.proofs.PointOrder.{link_before-IsStrictOrder}
use Rattle.arc_table.specs.Direction.{point_at}
use Rattle.arc_table.specs.Around.{first_step}
use Rattle.arc_table.specs.Lookup.{IsBegunBy, BeginAlong}
use Rattle.arc_table.specs.Nodes.{IsLineOf, IsRingOf}
use Rattle.arc_table.specs.PathArcs.{AreArcsOf, IsDrawn, round_from, RunsFrom, ArePathArcs, AreArcsAlong}
use Rattle.arc_table.specs.WholeArcs.{IsPassed, IsNode}
use Rattle.arc_table.proofs.ArcSteps.{step_between, steps_many, moving}
use Rattle.arc_table.proofs.FoundArcs.{path_step, BeginsArc, IsFound, found_at_first, found_inside, found_begun, found_none, passed_before, node_or_round, some_begins, comes_round}

-- a path without its first vertex
pub tail_at : (path : Path) (k : ℕ) → point_at (tail path) k ≡ point_at path (suc k)
tail_at [] k = refl
tail_at (p ∷ path) k = refl

-- ---- the steps of a drawing's paths go along its links

step_in : (d : Drawing) (path : Path) → Contains (paths_of d) path → (k : ℕ) → suc k < length path → Contains (links_of d) (link_between (path_step path k))
step_in d path c k l =
    let s : Segment = path_step path k in
    Contains-ascending link_before link_before-IsStrictOrder (map link_between (steps_of_paths (paths_of d))) (link_between s)
    (Contains-map link_between (steps_of_paths (paths_of d)) s (Contains-flat_map steps (paths_of d) path s c (k, steps_many path k l, step_between path k s l)))

line_in : (d : Drawing) (line : Path) → IsLineOf d line → Contains (paths_of d) line
line_in d line c = Contains-append_left (flat_map rings_of d.polygons ++ joined_up d.lines) d.boxes line (Contains-append_right (flat_map rings_of d.polygons) (joined_up d.lines) line c)

ring_in : (d : Drawing) (ring : Path) → IsRingOf d ring → Contains (paths_of d) ring
ring_in d ring c = elim (Contains-append_cases (flat_map rings_of d.polygons) d.boxes ring c) [
  | inl e ↦ Contains-append_left (flat_map rings_of d.polygons ++ joined_up d.lines) d.boxes ring (Contains-append_left (flat_map rings_of d.polygons) (joined_up d.lines) ring e)
  | inr e ↦ Contains-append_right (flat_map rings_of d.polygons ++ joined_up d.lines) d.boxes ring e
]

module _ (d : Drawing) (arcs : List Path) (table : AreArcsOf d arcs) where
  -- ---- a line

  module _ (line : Path) (c : IsLineOf d line) (n : ℕ) (size : suc n ≡ length line) where
    line_on : (k : ℕ) → suc k < length line → Contains (links_of d) (link_between (path_step line k))
    line_on = step_in d line (line_in d line c)

    line_plain : (k : ℕ) → suc (suc k) < length line → IsPassed d (point_at line (suc k)) → point_at line (suc (suc k)) ≢ point_at line k
    line_plain k l p e = p.plain (inl (
      line,
      c,
      inr (record {
        place = k;
        inside = omega arith;
        same = sym e ∙ ap (point_at line) (let f : suc (suc k) ≡ k + 2 = omega arith in f);
        here = ap (point_at line) (let f : k + 1 ≡ suc k = omega arith in f);
      }),
    ))

    line_ends : IsPassed d (point_at line n) → ⊥
    line_ends p = p.plain (inl (line, c, inl (record { some = omega arith; ends = inr (ap (point_at line) (let e : length line - 1 ≡ n = omega arith in e)) })))

    line_starts : IsPassed d (point_at line 0) → ⊥
    line_starts p = p.plain (inl (line, c, inl (record { some = omega arith; ends = inl refl })))

    line_kind : ((suc n ≡ length line) × (IsPassed d (point_at line n) → ⊥)) ⊎ ((suc (n + n) ≡ length line) × ((k : ℕ) → k ≤ n → point_at line (n + k) ≡ point_at line k))
    line_kind = inl (size, line_ends)

    begun_line : (at inside left next_at : ℕ) (named all : List SignedArc) (a : SignedArc) → inside ≡ 0 → a.arc < length arcs → first_step arcs a ≡ path_step line at → at < n → left ≡ length (points_of arcs a) - 2
        → next_at ≡ suc at → all ≡ named ++ a ∷ [] → IsFound arcs line at inside named → IsFound arcs line next_at left all
    begun_line = found_begun d arcs table.arrangement.ordered table.links table.whole table.long line n line_on line_plain line_kind

    none_line : (at inside next_at : ℕ) (named : List SignedArc) → inside ≡ 0 → (BeginsArc arcs (path_step line at) → ⊥) → at < n → next_at ≡ suc at → IsFound arcs line at inside named → IsFound arcs line next_at inside named
    none_line = found_none d arcs table.arrangement.ordered table.links table.whole table.long line n line_on line_plain line_kind

    line_passed : (k : ℕ) → k < n → (BeginsArc arcs (path_step line k) → ⊥) → IsPassed d (point_at line k)
    line_passed = passed_before d arcs table.arrangement.ordered table.links table.whole table.long line n line_on line_plain line_kind

    line_done : (inside : ℕ) (named : List SignedArc) → 0 < n → IsFound arcs line n inside named → RunsFrom d arcs line named
    line_done inside named some (inl f) = absurd (line_starts (line_passed 0 some (f.before 0 some)))
    line_done inside named some (inr w) =
        let ends = w.ends in
        let joined = w.size in
        let first_is : w.first ≡ 0 = elim (cases_lt 0 w.first) [
          | inl v ↦ absurd (line_starts (line_passed 0 some (w.before 0 v)))
          | inr v ↦ omega arith
        ] in
        let all : joined_points arcs named ≡ line =
        ext_get_or (record { x = pos 0; y = pos 0 }) (joined_points arcs named) line (omega arith)
        (λ t l. w.points t (omega arith) ∙ ap (point_at line) (let e : w.first + t ≡ t = omega arith in e)) in
        record {
          first = 0;
          there = omega arith;
          passed = λ k l. absurd (omega arith);
          node = inl line_starts;
          joined = all ∙ sym (append-nil line);
          stepped = ap steps (sym (all ∙ sym (append-nil line))) ∙ w.stepped;
        }

  -- ---- a ring or a box

  module _ (ring : Path) (c : IsRingOf d ring) (n : ℕ) (some : 0 < n) (size : suc n ≡ length ring) (closed : point_at ring n ≡ point_at ring 0) where
    -- gone round twice
    abbrev pub Q : Path
    Q = ring ++ tail ring

    tail-length : (xs : Path) → length (tail xs) ≡ length xs - 1
    tail-length [] = omega arith
    tail-length (x ∷ xs) = omega arith

    twice : suc (n + n) ≡ length Q
    twice = let e = length-append ring (tail ring) in let f = tail-length ring in omega arith

    lower : (k : ℕ) → k ≤ n → point_at Q k ≡ point_at ring k
    lower k l = get_or_append_left ring (tail ring) _ k (omega arith)

    upper : (k : ℕ) → k ≤ n → point_at Q (n + k) ≡ point_at ring k
    upper zero l = ap (point_at Q) (let e : n + 0 ≡ n = omega arith in e) ∙ lower n (omega arith) ∙ closed
    upper (suc k) l =
        get_or-append_right ring (tail ring) (suc n) (n + suc k) _ (sym size) (omega arith) ∙ ap (point_at (tail ring)) (let e : n + suc k - suc n ≡ k = omega arith in e) ∙ tail_at ring k

    round : (k : ℕ) → k ≤ n → point_at Q (n + k) ≡ point_at Q k
    round k l = upper k l ∙ sym (lower k l)

    ring_on : (k : ℕ) → suc k < length Q → Contains (links_of d) (link_between (path_step Q k))
    ring_on k l = elim (cases_lt k n) [
      | inl m ↦ (
          let p : point_at Q k ≡ point_at ring k = lower k (omega arith) in
          let q : point_at Q (suc k) ≡ point_at ring (suc k) = lower (suc k) (omega arith) in
          on_ring k (omega arith) (λ i. record { start = p i; stop = q i }))
      | inr m ↦ (
          let s = twice in
          let p : point_at Q k ≡ point_at ring (k - n) = ap (point_at Q) (let e : k ≡ n + (k - n) = omega arith in e) ∙ upper (k - n) (omega arith) in
          let q : point_at Q (suc k) ≡ point_at ring (suc (k - n)) = ap (point_at Q) (let e : suc k ≡ n + suc (k - n) = omega arith in e) ∙ upper (suc (k - n)) (omega arith) in
          on_ring (k - n) (omega arith) (λ i. record { start = p i; stop = q i }))
    ]
      where
        on_ring : (j : ℕ) → suc j < length ring → path_step Q k ≡ path_step ring j → Contains (links_of d) (link_between (path_step Q k))
        on_ring j m e = subst (λ (s : Segment). Contains (links_of d) (link_between s)) (sym e) (step_in d ring (ring_in d ring c) j m)

    -- where the ring turns back
    turns : (j : ℕ) → suc (suc j) < length ring → point_at ring (suc (suc j)) ≡ point_at ring j → IsPassed d (point_at ring (suc j)) → ⊥
    turns j l e p = p.plain (inr (
      ring,
      c,
      inr (record {
        place = j;
        inside = omega arith;
        same = sym e ∙ ap (point_at ring) (let f : suc (suc j) ≡ j + 2 = omega arith in f);
        here = ap (point_at ring) (let f : j + 1 ≡ suc j = omega arith in f);
      }),
    ))

    turns_first : 1 < n → point_at ring 1 ≡ point_at ring (n - 1) → IsPassed d (point_at ring 0) → ⊥
    turns_first l e p = p.plain (inr (
      ring,
      c,
      inl (record {
        long = omega arith;
        same = ap (point_at ring) (let f : length ring - 2 ≡ n - 1 = omega arith in f) ∙ sym e;
        here = refl;
      }),
    ))

    ring_plain : (k : ℕ) → suc (suc k) < length Q → IsPassed d (point_at Q (suc k)) → point_at Q (suc (suc k)) ≢ point_at Q k
    ring_plain k l p e =
        let s = twice in
        elim (cases_lt (suc k) n) [
          | inl m ↦ turns k (omega arith) (sym (lower (suc (suc k)) (omega arith)) ∙ e ∙ lower k (omega arith)) (subst (IsPassed d) (lower (suc k) (omega arith)) p)
          | inr m ↦ elim (cases_lt n (suc k)) [
            | inl v ↦ turns (k - n) (omega arith)
                (sym (upper (suc (suc (k - n))) (omega arith)) ∙ ap (point_at Q) (let f : n + suc (suc (k - n)) ≡ suc (suc k) = omega arith in f) ∙ e
                ∙ ap (point_at Q) (let f : k ≡ n + (k - n) = omega arith in f) ∙ upper (k - n) (omega arith))
                (subst (IsPassed d) (ap (point_at Q) (let f : suc k ≡ n + suc (k - n) = omega arith in f) ∙ upper (suc (k - n)) (omega arith)) p)
            | inr v ↦ at_start (omega arith)
          ]
        ]
      where
        second : suc k ≡ n → point_at Q (suc (suc k)) ≡ point_at ring 1
        second f = ap (point_at Q) (let g : suc (suc k) ≡ n + 1 = omega arith in g) ∙ upper 1 (omega arith)

        at_start : suc k ≡ n → ⊥
        at_start f = elim (cases_lt 1 n) [
          | inl u ↦ turns_first u (sym (second f) ∙ e ∙ lower k (omega arith) ∙ ap (point_at ring) (let g : k ≡ n - 1 = omega arith in g))
              (subst (IsPassed d) (ap (point_at Q) (let g : suc k ≡ n + 0 = omega arith in g) ∙ upper 0 (omega arith)) p)
          | inr u ↦ moving (links_of d) arcs table.arrangement.ordered table.links (path_step ring 0) (step_in d ring (ring_in d ring c) 0 (omega arith))
              (sym closed ∙ ap (point_at ring) (let g : n ≡ 1 = omega arith in g))
        ]

    ring_kind : ((suc n ≡ length Q) × (IsPassed d (point_at Q n) → ⊥)) ⊎ ((suc (n + n) ≡ length Q) × ((k : ℕ) → k ≤ n → point_at Q (n + k) ≡ point_at Q k))
    ring_kind = inr (twice, round)

    begun_ring : (at inside left next_at : ℕ) (named all : List SignedArc) (a : SignedArc) → inside ≡ 0 → a.arc < length arcs → first_step arcs a ≡ path_step Q at → at < n → left ≡ length (points_of arcs a) - 2
        → next_at ≡ suc at → all ≡ named ++ a ∷ [] → IsFound arcs Q at inside named → IsFound arcs Q next_at left all
    begun_ring = found_begun d arcs table.arrangement.ordered table.links table.whole table.long Q n ring_on ring_plain ring_kind

    none_ring : (at inside next_at : ℕ) (named : List SignedArc) → inside ≡ 0 → (BeginsArc arcs (path_step Q at) → ⊥) → at < n → next_at ≡ suc at → IsFound arcs Q at inside named → IsFound arcs Q next_at inside named
    none_ring = found_none d arcs table.arrangement.ordered table.links table.whole table.long Q n ring_on ring_plain ring_kind

    ring_done : (inside : ℕ) (named : List SignedArc) → IsFound arcs Q n inside named → RunsFrom d arcs ring named
    ring_done inside named (inl f) = absurd (some_begins d arcs table.arrangement.ordered table.links table.whole table.long Q n ring_on ring_plain ring_kind some twice round f.before)
    ring_done inside named (inr w) =
        let below = w.below in
        let joined = w.size in
        let comes = comes_round d arcs table.arrangement.ordered table.links table.whole table.long Q n ring_on ring_plain ring_kind inside named twice round w in
        let o : GridPoint = record { x = pos 0; y = pos 0 } in
        let size_drop : length (drop w.first ring) ≡ suc n - w.first = length-drop w.first ring ∙ ap (λ (q : ℕ). q - w.first) (sym size) in
        let size_take : length (take w.first (tail ring)) ≡ w.first = length-take-le w.first (tail ring) (let e = tail-length ring in omega arith) in
        let size_all = length-append (drop w.first ring) (take w.first (tail ring)) in
        let passed_first : (k : ℕ) → k < w.first → IsPassed d (point_at ring k) = λ k l. subst (IsPassed d) (lower k (omega arith))
        (passed_before d arcs table.arrangement.ordered table.links table.whole table.long Q n ring_on ring_plain ring_kind k (omega arith) (w.before k l)) in
        let sizes : length (joined_points arcs named) ≡ length (drop w.first ring ++ take w.first (tail ring)) = omega arith in
        let all : joined_points arcs named ≡ round_from w.first ring =
        ext_get_or o (joined_points arcs named) (round_from w.first ring) sizes
        (λ t l. w.points t (omega arith) ∙ elim (cases_lt (w.first + t) (suc n)) [
          | inl v ↦ lower (w.first + t) (omega arith) ∙ sym (get_or-drop w.first ring t o) ∙ sym (get_or_append_left (drop w.first ring) (take w.first (tail ring)) o t (omega arith))
          | inr v ↦ get_or-append_right ring (tail ring) (suc n) (w.first + t) o (sym size) (omega arith)
              ∙ sym (get_or-append_right (drop w.first ring) (take w.first (tail ring)) (suc n - w.first) t o size_drop (omega arith)
              ∙ get_or-take w.first (tail ring) (t - (suc n - w.first)) o (omega arith) ∙ ap (point_at (tail ring)) (let e : t - (suc n - w.first) ≡ w.first + t - suc n = omega arith in e))
        ]) in
        record {
          first = w.first;
          there = omega arith;
          passed = passed_first;
          node = elim (node_or_round d arcs table.arrangement.ordered table.links table.whole table.long Q n ring_on ring_plain ring_kind n inside named w) [
            | inl e ↦ inl (subst (IsNode d) (lower w.first (omega arith)) e)
            | inr e ↦ inr (record {
              passed = λ k l. elim (cases_lt k w.first) [
                | inl m ↦ passed_first k m
                | inr m ↦ subst (IsPassed d) (lower k (omega arith)) (e.0 k m (let t = twice in omega arith))
              ];
              one = e.1;
              same = e.2;
            })
          ];
          joined = all;
          stepped = ap steps (sym all) ∙ w.stepped;
        }

-- ---- closed paths

last_at : (p : GridPoint) (rest : Path) → last_of p rest ≡ point_at (p ∷ rest) (length rest)
last_at p [] = refl
last_at p (q ∷ rest) = last_at q rest

pub closed_at : (path : Path) (n : ℕ) → suc n ≡ length path → IsClosed path → point_at path n ≡ point_at path 0
closed_at [] n size h = absurd (omega arith)
closed_at (p ∷ rest) n size h = ap (point_at (p ∷ rest)) (let e : n ≡ length rest = omega arith in e) ∙ sym (last_at p rest) ∙ h

pub points_counted : (arcs : List Path) (a : SignedArc) → length (points_of arcs a) ≡ length (get_or arcs a.arc [])
points_counted arcs a = go a.is_reversed
  where
    go : (b : Bool) → length (points_of arcs (record { arc = a.arc; is_reversed = b })) ≡ length (get_or arcs a.arc [])
    go false = refl
    go true = length-reverse (get_or arcs a.arc [])

-- ---- any path of a drawing

-- a line, or a closed path gone round twice
abbrev pub gone : (d : Drawing) (path : Path) → IsDrawn d path → Path
gone d path (inl c) = path
gone d path (inr c) = path ++ tail path

-- after `at` steps of the path these arcs have begun, and the last goes on for `inside` steps
pub record Follows (arcs : List Path) (path : Path) (at inside : ℕ) (named : List SignedArc) : Type 0 where
  pub found : (d : Drawing) → AreArcsOf d arcs → (c : IsDrawn d path) → IsFound arcs (gone d path c) at inside named

pub nothing_begun : (arcs : List Path) (path : Path) → BeginAlong arcs path []
nothing_begun arcs path = λ k a l. absurd (omega arith)

pub follows_none : (arcs : List Path) (path : Path) → Follows arcs path 0 0 []
follows_none arcs path = record { found = λ d t c. found_at_first arcs (gone d path c) }

pub follows_inside : (arcs : List Path) (path : Path) (at inside left next_at : ℕ) (named : List SignedArc) → 0 < inside → left ≡ inside - 1 → next_at ≡ suc at → Follows arcs path at inside named → Follows arcs path next_at left named
follows_inside arcs path at inside left next_at named some less next h = record { found = λ d t c. found_inside arcs (gone d path c) at inside left next_at named some less next (h.found d t c) }

module _ (arcs : List Path) (path : Path) (i : ℕ) (p q : GridPoint) (s : Segment) (some : 0 < i) (there : i < length path)
    (is_p : p ≡ get_or path (i - 1) p) (is_q : q ≡ get_or path i q) (made : s ≡ record { start = p; stop = q }) where
  this_step : s ≡ path_step path (i - 1)
  this_step =
      let read_p : p ≡ point_at path (i - 1) = get_or_read path (i - 1) p (omega arith) is_p _ in
      let read_q : q ≡ point_at path (suc (i - 1)) = get_or_read path i q there is_q _ ∙ ap (point_at path) (let e : i ≡ suc (i - 1) = omega arith in e) in
      made ∙ (λ x. record { start = read_p x; stop = read_q x })

  round_step : path_step (path ++ tail path) (i - 1) ≡ path_step path (i - 1)
  round_step =
      let e : point_at (path ++ tail path) (i - 1) ≡ point_at path (i - 1) = get_or_append_left path (tail path) _ (i - 1) (omega arith) in
      let f : point_at (path ++ tail path) (suc (i - 1)) ≡ point_at path (suc (i - 1)) = get_or_append_left path (tail path) _ (suc (i - 1)) (omega arith) in
      λ x. record { start = e x; stop = f x }

  pub follows_begun : (inside left next_at : ℕ) (named all : List SignedArc) (a : SignedArc) → inside ≡ 0 → a.arc < length arcs → first_step arcs a ≡ s → left ≡ length (get_or arcs a.arc []) - 2 → next_at ≡ i
      → all ≡ named ++ a ∷ [] → Follows arcs path (i - 1) inside named → Follows arcs path next_at left all
  follows_begun inside left next_at named all a idle l e left_is next pushed h = record { found = λ d t c. go d t c (h.found d t c) }
    where
      go : (d : Drawing) → AreArcsOf d arcs → (c : IsDrawn d path) → IsFound arcs (gone d path c) (i - 1) inside named → IsFound arcs (gone d path c) next_at left all
      go d t (inl c) f =
          begun_line d arcs t path c (length path - 1) (omega arith) (i - 1) inside left next_at named all a idle l (e ∙ this_step) (omega arith) (left_is ∙ ap (λ (k : ℕ). k - 2) (sym (points_counted arcs a)))
          (omega arith) pushed f
      go d t (inr c) f =
          begun_ring d arcs t path c.0 (length path - 1) (omega arith) (omega arith) (closed_at path (length path - 1) (omega arith) c.1) (i - 1) inside left next_at named all a idle l (e ∙ this_step ∙ sym round_step) (omega arith)
          (left_is ∙ ap (λ (k : ℕ). k - 2) (sym (points_counted arcs a))) (omega arith) pushed f

  pub follows_on : (inside next_at : ℕ) (named : List SignedArc) → inside ≡ 0 → (BeginsArc arcs s → ⊥) → next_at ≡ i → Follows arcs path (i - 1) inside named → Follows arcs path next_at inside named
  follows_on inside next_at named idle none next h = record { found = λ d t c. go d t c (h.found d t c) }
    where
      go : (d : Drawing) → AreArcsOf d arcs → (c : IsDrawn d path) → IsFound arcs (gone d path c) (i - 1) inside named → IsFound arcs (gone d path c) next_at inside named
      go d t (inl c) f =
          none_line d arcs t path c (length path - 1) (omega arith) (i - 1) inside next_at named idle (λ b. none (subst (BeginsArc arcs) (sym this_step) b)) (omega arith) (omega arith) f
      go d t (inr c) f =
          none_ring d arcs t path c.0 (length path - 1) (omega arith) (omega arith) (closed_at path (length path - 1) (omega arith) c.1) (i - 1) inside next_at named idle
          (λ b. none (subst (BeginsArc arcs) (round_step ∙ sym this_step) b)) (omega arith) (omega arith) f

-- no arc begins with a step for which none was found
pub none_of : (arcs : List Path) (s : Segment) (r : Option SignedArc) → IsBegunBy arcs s r → ((a : SignedArc) → r ≡ Some a → ⊥) → BeginsArc arcs s → ⊥
none_of arcs s None is other b = is b.0 b.1 b.2
none_of arcs s (Some a) is other b = other a refl

-- all steps are done
follows_drawn : (arcs : List Path) (path : Path) (at inside : ℕ) (named : List SignedArc) → (1 ≤ length path → suc at ≡ length path) → Follows arcs path at inside named
    → (d : Drawing) → AreArcsOf d arcs → (c : IsDrawn d path) → ArePathArcs d arcs path named
follows_drawn arcs path at inside named all h d t c = record {
  none = λ e. none_at (h.found d t c) (let f = all (omega arith) in omega arith);
  along = λ l. go c (h.found d t c) l (let f = all (omega arith) in omega arith);
}
  where
    none_at : IsFound arcs (gone d path c) at inside named → at ≡ 0 → named ≡ []
    none_at (inl f) e = f.none
    none_at (inr w) e = absurd (let b = w.below in omega arith)

    go : (c : IsDrawn d path) → IsFound arcs (gone d path c) at inside named → 1 < length path → at ≡ length path - 1 → RunsFrom d arcs path named
    go (inl c) f l e = line_done d arcs t path c (length path - 1) (omega arith) inside named (omega arith) (subst (λ (q : ℕ). IsFound arcs path q inside named) e f)
    go (inr c) f l e =
        ring_done d arcs t path c.0 (length path - 1) (omega arith) (omega arith) (closed_at path (length path - 1) (omega arith) c.1) inside named
        (subst (λ (q : ℕ). IsFound arcs (path ++ tail path) q inside named) e f)

pub follows_all : (arcs : List Path) (path : Path) (at inside : ℕ) (named : List SignedArc) → (1 ≤ length path → suc at ≡ length path) → Follows arcs path at inside named → AreArcsAlong arcs path named
follows_all arcs path at inside named all h = follows_drawn arcs path at inside named all h
