-- The arc of the model along a step is the arc of the table that the step goes along.
use Rattle.std.proofs.Common.{◌≡◌, inl, inr, refl, sym, ap, ◌∙◌, subst, arith, ℕ, zero, suc, ◌+◌, ◌-◌, ◌<◌, ◌≤◌, Bool, true, false, not, ◌&&◌, List, [], ◌∷◌, ◌++◌, length, get_or, drop, take, reverse, All, Contains, append_assoc, take-append-drop, drop-cons}
use Rattle.std.specs.Prelude.{if◌then◌else◌}
use Rattle.std.proofs.lemmas.Bool.{cases_Bool, cases_eq, cases_lt, false_from_ne_true, or_parts}
use Rattle.std.proofs.lemmas.List.{get_or-drop, get_or-reverse, get_or_append_left, get_or_default, length-append, length-drop, length-reverse, reverse-append, reverse-reverse}
use Rattle.std.proofs.Math.Seq.{drop-append_seam}
use Rattle.lists.specs.Lists.{last_of, list_before, tail, without_last}
use Rattle.plane_model.specs.Points.{GridPoint, Segment, Path, is_before, link_between, reversed, same_point}
use Rattle.plane_model.specs.Drawing.{Drawing}
use Rattle.plane_model.specs.Joined.{IsClosed}
use Rattle.plane_model.specs.Arcs.{SignedArc, arc_along, begun_at_least, forward, forward_way, is_node, points_of, run_from}
use Rattle.plane_model.specs.Arrangement.{IsBefore, IsDistinct}
use Rattle.plane_model.proofs.PointOrder.{is_before-IsStrictOrder, same_point_from, same_point_to}
use Rattle.plane_model.specs.Snapped.{links_of}
use Rattle.arc_table.specs.Along.{GoAlong}
use Rattle.arc_table.specs.Direction.{IsForward, is_backward, point_at}
use Rattle.arc_table.specs.Nodes.{IsRingOf}
use Rattle.arc_table.specs.WholeArcs.{IsNode, IsPassed, IsWholeArc, StartsAtLeast}
use Rattle.arc_table.proofs.Proper.{link_turned}
use Rattle.arc_table.proofs.WholeBack.{back_least}
use Rattle.arc_table.proofs.DrawnPaths.{tail_at}
use Rattle.arc_laws.proofs.Nodes.{if_passed, node_if}
use Rattle.arc_laws.proofs.Runs.{begun_is, first_alike, first_apart, run_is}
use Rattle.arc_laws.proofs.Ways.{W_high, W_long, W_low, apart_round, apart_steps, is_whole, moves, on, open_run, round_run, start_at, tail_long}

-- ---- parts of paths

tail_drop : (k : ℕ) (path : Path) → tail (drop k path) ≡ drop (suc k) path
tail_drop zero [] = refl
tail_drop zero (p ∷ path) = refl
tail_drop (suc k) [] = refl
tail_drop (suc k) (p ∷ path) = tail_drop k path

-- the first j points of a path, taken from the reversed path
front_back : (j : ℕ) (path : Path) → j ≤ length path → reverse (drop (length path - j) (reverse path)) ≡ take j path
front_back j path l =
    let whole : take j path ++ drop j path ≡ path = take-append-drop j path in
    let back : reverse path ≡ reverse (drop j path) ++ reverse (take j path) = sym (ap reverse whole) ∙ reverse-append (take j path) (drop j path) in
    let size = length-reverse (drop j path) in
    let part = length-drop j path in
    let many : length path - j ≡ length (reverse (drop j path)) = omega arith in
    ap reverse ((λ i. drop (many i) (back i)) ∙ drop-append_seam (reverse (drop j path)) (reverse (take j path))) ∙ reverse-reverse (take j path)

last_at : (d : GridPoint) (path : Path) → 0 < length path → last_of d path ≡ point_at path (length path - 1)
last_at d [] l = absurd (omega arith)
last_at d (p ∷ []) l = refl
last_at d (p ∷ q ∷ path) l = last_at p (q ∷ path) (omega arith) ∙ ap (point_at (p ∷ q ∷ path)) (let e : suc (length (q ∷ path) - 1) ≡ length (p ∷ q ∷ path) - 1 = omega arith in e)

last_put : (path : Path) → 0 < length path → path ≡ without_last path ++ point_at path (length path - 1) ∷ []
last_put [] l = absurd (omega arith)
last_put (p ∷ []) l = refl
last_put (p ∷ q ∷ path) l = ap (λ (xs : Path). p ∷ xs) (last_put (q ∷ path) (omega arith) ∙ ap (λ (k : ℕ). without_last (q ∷ path) ++ point_at (p ∷ q ∷ path) k ∷ []) (let e : suc (length (q ∷ path) - 1) ≡ length (p ∷ q ∷ path) - 1 = omega arith in e))

put_long : (path : Path) → 0 < length path → length (without_last path) ≡ length path - 1
put_long path l =
    let e : length path ≡ length (without_last path ++ point_at path (length path - 1) ∷ []) = ap (λ (xs : Path). length xs) (last_put path l) in
    let both = length-append (without_last path) (point_at path (length path - 1) ∷ []) in
    omega arith

two_first : (path : Path) → 1 < length path → (rest : Path) × (path ≡ point_at path 0 ∷ point_at path 1 ∷ rest)
two_first [] l = absurd (omega arith)
two_first (p ∷ []) l = absurd (omega arith)
two_first (p ∷ q ∷ rest) l = (rest, refl)

module _ (s : Drawing) (distinct : IsDistinct (links_of s)) (closed : (ring : Path) → IsRingOf s ring → IsClosed ring) (ordered : All (λ (l : Segment). IsBefore l.start l.stop) (links_of s))
    (arcs : List Path) (along : GoAlong (links_of s) arcs) (whole : All (IsWholeArc s) arcs) (long : All (λ (path : Path). 1 < length path) arcs)
    (fore : All IsForward arcs) (least : All (StartsAtLeast s) arcs) where
  abbrev S : List Segment
  S = links_of s

  abbrev node : GridPoint → Bool
  node p = is_node s S p

  abbrev path_of : SignedArc → Path
  path_of a = points_of arcs a

  -- ---- directions

  -- an arc comes before its reverse, and not the other way round
  comes_first : (n : ℕ) → n < length arcs → let arc : Path = get_or arcs n [] in (list_before is_before arc (reverse arc) ≡ true) × (list_before is_before (reverse arc) arc ≡ false)
  comes_first n below =
      let arc : Path = get_or arcs n [] in
      let size : 1 < length arc = long n [] below in
      let back_size = length-reverse arc in
      let (P, first) = two_first arc size in
      let (B, after) = two_first (reverse arc) (omega arith) in
      let far : point_at (reverse arc) 0 ≡ point_at arc (length arc - 1) = get_or-reverse arc 0 _ (omega arith) ∙ ap (point_at arc) (let e : length arc - 1 - 0 ≡ length arc - 1 = omega arith in e) in
      let near : point_at (reverse arc) 1 ≡ point_at arc (length arc - 2) = get_or-reverse arc 1 _ (omega arith) ∙ ap (point_at arc) (let e : length arc - 1 - 1 ≡ length arc - 2 = omega arith in e) in
      let x : GridPoint = point_at arc 0 in
      let y : GridPoint = point_at arc (length arc - 1) in
      let told : is_backward arc ≡ false = (fore n [] below).forward in
      let (not_far, not_near) = or_parts (is_before y x) (same_point y x && is_before (point_at arc (length arc - 2)) (point_at arc 1)) told in
      let ends : reverse arc ≡ y ∷ point_at arc (length arc - 2) ∷ B = after ∙ (λ i. far i ∷ near i ∷ B) in
      elim (cases_Bool (is_before x y)) [
        | inl less ↦
            (let both = first_apart x y (point_at arc 1 ∷ P) (point_at arc (length arc - 2) ∷ B) less in (
              (λ i. list_before is_before (first i) (ends i)) ∙ both.0,
              (λ i. list_before is_before (ends i) (first i)) ∙ both.1,
            ))
        | inr not_less ↦
            (let same : x ≡ y = is_before-IsStrictOrder.total x y not_less not_far in
            let not_back : is_before (point_at arc (length arc - 2)) (point_at arc 1) ≡ false = (λ i. sym (same_point_to y x (sym same)) i && is_before (point_at arc (length arc - 2)) (point_at arc 1)) ∙ not_near in
            let second : is_before (point_at arc 1) (point_at arc (length arc - 2)) ≡ true = after_one n below same not_back in
            let both = first_apart (point_at arc 1) (point_at arc (length arc - 2)) P B second in (
              (λ i. list_before is_before (first i) (ends i)) ∙ first_alike x y (point_at arc 1 ∷ P) (point_at arc (length arc - 2) ∷ B) same ∙ both.0,
              (λ i. list_before is_before (ends i) (first i)) ∙ first_alike y x (point_at arc (length arc - 2) ∷ B) (point_at arc 1 ∷ P) (sym same) ∙ both.1,
            ))
      ]
    where
      after_one : (n : ℕ) → n < length arcs → point_at (get_or arcs n []) 0 ≡ point_at (get_or arcs n []) (length (get_or arcs n []) - 1) → is_before (point_at (get_or arcs n []) (length (get_or arcs n []) - 2)) (point_at (get_or arcs n []) 1) ≡ false
          → is_before (point_at (get_or arcs n []) 1) (point_at (get_or arcs n []) (length (get_or arcs n []) - 2)) ≡ true
      after_one n below same not_back =
          let arc : Path = get_or arcs n [] in
          let size : 1 < length arc = long n [] below in
          elim (cases_Bool (is_before (point_at arc 1) (point_at arc (length arc - 2)))) [
            | inl e ↦ e
            | inr e ↦
                (let one : point_at arc 1 ≡ point_at arc (length arc - 2) = is_before-IsStrictOrder.total (point_at arc 1) (point_at arc (length arc - 2)) e not_back in
                let first : Segment = record { start = point_at arc 0; stop = point_at arc 1 } in
                let last : Segment = record { start = point_at arc (length arc - 2); stop = point_at arc (suc (length arc - 2)) } in
                let on_first = on s distinct closed ordered arcs along whole long (forward n) below 0 size in
                let turned : last ≡ reversed first = (λ i. record { start = sym one i; stop = (ap (point_at arc) (let e : suc (length arc - 2) ≡ length arc - 1 = omega arith in e) ∙ sym same) i }) in
                let links : link_between first ≡ link_between last = sym (ap link_between turned ∙ link_turned first (moves s distinct closed ordered arcs along whole long first on_first)) in
                elim (cases_eq (length arc - 2) 0) [
                  | inl zero_here ↦ absurd (moves s distinct closed ordered arcs along whole long first on_first (same ∙ ap (point_at arc) (let e : length arc - 1 ≡ 1 = omega arith in e)))
                  | inr some ↦ absurd (apart_steps s distinct closed ordered arcs along whole long (forward n) below 0 (length arc - 2) size (omega arith) (λ e. some (sym e)) links)
                ])
          ]

  -- in its direction a signed arc is its arc
  in_direction : (a : SignedArc) → a.arc < length arcs → forward_way (path_of a) ≡ get_or arcs a.arc []
  in_direction a below = go a.is_reversed
    where
      go : (b : Bool) → forward_way (path_of (record { arc = a.arc; is_reversed = b })) ≡ get_or arcs a.arc []
      go false = ap (λ (b : Bool). if b then reverse (get_or arcs a.arc []) else get_or arcs a.arc []) (comes_first a.arc below).1
      go true =
          let arc : Path = get_or arcs a.arc [] in
          ap (λ (b : Bool). if b then reverse (reverse arc) else reverse arc) (ap (λ (p : Path). list_before is_before p (reverse arc)) (reverse-reverse arc) ∙ (comes_first a.arc below).0)
          ∙ reverse-reverse arc

  -- ---- an arc along a step

  all_least : (a : SignedArc) → a.arc < length arcs → StartsAtLeast s (path_of a)
  all_least a below = go a.is_reversed
    where
      go : (b : Bool) → StartsAtLeast s (path_of (record { arc = a.arc; is_reversed = b }))
      go false = least a.arc [] below
      go true = back_least s (get_or arcs a.arc []) (long a.arc [] below) (whole a.arc [] below) (least a.arc [] below)

  other_path : (a : SignedArc) → points_of arcs (record { arc = a.arc; is_reversed = not a.is_reversed }) ≡ reverse (path_of a)
  other_path a = go a.is_reversed
    where
      go : (b : Bool) → path_of (record { arc = a.arc; is_reversed = not b }) ≡ reverse (path_of (record { arc = a.arc; is_reversed = b }))
      go false = refl
      go true = sym (reverse-reverse (get_or arcs a.arc []))

  module _ (a : SignedArc) (below : a.arc < length arcs) (j : ℕ) (there : suc j < length (points_of arcs a)) where
    abbrev Q : Path
    Q = points_of arcs a

    abbrev at_step : Segment
    at_step = record { start = point_at Q j; stop = point_at Q (suc j) }

    -- an arc between nodes
    module _ (first : IsNode s (point_at Q 0)) (last : IsNode s (point_at Q (length Q - 1))) where
      ahead : run_from node S (point_at Q j) (point_at Q (suc j)) ≡ drop j Q
      ahead =
          let zero_at : point_at (drop j Q) 0 ≡ point_at Q j = get_or-drop j Q 0 _ ∙ ap (point_at Q) (let e : j + 0 ≡ j = omega arith in e) in
          let one_at : point_at (drop j Q) 1 ≡ point_at Q (suc j) = get_or-drop j Q 1 _ ∙ ap (point_at Q) (let e : j + 1 ≡ suc j = omega arith in e) in
          (λ i. run_from node S (sym zero_at i) (sym one_at i)) ∙ run_is node S (drop j Q) (open_run s distinct closed ordered arcs along whole long a below j there first last)

      back_from : run_from node S (point_at Q (suc j)) (point_at Q j) ≡ drop (length Q - 2 - j) (reverse Q)
      back_from =
          let b : SignedArc = record { arc = a.arc; is_reversed = not a.is_reversed } in
          let R : Path = points_of arcs b in
          let is : R ≡ reverse Q = other_path a in
          let size = length-reverse Q in
          let same_long : length R ≡ length Q = ap (λ (p : Path). length p) is ∙ size in
          let k : ℕ = length Q - 2 - j in
          let fits : suc (length Q - 2 - j) < length R = omega arith in
          let at_back : (i m : ℕ) → i < length Q → m ≡ length Q - 1 - i → point_at R i ≡ point_at Q m = (λ i m l e. ap (λ (p : Path). point_at p i) is ∙ get_or-reverse Q i _ l ∙ ap (point_at Q) (sym e)) in
          let zero_at : point_at (drop (length Q - 2 - j) R) 0 ≡ point_at Q (suc j) = get_or-drop (length Q - 2 - j) R 0 _ ∙ at_back (length Q - 2 - j + 0) (suc j) (omega arith) (omega arith) in
          let one_at : point_at (drop (length Q - 2 - j) R) 1 ≡ point_at Q j = get_or-drop (length Q - 2 - j) R 1 _ ∙ at_back (length Q - 2 - j + 1) j (omega arith) (omega arith) in
          let far : point_at R 0 ≡ point_at Q (length Q - 1) = at_back 0 (length Q - 1) (omega arith) (omega arith) in
          let near : point_at R (length R - 1) ≡ point_at Q 0 = ap (point_at R) (let e : length R - 1 ≡ length Q - 1 = omega arith in e) ∙ at_back (length Q - 1) 0 (omega arith) (omega arith) in
          (λ i. run_from node S (sym zero_at i) (sym one_at i))
          ∙ run_is node S (drop (length Q - 2 - j) R) (open_run s distinct closed ordered arcs along whole long b below (length Q - 2 - j) fits (λ p. last (subst (IsPassed s) far p)) (λ p. first (subst (IsPassed s) near p)))
          ∙ ap (drop (length Q - 2 - j)) is

      not_round : (same_point (last_of (point_at Q j) (drop j Q)) (point_at Q j) && not (node (point_at Q j))) ≡ false
      not_round =
          let size = length-drop j Q in
          let end : last_of (point_at Q j) (drop j Q) ≡ point_at Q (length Q - 1) = last_at (point_at Q j) (drop j Q) (omega arith) ∙ get_or-drop j Q (length (drop j Q) - 1) _ ∙ ap (point_at Q) (let e : j + (length (drop j Q) - 1) ≡ length Q - 1 = omega arith in e) in
          ap (λ (p : GridPoint). same_point p (point_at Q j) && not (node (point_at Q j))) end ∙ go (same_point (point_at Q (length Q - 1)) (point_at Q j)) refl
        where
          go : (b : Bool) → same_point (point_at Q (length Q - 1)) (point_at Q j) ≡ b → (same_point (point_at Q (length Q - 1)) (point_at Q j) && not (node (point_at Q j))) ≡ false
          go false e = ap (λ (b : Bool). b && not (node (point_at Q j))) e
          go true e =
              let same : point_at Q (length Q - 1) ≡ point_at Q j = same_point_from (point_at Q (length Q - 1)) (point_at Q j) e in
              let is : node (point_at Q j) ≡ true = node_if s distinct closed (point_at Q j) (λ p. last (subst (IsPassed s) (sym same) p)) in
              (λ i. e i && not (is i))

      open_arc : arc_along node S at_step ≡ get_or arcs a.arc []
      open_arc =
          let twice : tail (tail (drop (length Q - 2 - j) (reverse Q))) ≡ drop (length Q - j) (reverse Q) =
          ap tail (tail_drop (length Q - 2 - j) (reverse Q)) ∙ tail_drop (suc (length Q - 2 - j)) (reverse Q) ∙ ap (λ (k : ℕ). drop k (reverse Q)) (let e : suc (suc (length Q - 2 - j)) ≡ length Q - j = omega arith in e) in
          (λ i. if same_point (last_of (point_at Q j) (ahead i)) (point_at Q j) && not (node (point_at Q j)) then forward_way (begun_at_least (ahead i)) else forward_way (reverse (tail (tail (back_from i))) ++ ahead i))
          ∙ ap (λ (b : Bool). if b then forward_way (begun_at_least (drop j Q)) else forward_way (reverse (tail (tail (drop (length Q - 2 - j) (reverse Q)))) ++ drop j Q)) not_round
          ∙ ap (λ (p : Path). forward_way (p ++ drop j Q)) (ap reverse twice ∙ front_back j Q (omega arith))
          ∙ ap forward_way (take-append-drop j Q)
          ∙ in_direction a below

    -- a closed arc without a node
    module _ (n : ℕ) (long_by : suc n ≡ length Q) (round : point_at Q 0 ≡ point_at Q n) (passed : IsPassed s (point_at Q 0)) where
      abbrev T : Path
      T = tail Q

      abbrev W : Path
      W = drop j Q ++ take j (tail Q)

      abbrev A : Path
      A = take j (tail Q)

      abbrev B : Path
      B = without_last (drop j (tail Q))

      abbrev z : GridPoint
      z = point_at (drop j (tail Q)) (length (drop j (tail Q)) - 1)

      T_long : length (tail Q) ≡ n
      T_long = tail_long Q n long_by

      after_long : length (drop j (tail Q)) ≡ n - j
      after_long = let t = T_long in let d = length-drop j (tail Q) in omega arith

      after : drop j (tail Q) ≡ B ++ z ∷ []
      after = let t = after_long in last_put (drop j (tail Q)) (omega arith)

      z_is : z ≡ point_at Q n
      z_is =
          let t = after_long in
          get_or-drop j (tail Q) (length (drop j (tail Q)) - 1) _ ∙ tail_at Q (j + (length (drop j (tail Q)) - 1)) ∙ ap (point_at Q) (let e : suc (j + (length (drop j (tail Q)) - 1)) ≡ n = omega arith in e)

      Q_is : Q ≡ point_at Q 0 ∷ (A ++ (B ++ z ∷ []))
      Q_is =
          let front : Q ≡ point_at Q 0 ∷ tail Q = first_of Q (omega arith) in
          front ∙ ap (λ (p : Path). point_at Q 0 ∷ p) (sym (take-append-drop j (tail Q)) ∙ ap (λ (p : Path). take j (tail Q) ++ p) after)
        where
          first_of : (path : Path) → 0 < length path → path ≡ point_at path 0 ∷ tail path
          first_of [] l = absurd (omega arith)
          first_of (p ∷ path) l = refl

      W_is : W ≡ point_at Q j ∷ (B ++ z ∷ A)
      W_is =
          let cut : drop j Q ≡ point_at Q j ∷ drop (suc j) Q = drop-cons Q j _ (omega arith) in
          let later : drop (suc j) Q ≡ drop j (tail Q) = drop_tail j Q in
          ap (λ (p : Path). p ++ A) (cut ∙ ap (λ (p : Path). point_at Q j ∷ p) (later ∙ after)) ∙ ap (λ (p : Path). point_at Q j ∷ p) (append_assoc B (z ∷ []) A)
        where
          drop_tail : (k : ℕ) (path : Path) → drop (suc k) path ≡ drop k (tail path)
          drop_tail zero [] = refl
          drop_tail (suc k) [] = refl
          drop_tail k (p ∷ path) = refl

      B_apart : All (λ y. same_point z y ≡ false) B
      B_apart i d l =
          let t = after_long in
          let short = put_long (drop j (tail Q)) (omega arith) in
          let at : get_or B i d ≡ point_at Q (suc (j + i)) =
          get_or_default B i d (point_at [] 0) l ∙ sym (get_or_append_left B (z ∷ []) (point_at [] 0) i l) ∙ ap (λ (p : Path). point_at p i) (sym after) ∙ get_or-drop j (tail Q) i _ ∙ tail_at Q (j + i) in
          false_from_ne_true (same_point z (get_or B i d)) (λ e.
          apart_round s distinct closed ordered arcs along whole long a below j there n long_by round passed 0 (suc (j + i)) (omega arith) (omega arith)
          (sym at ∙ sym (same_point_from z (get_or B i d) e) ∙ z_is ∙ sym round))

      none_before : (y : GridPoint) → Contains (B ++ z ∷ A) y → is_before y z ≡ false
      none_before y (i, l, is) =
          let size : length W ≡ suc n = W_long s distinct closed ordered arcs along whole long a below j there n long_by round passed in
          let shape : suc (length (B ++ z ∷ A)) ≡ length W = sym (ap (λ (p : Path). length p) W_is) in
          let here : y ≡ point_at W (suc i) = sym is ∙ get_or_default (B ++ z ∷ A) i y (point_at [] 0) l ∙ ap (λ (p : Path). point_at p (suc i)) (sym W_is) in
          let low : (m : ℕ) → m ≤ n → point_at W (suc i) ≡ point_at Q m → is_before y z ≡ false = (λ m k e.
          ap (λ (p : GridPoint). is_before p z) (here ∙ e) ∙ ap (λ (p : GridPoint). is_before (point_at Q m) p) (z_is ∙ sym round) ∙ all_least a below passed m (omega arith)) in
          elim (cases_lt n (j + suc i)) [
            | inr inner ↦ low (j + suc i) inner (W_low s distinct closed ordered arcs along whole long a below j there n long_by round passed (suc i) inner)
            | inl over ↦ low (j + suc i - n) (omega arith) (W_high s distinct closed ordered arcs along whole long a below j there n long_by round passed (suc i) (j + suc i - n) (omega arith) (omega arith) refl)
          ]

      goes_round : run_from node S (point_at Q j) (point_at Q (suc j)) ≡ W
      goes_round =
          let more = some_more in
          let zero_at : point_at W 0 ≡ point_at Q j = start_at s distinct closed ordered arcs along whole long a below j there n long_by round passed in
          let one_at : point_at W 1 ≡ point_at Q (suc j) = W_low s distinct closed ordered arcs along whole long a below j there n long_by round passed 1 (omega arith) ∙ ap (point_at Q) (let e : j + 1 ≡ suc j = omega arith in e) in
          (λ i. run_from node S (sym zero_at i) (sym one_at i)) ∙ run_is node S W (round_run s distinct closed ordered arcs along whole long a below j there n long_by round passed)
        where
          some_more : suc j ≤ n
          some_more = omega arith

      comes_back : (same_point (last_of (point_at Q j) W) (point_at Q j) && not (node (point_at Q j))) ≡ true
      comes_back =
          let size : length W ≡ suc n = W_long s distinct closed ordered arcs along whole long a below j there n long_by round passed in
          let end : last_of (point_at Q j) W ≡ point_at Q j =
          last_at (point_at Q j) W (omega arith) ∙ W_high s distinct closed ordered arcs along whole long a below j there n long_by round passed (length W - 1) j (omega arith) (omega arith) (omega arith) in
          (λ i. same_point_to (last_of (point_at Q j) W) (point_at Q j) end i && not (if_passed s distinct closed (point_at Q j) (passed_at j) i))
        where
          passed_at : (k : ℕ) → IsPassed s (point_at Q j)
          passed_at k = elim (cases_eq j 0) [
            | inl first ↦ subst (IsPassed s) (ap (point_at Q) (sym first)) passed
            | inr some ↦ (is_whole s distinct closed ordered arcs along whole long a below).inner j (omega arith) (omega arith)
          ]

      closed_arc : arc_along node S at_step ≡ get_or arcs a.arc []
      closed_arc =
          let back : Path = run_from node S (point_at Q (suc j)) (point_at Q j) in
          (λ i. if same_point (last_of (point_at Q j) (goes_round i)) (point_at Q j) && not (node (point_at Q j)) then forward_way (begun_at_least (goes_round i)) else forward_way (reverse (tail (tail back)) ++ goes_round i))
          ∙ ap (λ (b : Bool). if b then forward_way (begun_at_least W) else forward_way (reverse (tail (tail back)) ++ W)) comes_back
          ∙ ap (λ (p : Path). forward_way (begun_at_least p)) W_is
          ∙ ap forward_way (begun_is (point_at Q j) (point_at Q 0) z A B (round ∙ sym z_is) B_apart none_before ∙ sym Q_is)
          ∙ in_direction a below

    pub along_step : arc_along node S at_step ≡ get_or arcs a.arc []
    along_step = elim (is_whole s distinct closed ordered arcs along whole long a below).ends [
      | inl nodes ↦ open_arc nodes.0 nodes.1
      | inr round ↦ closed_arc (length Q - 1) (omega arith) round.0 round.1
    ]
