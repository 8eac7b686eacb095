-- The arcs found on a path so far.
use Rattle.std.proofs.Common.{◌≡◌, ◌⊎◌, inl, inr, refl, sym, ap, ◌∙◌, subst, arith, ℕ, zero, suc, ◌+◌, ◌-◌, ◌<◌, ◌≤◌, List, [], ◌∷◌, ◌++◌, length, get_or, All, Contains, append_assoc}
use Rattle.std.specs.Prelude.{◌≢◌}
use Rattle.std.proofs.lemmas.Bool.{cases_lt}
use Rattle.std.specs.List.{flat_map}
use Rattle.std.proofs.lemmas.Grind.{flat_map-append}
use Rattle.std.proofs.lemmas.List.{append-nil, length-append, get_or_append_left, get_or-append_right}
use Rattle.std.proofs.lemmas.List.Elements.{All-head, All-tail, All-nil, All-cons, All-append}
use Rattle.lists.specs.Lists.{without_last}
use Rattle.plane_model.specs.Points.{Segment, Path, link_between}
use Rattle.plane_model.specs.Drawing.{Drawing, steps}
use Rattle.plane_model.specs.Arcs.{SignedArc, points_of, joined_points}
use Rattle.plane_model.specs.Arrangement.{IsBefore}
use Rattle.plane_model.specs.Snapped.{links_of}
use Rattle.arc_table.specs.Direction.{point_at}
use Rattle.arc_table.specs.Along.{GoAlong}
use Rattle.arc_table.specs.Around.{first_step}
use Rattle.arc_table.specs.WholeArcs.{IsPassed, IsNode, IsWholeArc}
use Rattle.arc_table.proofs.ArcSteps.{IsStepOf, find, one_arc_of}
use Rattle.arc_table.proofs.Walks.{all_whole, fits, walk, begins_next, stays_round, passed_on, passed_between, starts_arc, none_inside}

abbrev pub path_step : Path → ℕ → Segment
path_step path k = record { start = point_at path k; stop = point_at path (suc k) }

-- a signed arc begins with this step
abbrev pub BeginsArc : List Path → Segment → Type 0
BeginsArc arcs s = (a : SignedArc) × (a.arc < length arcs) × (first_step arcs a ≡ s)

-- ---- points of arcs, joined

without_last-length : (xs : Path) → length (without_last xs) ≡ length xs - 1
without_last-length [] = omega arith
without_last-length (x ∷ []) = omega arith
without_last-length (x ∷ y ∷ rest) = let h = without_last-length (y ∷ rest) in omega arith

without_last-at : (xs : Path) (t : ℕ) → suc t < length xs → point_at (without_last xs) t ≡ point_at xs t
without_last-at [] t l = absurd (omega arith)
without_last-at (x ∷ []) t l = absurd (omega arith)
without_last-at (x ∷ y ∷ rest) zero l = refl
without_last-at (x ∷ y ∷ rest) (suc t) l = without_last-at (y ∷ rest) t (omega arith)

without_last-append : (xs ys : Path) → 0 < length ys → without_last (xs ++ ys) ≡ xs ++ without_last ys
without_last-append [] ys l = refl
without_last-append (x ∷ []) [] l = absurd (omega arith)
without_last-append (x ∷ []) (y ∷ ys) l = refl
without_last-append (x ∷ z ∷ xs) ys l = ap (λ (ps : Path). x ∷ ps) (without_last-append (z ∷ xs) ys l)

module _ (arcs : List Path) where
  abbrev pub HasPoints : SignedArc → Type 0
  HasPoints a = 0 < length (points_of arcs a)

  joined_some : (a : SignedArc) (named : List SignedArc) → All HasPoints (a ∷ named) → 0 < length (joined_points arcs (a ∷ named))
  joined_some a [] h = All-head HasPoints a [] h
  joined_some a (b ∷ rest) h =
      let r = joined_some b rest (All-tail HasPoints a (b ∷ rest) h) in
      let s = length-append (without_last (points_of arcs a)) (joined_points arcs (b ∷ rest)) in
      omega arith

  joined_more : (a : SignedArc) (named : List SignedArc) (z : SignedArc) → All HasPoints (a ∷ named) → joined_points arcs ((a ∷ named) ++ z ∷ []) ≡ without_last (joined_points arcs (a ∷ named)) ++ points_of arcs z
  joined_more a [] z h = refl
  joined_more a (b ∷ rest) z h =
      let A = without_last (points_of arcs a) in
      let B = joined_points arcs (b ∷ rest) in
      let later = All-tail HasPoints a (b ∷ rest) h in
      ap (λ (ps : Path). A ++ ps) (joined_more b rest z later) ∙ sym (append_assoc A (without_last B) (points_of arcs z))
      ∙ ap (λ (ps : Path). ps ++ points_of arcs z) (sym (without_last-append A B (joined_some b rest later)))

-- the steps of a path that ends where another begins, and of that one
pub steps_over : (J P : Path) (t : ℕ) → suc t ≡ length J → 0 < length P → point_at J t ≡ point_at P 0 → steps (without_last J ++ P) ≡ steps J ++ steps P
steps_over [] P t size some e = absurd (omega arith)
steps_over (x ∷ []) P t size some e = refl
steps_over (x ∷ y ∷ []) [] t size some e = absurd (omega arith)
steps_over (x ∷ y ∷ []) (p ∷ ps) zero size some e = absurd (omega arith)
steps_over (x ∷ y ∷ []) (p ∷ ps) (suc t) size some e =
    let same : t ≡ 0 = omega arith in
    let meets : y ≡ p = ap (λ (k : ℕ). point_at (y ∷ []) k) (sym same) ∙ e in
    λ i. record { start = x; stop = sym meets i } ∷ steps (p ∷ ps)
steps_over (x ∷ y ∷ z ∷ rest) P zero size some e = absurd (omega arith)
steps_over (x ∷ y ∷ z ∷ rest) P (suc t) size some e = ap (λ (ss : List Segment). record { start = x; stop = y } ∷ ss) (steps_over (y ∷ z ∷ rest) P t (omega arith) some e)

-- the arc begins with a step of the path, not before vertex `first`
abbrev pub BeginsFrom : List Path → Path → ℕ → SignedArc → Type 0
BeginsFrom arcs Q first a = (k : ℕ) × (first ≤ k) × (suc k < length Q) × IsStepOf arcs a 0 (path_step Q k)

-- after `at` steps of the path no arc has begun
pub record NoneYet (arcs : List Path) (Q : Path) (at inside : ℕ) (named : List SignedArc) : Type 0 where
  pub none : named ≡ []
  pub idle : inside ≡ 0
  pub before : (k : ℕ) → k < at → BeginsArc arcs (path_step Q k) → ⊥

-- after `at` steps of the path the arcs begun from vertex `first` on, joined, go `inside` steps further
pub record IsUnderWay (arcs : List Path) (Q : Path) (at inside : ℕ) (named : List SignedArc) : Type 0 where
  pub first : ℕ
  pub below : first < at
  pub begins : BeginsArc arcs (path_step Q first)
  pub before : (k : ℕ) → k < first → BeginsArc arcs (path_step Q k) → ⊥
  pub ends : at + inside < length Q
  pub inner : (k : ℕ) → at ≤ k → k < at + inside → BeginsArc arcs (path_step Q k) → ⊥
  pub next : suc (at + inside) < length Q → BeginsArc arcs (path_step Q (at + inside))
  pub one : SignedArc
  pub others : List SignedArc
  pub is : named ≡ one ∷ others
  pub full : All (HasPoints arcs) named
  pub each : All (BeginsFrom arcs Q first) named
  pub size : length (joined_points arcs named) + first ≡ suc (at + inside)
  pub points : (t : ℕ) → first + t ≤ at + inside → point_at (joined_points arcs named) t ≡ point_at Q (first + t)
  pub stepped : steps (joined_points arcs named) ≡ flat_map (λ (b : SignedArc). steps (points_of arcs b)) named

abbrev pub IsFound : List Path → Path → ℕ → ℕ → List SignedArc → Type 0
IsFound arcs Q at inside named = NoneYet arcs Q at inside named ⊎ IsUnderWay arcs Q at inside named

pub found_at_first : (arcs : List Path) (Q : Path) → IsFound arcs Q 0 0 []
found_at_first arcs Q = inl (record { none = refl; idle = refl; before = λ k l b. absurd (omega arith) })

-- a step inside an arc
pub found_inside : (arcs : List Path) (Q : Path) (at inside left next_at : ℕ) (named : List SignedArc) → 0 < inside → left ≡ inside - 1 → next_at ≡ suc at → IsFound arcs Q at inside named → IsFound arcs Q next_at left named
found_inside arcs Q at inside left next_at named some less next (inl h) = absurd (let e = h.idle in omega arith)
found_inside arcs Q at inside left next_at named some less next (inr w) =
    let same : at + inside ≡ next_at + left = omega arith in
    let below = w.below in
    let size = w.size in
    inr (record {
      first = w.first;
      below = omega arith;
      begins = w.begins;
      before = w.before;
      ends = (let e = w.ends in omega arith);
      inner = λ k l m. w.inner k (omega arith) (omega arith);
      next = λ l. subst (λ (q : ℕ). BeginsArc arcs (path_step Q q)) same (w.next (omega arith));
      one = w.one;
      others = w.others;
      is = w.is;
      full = w.full;
      each = w.each;
      size = omega arith;
      points = λ t l. w.points t (omega arith);
      stepped = w.stepped;
    })

module _ (d : Drawing) (arcs : List Path) (ordered : All (λ (l : Segment). IsBefore l.start l.stop) (links_of d)) (along : GoAlong (links_of d) arcs) (whole : All (IsWholeArc d) arcs)
    (long : All (λ (path : Path). 1 < length path) arcs) (Q : Path) (n : ℕ)
    (on : (k : ℕ) → suc k < length Q → Contains (links_of d) (link_between (record { start = point_at Q k; stop = point_at Q (suc k) })))
    (plain : (k : ℕ) → suc (suc k) < length Q → IsPassed d (point_at Q (suc k)) → point_at Q (suc (suc k)) ≢ point_at Q k)
    (kind : ((suc n ≡ length Q) × (IsPassed d (point_at Q n) → ⊥)) ⊎ ((suc (n + n) ≡ length Q) × ((k : ℕ) → k ≤ n → point_at Q (n + k) ≡ point_at Q k))) where
  module _ (a : SignedArc) (at left : ℕ) (h : IsStepOf arcs a 0 (path_step Q at)) (l : at < n) (left_is : left ≡ length (points_of arcs a) - 2) where
    abbrev P : Path
    P = points_of arcs a

    reach : (u k : ℕ) → k ≡ at + u → suc u < length P → (suc k < length Q) × (u < n) × IsStepOf arcs a u (path_step Q k)
    reach u k e m = walk d arcs ordered along whole long Q n on plain kind a 0 at h l u k u e (omega arith) m

    last : (suc (at + left) < length Q) × (left < n) × IsStepOf arcs a left (path_step Q (at + left))
    last = let m = h.there in reach left (at + left) refl (omega arith)

    along_points : (t : ℕ) → t ≤ suc left → point_at P t ≡ point_at Q (at + t)
    along_points t m =
        let some = h.there in
        elim (cases_lt t (suc left)) [
          | inl v ↦ sym (ap (λ (s : Segment). s.start) (reach t (at + t) refl (omega arith)).2.is)
          | inr v ↦ (
              let e : t ≡ suc left = omega arith in
              let f : suc (at + left) ≡ at + t = omega arith in
              ap (point_at P) e ∙ sym (ap (λ (s : Segment). s.stop) last.2.is) ∙ ap (point_at Q) f)
        ]

    new_end : suc at + left < length Q
    new_end = let z = last.0 in omega arith

    new_inner : (k : ℕ) → suc at ≤ k → k < suc at + left → BeginsArc arcs (path_step Q k) → ⊥
    new_inner k x y b =
        let some = h.there in
        none_inside d arcs ordered along whole long Q n on plain kind a (k - at) k (reach (k - at) k (omega arith) (omega arith)).2 (omega arith) b

    new_next : suc (suc at + left) < length Q → BeginsArc arcs (path_step Q (suc at + left))
    new_next m =
        let some = h.there in
        subst (λ (q : ℕ). BeginsArc arcs (path_step Q q)) (let e : suc (at + left) ≡ suc at + left = omega arith in e)
        (begins_next d arcs ordered along whole long Q n on plain kind a left (at + left) last.2 (omega arith) (omega arith))

    has_points : HasPoints arcs a
    has_points = let m = h.there in omega arith

    begins_here : (first : ℕ) → first ≤ at → BeginsFrom arcs Q first a
    begins_here first m = (at, m, fits d arcs ordered along whole long Q n on plain kind at l, h)

    pub first_begun : ((k : ℕ) → k < at → BeginsArc arcs (path_step Q k) → ⊥) → BeginsArc arcs (path_step Q at) → IsUnderWay arcs Q (suc at) left (a ∷ [])
    first_begun before here =
        let some = h.there in
        record {
          first = at;
          below = omega arith;
          begins = here;
          before = before;
          ends = new_end;
          inner = new_inner;
          next = new_next;
          one = a;
          others = [];
          is = refl;
          full = All-cons (HasPoints arcs) a [] has_points (All-nil (HasPoints arcs));
          each = All-cons (BeginsFrom arcs Q at) a [] (begins_here at (omega arith)) (All-nil (BeginsFrom arcs Q at));
          size = (let e : length P + at ≡ suc (suc at + left) = omega arith in e);
          points = λ t m. along_points t (omega arith);
          stepped = sym (append-nil (steps P));
        }

    module _ (named : List SignedArc) (w : IsUnderWay arcs Q at 0 named) where
      abbrev J : Path
      J = joined_points arcs named

      joined_is : joined_points arcs (named ++ a ∷ []) ≡ without_last J ++ P
      joined_is =
          subst (λ (xs : List SignedArc). joined_points arcs (xs ++ a ∷ []) ≡ without_last (joined_points arcs xs) ++ points_of arcs a) (sym w.is)
          (joined_more arcs w.one w.others a (subst (All (HasPoints arcs)) w.is w.full))

      size_before : length (without_last J) + w.first ≡ at
      size_before = let e = without_last-length J in let f = w.size in let b = w.below in omega arith

      size_after : length (joined_points arcs (named ++ a ∷ [])) ≡ length (without_last J) + length P
      size_after = ap (λ (ps : Path). length ps) joined_is ∙ length-append (without_last J) P

      new_points : (t : ℕ) → w.first + t ≤ suc at + left → point_at (joined_points arcs (named ++ a ∷ [])) t ≡ point_at Q (w.first + t)
      new_points t m =
          let some = h.there in
          let e = size_before in
          let f = w.size in
          elim (cases_lt (w.first + t) at) [
            | inl v ↦ ap (λ (ps : Path). point_at ps t) joined_is ∙ get_or_append_left (without_last J) P _ t (omega arith) ∙ without_last-at J t (omega arith) ∙ w.points t (omega arith)
            | inr v ↦ ap (λ (ps : Path). point_at ps t) joined_is ∙ get_or-append_right (without_last J) P (length (without_last J)) t _ refl (omega arith)
                ∙ along_points (t - length (without_last J)) (omega arith) ∙ ap (point_at Q) (let g : at + (t - length (without_last J)) ≡ w.first + t = omega arith in g)
          ]

      they_meet : point_at J (at - w.first) ≡ point_at P 0
      they_meet =
          let b = w.below in
          w.points (at - w.first) (omega arith) ∙ ap (point_at Q) (let g : w.first + (at - w.first) ≡ at + 0 = omega arith in g) ∙ sym (along_points 0 (omega arith))

      pub another_begun : IsUnderWay arcs Q (suc at) left (named ++ a ∷ [])
      another_begun =
          let some = h.there in
          let e = size_before in
          let f = size_after in
          record {
            first = w.first;
            below = (let b = w.below in omega arith);
            begins = w.begins;
            before = w.before;
            ends = new_end;
            inner = new_inner;
            next = new_next;
            one = w.one;
            others = w.others ++ a ∷ [];
            is = ap (λ (xs : List SignedArc). xs ++ a ∷ []) w.is;
            full = All-append (HasPoints arcs) named (a ∷ []) w.full (All-cons (HasPoints arcs) a [] has_points (All-nil (HasPoints arcs)));
            each = All-append (BeginsFrom arcs Q w.first) named (a ∷ []) w.each
                (All-cons (BeginsFrom arcs Q w.first) a [] (begins_here w.first (let b = w.below in omega arith)) (All-nil (BeginsFrom arcs Q w.first)));
            size = omega arith;
            points = new_points;
            stepped = ap steps joined_is ∙ steps_over J P (at - w.first) (let g = w.size in let b = w.below in omega arith) has_points they_meet
                ∙ (λ k. w.stepped k ++ sym (append-nil (steps P)) k) ∙ sym (flat_map-append (λ (b : SignedArc). steps (points_of arcs b)) named (a ∷ []));
          }

  -- a step that begins an arc
  pub found_begun : (at inside left next_at : ℕ) (named all : List SignedArc) (a : SignedArc) → inside ≡ 0 → a.arc < length arcs → first_step arcs a ≡ path_step Q at → at < n → left ≡ length (points_of arcs a) - 2
      → next_at ≡ suc at → all ≡ named ++ a ∷ [] → IsFound arcs Q at inside named → IsFound arcs Q next_at left all
  found_begun at inside left next_at named all a idle l e below left_is next pushed found =
      let h = starts_arc d arcs ordered along whole long Q n on plain kind a at l e in
      let made : IsFound arcs Q (suc at) left (named ++ a ∷ []) = go found h in
      subst (λ (q : ℕ). IsFound arcs Q q left all) (sym next) (subst (IsFound arcs Q (suc at) left) (sym pushed) made)
    where
      go : IsFound arcs Q at inside named → IsStepOf arcs a 0 (path_step Q at) → IsFound arcs Q (suc at) left (named ++ a ∷ [])
      go (inl f) h = inr (subst (λ (xs : List SignedArc). IsUnderWay arcs Q (suc at) left (xs ++ a ∷ [])) (sym f.none) (first_begun a at left h below left_is f.before (a, l, e)))
      go (inr w) h = inr (another_begun a at left h below left_is named (subst (λ (q : ℕ). IsUnderWay arcs Q at q named) idle w))

  -- a step that begins none
  pub found_none : (at inside next_at : ℕ) (named : List SignedArc) → inside ≡ 0 → (BeginsArc arcs (path_step Q at) → ⊥) → at < n → next_at ≡ suc at → IsFound arcs Q at inside named → IsFound arcs Q next_at inside named
  found_none at inside next_at named idle none below next (inl f) = inl (record {
    none = f.none;
    idle = f.idle;
    before = λ k l b. elim (cases_lt k at) [
      | inl m ↦ f.before k m b
      | inr m ↦ none (subst (λ (q : ℕ). BeginsArc arcs (path_step Q q)) (let e : k ≡ at = omega arith in e) b)
    ];
  })
  found_none at inside next_at named idle none below next (inr w) =
      let there = fits d arcs ordered along whole long Q n on plain kind at below in
      absurd (none (subst (λ (q : ℕ). BeginsArc arcs (path_step Q q)) (let e : at + inside ≡ at = omega arith in e) (w.next (omega arith))))

  -- ---- the whole path

  pub passed_before : (k : ℕ) → k < n → (BeginsArc arcs (path_step Q k) → ⊥) → IsPassed d (point_at Q k)
  passed_before k l none = passed_between d arcs ordered along whole long Q n on plain kind k (fits d arcs ordered along whole long Q n on plain kind k l) none

  -- the first vertex is a node, or the path has none and goes along one arc
  pub node_or_round : (at inside : ℕ) (named : List SignedArc) → (w : IsUnderWay arcs Q at inside named)
      → IsNode d (point_at Q w.first) ⊎ (((k : ℕ) → w.first ≤ k → suc k < length Q → IsPassed d (point_at Q k)) × (one : SignedArc) × All (λ (b : SignedArc). b ≡ one) named)
  node_or_round at inside named w =
      let h = starts_arc d arcs ordered along whole long Q n on plain kind w.begins.0 w.first w.begins.1 w.begins.2 in
      elim (all_whole d arcs ordered along whole long w.begins.0 w.begins.1).ends [
        | inl e ↦ inl (subst (IsNode d) (sym (ap (λ (s : Segment). s.start) h.is)) e.0)
        | inr e ↦ inr (
          (λ k l m.
              (let r = stays_round d arcs ordered along whole long Q n on plain kind w.begins.0 w.first h e.0 e.1 (k - w.first) k (omega arith) m in
              passed_on d arcs ordered along whole long Q n on plain kind w.begins.0 r.0 k r.1 e.1)),
          w.begins.0,
          (λ i b l.
              (let c = w.each i b l in
              let below = c.1 in
              let r = stays_round d arcs ordered along whole long Q n on plain kind w.begins.0 w.first h e.0 e.1 (c.0 - w.first) c.0 (omega arith) c.2 in
              sym (one_arc_of (links_of d) arcs ordered along w.begins.0 (get_or named i b) r.0 0 (path_step Q c.0) r.1 c.3).0)),
        )
      ]

  -- on a closed path some arc begins
  pub some_begins : 0 < n → suc (n + n) ≡ length Q → ((k : ℕ) → k ≤ n → point_at Q (n + k) ≡ point_at Q k) → ((k : ℕ) → k < n → BeginsArc arcs (path_step Q k) → ⊥) → ⊥
  some_begins some size same none =
      let (a, t, h) = find (links_of d) arcs ordered along (path_step Q 0) (on 0 (omega arith)) in
      let there = h.there in
      let u = length (points_of arcs a) - 2 - t in
      let reached = walk d arcs ordered along whole long Q n on plain kind a t 0 h some (length (points_of arcs a) - 2 - t) (length (points_of arcs a) - 2 - t) (length (points_of arcs a) - 2) (omega arith) (omega arith) (omega arith) in
      let below = reached.1 in
      let begins = begins_next d arcs ordered along whole long Q n on plain kind a (length (points_of arcs a) - 2) (length (points_of arcs a) - 2 - t) reached.2 (omega arith) (omega arith) in
      elim (cases_lt (suc (length (points_of arcs a) - 2 - t)) n) [
        | inl v ↦ none (suc (length (points_of arcs a) - 2 - t)) v begins
        | inr v ↦ none 0 some (subst (BeginsArc arcs) (first_again n same some) (subst (λ (q : ℕ). BeginsArc arcs (path_step Q q)) (let e : suc (length (points_of arcs a) - 2 - t) ≡ n = omega arith in e) begins))
      ]
    where
      first_again : (n : ℕ) → ((k : ℕ) → k ≤ n → point_at Q (n + k) ≡ point_at Q k) → 0 < n → path_step Q n ≡ path_step Q 0
      first_again n same some =
          let p : point_at Q n ≡ point_at Q 0 = ap (point_at Q) (let e : n ≡ n + 0 = omega arith in e) ∙ same 0 (omega arith) in
          let q : point_at Q (suc n) ≡ point_at Q 1 = ap (point_at Q) (let e : suc n ≡ n + 1 = omega arith in e) ∙ same 1 (omega arith) in
          λ i. record { start = p i; stop = q i }

  -- the last arc of a closed path ends where the first begins
  pub comes_round : (inside : ℕ) (named : List SignedArc) → suc (n + n) ≡ length Q → ((k : ℕ) → k ≤ n → point_at Q (n + k) ≡ point_at Q k) → (w : IsUnderWay arcs Q n inside named) → inside ≡ w.first
  comes_round inside named size same w =
      let below = w.below in
      elim (cases_lt inside w.first) [
        | inl v ↦ absurd (w.before inside v (subst (BeginsArc arcs) (again inside (omega arith)) (w.next (omega arith))))
        | inr v ↦ elim (cases_lt w.first inside) [
          | inl u ↦ absurd (w.inner (n + w.first) (omega arith) (omega arith) (subst (BeginsArc arcs) (sym (again w.first below)) w.begins))
          | inr u ↦ omega arith
        ]
      ]
    where
      again : (k : ℕ) → k < n → path_step Q (n + k) ≡ path_step Q k
      again k l =
          let p : point_at Q (n + k) ≡ point_at Q k = same k (omega arith) in
          let q : point_at Q (suc (n + k)) ≡ point_at Q (suc k) = ap (point_at Q) (let e : suc (n + k) ≡ n + suc k = omega arith in e) ∙ same (suc k) (omega arith) in
          λ i. record { start = p i; stop = q i }
