-- Marks of steps along links, each link once.
use Rattle.std.proofs.Common.{◌≡◌, ◌⊎◌, inl, inr, refl, sym, ap, ◌∙◌, subst, arith, ℕ, zero, suc, ◌+◌, ◌<◌, Bool, true, false, List, [], ◌∷◌, ◌++◌, map, length, get_or, All, AllPairs, Contains, Some, append_assoc}
use Rattle.std.specs.Prelude.{◌≢◌, slice_set, slice_get}
use Rattle.std.proofs.lemmas.Bool.{cases_lt}
use Rattle.std.proofs.lemmas.Grind.{get_or-set_at}
use Rattle.std.proofs.lemmas.List.{length-set, append-nil, map-append, get_or-set_other}
use Rattle.std.proofs.lemmas.List.Elements.{Contains-append_left, Contains-append_right, Contains-append_cases, Contains-get_or, All-append, All-cons, All-nil}
use Rattle.std.proofs.lemmas.List.Quantifiers.{all_pairs_push}
use Rattle.std.proofs.lemmas.Option.{get_or_from_slice_get, slice_get-get_or}
use Rattle.lists.proofs.Members.{Contains-head, Contains-nil, Contains-cases}
use Rattle.plane_model.specs.Points.{Segment, reversed, link_between}
use Rattle.plane_model.proofs.PointOrder.{clash}
use Rattle.arc_table.specs.Steps.{AreProper}
use Rattle.arc_table.specs.Numbering.{walk, place_after, GoesOn, step_at, IsWay, link_at, links_from, links_along, HasMark, AreMarked, AreWhole, AddsMarks, IsNumbering, GoesFrom, AreWays}
use Rattle.arc_table.specs.declared.half_links.Net.{Net}
use Rattle.arc_table.specs.declared.numbering.Way.{Way}
use Rattle.arc_table.specs.declared.numbering.Numbering.{Numbering}
use Rattle.arc_table.proofs.Proper.{place_once, link_turned, one_link}

pub same_or_not : (a b : ℕ) → (a ≡ b) ⊎ (a ≢ b)
same_or_not a b = elim (cases_lt a b) [
  | inl l ↦ inr (λ e. omega arith)
  | inr l ↦ elim (cases_lt b a) [ inl m ↦ inr (λ e. omega arith) | inr m ↦ inl (omega arith) ]
]

pub walk_more : (onward : List ℕ) (n h : ℕ) → walk onward (suc n) h ≡ walk onward n h ++ place_after onward n h ∷ []
walk_more onward zero h = refl
walk_more onward (suc n) h = ap (λ (xs : List ℕ). h ∷ xs) (walk_more onward n (get_or onward h 0))

pub place_more : (onward : List ℕ) (n h : ℕ) → place_after onward (suc n) h ≡ get_or onward (place_after onward n h) 0
place_more onward zero h = refl
place_more onward (suc n) h = place_more onward n (get_or onward h 0)

-- the twin of the step at a place, at its place
pub back_at : (steps : List Segment) (at twin : ℕ) → at < length steps → ((s : Segment) → slice_get steps at ≡ Some s → slice_get steps twin ≡ Some (reversed s)) → step_at steps twin ≡ reversed (step_at steps at)
back_at steps at twin l back = get_or_from_slice_get steps twin (reversed (step_at steps at)) _ (back (step_at steps at) (slice_get-get_or steps at _ l))

-- where the step next goes on from the step at, those before it go on to it
pub goes_more : (onward : List ℕ) (k at next start : ℕ) → next ≡ get_or onward at 0 → next ≢ at → ((n : ℕ) → GoesOn onward n at → GoesOn onward (k + n) start) → (n : ℕ) → GoesOn onward n next → GoesOn onward (k + 1 + n) start
goes_more onward k at next start e differs before n g = subst (λ (j : ℕ). GoesOn onward j start) (one k n) (before (suc n) (inner n g))
  where
    one : (k n : ℕ) → k + suc n ≡ k + 1 + n
    one k n = omega arith

    inner : (n : ℕ) → GoesOn onward n next → GoesOn onward (suc n) at
    inner zero g = tt
    inner (suc n) g = ((λ f. differs (e ∙ f)), subst (GoesOn onward (suc n)) e g)

module _ (net : Net) (proper : AreProper net.steps) where
  abbrev N : ℕ
  N = length net.steps

  module _ (marks new : List Bool) (at twin : ℕ) (each : length marks ≡ N) (here : at < N) (there : twin < N) (back : step_at net.steps twin ≡ reversed (step_at net.steps at))
      (set : new ≡ slice_set (slice_set marks at true) twin true) where
    size_set : (xs : List Bool) (k : ℕ) (b : Bool) → length (slice_set xs k b) ≡ length xs
    size_set xs k b = length-set xs k b

    at_twin : (h : ℕ) → h ≡ twin → HasMark new h
    at_twin h e = ap (λ (xs : List Bool). get_or xs h false) set ∙ get_or-set_at (slice_set marks at true) twin h true false e (let n = size_set marks at true in omega arith)

    past_twin : (h : ℕ) → h ≢ twin → get_or new h false ≡ get_or (slice_set marks at true) h false
    past_twin h e = ap (λ (xs : List Bool). get_or xs h false) set ∙ get_or-set_other (slice_set marks at true) twin h true false e

    at_step : (h : ℕ) → h ≡ at → HasMark new h
    at_step h e = elim (same_or_not h twin) [ inl f ↦ at_twin h f | inr f ↦ past_twin h f ∙ get_or-set_at marks at h true false e (omega arith) ]

    elsewhere : (h : ℕ) → h ≢ twin → h ≢ at → get_or new h false ≡ get_or marks h false
    elsewhere h e f = past_twin h e ∙ get_or-set_other marks at h true false f

    stays : (h : ℕ) → HasMark marks h → HasMark new h
    stays h m = elim (same_or_not h twin) [
      | inl e ↦ at_twin h e
      | inr e ↦ elim (same_or_not h at) [ inl f ↦ at_step h f | inr f ↦ elsewhere h e f ∙ m ]
    ]

    pub one_marked : (L : List Segment) → AreMarked net marks L → AllPairs (λ (k l : Segment). k ≢ l) L → get_or marks at false ≡ false
        → AreMarked net new (L ++ link_at net at ∷ []) × AllPairs (λ (k l : Segment). k ≢ l) (L ++ link_at net at ∷ [])
    one_marked L m once unmarked = (
      (λ h l. (
        (λ e. elim (same_or_not h twin) [
          | inl f ↦ last h (ap (link_at net) f ∙ ap link_between back ∙ link_turned (step_at net.steps at) (proper.moving at _ here))
          | inr f ↦ elim (same_or_not h at) [
            | inl g ↦ last h (ap (link_at net) g)
            | inr g ↦ Contains-append_left L (link_at net at ∷ []) (link_at net h) ((m h l).0 (sym (elsewhere h f g) ∙ e))
          ]
        ]),
        (λ c. elim (Contains-append_cases L (link_at net at ∷ []) (link_at net h) c) [
          | inl d ↦ stays h ((m h l).1 d)
          | inr d ↦ elim (Contains-cases (link_at net at) [] (link_at net h) d) [
            | inl e ↦ elim (one_link (step_at net.steps h) (step_at net.steps at) (sym e)) [
              | inl f ↦ at_step h (place_once net.steps proper h at _ l here f)
              | inr f ↦ at_twin h (place_once net.steps proper h twin _ l there (f ∙ sym back))
            ]
            | inr e ↦ Contains-nil (link_at net h) e
          ]
        ]),
      )),
      all_pairs_push (λ (k l : Segment). k ≢ l) L (link_at net at) once (λ k d l e. clash (get_or marks at false) ((m at here).1 (subst (Contains L) e (Contains-get_or L k d l))) unmarked),
    )
      where
        last : (h : ℕ) → link_at net h ≡ link_at net at → Contains (L ++ link_at net at ∷ []) (link_at net h)
        last h e = Contains-append_right L (link_at net at ∷ []) (link_at net h) (subst (Contains (link_at net at ∷ [])) (sym e) (Contains-head (link_at net at) []))

    pub adds_one : (old : List Bool) (k start : ℕ) → at ≡ place_after net.onward.items k start → get_or marks at false ≡ false → AddsMarks net old marks k start → AddsMarks net old new (k + 1) start
    adds_one old k start e unmarked before L m once =
        let h = before L m once in
        let r = one_marked (L ++ links_from net k start) h.0 h.1 unmarked in
        let longer : (L ++ links_from net k start) ++ link_at net at ∷ [] ≡ L ++ links_from net (k + 1) start =
        append_assoc L (links_from net k start) (link_at net at ∷ [])
        ∙ ap (λ (xs : List Segment). L ++ xs)
        ((λ i. links_from net k start ++ link_at net (e i) ∷ []) ∙ sym (map-append (link_at net) (walk net.onward.items k start) (place_after net.onward.items k start ∷ []))
        ∙ sym (ap (map (link_at net)) (walk_more net.onward.items k start)) ∙ (λ i. links_from net (one k i) start)) in (
          subst (AreMarked net new) longer r.0,
          subst (AllPairs (λ (k l : Segment). k ≢ l)) longer r.1,
        )
      where
        one : (k : ℕ) → suc k ≡ k + 1
        one k = omega arith

-- ---- arcs with numbers

module _ (net : Net) where
  pub along_more : (ways : List Way) (way : Way) → links_along net (ways ++ way ∷ []) ≡ links_along net ways ++ links_from net way.steps way.start
  along_more [] way = append-nil (links_from net way.steps way.start)
  along_more (w ∷ ways) way =
      ap (λ (xs : List Segment). links_from net w.steps w.start ++ xs) (along_more ways way)
      ∙ sym (append_assoc (links_from net w.steps w.start) (links_along net ways) (links_from net way.steps way.start))

  pub kept_all : (old : Numbering) → IsNumbering net old → GoesFrom net old old
  kept_all old h = record { numbering = h; kept = λ k l m. m }

  pub one_way_more : (old new : Numbering) (way : Way) → IsNumbering net old → IsWay net way → new.ways.items ≡ old.ways.items ++ way ∷ [] → length new.is_numbered.items ≡ length net.steps
      → AddsMarks net old.is_numbered.items new.is_numbered.items way.steps way.start → AreWhole net new.is_numbered.items → GoesFrom net old new
  one_way_more old new way h w pushed each adds whole =
      let both = adds (links_along net old.ways.items) h.marks h.once in
      let along : links_along net old.ways.items ++ links_from net way.steps way.start ≡ links_along net new.ways.items = sym (along_more old.ways.items way) ∙ sym (ap (links_along net) pushed) in
      let marks : AreMarked net new.is_numbered.items (links_along net new.ways.items) = subst (AreMarked net new.is_numbered.items) along both.0 in
      record {
        numbering = record {
          ways = subst (All (IsWay net)) (sym pushed) (All-append (IsWay net) old.ways.items (way ∷ []) h.ways (All-cons (IsWay net) way [] w (All-nil (IsWay net))));
          each = each;
          once = subst (AllPairs (λ (k l : Segment). k ≢ l)) along both.1;
          marks = marks;
          whole = whole;
        };
        kept = λ k l m. (marks k l).1 (subst (λ (xs : List Segment). Contains xs (link_at net k)) along (Contains-append_left (links_along net old.ways.items) (links_from net way.steps way.start) (link_at net k) ((h.marks k l).0 m)));
      }

  -- the first step of an arc has its mark
  pub start_marked : (old new : Numbering) (way : Way) → IsNumbering net new → way.start < length net.steps → 0 < way.steps → new.ways.items ≡ old.ways.items ++ way ∷ [] → HasMark new.is_numbered.items way.start
  start_marked old new way h l some pushed =
      (h.marks way.start l).1 (subst (λ (xs : List Segment). Contains xs (link_at net way.start)) (sym (along_more old.ways.items way) ∙ sym (ap (links_along net) pushed))
      (Contains-append_right (links_along net old.ways.items) (links_from net way.steps way.start) (link_at net way.start) (first way.steps some)))
    where
      first : (n : ℕ) → 0 < n → Contains (links_from net n way.start) (link_at net way.start)
      first zero m = absurd (omega arith)
      first (suc n) m = Contains-head (link_at net way.start) (links_from net n (get_or net.onward.items way.start 0))

  pub all_of : (numbering : Numbering) → IsNumbering net numbering → ((h : ℕ) → h < length net.steps → HasMark numbering.is_numbered.items h) → AreWays net numbering.ways.items
  all_of numbering h m = record { ways = h.ways; once = h.once; all = λ k l. (h.marks k l).0 (m k l) }
