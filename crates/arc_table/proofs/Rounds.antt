-- Where an arc begins: before its first step, or anywhere on a way that comes round.
use Rattle.std.proofs.Common.{◌≡◌, ◌⊎◌, inl, inr, refl, sym, ap, ◌∙◌, subst, arith, ℕ, zero, suc, ◌+◌, ◌<◌, ◌≤◌, min, Bool, List, length, All, AllPairs}
use Rattle.std.specs.Prelude.{◌≢◌}
use Rattle.std.proofs.lemmas.Bool.{cases_lt}
use Rattle.std.proofs.lemmas.List.Elements.{All-nil, All-cons}
use Rattle.arc_table.specs.Numbering.{walk, LeadsTo, ComesRound, GoesRound, IsBegin, BeginsLeast, IsLeastAlong, IsRoundFrom, HasMark, AreWhole, HaveMarksTogether}
use Rattle.arc_table.specs.declared.half_links.Net.{Net}
use Rattle.arc_table.proofs.Marks.{same_or_not, place_more}
use Rattle.arc_table.proofs.Runs.{length_walk, walk_at, too_many, twin, next, after, twin_there, next_there, after_there, twin_twice, one_twin, one_before}

module _ (net : Net) where
  abbrev N : ℕ
  N = length net.steps

  -- a way on that does not come back to its first step is not longer than the table
  pub not_round : (first : ℕ) → first < N → ((j : ℕ) → j < N → (next net (after net j first) ≢ after net j first) × (next net (after net j first) ≢ first)) → ⊥
  not_round first here goes = too_many (walk net.onward.items (suc N) first) N distinct below (let m = length_walk net.onward.items (suc N) first in omega arith)
    where
      apart : (i j : ℕ) → i < j → j < suc N → after net i first ≢ after net j first
      apart i zero l m e = absurd (omega arith)
      apart zero (suc j) l m e = (goes j (omega arith)).1 (sym (place_more net.onward.items j first) ∙ sym e)
      apart (suc i) (suc j) l m e =
          apart i j (omega arith) (omega arith)
          (one_before net (after net i first) (after net j first) (after_there net i first here) (after_there net j first here) (goes i (omega arith)).0 (goes j (omega arith)).0
          (sym (place_more net.onward.items i first) ∙ e ∙ place_more net.onward.items j first))

      distinct : AllPairs (λ (i j : ℕ). i ≢ j) (walk net.onward.items (suc N) first)
      distinct i j d l m e =
          let n = length_walk net.onward.items (suc N) first in
          apart i j l (omega arith) (sym (walk_at net.onward.items (suc N) first i d (omega arith)) ∙ e ∙ walk_at net.onward.items (suc N) first j d (omega arith))

      walks : (n h : ℕ) → h < N → All (λ (k : ℕ). k < N) (walk net.onward.items n h)
      walks zero h l = All-nil (λ (k : ℕ). k < N)
      walks (suc n) h l = All-cons (λ (k : ℕ). k < N) h (walk net.onward.items n (next net h)) l (walks n (next net h) (next_there net h l))

      below : All (λ (k : ℕ). k < N) (walk net.onward.items (suc N) first)
      below = walks (suc N) first here

  -- ---- a way that comes round

  module _ (h : ℕ) (here : h < N) (round : ComesRound net.onward.items (twin net h)) where
    abbrev f : ℕ
    f = twin net h

    abbrev m : ℕ
    m = round.steps

    f_there : f < N
    f_there = twin_there net h here

    at_there : (i : ℕ) → after net i f < N
    at_there i = after_there net i f f_there

    -- a step along the way, or the step back of one
    abbrev IsOnIt : ℕ → Type 0
    IsOnIt k = (i : ℕ) × (i ≤ m) × ((k ≡ after net i f) ⊎ (k ≡ twin net (after net i f)))

    -- the one before a step along the way
    before : (i : ℕ) → i ≤ m → (j : ℕ) × (j ≤ m) × (next net (after net j f) ≡ after net i f)
    before zero l = (m, omega arith, round.round)
    before (suc i) l = (i, omega arith, sym (place_more net.onward.items i f))

    back_on : (i : ℕ) (l : i ≤ m) → next net (twin net (after net i f)) ≡ twin net (after net (before i l).0 f)
    back_on i l =
        let b = before i l in
        ap (λ (j : ℕ). next net (twin net j)) (sym b.2) ∙ net.both_ways (after net b.0 f) (at_there b.0) (round.goes b.0 b.1)

    moves : (k : ℕ) → IsOnIt k → next net k ≢ k
    moves k on e = elim on.2 [
      | inl g ↦ round.goes on.0 on.1 (ap (next net) (sym g) ∙ e ∙ g)
      | inr g ↦ (
          let b = before on.0 on.1 in
          let same : twin net (after net b.0 f) ≡ twin net (after net on.0 f) = sym (back_on on.0 on.1) ∙ ap (next net) (sym g) ∙ e ∙ g in
          round.goes b.0 b.1 (b.2 ∙ sym (one_twin net (after net b.0 f) (after net on.0 f) (at_there b.0) (at_there on.0) same)))
    ]

    goes_on : (k : ℕ) → IsOnIt k → IsOnIt (next net k)
    goes_on k on = elim on.2 [
      | inl g ↦ elim (cases_lt on.0 m) [
        | inl l ↦ (suc on.0, omega arith, inl (ap (next net) g ∙ sym (place_more net.onward.items on.0 f)))
        | inr l ↦ (0, omega arith, inl (ap (next net) g ∙ ap (λ (j : ℕ). next net (after net j f)) (let u = on.1 in let e : on.0 ≡ m = omega arith in e) ∙ round.round))
      ]
      | inr g ↦ (
          let b = before on.0 on.1 in
          (b.0, b.1, inr (ap (next net) g ∙ back_on on.0 on.1)))
    ]

    all_on : (j k : ℕ) → IsOnIt k → IsOnIt (after net j k)
    all_on zero k on = on
    all_on (suc j) k on = all_on j (next net k) (goes_on k on)

    turned_on : (k : ℕ) → IsOnIt k → IsOnIt (twin net k)
    turned_on k on = elim on.2 [
      | inl g ↦ (on.0, on.1, inr (ap (twin net) g))
      | inr g ↦ (on.0, on.1, inl (ap (twin net) g ∙ twin_twice net (after net on.0 f) (at_there on.0)))
    ]

    f_on : IsOnIt f
    f_on = (0, omega arith, inl refl)

    on_it : (k : ℕ) → IsRoundFrom net f k → IsOnIt k
    on_it k from = elim from.1 [
      | inl e ↦ subst IsOnIt (sym e) (all_on from.0 f f_on)
      | inr e ↦ subst IsOnIt (sym e) (turned_on (after net from.0 f) (all_on from.0 f f_on))
    ]

    pub goes_round : (k : ℕ) → IsRoundFrom net f k → IsBegin net k
    goes_round k from = inr (λ j. moves (after net j k) (all_on j k (on_it k from)))

    -- the least along the way, either way round, is the least along the way on from it
    pub least_round : (k : ℕ) → IsRoundFrom net f k → (GoesRound net f → IsLeastAlong net f k) → BeginsLeast net k
    least_round k from least goes j =
        let on = all_on j k (on_it k from) in
        let (ahead, back) = least (λ i. moves (after net i f) (all_on i f f_on)) on.0 in
        elim on.2 [
          | inl g ↦ (subst (λ (n : ℕ). k ≤ n) (sym g) ahead, subst (λ (n : ℕ). k ≤ n) (sym (ap (twin net) g)) back)
          | inr g ↦ (subst (λ (n : ℕ). k ≤ n) (sym g) back, subst (λ (n : ℕ). k ≤ n) (sym (ap (twin net) g ∙ twin_twice net (after net on.0 f) (at_there on.0))) ahead)
        ]

  -- ---- marks of whole arcs

  module _ (marks : List Bool) (whole : AreWhole net marks) where
    mark_before : (k : ℕ) → k < N → HasMark marks (next net k) → HasMark marks k
    mark_before k l m = elim (same_or_not (next net k) k) [
      | inl e ↦ subst (HasMark marks) e m
      | inr differs ↦ (
          let n = next_there net k l in
          let back : HasMark marks (twin net k) = subst (HasMark marks) (net.both_ways k l differs) (whole.on (twin net (next net k)) (twin_there net (next net k) n) (whole.back (next net k) n m)) in
          subst (HasMark marks) (twin_twice net k l) (whole.back (twin net k) (twin_there net k l) back))
    ]

    mark_from : (i k : ℕ) → k < N → HasMark marks (after net i k) → HasMark marks k
    mark_from zero k l m = m
    mark_from (suc i) k l m = mark_before k l (mark_from i (next net k) (next_there net k l) m)

    mark_turned : (k : ℕ) → k < N → HasMark marks (twin net k) → HasMark marks k
    mark_turned k l m = subst (HasMark marks) (twin_twice net k l) (whole.back (twin net k) (twin_there net k l) m)

  together_round : (h k : ℕ) → h < N → IsRoundFrom net h k → HaveMarksTogether net h k
  together_round h k l from marks whole m = elim from.1 [
    | inl e ↦ mark_from marks whole from.0 h l (subst (HasMark marks) e m)
    | inr e ↦ mark_from marks whole from.0 h l (mark_turned marks whole (after net from.0 h) (after_there net from.0 h l) (subst (HasMark marks) e m))
  ]

  pub together_back : (h k : ℕ) → h < N → IsRoundFrom net (twin net h) k → HaveMarksTogether net h k
  together_back h k l from marks whole m = mark_turned marks whole h l (together_round (twin net h) k (twin_there net h l) from marks whole m)

  module _ (h k : ℕ) (here : h < N) (lead : LeadsTo net.onward.items (twin net h) k) where
    k_there : k < N
    k_there = subst (λ (j : ℕ). j < N) (sym lead.there) (after_there net lead.steps (twin net h) (twin_there net h here))

    pub starts_there : IsBegin net (twin net k)
    starts_there = let e = twin_twice net k k_there in inl (ap (next net) e ∙ lead.ends ∙ sym e)

    pub together_first : HaveMarksTogether net h (twin net k)
    together_first marks whole m =
        mark_turned marks whole h here (mark_from marks whole lead.steps (twin net h) (twin_there net h here) (subst (HasMark marks) lead.there (mark_turned marks whole k k_there m)))

    -- a way from where an arc starts does not come round
    stuck : (j : ℕ) → next net (after net j (twin net k)) ≢ after net j (twin net k) → next net (after net j (twin net k)) ≢ twin net k
    stuck j moves back =
        let a = after net j (twin net k) in
        let a_there = after_there net j (twin net k) (twin_there net k k_there) in
        let turned : k ≡ twin net a = sym lead.ends ∙ ap (next net) (sym (twin_twice net k k_there) ∙ ap (twin net) (sym back)) ∙ net.both_ways a a_there moves in
        moves (back ∙ ap (twin net) turned ∙ twin_twice net a a_there)

    pub least_first : BeginsLeast net (twin net k)
    least_first goes = absurd (not_round (twin net k) (twin_there net k k_there) (λ j l. (goes j, stuck j (goes j))))

  -- ---- the least of places along a way

  -- a way that has come back has no other steps
  pub came_back : (first k : ℕ) → next net (after net k first) ≡ first → (i : ℕ) → (j : ℕ) × (j ≤ k) × (after net i first ≡ after net j first)
  came_back first k back zero = (0, omega arith, refl)
  came_back first k back (suc i) =
      let (j, l, e) = came_back first k back i in
      let on : after net (suc i) first ≡ next net (after net j first) = place_more net.onward.items i first ∙ ap (next net) e in
      elim (cases_lt j k) [
        | inl less ↦ (suc j, omega arith, on ∙ sym (place_more net.onward.items j first))
        | inr last ↦ (0, omega arith, on ∙ ap (λ (n : ℕ). next net (after net n first)) (let s : j ≡ k = omega arith in s) ∙ back)
      ]

  -- no less than a step and the step back of it
  abbrev pub IsLeastAt : ℕ → ℕ → Type 0
  IsLeastAt least at = (least ≤ at) × (least ≤ twin net at)

  pub least_all : (first k least : ℕ) → next net (after net k first) ≡ first → ((j : ℕ) → j ≤ k → IsLeastAt least (after net j first)) → IsLeastAlong net first least
  least_all first k least back h i =
      let (j, l, e) = came_back first k back i in
      subst (IsLeastAt least) (sym e) (h j l)

  pub least_more : (first k at least new : ℕ) → at ≡ after net k first → new ≤ least → IsLeastAt new at → ((j : ℕ) → j < k → IsLeastAt least (after net j first)) → (j : ℕ) → j < k + 1 → IsLeastAt new (after net j first)
  least_more first k at least new e a b h j l = elim (cases_lt j k) [
    | inl less ↦ (let (x, y) = h j less in (omega arith, omega arith))
    | inr last ↦ subst (IsLeastAt new) (e ∙ ap (λ (n : ℕ). after net n first) (let s : k ≡ j = omega arith in s)) b
  ]

  pub away_more : (first k at new : ℕ) → at ≡ after net k first → new ≡ next net at → new ≢ first → ((j : ℕ) → j < k → next net (after net j first) ≢ first) → (j : ℕ) → j < k + 1 → next net (after net j first) ≢ first
  away_more first k at new e n away h j l back = elim (cases_lt j k) [
    | inl less ↦ h j less back
    | inr last ↦ away (n ∙ ap (next net) (e ∙ ap (λ (i : ℕ). after net i first) (let s : k ≡ j = omega arith in s)) ∙ back)
  ]

  pub round_less : (h a b : ℕ) → IsRoundFrom net h a → IsRoundFrom net h b → IsRoundFrom net h (min a b)
  round_less h a b u v = elim (cases_lt a b) [
    | inl l ↦ subst (IsRoundFrom net h) (let e : a ≡ min a b = omega arith in e) u
    | inr l ↦ subst (IsRoundFrom net h) (let e : b ≡ min a b = omega arith in e) v
  ]
