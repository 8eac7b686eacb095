-- A run of steps that begins where an arc does, and stops before a mark or where no step goes on, is a whole arc.
use Rattle.std.proofs.Common.{◌≡◌, ◌⊎◌, inl, inr, sym, ap, ◌∙◌, subst, arith, ℕ, zero, suc, ◌+◌, ◌-◌, ◌<◌, Bool, List, ◌++◌, length, get_or, AllPairs, Contains}
use Rattle.std.specs.Prelude.{◌≢◌}
use Rattle.std.proofs.lemmas.Bool.{cases_lt}
use Rattle.std.proofs.lemmas.List.{length-append, get_or-append-add, get_or_append_left}
use Rattle.std.proofs.lemmas.List.Elements.{Contains-append_left, Contains-append_right, Contains-append_cases}
use Rattle.plane_model.specs.Points.{Segment}
use Rattle.arc_table.specs.Numbering.{GoesOn, IsBegin, IsWholeRun, link_at, links_from, HasMark, AreMarked, AreWhole}
use Rattle.arc_table.specs.declared.half_links.Net.{Net}
use Rattle.arc_table.proofs.Marks.{same_or_not, place_more}
use Rattle.arc_table.proofs.Runs.{goes_at, twin, next, after, twin_there, next_there, after_there, twin_twice, twin_apart, twin_link, one_of, one_twin, one_before, length_links, link_along}

module _ (net : Net) (old new : List Bool) (L : List Segment) (start n : ℕ) (some : 0 < n) (here : start < length net.steps) (begin : IsBegin net start) (marked_old : AreMarked net old L)
    (whole_old : (h : ℕ) → h < length net.steps → HasMark old h → HasMark old (get_or net.onward.items h 0))
    (marked_new : AreMarked net new (L ++ links_from net n start)) (once : AllPairs (λ (k l : Segment). k ≢ l) (L ++ links_from net n start)) (on : GoesOn net.onward.items n start) where
  abbrev N : ℕ
  N = length net.steps

  abbrev at : ℕ → ℕ
  at j = after net j start

  abbrev last : ℕ
  last = after net (n - 1) start

  abbrev F : List Segment
  F = links_from net n start

  there : (j : ℕ) → at j < N
  there j = after_there net j start here

  size : length F ≡ n
  size = length_links net n start

  apart : (i j : ℕ) → i < j → j < n → link_at net (at i) ≢ link_at net (at j)
  apart i j l m e =
      let d = link_at net start in
      let s = size in
      once (length L + i) (length L + j) d (omega arith) (let t = length-append L F in omega arith)
      (get_or-append-add L F i d ∙ link_along net n start i d (omega arith) ∙ e ∙ sym (link_along net n start j d m) ∙ sym (get_or-append-add L F j d))

  fresh : (j : ℕ) → j < n → Contains L (link_at net (at j)) → ⊥
  fresh j l c =
      let d = link_at net (at j) in
      let s = size in
      once c.0 (length L + j) d (let m = c.1 in omega arith) (let t = length-append L F in omega arith)
      (get_or_append_left L F d c.0 c.1 ∙ c.2 ∙ sym (link_along net n start j d l) ∙ sym (get_or-append-add L F j d))

  marked_at : (j : ℕ) → j < n → HasMark new (at j)
  marked_at j l = (marked_new (at j) (there j)).1 (Contains-append_right L F (link_at net (at j)) (let s = size in (j, omega arith, link_along net n start j (link_at net (at j)) l)))

  marked_back : (j : ℕ) → j < n → HasMark new (twin net (at j))
  marked_back j l =
      let t = twin_there net (at j) (there j) in
      (marked_new (twin net (at j)) t).1 (subst (Contains (L ++ F)) (sym (twin_link net (at j) (there j))) ((marked_new (at j) (there j)).0 (marked_at j l)))

  place_in : (l : Segment) → Contains F l → (j : ℕ) × (j < n) × (link_at net (at j) ≡ l)
  place_in l c = (c.0, let s = size in let m = c.1 in omega arith, sym (link_along net n start c.0 l (let s = size in let m = c.1 in omega arith)) ∙ c.2)

  goes : (j : ℕ) → j + 1 < n → next net (at j) ≢ at j
  goes j l = goes_at net.onward.items n start j on l

  more : (j : ℕ) → at (suc j) ≡ next net (at j)
  more j = place_more net.onward.items j start

  to_last : (j : ℕ) → j ≡ n - 1 → at j ≡ last
  to_last j e = ap at e

  -- the step after the last goes along no link of an arc before
  not_old : next net last ≢ last → Contains L (link_at net (next net last)) → ⊥
  not_old differs c =
      let l = there (n - 1) in
      let k = next net last in
      let m = next_there net last l in
      let t = twin_there net k m in
      let old_twin : HasMark old (twin net k) = (marked_old (twin net k) t).1 (subst (Contains L) (sym (twin_link net k m)) c) in
      let old_back : HasMark old (twin net last) = subst (HasMark old) (net.both_ways last l differs) (whole_old (twin net k) t old_twin) in
      let in_old : Contains L (link_at net last) = subst (Contains L) (twin_link net last l) ((marked_old (twin net last) (twin_there net last l)).0 old_back) in
      fresh (n - 1) (omega arith) in_old

  -- it is the first, if it is along the run
  is_first : (j : ℕ) → j < n → next net last ≢ last → next net last ≡ at j → next net last ≡ start
  is_first zero l differs e = e
  is_first (suc i) l differs e =
      absurd (apart i (n - 1) (omega arith) (omega arith)
      (sym (ap (link_at net) (one_before net last (at i) (there (n - 1)) (there i) differs (goes i (omega arith)) (e ∙ more i)))))

  not_back : (j : ℕ) → j < n → next net last ≢ last → next net last ≡ twin net (at j) → ⊥
  not_back j l differs e = elim (cases_lt j (n - 1)) [
    | inl m ↦ (
        let p = there (n - 1) in
        let turned : next net (at j) ≡ twin net last = ap (next net) (sym (ap (twin net) e ∙ twin_twice net (at j) (there j))) ∙ net.both_ways last p differs in
        let step : at (suc j) ≡ twin net last = more j ∙ turned in
        elim (cases_lt (suc j) (n - 1)) [
          | inl q ↦ apart (suc j) (n - 1) q (omega arith) (ap (link_at net) step ∙ twin_link net last p)
          | inr q ↦ twin_apart net last p (sym step ∙ to_last (suc j) (omega arith))
        ])
    | inr m ↦ net.none_back last (there (n - 1)) (e ∙ ap (twin net) (to_last j (omega arith)))
  ]

  comes_back : next net last ≢ last → HasMark new (next net last) → next net last ≡ start
  comes_back differs m =
      let l = there (n - 1) in
      let k = next_there net last l in
      elim (Contains-append_cases L F (link_at net (next net last)) ((marked_new (next net last) k).0 m)) [
        | inl c ↦ absurd (not_old differs c)
        | inr c ↦ (
            let p = place_in (link_at net (next net last)) c in
            elim (one_of net (next net last) (at p.0) k (there p.0) (sym p.2)) [
              | inl e ↦ is_first p.0 p.1 differs e
              | inr e ↦ absurd (not_back p.0 p.1 differs e)
            ])
      ]

  pub whole_run : (next net last ≡ last) ⊎ HasMark new (next net last) → IsWholeRun net n start
  whole_run stops = elim (same_or_not (next net last) last) [
    | inl e ↦ elim begin [ inl s ↦ inl (s, e) | inr round ↦ absurd (round (n - 1) e) ]
    | inr differs ↦ elim stops [
      | inl e ↦ absurd (differs e)
      | inr m ↦ (
          let back = comes_back differs m in
          let l = there (n - 1) in
          elim begin [
            | inl s ↦ absurd (differs (back ∙ one_twin net start last here l (sym s ∙ ap (λ (j : ℕ). next net (twin net j)) (sym back) ∙ net.both_ways last l differs)))
            | inr round ↦ inr (differs, back)
          ])
    ]
  ]

  module _ (run : IsWholeRun net n start) where
    on_from : (j : ℕ) → j < n → HasMark new (next net (at j))
    on_from j l = elim (cases_lt (j + 1) n) [
      | inl m ↦ subst (HasMark new) (more j) (marked_at (suc j) (omega arith))
      | inr m ↦ (
          let e = to_last j (omega arith) in
          elim run [
            | inl s ↦ subst (HasMark new) (sym s.1 ∙ ap (next net) (sym e)) (marked_at (n - 1) (omega arith))
            | inr s ↦ subst (HasMark new) (sym s.1 ∙ ap (next net) (sym e)) (marked_at 0 some)
          ])
    ]

    back_from : (j : ℕ) → j < n → HasMark new (next net (twin net (at j)))
    back_from zero l = elim run [
      | inl s ↦ subst (HasMark new) (sym s.0) (marked_back 0 some)
      | inr s ↦ subst (HasMark new) (sym (net.both_ways last (there (n - 1)) s.0) ∙ ap (λ (j : ℕ). next net (twin net j)) s.1) (marked_back (n - 1) (omega arith))
    ]
    back_from (suc i) l =
        subst (HasMark new) (sym (net.both_ways (at i) (there i) (goes i (omega arith))) ∙ ap (λ (j : ℕ). next net (twin net j)) (sym (more i))) (marked_back i (omega arith))

    whole_marks : (h : ℕ) → h < N → HasMark new h → HasMark new (get_or net.onward.items h 0)
    whole_marks h l m = elim (Contains-append_cases L F (link_at net h) ((marked_new h l).0 m)) [
      | inl c ↦ (
          let old_next : HasMark old (next net h) = whole_old h l ((marked_old h l).1 c) in
          let k = next_there net h l in
          (marked_new (next net h) k).1 (Contains-append_left L F (link_at net (next net h)) ((marked_old (next net h) k).0 old_next)))
      | inr c ↦ (
          let p = place_in (link_at net h) c in
          elim (one_of net h (at p.0) l (there p.0) (sym p.2)) [
            | inl e ↦ subst (λ (j : ℕ). HasMark new (next net j)) (sym e) (on_from p.0 p.1)
            | inr e ↦ subst (λ (j : ℕ). HasMark new (next net j)) (sym e) (back_from p.0 p.1)
          ])
    ]

    pub whole_after : AreWhole net new
    whole_after = record {
      on = λ h l m. whole_marks h l m;
      back = λ h l m. (marked_new (twin net h) (twin_there net h l)).1 (subst (Contains (L ++ F)) (sym (twin_link net h l)) ((marked_new h l).0 m));
    }
