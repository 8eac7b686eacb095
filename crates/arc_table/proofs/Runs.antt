-- Runs of steps, each the one onward from the one before.
use Rattle.std.proofs.Common.{◌≡◌, ◌⊎◌, inl, inr, refl, sym, ap, ◌∙◌, subst, arith, ℕ, zero, suc, ◌+◌, ◌<◌, ◌≤◌, Bool, true, false, ◌||◌, eqb, List, [], ◌∷◌, ◌++◌, length, get_or, All, AllPairs, Contains}
use Rattle.std.specs.Prelude.{◌≢◌}
use Rattle.std.specs.List.{list_any}
use Rattle.std.proofs.lemmas.Bool.Decides.{Decides-eqb}
use Rattle.std.proofs.lemmas.List.{length-append, length-map, get_or-map, get_or-append-add}
use Rattle.std.proofs.lemmas.List.Elements.{All-nil, All-cons, All-contains}
use Rattle.std.proofs.lemmas.Map.Made.{IsDistinct-from_AllPairs}
use Rattle.std.proofs.lemmas.Map.Steps.{length-le_from_distinct_below}
use Rattle.lists.proofs.Members.{Contains-head, Contains-later}
use Rattle.plane_model.specs.Points.{Segment, reversed, link_between}
use Rattle.arc_table.specs.Numbering.{walk, place_after, GoesOn, step_at, link_at, links_from}
use Rattle.arc_table.specs.declared.half_links.Net.{Net}
use Rattle.arc_table.proofs.Marks.{back_at}
use Rattle.arc_table.proofs.Proper.{place_once, link_turned, one_link}

pub length_walk : (onward : List ℕ) (n h : ℕ) → length (walk onward n h) ≡ n
length_walk onward zero h = refl
length_walk onward (suc n) h = ap suc (length_walk onward n (get_or onward h 0))

pub walk_at : (onward : List ℕ) (n h j d : ℕ) → j < n → get_or (walk onward n h) j d ≡ place_after onward j h
walk_at onward zero h j d l = absurd (omega arith)
walk_at onward (suc n) h zero d l = refl
walk_at onward (suc n) h (suc j) d l = walk_at onward n (get_or onward h 0) j d (omega arith)

-- each step but the last goes on
pub goes_at : (onward : List ℕ) (n h j : ℕ) → GoesOn onward n h → j + 1 < n → get_or onward (place_after onward j h) 0 ≢ place_after onward j h
goes_at onward zero h j g l = absurd (omega arith)
goes_at onward (suc zero) h j g l = absurd (omega arith)
goes_at onward (suc (suc n)) h zero g l = g.0
goes_at onward (suc (suc n)) h (suc j) g l = goes_at onward (suc n) (get_or onward h 0) j g.1 (omega arith)

found : (q : ℕ) (ys : List ℕ) → list_any (eqb q) ys ≡ true → Contains ys q
found q [] e = absurd (let f : false ≡ true = e in cc)
found q (y ∷ ys) e = one (eqb q y) refl e (λ g. found q ys g)
  where
    one : (b : Bool) → eqb q y ≡ b → (b || list_any (eqb q) ys) ≡ true → (list_any (eqb q) ys ≡ true → Contains ys q) → Contains (y ∷ ys) q
    one true f g rest = subst (Contains (y ∷ ys)) (sym ((Decides-eqb q y).0 f)) (Contains-head y ys)
    one false f g rest = Contains-later y ys q (rest g)

-- as many places as there are, and one more, are not distinct
pub too_many : (xs : List ℕ) (n : ℕ) → AllPairs (λ (i j : ℕ). i ≢ j) xs → All (λ (k : ℕ). k < n) xs → n < length xs → ⊥
too_many xs n apart below l =
    let m : length xs ≤ n = length-le_from_distinct_below xs n (IsDistinct-from_AllPairs Decides-eqb xs apart) (λ q e. All-contains (λ (k : ℕ). k < n) xs q below (found q xs e)) in
    omega arith

module _ (net : Net) where
  abbrev N : ℕ
  N = length net.steps

  abbrev pub twin : ℕ → ℕ
  twin h = get_or net.twins.items h 0

  abbrev pub next : ℕ → ℕ
  next h = get_or net.onward.items h 0

  abbrev pub after : ℕ → ℕ → ℕ
  after k h = place_after net.onward.items k h

  pub twin_there : (h : ℕ) → h < N → twin h < N
  twin_there h l = net.twins_there h 0 (let n = net.twin_each in omega arith)

  pub next_there : (h : ℕ) → h < N → next h < N
  next_there h l = net.onward_there h 0 (let n = net.onward_each in omega arith)

  pub after_there : (k h : ℕ) → h < N → after k h < N
  after_there zero h l = l
  after_there (suc k) h l = after_there k (next h) (next_there h l)

  pub twin_is : (h : ℕ) → h < N → step_at net.steps (twin h) ≡ reversed (step_at net.steps h)
  twin_is h l = back_at net.steps h (twin h) l (λ s e. net.twins_back h s l e)

  pub twin_twice : (h : ℕ) → h < N → twin (twin h) ≡ h
  twin_twice h l =
      let t = twin_there h l in
      place_once net.steps net.proper (twin (twin h)) h _ (twin_there (twin h) t) l (twin_is (twin h) t ∙ ap reversed (twin_is h l))

  pub twin_apart : (h : ℕ) → h < N → twin h ≢ h
  twin_apart h l e = net.proper.moving h _ l (ap (λ (s : Segment). s.stop) (sym (twin_is h l) ∙ ap (step_at net.steps) e))

  pub twin_link : (h : ℕ) → h < N → link_at net (twin h) ≡ link_at net h
  twin_link h l = ap link_between (twin_is h l) ∙ link_turned (step_at net.steps h) (net.proper.moving h _ l)

  -- two steps along one link are one step, or one is the step back of the other
  pub one_of : (h k : ℕ) → h < N → k < N → link_at net h ≡ link_at net k → (h ≡ k) ⊎ (h ≡ twin k)
  one_of h k l m e = elim (one_link (step_at net.steps h) (step_at net.steps k) e) [
    | inl f ↦ inl (place_once net.steps net.proper h k _ l m f)
    | inr f ↦ inr (place_once net.steps net.proper h (twin k) _ l (twin_there k m) (f ∙ sym (twin_is k m)))
  ]

  pub one_twin : (h k : ℕ) → h < N → k < N → twin h ≡ twin k → h ≡ k
  one_twin h k l m e = sym (twin_twice h l) ∙ ap twin e ∙ twin_twice k m

  -- a step comes after one step alone
  pub one_before : (h k : ℕ) → h < N → k < N → next h ≢ h → next k ≢ k → next h ≡ next k → h ≡ k
  one_before h k l m f g e = one_twin h k l m (sym (net.both_ways h l f) ∙ ap (λ (j : ℕ). next (twin j)) e ∙ net.both_ways k m g)

  pub length_links : (n h : ℕ) → length (links_from net n h) ≡ n
  length_links n h = length-map (walk net.onward.items n h) (link_at net) ∙ length_walk net.onward.items n h

  pub link_along : (n h j : ℕ) (d : Segment) → j < n → get_or (links_from net n h) j d ≡ link_at net (after j h)
  link_along n h j d l =
      let m = length_walk net.onward.items n h in
      get_or-map (link_at net) (walk net.onward.items n h) j 0 d (omega arith) ∙ ap (link_at net) (walk_at net.onward.items n h j 0 l)

  -- n steps along different links are no more than there are
  pub too_long : (L : List Segment) (start : ℕ) → start < N → AllPairs (λ (k l : Segment). k ≢ l) (L ++ links_from net N start) → ⊥
  too_long L start here once = too_many (twin start ∷ walk net.onward.items N start) N distinct below (let m = length_walk net.onward.items N start in omega arith)
    where
      apart : (i j : ℕ) → i < j → j < N → link_at net (after i start) ≢ link_at net (after j start)
      apart i j l m e =
          let d = link_at net start in
          let size = length_links N start in
          once (length L + i) (length L + j) d (omega arith) (let n = length-append L (links_from net N start) in omega arith)
          (get_or-append-add L (links_from net N start) i d ∙ link_along N start i d (omega arith) ∙ e ∙ sym (link_along N start j d m) ∙ sym (get_or-append-add L (links_from net N start) j d))

      not_back : (j : ℕ) → j < N → twin start ≢ after j start
      not_back zero l e = twin_apart start here e
      not_back (suc j) l e = apart 0 (suc j) (omega arith) l (sym (twin_link start here) ∙ ap (link_at net) e)

      distinct : AllPairs (λ (i j : ℕ). i ≢ j) (twin start ∷ walk net.onward.items N start)
      distinct zero zero d l m e = absurd (omega arith)
      distinct zero (suc j) d l m e = let n = length_walk net.onward.items N start in not_back j (omega arith) (e ∙ walk_at net.onward.items N start j d (omega arith))
      distinct (suc i) zero d l m e = absurd (omega arith)
      distinct (suc i) (suc j) d l m e =
          let n = length_walk net.onward.items N start in
          apart i j (omega arith) (omega arith) (ap (link_at net) (sym (walk_at net.onward.items N start i d (omega arith)) ∙ e ∙ walk_at net.onward.items N start j d (omega arith)))

      below : All (λ (k : ℕ). k < N) (twin start ∷ walk net.onward.items N start)
      below = All-cons (λ (k : ℕ). k < N) (twin start) (walk net.onward.items N start) (twin_there start here) (walks N start here)
        where
          walks : (n h : ℕ) → h < N → All (λ (k : ℕ). k < N) (walk net.onward.items n h)
          walks zero h l = All-nil (λ (k : ℕ). k < N)
          walks (suc n) h l = All-cons (λ (k : ℕ). k < N) h (walk net.onward.items n (next h)) l (walks n (next h) (next_there h l))
