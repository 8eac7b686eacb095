-- Trees of links: a search from a point comes to each link below it that can be the topmost.
use Rattle.std.proofs.Common.{◌≡◌, ◌⊎◌, inl, inr, refl, sym, ap, ◌∙◌, subst, arith, ℕ, Bool, true, false, not, ◌&&◌, ◌+◌, List, [], ◌∷◌, ◌++◌, length, length-append, get_or, filter, Option, Some, None, Contains, ℤ, pos, ◌-ℤ◌}
use Rattle.std.specs.Prelude.{◌<ℤ◌, ◌≤ℤ◌, int_lt, slice_get}
use Rattle.std.proofs.lemmas.Int.{ints}
use Rattle.std.proofs.lemmas.Bool.{cases_lt}
use Rattle.std.proofs.lemmas.Option.{slice_get-get_or, slice_get_within}
use Rattle.std.proofs.Math.Bool.{Bool-set}
use Rattle.bucket_grid.proofs.Growth.{slice_get-append_left, slice_get-append_end}
use Rattle.lists.proofs.Members.{Contains-filter}
use Rattle.plane_algebra.proofs.Tests.{lt_to, by_test}
use Rattle.plane_model.specs.Points.{GridPoint, at, turn}
use Rattle.plane_model.specs.Parity.{is_over, is_below}
use Rattle.plane_model.specs.Below.{is_under}
use Rattle.link_search.specs.Descent.{IsNotAbove, IsFound}
use Rattle.link_search.specs.Parting.{AreTreesOver, Parts, parts_of, sides, levels, Leads, LeadsToAll, runs_over, starts_before, stops_past, comes_over, comes_under}
use Rattle.link_search.specs.declared.links.ArcLink.{ArcLink}
use Rattle.link_search.specs.declared.link_tree.LinkTree.{LinkTree}
use Rattle.link_search.proofs.UnderLemmas.{abscissa_within, under_chain, over_is_not_under, over_is_not_below}
use Rattle.link_search.proofs.RayLemmas.{over_of, turn_of}

-- what a point stands over or under
starts_by : (p : GridPoint) (k : ArcLink) → is_below (at p) k.link ≡ true → k.link.start.x ≤ℤ p.x
starts_by p k b = from (k.link.start.x) p.x (abscissa_within p k.link (over_of p k b)).1
  where
    from : (a b : ℤ) → pos 0 ≤ℤ (b -ℤ a) → a ≤ℤ b
    from a b h = omega (arith, ints)

stops_after : (p : GridPoint) (k : ArcLink) → is_below (at p) k.link ≡ true → p.x <ℤ k.link.stop.x
stops_after p k b = past p.x k.link.stop.x (abscissa_within p k.link (over_of p k b)).0
  where
    past : (a b : ℤ) → pos 0 <ℤ (b -ℤ a) → a <ℤ b
    past a b h = omega (arith, ints)

not_below_turn : (p : GridPoint) (l : ArcLink) → is_over (at p) l.link ≡ true → is_below (at p) l.link ≡ false → turn (at l.link.start) (at l.link.stop) (at p) ≤ℤ pos 0
not_below_turn p l o b = low (turn (at l.link.start) (at l.link.stop) (at p)) (second (is_over (at p) l.link) (int_lt (pos 0) (turn (at l.link.start) (at l.link.stop) (at p))) o b)
  where
    second : (a b : Bool) → a ≡ true → (a && b) ≡ false → b ≡ false
    second true b e f = f
    second false b e f = absurd (let g : false ≡ true = e in cc)

    low : (a : ℤ) → int_lt (pos 0) a ≡ false → a ≤ℤ pos 0
    low a e = omega (arith, ints)

-- ---- parts

module _ (links : List ArcLink) (near : List ℕ) where
  pub sides_lead : (x : ℤ) (left right : List ℕ) (before past : Parts) → left ≡ filter (λ i. starts_before x (slice_get links i)) near → right ≡ filter (λ i. stops_past x (slice_get links i)) near →
      LeadsToAll links left before → LeadsToAll links right past → LeadsToAll links near (sides x before past)
  sides_lead x left right before past l r h m = record {
    all = λ p i k c e b. (
      (λ less. h.all p i k (subst (λ (xs : List ℕ). Contains xs i) (sym l) (Contains-filter (λ n. starts_before x (slice_get links n)) near i c (ap (starts_before x) e ∙ lt_to k.link.start.x x (on (k.link.start.x) p.x x (starts_by p k b) less)))) e b),
      (λ from. m.all p i k (subst (λ (xs : List ℕ). Contains xs i) (sym r) (Contains-filter (λ n. stops_past x (slice_get links n)) near i c (ap (stops_past x) e ∙ lt_to x k.link.stop.x (to x p.x (k.link.stop.x) from (stops_after p k b))))) e b),
    );
  }
    where
      on : (a b c : ℤ) → a ≤ℤ b → b <ℤ c → a <ℤ c
      on a b c h k = omega (arith, ints)

      to : (a b c : ℤ) → a ≤ℤ b → b <ℤ c → a <ℤ c
      to a b c h k = omega (arith, ints)

  pub levels_lead : (j : ℕ) (l : ArcLink) (under over : List ℕ) (lower higher : Parts) → slice_get links j ≡ Some l → under ≡ filter (λ i. comes_under l.link (slice_get links i)) near → over ≡ filter (λ i. comes_over l.link (slice_get links i)) near →
      LeadsToAll links under lower → LeadsToAll links over higher → LeadsToAll links near (levels j lower higher)
  levels_lead j l under over lower higher at_j u o h m = record {
    all = λ p i k c e b n at_n n_over.
        let same : Some l ≡ Some n = sym at_j ∙ at_n in
        let one : l ≡ n = cc in
        subst (λ (n : ArcLink). (is_below (at p) n.link ≡ true → Leads links p i k higher ⊎ IsNotAbove p k (Some n)) × (is_below (at p) n.link ≡ false → Leads links p i k lower)) one
        (parted p i k c e b (subst (λ (n : ArcLink). is_over (at p) n.link ≡ true) (sym one) n_over));
  }
    where
      parted : (p : GridPoint) (i : ℕ) (k : ArcLink) → Contains near i → slice_get links i ≡ Some k → is_below (at p) k.link ≡ true → is_over (at p) l.link ≡ true
          → (is_below (at p) l.link ≡ true → Leads links p i k higher ⊎ IsNotAbove p k (Some l)) × (is_below (at p) l.link ≡ false → Leads links p i k lower)
      parted p i k c e b l_over = (
        (λ below. by_test (runs_over l.link k.link)
            (λ t. inr (over_is_not_under p l.link k.link l_over (over_of p k b) t))
            (λ f. inl (m.all p i k (subst (λ (xs : List ℕ). Contains xs i) (sym o) (Contains-filter (λ n. comes_over l.link (slice_get links n)) near i c (ap (comes_over l.link) e ∙ ap not f))) e b))),
        (λ above. by_test (runs_over k.link l.link)
            (λ t. over_is_not_below p k.link l.link (over_of p k b) l_over t (turn_of p k b) (not_below_turn p l l_over above))
            (λ f. h.all p i k (subst (λ (xs : List ℕ). Contains xs i) (sym u) (Contains-filter (λ n. comes_under l.link (slice_get links n)) near i c (ap (comes_under l.link) e ∙ ap not f))) e b)),
      )

-- ---- trees, list by list

pub one_more_tree : (links : List ArcLink) (lists : List (List ℕ)) (trees : List (Option LinkTree)) (found : Option LinkTree) → AreTreesOver links lists trees
    → ((tree : LinkTree) (numbers : List ℕ) → found ≡ Some tree → slice_get lists (length trees) ≡ Some numbers → LeadsToAll links numbers (parts_of tree)) → AreTreesOver links lists (trees ++ found ∷ [])
one_more_tree links lists trees found h this = record {
  all = λ place tree numbers e f. elim (cases_lt place (length trees)) [
    | inl before ↦
        (let old = slice_get-get_or trees place None before in
        h.all place tree numbers (old ∙ sym (slice_get-append_left trees (found ∷ []) place (get_or trees place None) old) ∙ e) f)
    | inr from ↦
        (let within = slice_get_within (trees ++ found ∷ []) place (Some tree) e in
        let many : length (trees ++ found ∷ []) ≡ length trees + 1 = length-append trees (found ∷ []) in
        let same : length trees ≡ place = omega arith in
        let here : Some found ≡ Some (Some tree) = sym (slice_get-append_end trees found) ∙ ap (λ (n : ℕ). slice_get (trees ++ found ∷ []) n) same ∙ e in
        let one : found ≡ Some tree = cc in
        this tree numbers one (ap (λ (n : ℕ). slice_get lists n) same ∙ f))
  ];
}

-- what does not run above l does not run above what l does not run above
pub not_above_chain : (p : GridPoint) (k l : ArcLink) (best : Option ArcLink) → is_below (at p) k.link ≡ true → is_below (at p) l.link ≡ true → ((m : ArcLink) → best ≡ Some m → is_below (at p) m.link ≡ true) → IsNotAbove p k (Some l) → IsNotAbove p l best → IsNotAbove p k best
not_above_chain p k l None bk bl found h i = absurd i
not_above_chain p k l (Some m) bk bl found h i = under_chain p m.link l.link k.link (over_of p m (found m refl)) (over_of p l bl) (over_of p k bk) i h

-- ---- the search

module _ (links : List ArcLink) (p : GridPoint) (parts lower higher : Parts) (j : ℕ) (l : ArcLink) (best result : Option ArcLink) (is : parts ≡ levels j lower higher) (at_j : slice_get links j ≡ Some l) (l_over : is_over (at p) l.link ≡ true) where
  -- over a link that is below the point
  pub led_over : is_below (at p) l.link ≡ true → IsFound links p best → IsNotAbove p l best → ((k : ArcLink) → is_below (at p) k.link ≡ true → IsNotAbove p k best → IsNotAbove p k result) →
      ((i : ℕ) (k : ArcLink) → Leads links p i k higher → slice_get links i ≡ Some k → is_below (at p) k.link ≡ true → IsNotAbove p k result) →
      (i : ℕ) (k : ArcLink) → Leads links p i k parts → slice_get links i ≡ Some k → is_below (at p) k.link ≡ true → IsNotAbove p k result
  led_over bl found this kept led i k leads e b = elim ((subst (Leads links p i k) is leads l at_j l_over).0 bl) [
    | inl up ↦ led i k up e b
    | inr low ↦ kept k b (not_above_chain p k l best b bl (λ m same. below_best m (subst (IsFound links p) same found)) low this)
  ]
    where
      below_best : (m : ArcLink) → IsFound links p (Some m) → is_below (at p) m.link ≡ true
      below_best m f = f.1

  -- under one that is not
  pub led_under : is_below (at p) l.link ≡ false → ((i : ℕ) (k : ArcLink) → Leads links p i k lower → slice_get links i ≡ Some k → is_below (at p) k.link ≡ true → IsNotAbove p k result) →
      (i : ℕ) (k : ArcLink) → Leads links p i k parts → slice_get links i ≡ Some k → is_below (at p) k.link ≡ true → IsNotAbove p k result
  led_under above led i k leads e b = led i k ((subst (Leads links p i k) is leads l at_j l_over).1 above) e b

-- a fact with one proof at the most
pub IsNotAbove-prop : (p : GridPoint) (k : ArcLink) (best : Option ArcLink) → IsProp (IsNotAbove p k best)
IsNotAbove-prop p k None = λ x. absurd x
IsNotAbove-prop p k (Some l) = Bool-set (is_under (at p) k.link l.link) false
