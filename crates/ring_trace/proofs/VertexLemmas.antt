-- Numbers of vertices: the place of the first edge of a part that starts there.
use Rattle.std.proofs.Common.{◌≡◌, inl, inr, refl, sym, ap, ◌∙◌, subst, arith, ℕ, ◌+◌, ◌<◌, ◌≤◌, Bool, true, false, List, [], ◌∷◌, ◌++◌, length, get_or, map}
use Rattle.std.proofs.lemmas.Bool.{cases_lt}
use Rattle.std.proofs.lemmas.List.{length-map, get_or-map, get_or_append_left, get_or_push, length_push}
use Rattle.ring_trace.specs.declared.pairing.Edge.{Edge}
use Rattle.ring_trace.specs.Rings.{edge_at}
use Rattle.ring_trace.specs.Pairing.{Corner, start_corner, same_corner, AreByStart, AreVertices}
use Rattle.ring_trace.proofs.SortedLists.{corners_between, same_corner_is, corner_itself}

abbrev corner_at : List Edge → ℕ → Corner
corner_at edges k = start_corner (edge_at edges k)

-- between two edges from one corner all edges start there
between : (edges : List Edge) → AreByStart edges → (i m j : ℕ) → i ≤ m → m ≤ j → j < length edges → corner_at edges i ≡ corner_at edges j → corner_at edges m ≡ corner_at edges i
between edges up i m j l h k e =
    let d : Corner = corner_at [] 0 in
    let n = length-map edges start_corner in
    let at : (x : ℕ) → x < length edges → get_or (map start_corner edges) x d ≡ corner_at edges x = (λ x lx. get_or-map start_corner edges x (edge_at [] 0) d lx) in
    sym (at m (omega arith))
    ∙ corners_between (map start_corner edges) up i m j d l h (omega arith) (at i (omega arith) ∙ e ∙ sym (at j k))
    ∙ at i (omega arith)

-- of the first k edges
pub record AreNumbered (edges : List Edge) (k first : ℕ) (vertices : List ℕ) : Type 0 where
  pub each : length vertices ≡ k
  pub there : (j : ℕ) → j < k → get_or vertices j 0 < length edges
  pub stands : (j : ℕ) → j < k → corner_at edges (get_or vertices j 0) ≡ corner_at edges j
  pub one : (i j : ℕ) → i < k → j < k → corner_at edges i ≡ corner_at edges j → get_or vertices i 0 ≡ get_or vertices j 0
  pub first_there : 0 < k → (first < k) × (get_or vertices first 0 ≡ first)
  pub since : (j : ℕ) → first ≤ j → j < k → corner_at edges j ≡ corner_at edges first

pub none_numbered : (edges : List Edge) → AreNumbered edges 0 0 []
none_numbered edges = record {
  each = refl;
  there = λ j l. absurd (omega arith);
  stands = λ j l. absurd (omega arith);
  one = λ i j l m e. absurd (omega arith);
  first_there = λ l. absurd (omega arith);
  since = λ j l m. absurd (omega arith);
}

module _ (edges : List Edge) (k first v : ℕ) (old new : List ℕ) (items : new ≡ old ++ v ∷ []) (h : AreNumbered edges k first old) where
  before : (j : ℕ) → j < k → get_or new j 0 ≡ get_or old j 0
  before j l = ap (λ (xs : List ℕ). get_or xs j 0) items ∙ get_or_append_left old (v ∷ []) 0 j (let e = h.each in omega arith)

  here : (j : ℕ) → j ≡ k → get_or new j 0 ≡ v
  here j e = ap (λ (xs : List ℕ). get_or xs j 0) items ∙ get_or_push old v 0 j (h.each ∙ sym e)

  module _ (small : k < length edges) (there : v < length edges) (stands : corner_at edges v ≡ corner_at edges k) (alike : (i : ℕ) → i < k → corner_at edges i ≡ corner_at edges k → get_or old i 0 ≡ v) where
    more_there : (j : ℕ) → j < k + 1 → get_or new j 0 < length edges
    more_there j l = elim (cases_lt j k) [
      | inl less ↦ subst (λ (x : ℕ). x < length edges) (sym (before j less)) (h.there j less)
      | inr more ↦ subst (λ (x : ℕ). x < length edges) (sym (here j (omega arith))) there
    ]

    more_stands : (j : ℕ) → j < k + 1 → corner_at edges (get_or new j 0) ≡ corner_at edges j
    more_stands j l = elim (cases_lt j k) [
      | inl less ↦ ap (corner_at edges) (before j less) ∙ h.stands j less
      | inr more ↦ (let e : k ≡ j = omega arith in ap (corner_at edges) (here j (sym e)) ∙ stands ∙ ap (corner_at edges) e)
    ]

    more_one : (i j : ℕ) → i < k + 1 → j < k + 1 → corner_at edges i ≡ corner_at edges j → get_or new i 0 ≡ get_or new j 0
    more_one i j l m e = elim (cases_lt i k) [
      | inl less ↦ elim (cases_lt j k) [
        | inl lower ↦ before i less ∙ h.one i j less lower e ∙ sym (before j lower)
        | inr higher ↦ (let f : j ≡ k = omega arith in before i less ∙ alike i less (e ∙ ap (corner_at edges) f) ∙ sym (here j f))
      ]
      | inr more ↦ (let g : i ≡ k = omega arith in elim (cases_lt j k) [
        | inl lower ↦ here i g ∙ sym (alike j lower (sym e ∙ ap (corner_at edges) g)) ∙ sym (before j lower)
        | inr higher ↦ here i g ∙ sym (here j (omega arith))
      ])
    ]

-- the next edge starts where the first of the last ones does
pub numbered_on : (edges : List Edge) (k first : ℕ) (old new : List ℕ) → new ≡ old ++ first ∷ [] → k < length edges → first ≤ k → AreNumbered edges k first old → corner_at edges k ≡ corner_at edges first → AreNumbered edges (k + 1) first new
numbered_on edges k first old new items small low h same =
    let alike : (i : ℕ) → i < k → corner_at edges i ≡ corner_at edges k → get_or old i 0 ≡ first =
    (λ i l e. let f = h.first_there (omega arith) in h.one i first l f.0 (e ∙ same) ∙ f.1) in
    record {
      each = ap (λ (xs : List ℕ). length xs) items ∙ length_push old first ∙ ap (λ (n : ℕ). n + 1) h.each;
      there = more_there edges k first first old new items h small (omega arith) (sym same) alike;
      stands = more_stands edges k first first old new items h small (omega arith) (sym same) alike;
      one = more_one edges k first first old new items h small (omega arith) (sym same) alike;
      first_there = λ l. elim (cases_lt first k) [
        | inl less ↦ (let f : first < k + 1 = omega arith in (f, before edges k first first old new items h first less ∙ (h.first_there (omega arith)).1))
        | inr more ↦ (let f : first < k + 1 = omega arith in (f, here edges k first first old new items h first (omega arith)))
      ];
      since = λ j l m. elim (cases_lt j k) [
        | inl less ↦ h.since j l less
        | inr more ↦ ap (corner_at edges) (let e : j ≡ k = omega arith in e) ∙ same
      ];
    }

-- the next edge starts elsewhere
pub numbered_anew : (edges : List Edge) (k first : ℕ) (old new : List ℕ) → AreByStart edges → new ≡ old ++ k ∷ [] → k < length edges → AreNumbered edges k first old → (corner_at edges k ≡ corner_at edges first → ⊥) → AreNumbered edges (k + 1) k new
numbered_anew edges k first old new up items small h other =
    let alike : (i : ℕ) → i < k → corner_at edges i ≡ corner_at edges k → get_or old i 0 ≡ k =
    (λ i l e. elim (cases_lt first i) [
      | inl less ↦ absurd (other (sym e ∙ h.since i (omega arith) l))
      | inr more ↦ (let f = (h.first_there (omega arith)).0 in absurd (other (sym e ∙ sym (between edges up i first k more (omega arith) small e))))
    ]) in
    record {
      each = ap (λ (xs : List ℕ). length xs) items ∙ length_push old k ∙ ap (λ (n : ℕ). n + 1) h.each;
      there = more_there edges k first k old new items h small small refl alike;
      stands = more_stands edges k first k old new items h small small refl alike;
      one = more_one edges k first k old new items h small small refl alike;
      first_there = λ l. (let f : k < k + 1 = omega arith in (f, here edges k first k old new items h k refl));
      since = λ j l m. ap (corner_at edges) (let e : j ≡ k = omega arith in e);
    }

pub are_vertices : (edges : List Edge) (k first : ℕ) (vertices : List ℕ) → AreNumbered edges k first vertices → k ≡ length edges → AreVertices edges vertices
are_vertices edges k first vertices h all j l m n = (
  λ e. sym (h.stands j (omega arith)) ∙ ap (corner_at edges) e ∙ h.stands l (omega arith),
  λ e. h.one j l (omega arith) (omega arith) e,
)

pub told_apart : (v w : Corner) → same_corner v w ≡ false → v ≡ w → ⊥
told_apart v w e same = let f : true ≡ false = sym (corner_itself v) ∙ ap (same_corner v) same ∙ e in absurd (cc)

pub numbered_more : (edges : List Edge) (k first f : ℕ) (old new : List ℕ) → AreByStart edges → new ≡ old ++ f ∷ [] → k < length edges → first ≤ k → AreNumbered edges k first old →
    (same_corner (corner_at edges k) (corner_at edges first) ≡ true → f ≡ first) → (same_corner (corner_at edges k) (corner_at edges first) ≡ false → f ≡ k) → AreNumbered edges (k + 1) f new
numbered_more edges k first f old new up items small low h on anew = go (same_corner (corner_at edges k) (corner_at edges first)) refl
  where
    go : (b : Bool) → same_corner (corner_at edges k) (corner_at edges first) ≡ b → AreNumbered edges (k + 1) f new
    go true e =
        let is : f ≡ first = on e in
        subst (λ (x : ℕ). AreNumbered edges (k + 1) x new) (sym is)
        (numbered_on edges k first old new (items ∙ ap (λ (x : ℕ). old ++ x ∷ []) is) small low h (same_corner_is (corner_at edges k) (corner_at edges first) e))
    go false e =
        let is : f ≡ k = anew e in
        subst (λ (x : ℕ). AreNumbered edges (k + 1) x new) (sym is)
        (numbered_anew edges k first old new up (items ∙ ap (λ (x : ℕ). old ++ x ∷ []) is) small h (told_apart (corner_at edges k) (corner_at edges first) e))
