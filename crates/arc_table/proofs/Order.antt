-- Arcs are numbered in the order of the first steps along them.
use Rattle.std.proofs.Common.{◌≡◌, inl, inr, refl, sym, ap, ◌∙◌, subst, arith, ℕ, zero, suc, ◌+◌, ◌-◌, ◌<◌, false, List, [], ◌∷◌, ◌++◌, map, take, length, get_or, AllPairs, Contains, Some, append_assoc}
use Rattle.std.specs.Prelude.{◌≢◌, slice_get}
use Rattle.std.proofs.lemmas.Bool.{cases_lt}
use Rattle.std.proofs.lemmas.List.{append-nil, length-append, length_push, get_or_append_left, get_or_at, get_or-append-add, map-append, get_or_read}
use Rattle.std.proofs.lemmas.List.Elements.{Contains-push_cases, Contains-append_cases, Contains-get_or}
use Rattle.std.proofs.lemmas.Option.{get_or_from_slice_get}
use Rattle.std.specs.List.{flat_map}
use Rattle.std.proofs.lemmas.Grind.{flat_map-append}
use Rattle.plane_model.proofs.PointOrder.{clash}
use Rattle.plane_model.specs.Points.{GridPoint, Segment, Path, reversed, link_between}
use Rattle.plane_model.specs.Drawing.{step_of, steps, steps_of_paths}
use Rattle.arc_table.specs.Numbering.{step_at, link_at, links_from, links_along, HasMark, IsNumbering, GoesFrom}
use Rattle.arc_table.specs.Order.{way_at, links_of_way, links_stepped, IsAfter, GoesAlong, HasOneMore}
use Rattle.arc_table.specs.declared.half_links.Net.{Net}
use Rattle.arc_table.specs.declared.numbering.Way.{Way}
use Rattle.arc_table.specs.declared.numbering.Numbering.{Numbering}
use Rattle.arc_table.proofs.FlatMore.{one_list_more}
use Rattle.arc_table.proofs.Marks.{along_more}
use Rattle.arc_table.proofs.Proper.{one_link}
use Rattle.arc_table.proofs.Runs.{twin, twin_is, twin_there, after, after_there, length_links, link_along}

pub stepped_joined : (xs ys : List Path) → links_stepped (xs ++ ys) ≡ links_stepped xs ++ links_stepped ys
stepped_joined xs ys = ap (map link_between) (flat_map-append steps xs ys) ∙ map-append link_between (steps_of_paths xs) (steps_of_paths ys)

module _ (net : Net) where
  abbrev N : ℕ
  N = length net.steps

  module _ (stepped : List Segment) (l : Segment) where
    at_old : (j : ℕ) → j < length stepped → step_at (stepped ++ l ∷ []) j ≡ step_at stepped j
    at_old j m = get_or_append_left stepped (l ∷ []) _ j m

    at_new : (j : ℕ) → j ≡ length stepped → step_at (stepped ++ l ∷ []) j ≡ l
    at_new j e = get_or_at stepped l [] _ j (sym e)

    size : length (stepped ++ l ∷ []) ≡ length stepped + 1
    size = length_push stepped l

  -- a step more along a link that has its mark
  pub step_more : (numbering : Numbering) (stepped : List Segment) (l : Segment) → ((h : ℕ) → h < N → link_at net h ≡ l → HasMark numbering.is_numbered.items h) → IsAfter net stepped numbering
      → IsAfter net (stepped ++ l ∷ []) numbering
  step_more numbering stepped l has before =
      let ways = numbering.ways.items in
      let s = size stepped l in
      record {
        marked = λ h m c. elim (Contains-push_cases stepped l (link_at net h) c) [ inl e ↦ before.marked h m e | inr e ↦ has h m (sym e) ];
        begun = λ n m. (let b = before.begun n m in let k = b.1 in (b.0, omega arith, subst (Contains (links_of_way net ways n)) (sym (at_old stepped l b.0 b.1)) b.2));
        order = λ m n j p q r c. elim (cases_lt j (length stepped)) [
          | inl t ↦ (
              let o = before.order m n j p q t (subst (Contains (links_of_way net ways n)) (at_old stepped l j t) c) in
              let u = o.1 in
              (o.0, o.1, subst (Contains (links_of_way net ways m)) (sym (at_old stepped l o.0 (omega arith))) o.2))
          | inr t ↦ (
              let b = before.begun n q in
              let o = before.order m n b.0 p q b.1 b.2 in
              let u = o.1 in
              let v = b.1 in
              (o.0, omega arith, subst (Contains (links_of_way net ways m)) (sym (at_old stepped l o.0 (omega arith))) o.2))
        ];
      }

  -- a step more along a link of a new way
  module _ (old new : Numbering) (way : Way) (h_old : IsNumbering net old) (h_new : IsNumbering net new) (pushed : new.ways.items ≡ old.ways.items ++ way ∷ [])
      (kept : (h : ℕ) → h < N → HasMark old.is_numbered.items h → HasMark new.is_numbered.items h) (stepped : List Segment) (l : Segment) (on : Contains (links_from net way.steps way.start) l)
      (has : (h : ℕ) → h < N → link_at net h ≡ l → HasMark new.is_numbered.items h) (before : IsAfter net stepped old) where
    abbrev links : ℕ → List Segment
    links n = links_of_way net new.ways.items n

    count : length new.ways.items ≡ length old.ways.items + 1
    count = ap (λ (ws : List Way). length ws) pushed ∙ length_push old.ways.items way

    links_old : (n : ℕ) → n < length old.ways.items → links n ≡ links_of_way net old.ways.items n
    links_old n m = ap (λ (w : Way). links_from net w.steps w.start) (ap (λ (ws : List Way). way_at ws n) pushed ∙ get_or_append_left old.ways.items (way ∷ []) _ n m)

    way_new : (n : ℕ) → n ≡ length old.ways.items → way_at new.ways.items n ≡ way
    way_new n e = ap (λ (ws : List Way). way_at ws n) pushed ∙ get_or_at old.ways.items way [] _ n (sym e)

    links_new : (n : ℕ) → n ≡ length old.ways.items → links n ≡ links_from net way.steps way.start
    links_new n e = ap (λ (w : Way). links_from net w.steps w.start) (way_new n e)

    start_there : way.start < N
    start_there =
        let c = count in
        let k = length old.ways.items in
        subst (λ (w : Way). w.start < N) (way_new k refl) (h_new.ways k (record { start = 0; steps = 0 }) (omega arith)).there

    -- no step before was along the new way
    fresh : (j : ℕ) → j < length stepped → Contains (links_from net way.steps way.start) (step_at stepped j) → ⊥
    fresh j m c =
        let x = step_at stepped j in
        let size_of = length_links net way.steps way.start in
        let k_there = c.1 in
        let h = after net c.0 way.start in
        let h_there = after_there net c.0 way.start start_there in
        let is : x ≡ link_at net h = sym c.2 ∙ link_along net way.steps way.start c.0 x (omega arith) in
        let in_stepped : Contains stepped (link_at net h) = subst (Contains stepped) is (Contains-get_or stepped j _ m) in
        let in_old : Contains (links_along net old.ways.items) (link_at net h) = (h_old.marks h h_there).0 (before.marked h h_there in_stepped) in
        let all : links_along net new.ways.items ≡ links_along net old.ways.items ++ links_from net way.steps way.start = ap (links_along net) pushed ∙ along_more net old.ways.items way in
        let once = subst (AllPairs (λ (a b : Segment). a ≢ b)) all h_new.once in
        let L = links_along net old.ways.items in
        let F = links_from net way.steps way.start in
        let i_there = in_old.1 in
        once in_old.0 (length L + c.0) (link_at net h) (omega arith) (let s = length-append L F in omega arith)
        (get_or_append_left L F (link_at net h) in_old.0 in_old.1 ∙ in_old.2 ∙ sym (link_along net way.steps way.start c.0 (link_at net h) (omega arith)) ∙ sym (get_or-append-add L F c.0 (link_at net h)))

    pub way_more : IsAfter net (stepped ++ l ∷ []) new
    way_more =
        let s = size stepped l in
        let k = count in
        record {
          marked = λ h m c. elim (Contains-push_cases stepped l (link_at net h) c) [ inl e ↦ kept h m (before.marked h m e) | inr e ↦ has h m (sym e) ];
          begun = λ n m. elim (cases_lt n (length old.ways.items)) [
            | inl t ↦ (
                let b = before.begun n t in
                let u = b.1 in
                (b.0, omega arith, subst (λ (ls : List Segment). Contains ls (step_at (stepped ++ l ∷ []) b.0)) (sym (links_old n t)) (subst (Contains (links_of_way net old.ways.items n)) (sym (at_old stepped l b.0 b.1)) b.2)))
            | inr t ↦ (
                let e : n ≡ length old.ways.items = omega arith in (
                  length stepped,
                  omega arith,
                  subst (λ (ls : List Segment). Contains ls (step_at (stepped ++ l ∷ []) (length stepped))) (sym (links_new n e))
                      (subst (Contains (links_from net way.steps way.start)) (sym (at_new stepped l (length stepped) refl)) on),
                ))
          ];
          order = λ m n j p q r c. earlier m n j p q r c;
        }
      where
        old_link : (m i : ℕ) → m < length old.ways.items → i < length stepped → Contains (links_of_way net old.ways.items m) (step_at stepped i) → Contains (links m) (step_at (stepped ++ l ∷ []) i)
        old_link m i p q c = subst (λ (ls : List Segment). Contains ls (step_at (stepped ++ l ∷ []) i)) (sym (links_old m p)) (subst (Contains (links_of_way net old.ways.items m)) (sym (at_old stepped l i q)) c)

        earlier : (m n j : ℕ) → m < n → n < length new.ways.items → j < length (stepped ++ l ∷ []) → Contains (links n) (step_at (stepped ++ l ∷ []) j) → (i : ℕ) × (i < j) × Contains (links m) (step_at (stepped ++ l ∷ []) i)
        earlier m n j p q r c =
            let s = size stepped l in
            let k = count in
            elim (cases_lt n (length old.ways.items)) [
              | inl t ↦ elim (cases_lt j (length stepped)) [
                | inl u ↦ (
                    let o = before.order m n j p t u (subst (Contains (links_of_way net old.ways.items n)) (at_old stepped l j u) (subst (λ (ls : List Segment). Contains ls (step_at (stepped ++ l ∷ []) j)) (links_old n t) c)) in
                    let v = o.1 in
                    (o.0, o.1, old_link m o.0 (omega arith) (omega arith) o.2))
                | inr u ↦ (
                    let b = before.begun n t in
                    let o = before.order m n b.0 p t b.1 b.2 in
                    let v = o.1 in
                    let w = b.1 in
                    (o.0, omega arith, old_link m o.0 (omega arith) (omega arith) o.2))
              ]
              | inr t ↦ elim (cases_lt j (length stepped)) [
                | inl u ↦ absurd (fresh j u (subst (Contains (links_from net way.steps way.start)) (at_old stepped l j u)
                    (subst (λ (ls : List Segment). Contains ls (step_at (stepped ++ l ∷ []) j)) (links_new n (omega arith)) c)))
                | inr u ↦ (
                    let b = before.begun m (omega arith) in
                    let w = b.1 in
                    (b.0, omega arith, old_link m b.0 (omega arith) b.1 b.2))
              ]
            ]

  -- ---- step by step

  pub along_none : (numbering : Numbering) → GoesAlong net numbering numbering []
  along_none numbering = record { more = λ stepped h. subst (λ (ls : List Segment). IsAfter net ls numbering) (sym (append-nil stepped)) h }

  pub along_both : (a b c : Numbering) (L M : List Segment) → GoesAlong net a b L → GoesAlong net b c M → GoesAlong net a c (L ++ M)
  along_both a b c L M p q = record { more = λ stepped h. subst (λ (ls : List Segment). IsAfter net ls c) (append_assoc stepped L M) (q.more (stepped ++ L) (p.more stepped h)) }

  pub along_marked : (numbering : Numbering) (h : ℕ) → h < N → IsNumbering net numbering → HasMark numbering.is_numbered.items h → GoesAlong net numbering numbering (link_at net h ∷ [])
  along_marked numbering h l n m = record {
    more = λ stepped before. step_more numbering stepped (link_at net h)
        (λ k t e. (n.marks k t).1 (subst (Contains (links_along net numbering.ways.items)) (sym e) ((n.marks h l).0 m))) before;
  }

  pub along_new : (old new : Numbering) (h : ℕ) → h < N → IsNumbering net old → GoesFrom net old new → HasOneMore old new → HasMark new.is_numbered.items h → get_or old.is_numbered.items h false ≡ false
      → GoesAlong net old new (link_at net h ∷ [])
  along_new old new h l n from one m unmarked =
      let there : Contains (links_along net new.ways.items) (link_at net h) = (from.numbering.marks h l).0 m in
      let none : Contains (links_along net old.ways.items) (link_at net h) → ⊥ = λ c. clash (get_or old.is_numbered.items h false) ((n.marks h l).1 c) unmarked in
      elim one [
        | inl e ↦ absurd (none (subst (λ (ws : List Way). Contains (links_along net ws) (link_at net h)) e there))
        | inr e ↦ record {
          more = λ stepped before. way_more old new e.0 n from.numbering e.1 from.kept stepped (link_at net h)
              (elim (Contains-append_cases (links_along net old.ways.items) (links_from net e.0.steps e.0.start) (link_at net h)
              (subst (λ (ls : List Segment). Contains ls (link_at net h)) (ap (links_along net) e.1 ∙ along_more net old.ways.items e.0) there)) [
                | inl c ↦ absurd (none c)
                | inr c ↦ c
              ])
              (λ k t f. (from.numbering.marks k t).1 (subst (Contains (links_along net new.ways.items)) (sym f) there)) before;
        }
      ]

  pub along_step : (old new : Numbering) (h : ℕ) (s : Segment) → slice_get net.steps h ≡ Some s → GoesAlong net old new (link_at net h ∷ []) → GoesAlong net old new (link_between s ∷ [])
  along_step old new h s e = subst (λ (t : Segment). GoesAlong net old new (link_between t ∷ [])) (get_or_from_slice_get net.steps h s _ e)

  pub along_missing : (numbering : Numbering) (s : Segment) → (Contains net.steps s → ⊥) → GoesAlong net numbering numbering (link_between s ∷ [])
  along_missing numbering s none = record {
    more = λ stepped before. step_more numbering stepped (link_between s) (λ h l e. absurd (elim (one_link (step_at net.steps h) s e) [
      | inl f ↦ none (subst (Contains net.steps) f (Contains-get_or net.steps h _ l))
      | inr f ↦ none (subst (Contains net.steps) (twin_is net h l ∙ ap reversed f) (Contains-get_or net.steps (twin net h) _ (twin_there net h l)))
    ])) before;
  }

  -- ---- path by path

  steps_more : (path : Path) (k : ℕ) (d : GridPoint) → suc k < length path → steps (take (suc (suc k)) path) ≡ steps (take (suc k) path) ++ step_of (get_or path k d, get_or path (suc k) d) ∷ []
  steps_more [] k d l = absurd (omega arith)
  steps_more (x ∷ []) k d l = absurd (omega arith)
  steps_more (x ∷ y ∷ rest) zero d l = refl
  steps_more (x ∷ y ∷ rest) (suc k) d l = ap (λ (ss : List Segment). step_of (x, y) ∷ ss) (steps_more (y ∷ rest) k d (omega arith))

  pub along_path : (a b c : Numbering) (path : Path) (i : ℕ) (p q : GridPoint) (s : Segment) → 0 < i → i < length path → p ≡ get_or path (i - 1) p → q ≡ get_or path i q → s ≡ record { start = p; stop = q }
      → GoesAlong net a b (map link_between (steps (take i path))) → GoesAlong net b c (link_between s ∷ []) → GoesAlong net a c (map link_between (steps (take (i + 1) path)))
  along_path a b c path i p q s some l is_p is_q made before last =
      let k = i - 1 in
      let e : i ≡ suc (i - 1) = omega arith in
      let f : suc (suc (i - 1)) ≡ i + 1 = omega arith in
      let q_is : q ≡ get_or path (suc (i - 1)) p = get_or_read path i q l is_q p ∙ ap (λ (j : ℕ). get_or path j p) e in
      let s_is : s ≡ step_of (get_or path (i - 1) p, get_or path (suc (i - 1)) p) = made ∙ (λ j. record { start = is_p j; stop = q_is j }) in
      let all : map link_between (steps (take i path)) ++ link_between s ∷ [] ≡ map link_between (steps (take (i + 1) path)) =
      (λ j. map link_between (steps (take (e j) path)) ++ link_between (s_is j) ∷ [])
      ∙ sym (map-append link_between (steps (take (suc (i - 1)) path)) (step_of (get_or path (i - 1) p, get_or path (suc (i - 1)) p) ∷ []))
      ∙ sym (ap (map link_between) (steps_more path (i - 1) p (omega arith)))
      ∙ ap (λ (j : ℕ). map link_between (steps (take j path))) f in
      subst (GoesAlong net a c) all (along_both a b c (map link_between (steps (take i path))) (link_between s ∷ []) before last)

  -- after one list of paths more
  pub along_lists : {A : Type 0} (g : A → List Path) (a b c : Numbering) (xs : List A) (i j : ℕ) (x : A) (L : List Segment) → slice_get xs j ≡ Some x → j ≡ i → L ≡ links_stepped (g x)
      → GoesAlong net a b (links_stepped (flat_map g (take i xs))) → GoesAlong net b c L → GoesAlong net a c (links_stepped (flat_map g (take (i + 1) xs)))
  along_lists g a b c xs i j x L found place is before last =
      let more : flat_map g (take i xs) ++ g x ≡ flat_map g (take (i + 1) xs) = one_list_more g xs i j x x [] (flat_map g (take i xs)) (flat_map g (take i xs) ++ g x) found place refl refl refl in
      subst (GoesAlong net a c) (ap (λ (ls : List Segment). links_stepped (flat_map g (take i xs)) ++ ls) is ∙ sym (stepped_joined (flat_map g (take i xs)) (g x)) ∙ ap links_stepped more)
      (along_both a b c (links_stepped (flat_map g (take i xs))) L before last)
