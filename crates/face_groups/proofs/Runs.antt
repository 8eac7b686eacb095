-- Faces in the order of their keys, divided into sets of those whose keys tie.
use Rattle.std.proofs.Common.{◌≡◌, refl, sym, ap, ◌∙◌, subst, inl, inr, true≢false, arith, ℕ, ◌+◌, ◌-◌, ◌<◌, ◌≤◌, Bool, true, false, nat_lt, List, [], ◌∷◌, ◌++◌, length, get_or, drop, AllPairs, Contains, length-take}
use Rattle.std.specs.Prelude.{slice_range}
use Rattle.std.specs.Cmp.{IsStrictWeakOrder}
use Rattle.std.proofs.lemmas.Bool.{cases_lt, true_from_ne_false}
use Rattle.std.proofs.lemmas.List.{get_or-take, get_or-drop, length-drop, get_or_default}
use Rattle.std.proofs.lemmas.List.Elements.{All-nil, All-weaker, All-contains, All-push, Contains-get_or, Contains-append_left, Contains-push}
use Rattle.std.proofs.lemmas.List.Quantifiers.{all_pairs_push}
use Rattle.lists.specs.Lists.{ascending}
use Rattle.lists.proofs.Ascending.{ascending-IsAscending, ascending-Contains, Contains-ascending}
use Rattle.face_sets.proofs.SetLemmas.{nat_order, from_ascending}
use Rattle.face_groups.specs.Groups.{AreBefore, AreByKey, AreKeySets, IsKeyRun, IsKeySet}

-- the face stands from one place on before another
abbrev pub StandsIn : List ℕ → ℕ → ℕ → ℕ → Type 0
StandsIn faces first end k = (i : ℕ) × (first ≤ i) × (i < end) × (i < length faces) × (get_or faces i 0 ≡ k)

-- the keys of the faces before a place come before those of the faces from there on
abbrev pub IsSplitAt : (ℕ → ℕ → Bool) → List ℕ → ℕ → Type 0
IsSplitAt before faces n = (i j : ℕ) → i < n → n ≤ j → j < length faces → before (get_or faces i 0) (get_or faces j 0) ≡ true

-- ---- sets of the same faces, said otherwise

set_of_same : (P Q : ℕ → Type 0) (before : ℕ → ℕ → Bool) (set : List ℕ) → ((k : ℕ) → P k → Q k) → IsKeySet P before set → IsKeySet Q before set
set_of_same P Q before set f h = record { ascending = h.ascending; some = h.some; of_them = λ k c. f k (h.of_them k c); tied = h.tied }

pub sets_of_same : (P Q : ℕ → Type 0) (before : ℕ → ℕ → Bool) (sets : List (List ℕ)) → ((k : ℕ) → P k → Q k) → ((k : ℕ) → Q k → P k) → AreKeySets P before sets → AreKeySets Q before sets
sets_of_same P Q before sets f g h = record {
  each = All-weaker (IsKeySet P before) (IsKeySet Q before) (λ set one. set_of_same P Q before set f one) sets h.each;
  all = λ k q. h.all k (g k q);
  in_order = h.in_order;
}

pub sets_of_none : (P : ℕ → Type 0) (before : ℕ → ℕ → Bool) → ((k : ℕ) → P k → ⊥) → AreKeySets P before []
sets_of_none P before none = record { each = All-nil (IsKeySet P before); all = λ k p. absurd (none k p); in_order = λ i j d l m. absurd (omega arith) }

pairs_pushed : {A : Type 0} (R : A → A → Type 0) (xs : List A) (y : A) → AllPairs R xs → ((x : A) → Contains xs x → R x y) → AllPairs R (xs ++ y ∷ [])
pairs_pushed R xs y h below = all_pairs_push R xs y h (λ k d l. below (get_or xs k d) (Contains-get_or xs k d l))

-- ---- faces from one place to another

in_part : (faces : List ℕ) (first end k : ℕ) → end ≤ length faces → Contains (slice_range faces first end) k → StandsIn faces first end k
in_part faces first end k within (n, l, is) =
    let e = length-take (end - first) (drop first faces) in
    let f = length-drop first faces in
    let below : n < end - first = omega arith in
    let at : get_or (slice_range faces first end) n k ≡ get_or faces (first + n) k = get_or-take (end - first) (drop first faces) n k below ∙ get_or-drop first faces n k in
    (first + n, omega arith, omega arith, omega arith, get_or_default faces (first + n) 0 k (omega arith) ∙ sym at ∙ is)

of_part : (faces : List ℕ) (first end k : ℕ) → end ≤ length faces → StandsIn faces first end k → Contains (slice_range faces first end) k
of_part faces first end k within (i, past, below, there, is) =
    let e = length-take (end - first) (drop first faces) in
    let f = length-drop first faces in
    let same : first + (i - first) ≡ i = omega arith in
    let at : get_or (slice_range faces first end) (i - first) k ≡ get_or faces i k =
    get_or-take (end - first) (drop first faces) (i - first) k (omega arith) ∙ get_or-drop first faces (i - first) k ∙ ap (λ (m : ℕ). get_or faces m k) same in
    (i - first, omega arith, at ∙ get_or_default faces i k 0 there ∙ is)

module _ (before : ℕ → ℕ → Bool) (order : IsStrictWeakOrder before) (faces : List ℕ) (up : AreByKey before faces) where
  -- what comes before a face comes before all that don't come before that
  comes_first : (x y z : ℕ) → before x z ≡ true → before y z ≡ false → before x y ≡ true
  comes_first x y z e f = true_from_ne_false (before x y) (λ h. true≢false (sym e ∙ order.chain x y z h f))

  comes_last : (x y z : ℕ) → before x z ≡ true → before x y ≡ false → before y z ≡ true
  comes_last x y z e f = true_from_ne_false (before y z) (λ h. true≢false (sym e ∙ order.chain x y z f h))

  pub run_begins : (first : ℕ) → first < length faces → (k : ℕ) → first ≤ k → k < first + 1 → before (get_or faces first 0) (get_or faces k 0) ≡ false
  run_begins first l k past below = let same : first ≡ k = omega arith in subst (λ (j : ℕ). before (get_or faces first 0) (get_or faces j 0) ≡ false) same (up first first (omega arith) l)

  pub run_ends : (first i : ℕ) → first < i → i < length faces → ((k : ℕ) → first ≤ k → k < i → before (get_or faces first 0) (get_or faces k 0) ≡ false) → before (get_or faces first 0) (get_or faces i 0) ≡ true → IsKeyRun before faces first i
  run_ends first i some l inside e = record {
    some = some;
    within = omega arith;
    inside = inside;
    beyond = λ k past there. comes_first (get_or faces first 0) (get_or faces k 0) (get_or faces i 0) e (up i k past there);
  }

  pub split_after : (first end : ℕ) → IsSplitAt before faces first → IsKeyRun before faces first end → IsSplitAt before faces end
  split_after first end split run i j l past there = elim (cases_lt i first) [
    | inl less ↦ (let some = run.some in split i j less (omega arith) there)
    | inr more ↦ comes_last (get_or faces first 0) (get_or faces i 0) (get_or faces j 0) (run.beyond j past there) (run.inside i more l)
  ]

  module _ (first end : ℕ) (run : IsKeyRun before faces first end) where
    abbrev part : List ℕ
    part = slice_range faces first end

    abbrev key_set : List ℕ
    key_set = ascending nat_lt part

    stands : (k : ℕ) → Contains key_set k → StandsIn faces first end k
    stands k c = in_part faces first end k run.within (ascending-Contains nat_lt nat_order part k c)

    set_has : (k : ℕ) → StandsIn faces first end k → Contains key_set k
    set_has k h = Contains-ascending nat_lt nat_order part k (of_part faces first end k run.within h)

    further : (k : ℕ) → StandsIn faces 0 first k → StandsIn faces 0 end k
    further k (i, low, below, there, at) = (i, low, (let some = run.some in omega arith), there, at)

    set_of_run : IsKeySet (StandsIn faces 0 end) before key_set
    set_of_run = record {
      ascending = from_ascending key_set (ascending-IsAscending nat_lt nat_order part);
      some = (let there : first < length faces = (let a = run.some in let b = run.within in omega arith) in
          let (i, l, is) = set_has (get_or faces first 0) (first, omega arith, run.some, there, refl) in omega arith);
      of_them = λ k c. (let (i, past, below, there, is) = stands k c in (i, omega arith, below, there, is));
      tied = λ j k c d.
          (let (m, a, b, l, is) = stands j c in
          let (n, p, q, r, at) = stands k d in
          subst (λ (y : ℕ). before j y ≡ false) at
          (subst (λ (x : ℕ). before x (get_or faces n 0) ≡ false) is
          (order.chain (get_or faces m 0) (get_or faces first 0) (get_or faces n 0) (up first m a l) (run.inside n p q))));
    }

    -- one face more of those up to the end has a set
    has_set : (sets : List (List ℕ)) → AreKeySets (StandsIn faces 0 first) before sets → (k : ℕ) → StandsIn faces 0 end k → (s : List ℕ) × Contains (sets ++ key_set ∷ []) s × Contains s k
    has_set sets h k (i, low, below, there, at) = elim (cases_lt i first) [
      | inl less ↦ (let (s, c, d) = h.all k (i, low, less, there, at) in (s, Contains-append_left sets (key_set ∷ []) s c, d))
      | inr more ↦ (key_set, Contains-push sets key_set, set_has k (i, more, below, there, at))
    ]

    -- the faces up to the end, where those up to the first place are divided
    pub sets_more : (sets : List (List ℕ)) (new : List ℕ) → new ≡ key_set → IsSplitAt before faces first → AreKeySets (StandsIn faces 0 first) before sets → AreKeySets (StandsIn faces 0 end) before (sets ++ new ∷ [])
    sets_more sets new is split h = subst (λ (s : List ℕ). AreKeySets (StandsIn faces 0 end) before (sets ++ s ∷ [])) (sym is) (record {
      each = All-push (IsKeySet (StandsIn faces 0 end) before) sets key_set
          (All-weaker (IsKeySet (StandsIn faces 0 first) before) (IsKeySet (StandsIn faces 0 end) before) (λ s one. set_of_same (StandsIn faces 0 first) (StandsIn faces 0 end) before s further one) sets h.each) set_of_run;
      all = has_set sets h;
      in_order = pairs_pushed (AreBefore before) sets key_set h.in_order (λ s c j k d e.
          let (m, low, below, l, at) = (All-contains (IsKeySet (StandsIn faces 0 first) before) sets s h.each c).of_them j d in
          let (n, past, q, r, is) = stands k e in
          subst (λ (y : ℕ). before j y ≡ true) is (subst (λ (x : ℕ). before x (get_or faces n 0) ≡ true) at (split m n below past r)));
    })
