-- The classes that come of pairs joined one after another.
use Rattle.std.proofs.Common.{◌≡◌, ◌⊎◌, refl, sym, ap, ◌∙◌, subst, arith, ℕ, ◌<◌, Bool, true, false, cond, List, [], ◌∷◌, ◌++◌, length, get_or, map, nat_lt, inl, inr, All}
use Rattle.std.proofs.lemmas.Bool.{cases_eq, eq-eqb, ne_eqb}
use Rattle.std.proofs.lemmas.List.{length-map, get_or-map}
use Rattle.std.proofs.lemmas.List.Elements.{All-cons, All-tail}
use Rattle.face_walk.specs.Joining.{AreAlone, renamed, made_one}
use Rattle.face_walk.specs.Joins.{joined_by, AreJoinedBy}
use Rattle.face_walk.specs.Numbering.{IsNumbering}

-- both numbers of a pair are below n
abbrev pub IsPairBelow : ℕ → ℕ × ℕ → Type 0
IsPairBelow n p = (p.0 < n) × (p.1 < n)

pub joined_append : (ps qs : List (ℕ × ℕ)) (classes : List ℕ) → joined_by (ps ++ qs) classes ≡ joined_by qs (joined_by ps classes)
joined_append [] qs classes = refl
joined_append (p ∷ ps) qs classes = joined_append ps qs (made_one p.0 p.1 classes)

pub joined_more : (ps : List (ℕ × ℕ)) (q : ℕ × ℕ) (classes : List ℕ) → joined_by (ps ++ q ∷ []) classes ≡ made_one q.0 q.1 (joined_by ps classes)
joined_more ps q classes = joined_append ps (q ∷ []) classes

-- ---- one class renamed

is_renamed : (m n k : ℕ) → k ≡ m → renamed m n k ≡ n
is_renamed m n k e = ap (λ (b : Bool). cond b n k) (eq-eqb k m e)

is_kept : (m n k : ℕ) → (k ≡ m → ⊥) → renamed m n k ≡ k
is_kept m n k e = ap (λ (b : Bool). cond b n k) (ne_eqb k m e)

-- where f takes one value on each class, and on those of two numbers, it does so when one of these two classes is renamed as the other
module _ (classes : List ℕ) (f : ℕ → Bool) (one : (j k : ℕ) → j < length classes → k < length classes → get_or classes j 0 ≡ get_or classes k 0 → f j ≡ f k)
    (u v : ℕ) (lu : u < length classes) (lv : v < length classes) (both : f u ≡ f v) where
  abbrev x : ℕ
  x = get_or classes u 0

  abbrev y : ℕ
  y = get_or classes v 0

  at_both : (j k : ℕ) → j < length classes → k < length classes → renamed x y (get_or classes j 0) ≡ renamed x y (get_or classes k 0) → f j ≡ f k
  at_both j k l m e = elim (cases_eq (get_or classes j 0) x) [
    | inl jx ↦ elim (cases_eq (get_or classes k 0) x) [
      | inl kx ↦ one j k l m (jx ∙ sym kx)
      | inr kx ↦ one j u l lu jx ∙ both ∙ one v k lv m (sym (is_renamed x y (get_or classes j 0) jx) ∙ e ∙ is_kept x y (get_or classes k 0) kx)
    ]
    | inr jx ↦ elim (cases_eq (get_or classes k 0) x) [
      | inl kx ↦ one j v l lv (sym (is_kept x y (get_or classes j 0) jx) ∙ e ∙ is_renamed x y (get_or classes k 0) kx) ∙ sym both ∙ one u k lu m (sym kx)
      | inr kx ↦ one j k l m (sym (is_kept x y (get_or classes j 0) jx) ∙ e ∙ is_kept x y (get_or classes k 0) kx)
    ]
  ]

  pub still_one : (j k : ℕ) → j < length classes → k < length classes → get_or (map (renamed x y) classes) j 0 ≡ get_or (map (renamed x y) classes) k 0 → f j ≡ f k
  still_one j k l m e = at_both j k l m (sym (get_or-map (renamed x y) classes j 0 0 l) ∙ e ∙ get_or-map (renamed x y) classes k 0 0 m)

-- ---- two classes made one

module _ (m n : ℕ) (classes : List ℕ) where
  abbrev a : ℕ
  a = get_or classes m 0

  abbrev b : ℕ
  b = get_or classes n 0

  abbrev chosen : Bool → List ℕ
  chosen t = cond t (map (renamed b a) classes) (map (renamed a b) classes)

  pub length_made : length (made_one m n classes) ≡ length classes
  length_made = go (nat_lt a b)
    where
      go : (t : Bool) → length (chosen t) ≡ length classes
      go true = length-map classes (renamed b a)
      go false = length-map classes (renamed a b)

  pub kept_one : (j k : ℕ) → j < length classes → k < length classes → get_or classes j 0 ≡ get_or classes k 0 → get_or (made_one m n classes) j 0 ≡ get_or (made_one m n classes) k 0
  kept_one j k l h e = go (nat_lt a b)
    where
      go : (t : Bool) → get_or (chosen t) j 0 ≡ get_or (chosen t) k 0
      go true = get_or-map (renamed b a) classes j 0 0 l ∙ ap (renamed b a) e ∙ sym (get_or-map (renamed b a) classes k 0 0 h)
      go false = get_or-map (renamed a b) classes j 0 0 l ∙ ap (renamed a b) e ∙ sym (get_or-map (renamed a b) classes k 0 0 h)

  same_after : (c d j k : ℕ) → j < length classes → k < length classes → get_or classes j 0 ≡ c → get_or classes k 0 ≡ d → get_or (map (renamed c d) classes) j 0 ≡ get_or (map (renamed c d) classes) k 0
  same_after c d j k l h jc kd =
      get_or-map (renamed c d) classes j 0 0 l ∙ is_renamed c d (get_or classes j 0) jc ∙ sym (get_or-map (renamed c d) classes k 0 0 h ∙ ap (renamed c d) kd ∙ itself (cases_eq d c))
    where
      itself : (d ≡ c) ⊎ (d ≡ c → ⊥) → renamed c d d ≡ d
      itself (inl e) = is_renamed c d d e
      itself (inr e) = is_kept c d d e

  pub made_same : m < length classes → n < length classes → get_or (made_one m n classes) m 0 ≡ get_or (made_one m n classes) n 0
  made_same l h = go (nat_lt a b)
    where
      go : (t : Bool) → get_or (chosen t) m 0 ≡ get_or (chosen t) n 0
      go true = sym (same_after b a n m h l refl refl)
      go false = same_after a b m n l h refl refl

  pub one_made : (f : ℕ → Bool) → ((j k : ℕ) → j < length classes → k < length classes → get_or classes j 0 ≡ get_or classes k 0 → f j ≡ f k) →
      m < length classes → n < length classes → f m ≡ f n →
      (j k : ℕ) → j < length classes → k < length classes → get_or (made_one m n classes) j 0 ≡ get_or (made_one m n classes) k 0 → f j ≡ f k
  one_made f one l h both j k jl kl = go (nat_lt a b)
    where
      go : (t : Bool) → get_or (chosen t) j 0 ≡ get_or (chosen t) k 0 → f j ≡ f k
      go true e = still_one classes f one n m h l (sym both) j k jl kl e
      go false e = still_one classes f one m n l h both j k jl kl e

-- ---- pair by pair

pub length_joined : (ps : List (ℕ × ℕ)) (classes : List ℕ) → length (joined_by ps classes) ≡ length classes
length_joined [] classes = refl
length_joined (p ∷ ps) classes = length_joined ps (made_one p.0 p.1 classes) ∙ length_made p.0 p.1 classes

kept : (ps : List (ℕ × ℕ)) (classes : List ℕ) (j k : ℕ) → j < length classes → k < length classes → get_or classes j 0 ≡ get_or classes k 0 → get_or (joined_by ps classes) j 0 ≡ get_or (joined_by ps classes) k 0
kept [] classes j k l m e = e
kept (p ∷ ps) classes j k l m e =
    let n = length_made p.0 p.1 classes in
    kept ps (made_one p.0 p.1 classes) j k (omega arith) (omega arith) (kept_one p.0 p.1 classes j k l m e)

below_made : (p : ℕ × ℕ) (ps : List (ℕ × ℕ)) (classes : List ℕ) → All (IsPairBelow (length classes)) (p ∷ ps) → All (IsPairBelow (length (made_one p.0 p.1 classes))) ps
below_made p ps classes below =
    subst (λ (n : ℕ). All (IsPairBelow n) ps) (sym (length_made p.0 p.1 classes)) (All-tail (IsPairBelow (length classes)) p ps below)

agree : (ps : List (ℕ × ℕ)) (classes : List ℕ) → All (IsPairBelow (length classes)) ps → All (λ (p : ℕ × ℕ). get_or (joined_by ps classes) p.0 0 ≡ get_or (joined_by ps classes) p.1 0) ps
agree [] classes below = λ k d l. absurd (omega arith)
agree (p ∷ ps) classes below =
    let n = length_made p.0 p.1 classes in
    let (l, m) = below 0 p (omega arith) in
    All-cons (λ (q : ℕ × ℕ). get_or (joined_by (p ∷ ps) classes) q.0 0 ≡ get_or (joined_by (p ∷ ps) classes) q.1 0) p ps
    (kept ps (made_one p.0 p.1 classes) p.0 p.1 (omega arith) (omega arith) (made_same p.0 p.1 classes l m))
    (agree ps (made_one p.0 p.1 classes) (below_made p ps classes below))

one : (ps : List (ℕ × ℕ)) (classes : List ℕ) → All (IsPairBelow (length classes)) ps → (f : ℕ → Bool) → All (λ (p : ℕ × ℕ). f p.0 ≡ f p.1) ps →
    ((j k : ℕ) → j < length classes → k < length classes → get_or classes j 0 ≡ get_or classes k 0 → f j ≡ f k) →
    (j k : ℕ) → j < length classes → k < length classes → get_or (joined_by ps classes) j 0 ≡ get_or (joined_by ps classes) k 0 → f j ≡ f k
one [] classes below f on base j k l m e = base j k l m e
one (p ∷ ps) classes below f on base j k l m e =
    let n = length_made p.0 p.1 classes in
    let (a, b) = below 0 p (omega arith) in
    one ps (made_one p.0 p.1 classes) (below_made p ps classes below) f (All-tail (λ (q : ℕ × ℕ). f q.0 ≡ f q.1) p ps on)
    (λ i h il hl g. one_made p.0 p.1 classes f base a b (on 0 p (omega arith)) i h (omega arith) (omega arith) g)
    j k (omega arith) (omega arith) e

-- numbers of the classes that come of pairs, each number alone at first, are joined by these pairs
pub numbers_are_joined : (ps : List (ℕ × ℕ)) (alone numbers : List ℕ) (count : ℕ) → AreAlone alone → All (IsPairBelow (length alone)) ps → IsNumbering (joined_by ps alone) numbers count → AreJoinedBy ps numbers
numbers_are_joined ps alone numbers count own below h =
    let n = length_joined ps alone in
    let m = h.each in
    record {
      agree = λ k d l.
          (let (a, b) = below k d l in
          (h.same (get_or ps k d).0 (get_or ps k d).1 (omega arith) (omega arith)).1 (agree ps alone below k d l));
      joined = λ f on j k jl kl e.
          one ps alone below f on (λ i g il gl x. ap f (sym (own i il) ∙ x ∙ own g gl)) j k (omega arith) (omega arith) ((h.same j k (omega arith) (omega arith)).0 e);
    }
