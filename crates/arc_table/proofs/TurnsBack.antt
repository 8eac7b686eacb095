-- Where a path turns back, one place more.
use Rattle.std.proofs.Common.{◌≡◌, sym, ap, ◌∙◌, arith, ℕ, zero, suc, ◌+◌, ◌-◌, ◌<◌, ◌≤◌, Bool, true, false, List, [], ◌∷◌, ◌++◌, take, length, get_or, append_assoc}
use Rattle.std.specs.Prelude.{if◌then◌else◌}
use Rattle.std.proofs.lemmas.List.{append-nil, get_or_read}
use Rattle.plane_model.specs.Points.{GridPoint, Path, same_point}
use Rattle.arc_table.specs.Nodes.{turns_back}

one_more : (path : Path) (k : ℕ) (d : GridPoint) → suc (suc k) < length path
    → turns_back (take (suc (suc (suc k))) path) ≡ turns_back (take (suc (suc k)) path) ++ (if same_point (get_or path k d) (get_or path (suc (suc k)) d) then get_or path (suc k) d ∷ [] else [])
one_more [] k d l = absurd (omega arith)
one_more (p ∷ []) k d l = absurd (omega arith)
one_more (p ∷ q ∷ []) k d l = absurd (omega arith)
one_more (p ∷ q ∷ r ∷ rest) zero d l = append-nil (if same_point p r then q ∷ [] else [])
one_more (p ∷ q ∷ r ∷ rest) (suc k) d l =
    let here : List GridPoint = if same_point p r then q ∷ [] else [] in
    ap (λ (ys : List GridPoint). here ++ ys) (one_more (q ∷ r ∷ rest) k d (omega arith))
    ∙ sym (append_assoc here (turns_back (take (suc (suc k)) (q ∷ r ∷ rest)))
    (if same_point (get_or (q ∷ r ∷ rest) k d) (get_or (q ∷ r ∷ rest) (suc (suc k)) d) then get_or (q ∷ r ∷ rest) (suc k) d ∷ [] else []))

module _ (path : Path) (i : ℕ) (old before : List GridPoint) (a b : GridPoint) (from : 2 ≤ i) (here : i < length path) (is_a : a ≡ get_or path (i - 2) a) (is_b : b ≡ get_or path i b)
    (known : before ≡ old ++ turns_back (take i path)) where
  abbrev next : List GridPoint
  next = turns_back (take (i + 1) path)

  place : i ≡ suc (suc (i - 2))
  place = omega arith

  after : suc (suc (suc (i - 2))) ≡ i + 1
  after = omega arith

  middle : i - 1 ≡ suc (i - 2)
  middle = omega arith

  read_b : b ≡ get_or path (suc (suc (i - 2))) a
  read_b = get_or_read path i b here is_b a ∙ ap (λ (j : ℕ). get_or path j a) place

  same : (c : Bool) → same_point a b ≡ c → same_point (get_or path (i - 2) a) (get_or path (suc (suc (i - 2))) a) ≡ c
  same c e = sym (λ j. same_point (is_a j) (read_b j)) ∙ e

  grown : (c : Bool) → same_point a b ≡ c → turns_back (take i path) ++ (if c then get_or path (suc (i - 2)) a ∷ [] else []) ≡ next
  grown c e =
      ap (λ (j : ℕ). turns_back (take j path) ++ (if c then get_or path (suc (i - 2)) a ∷ [] else [])) place
      ∙ sym (ap (λ (t : Bool). turns_back (take (suc (suc (i - 2))) path) ++ (if t then get_or path (suc (i - 2)) a ∷ [] else [])) (same c e))
      ∙ sym (one_more path (i - 2) a (omega arith))
      ∙ ap (λ (j : ℕ). turns_back (take j path)) after

  pub with_turn : (all : List GridPoint) (m : GridPoint) → m ≡ get_or path (i - 1) m → same_point a b ≡ true → all ≡ before ++ m ∷ [] → all ≡ old ++ turns_back (take (i + 1) path)
  with_turn all m is_m e g =
      let read : m ≡ get_or path (suc (i - 2)) a = get_or_read path (i - 1) m (omega arith) is_m a ∙ ap (λ (j : ℕ). get_or path j a) middle in
      g ∙ (λ j. known j ++ read j ∷ []) ∙ append_assoc old (turns_back (take i path)) (get_or path (suc (i - 2)) a ∷ []) ∙ ap (λ (ys : List GridPoint). old ++ ys) (grown true e)

  pub without_turn : same_point a b ≡ false → before ≡ old ++ turns_back (take (i + 1) path)
  without_turn e = known ∙ ap (λ (ys : List GridPoint). old ++ ys) (sym (append-nil (turns_back (take i path))) ∙ grown false e)
