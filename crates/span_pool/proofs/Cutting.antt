-- Spans cut from a list, their number, their elements, and one more at the end.
use Rattle.std.proofs.Common.{◌≡◌, ℕ, zero, suc, ◌+◌, ◌-◌, ◌<◌, ◌≤◌, List, [], ◌∷◌, ◌++◌, length, get_or, take, drop, sum_by, refl, ap, ◌∙◌, arith, length-append, length-drop}
use Rattle.std.specs.Prelude.{slice_range}
use Rattle.std.proofs.lemmas.List.{length-take-le, take-append-le, drop-append-le, drop_at, take_all}
use Rattle.std.proofs.lemmas.List.Sums.{sum_by-cons}
use Rattle.span_pool.specs.SpanPool.{cut, CutsUp, begin}

module _ {A : Type 0} where
  pub length-cut : (from : ℕ) (ends : List ℕ) (points : List A) → length (cut from ends points) ≡ length ends
  length-cut from [] points = refl
  length-cut from (e ∷ ends) points = ap suc (length-cut e ends points)

  pub get_or-cut : (from : ℕ) (ends : List ℕ) (points : List A) (k : ℕ) → k < length ends → get_or (cut from ends points) k [] ≡ slice_range points (begin from ends k) (get_or ends k 0)
  get_or-cut from [] points k h = absurd (omega arith)
  get_or-cut from (e ∷ ends) points zero h = refl
  get_or-cut from (e ∷ ends) points (suc zero) h = get_or-cut e ends points zero (omega arith)
  get_or-cut from (e ∷ ends) points (suc (suc k)) h = get_or-cut e ends points (suc k) (omega arith)

  -- a part of the front of a longer list
  slice-append : (points more : List A) (a b : ℕ) → a ≤ b → b ≤ length points → slice_range (points ++ more) a b ≡ slice_range points a b
  slice-append points more a b h k =
      let within : a ≤ length points = omega arith in
      let room : b - a ≤ length (drop a points) = omega (arith, length-drop a points) in
      ap (take (b - a)) (drop-append-le a points more within) ∙ take-append-le (b - a) (drop a points) more room

  pub length-slice : (points : List A) (a b : ℕ) → a ≤ b → b ≤ length points → length (slice_range points a b) ≡ b - a
  length-slice points a b h k = length-take-le (b - a) (drop a points) (omega (arith, length-drop a points))

pub CutsUp-le : (from : ℕ) (ends : List ℕ) (n : ℕ) → CutsUp from ends n → from ≤ n
CutsUp-le from [] n h = omega arith
CutsUp-le from (e ∷ ends) n h = omega (arith, h.0, CutsUp-le e ends n h.1)

pub CutsUp-push : (from : ℕ) (ends : List ℕ) (n e : ℕ) → CutsUp from ends n → n ≤ e → CutsUp from (ends ++ e ∷ []) e
CutsUp-push from [] n e h k = (omega arith, refl)
CutsUp-push from (x ∷ ends) n e h k = (h.0, CutsUp-push x ends n e h.1 k)

-- each span lies within the list
pub CutsUp-at : (from : ℕ) (ends : List ℕ) (n k : ℕ) → CutsUp from ends n → k < length ends → (begin from ends k ≤ get_or ends k 0) × (get_or ends k 0 ≤ n)
CutsUp-at from [] n k h l = absurd (omega arith)
CutsUp-at from (e ∷ ends) n zero h l = (h.0, CutsUp-le e ends n h.1)
CutsUp-at from (e ∷ ends) n (suc zero) h l = CutsUp-at e ends n zero h.1 (omega arith)
CutsUp-at from (e ∷ ends) n (suc (suc k)) h l = CutsUp-at e ends n (suc k) h.1 (omega arith)

module _ {A : Type 0} where
  -- points past the last end change no span
  pub cut-append : (from : ℕ) (ends : List ℕ) (points more : List A) → CutsUp from ends (length points) → cut from ends (points ++ more) ≡ cut from ends points
  cut-append from [] points more h = refl
  cut-append from (e ∷ ends) points more h =
      let one = slice-append points more from e h.0 (CutsUp-le e ends (length points) h.1) in
      let rest = cut-append e ends points more h.1 in
      λ i. one i ∷ rest i

  -- one more end
  pub cut-push : (from : ℕ) (ends : List ℕ) (n e : ℕ) (points : List A) → CutsUp from ends n → cut from (ends ++ e ∷ []) points ≡ cut from ends points ++ slice_range points n e ∷ []
  cut-push from [] n e points h = ap (λ (m : ℕ). slice_range points m e ∷ []) h
  cut-push from (x ∷ ends) n e points h = ap (λ (rest : List (List A)). slice_range points from x ∷ rest) (cut-push x ends n e points h.1)

  -- the last span is all that was added
  pub slice-rest : (points more : List A) → slice_range (points ++ more) (length points) (length (points ++ more)) ≡ more
  slice-rest points more =
      let rest : drop (length points) (points ++ more) ≡ more = drop_at points more (length points) refl in
      let count : length more ≤ length (points ++ more) - length points = omega (arith, length-append points more) in
      ap (take (length (points ++ more) - length points)) rest ∙ take_all (length (points ++ more) - length points) more count

  -- a span more, of the points that were added
  pub cut-pushed : (ends : List ℕ) (points more : List A) → CutsUp 0 ends (length points) →
      cut 0 (ends ++ length (points ++ more) ∷ []) (points ++ more) ≡ cut 0 ends points ++ more ∷ []
  cut-pushed ends points more h =
      cut-push 0 ends (length points) (length (points ++ more)) (points ++ more) h
      ∙ (λ i. cut-append 0 ends points more h i ++ slice-rest points more i ∷ [])

  -- the spans have all points
  pub sum_by-cut : (from : ℕ) (ends : List ℕ) (points : List A) → CutsUp from ends (length points) → sum_by (λ (span : List A). length span) (cut from ends points) + from ≡ length points
  sum_by-cut from [] points h = omega arith
  sum_by-cut from (e ∷ ends) points h =
      omega (arith, sum_by-cons (λ (span : List A). length span) (slice_range points from e) (cut e ends points), h.0, length-slice points from e h.0 (CutsUp-le e ends (length points) h.1), sum_by-cut e ends points h.1)
