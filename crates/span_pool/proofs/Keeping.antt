-- Moving chosen spans to the front, one after another, keeps what is already there and what is still to come.
use Rattle.std.proofs.Common.{◌≡◌, ℕ, suc, ◌+◌, ◌-◌, ◌<◌, ◌≤◌, List, [], ◌∷◌, ◌++◌, length, get_or, set, take, drop, map, refl, sym, ap, ◌∙◌, ◌⊎◌, inl, inr, subst, arith, length-append}
use Rattle.std.specs.Prelude.{slice_range}
use lib.Seq.{paste}
use Rattle.std.proofs.lemmas.List.{length-take-le, length-set, get_or-drop, drop-drop, take_more_set, drop-set-lt, map_more, take_all, length-drop}
use Rattle.std.proofs.lemmas.Bool.{cases_lt}
use Rattle.std.proofs.lemmas.List.Edits.{length-paste, take-paste, drop-paste}
use Rattle.span_pool.specs.SpanPool.{cut, CutsUp, begin}
use Rattle.span_pool.proofs.Cutting.{get_or-cut, cut-pushed, CutsUp-push, CutsUp-at, length-slice}

module _ {A : Type 0} where
  -- two lists that go on alike from one place have one element there, and go on alike from every later place
  same_at : (xs ys : List A) (i : ℕ) (d : A) → drop i xs ≡ drop i ys → get_or xs i d ≡ get_or ys i d
  same_at xs ys i d h =
      let e : i ≡ i + 0 = omega arith in
      ap (λ (n : ℕ). get_or xs n d) e ∙ sym (get_or-drop i xs 0 d) ∙ ap (λ (l : List A). get_or l 0 d) h ∙ get_or-drop i ys 0 d ∙ ap (λ (n : ℕ). get_or ys n d) (sym e)

  same_later : (xs ys : List A) (n m : ℕ) → n ≤ m → drop n xs ≡ drop n ys → drop m xs ≡ drop m ys
  same_later xs ys n m l h =
      let e : n + (m - n) ≡ m = omega arith in
      ap (λ (k : ℕ). drop k xs) (sym e) ∙ sym (drop-drop (m - n) n xs) ∙ ap (drop (m - n)) h ∙ drop-drop (m - n) n ys ∙ ap (λ (k : ℕ). drop k ys) e

module _ {A : Type 0} where
  -- span j of the pool as it was
  abbrev span_of : List ℕ → List A → ℕ → List A
  span_of ends points j = get_or (cut 0 ends points) j []

  -- the first i spans are done: the chosen ones of them stand in front
  pub record IsKeeping (ids ends₀ : List ℕ) (points₀ : List A) (ends : List ℕ) (points : List A) (kept at from i : ℕ) : Type 0 where
    pub chosen : kept ≤ length ids
    pub ahead : kept < length ids → i ≤ get_or ids kept 0
    pub spans_past : kept ≤ i
    pub points_past : at ≤ from
    pub from_is : from ≡ begin 0 ends₀ i
    pub from_within : from ≤ length points₀
    pub cut_up : CutsUp 0 (take kept ends) at
    pub spans : cut 0 (take kept ends) (take at points) ≡ map (λ (j : ℕ). span_of ends₀ points₀ j) (take kept ids)
    pub ends_left : drop i ends ≡ drop i ends₀
    pub points_left : drop from points ≡ drop from points₀
    pub ends_count : length ends ≡ length ends₀
    pub points_count : length points ≡ length points₀

  pub keeping_none : (ids ends : List ℕ) (points : List A) → IsKeeping ids ends points ends points 0 0 0 0
  keeping_none ids ends points = record {
    chosen = omega arith;
    ahead = λ _. omega arith;
    spans_past = omega arith;
    points_past = omega arith;
    from_is = refl;
    from_within = omega arith;
    cut_up = refl;
    spans = refl;
    ends_left = refl;
    points_left = refl;
    ends_count = refl;
    points_count = refl;
  }

  module _ (ids ends₀ : List ℕ) (points₀ : List A) (ends : List ℕ) (points : List A) (kept at from i : ℕ) (h : IsKeeping ids ends₀ points₀ ends points kept at from i)
      (up : CutsUp 0 ends₀ (length points₀)) (here : i < length ends₀) where
    -- the end of span i is still what it was
    pub end_is : get_or ends i 0 ≡ get_or ends₀ i 0
    end_is = same_at ends ends₀ i 0 h.ends_left

    pub end_within : (from ≤ get_or ends i 0) × (get_or ends i 0 ≤ length points₀)
    end_within =
        let place = CutsUp-at 0 ends₀ (length points₀) i up here in
        let from_is = h.from_is in
        (omega (arith, end_is), omega (arith, end_is))

    -- a span that is not chosen is passed over
    pub keeping_more : (kept < length ids → get_or ids kept 0 ≡ i → ⊥) → IsKeeping ids ends₀ points₀ ends points kept at (get_or ends i 0) (i + 1)
    keeping_more other =
        let place = end_within in
        let at_after = h.points_past in
        let kept_after = h.spans_past in
        record {
          chosen = h.chosen;
          ahead = λ l. let a = h.ahead l in let b = other l in omega (arith, a, b);
          spans_past = omega arith;
          points_past = omega arith;
          from_is = end_is ∙ ap (λ (n : ℕ). begin 0 ends₀ n) (let e : suc i ≡ i + 1 = omega arith in e);
          from_within = place.1;
          cut_up = h.cut_up;
          spans = h.spans;
          ends_left = same_later ends ends₀ i (i + 1) (omega arith) h.ends_left;
          points_left = same_later points points₀ from (get_or ends i 0) place.0 h.points_left;
          ends_count = h.ends_count;
          points_count = h.points_count;
        }

    abbrev size : ℕ
    size = get_or ends i 0 - from

    abbrev moved : List A
    moved = paste points at (drop from points) size

    -- a chosen span is moved down to those before it
    pub keeping_move : kept < length ids → get_or ids kept 0 ≡ i → (kept + 1 < length ids → get_or ids kept 0 < get_or ids (kept + 1) 0) →
        IsKeeping ids ends₀ points₀ (set ends kept (at + size)) moved (kept + 1) (at + size) (get_or ends i 0) (i + 1)
    keeping_move l e ascending =
        let place = end_within in
        let at_after = h.points_past in
        let kept_after = h.spans_past in
        let ends_count = h.ends_count in
        let points_count = h.points_count in
        let from_within = h.from_within in
        let left = length-drop from points in
        let span = slice_range points₀ from (get_or ends i 0) in
        let at_points : length (take at points) ≡ at = length-take-le at points (omega arith) in
        let span_length : length span ≡ size = length-slice points₀ from (get_or ends i 0) place.0 place.1 in
        let room : size ≤ length (drop from points) = omega arith in
        let both : length (take at points ++ span) ≡ at + size = omega (arith, length-append (take at points) span) in
        let points_after : take (at + size) moved ≡ take at points ++ span =
        take-paste points at (drop from points) size (omega arith) room ∙ ap (λ (l : List A). take at points ++ take size l) h.points_left in
        let ends_after : take (kept + 1) (set ends kept (at + size)) ≡ take kept ends ++ length (take at points ++ span) ∷ [] =
        take_more_set ends kept (at + size) (omega arith) ∙ ap (λ (n : ℕ). take kept ends ++ n ∷ []) (sym both) in
        let up' : CutsUp 0 (take kept ends) (length (take at points)) = subst (λ (n : ℕ). CutsUp 0 (take kept ends) n) (sym at_points) h.cut_up in
        let span_is : span ≡ span_of ends₀ points₀ (get_or ids kept 0) =
        (λ k. slice_range points₀ (h.from_is k) (end_is k)) ∙ sym (get_or-cut 0 ends₀ points₀ i here) ∙ ap (λ (j : ℕ). span_of ends₀ points₀ j) (sym e) in
        let moved_left : drop (at + size) moved ≡ drop (at + size) points = drop-paste points at (drop from points) size (omega arith) room in
        record {
          chosen = omega arith;
          ahead = λ l'. let a = ascending l' in omega (arith, a, e);
          spans_past = omega arith;
          points_past = omega arith;
          from_is = end_is ∙ ap (λ (n : ℕ). begin 0 ends₀ n) (let e : suc i ≡ i + 1 = omega arith in e);
          from_within = place.1;
          cut_up = subst (λ (es : List ℕ). CutsUp 0 es (at + size)) (sym (take_more_set ends kept (at + size) (omega arith))) (CutsUp-push 0 (take kept ends) at (at + size) h.cut_up (omega arith));
          spans = (λ k. cut 0 (ends_after k) (points_after k)) ∙ cut-pushed (take kept ends) (take at points) span up'
              ∙ (λ k. h.spans k ++ span_is k ∷ []) ∙ sym (map_more (λ (j : ℕ). span_of ends₀ points₀ j) ids kept 0 l);
          ends_left = drop-set-lt (i + 1) ends kept (at + size) (omega arith) ∙ same_later ends ends₀ i (i + 1) (omega arith) h.ends_left;
          points_left = same_later moved points (at + size) (get_or ends i 0) (omega arith) moved_left ∙ same_later points points₀ from (get_or ends i 0) place.0 h.points_left;
          ends_count = length-set ends kept (at + size) ∙ h.ends_count;
          points_count = length-paste points at (drop from points) size (omega arith) room ∙ h.points_count;
        }

  -- when all spans are done, all chosen ones are there
  pub keeping_all : (ids ends₀ : List ℕ) (points₀ : List A) (ends : List ℕ) (points : List A) (kept at from i : ℕ) → IsKeeping ids ends₀ points₀ ends points kept at from i →
      length ends₀ ≤ i → ((k : ℕ) → k < length ids → get_or ids k 0 < length ends₀) →
      cut 0 (take kept ends) (take at points) ≡ map (λ (j : ℕ). span_of ends₀ points₀ j) ids
  keeping_all ids ends₀ points₀ ends points kept at from i h l below =
      h.spans ∙ ap (map (λ (j : ℕ). span_of ends₀ points₀ j)) (take_all kept ids (go (cases_lt kept (length ids))))
    where
      go : (kept < length ids) ⊎ (length ids ≤ kept) → length ids ≤ kept
      go (inl b) = absurd (let a = h.ahead b in let c = below kept b in omega (arith, a, c))
      go (inr a) = a
