-- Areas of faces, one more at a time.
use Rattle.std.proofs.Common.{◌≡◌, sym, ap, ◌∙◌, ℕ, ◌+◌, ◌<◌, ℤ, pos, ◌+ℤ◌, List, [], ◌∷◌, ◌++◌, length, get_or, take, Some}
use Rattle.std.specs.List.{slice_get}
use Rattle.std.proofs.Math.IntN.{+ℤ_comm, +ℤ_assoc}
use Rattle.std.proofs.lemmas.List.{take_more}
use Rattle.std.proofs.lemmas.Option.{get_or_from_slice_get}
use Rattle.face_sets.specs.Sets.{area_of}

area_pushed : (areas : List ℤ) (xs : List ℕ) (k : ℕ) → area_of areas (xs ++ k ∷ []) ≡ area_of areas xs +ℤ get_or areas k (pos 0)
area_pushed areas [] k = +ℤ_comm (get_or areas k (pos 0)) (pos 0)
area_pushed areas (x ∷ xs) k =
    ap (λ (a : ℤ). get_or areas x (pos 0) +ℤ a) (area_pushed areas xs k) ∙ sym (+ℤ_assoc (get_or areas x (pos 0)) (area_of areas xs) (get_or areas k (pos 0)))

pub area_more : (areas : List ℤ) (faces : List ℕ) (j k d : ℕ) (a : ℤ) → j < length faces → k ≡ get_or faces j d → slice_get areas k ≡ Some a →
    area_of areas (take (j + 1) faces) ≡ area_of areas (take j faces) +ℤ a
area_more areas faces j k d a within is read =
    ap (area_of areas) (take_more faces j d within ∙ ap (λ (i : ℕ). take j faces ++ i ∷ []) (sym is))
    ∙ area_pushed areas (take j faces) k ∙ ap (λ (b : ℤ). area_of areas (take j faces) +ℤ b) (get_or_from_slice_get areas k a (pos 0) read)
