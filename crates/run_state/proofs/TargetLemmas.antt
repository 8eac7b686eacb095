-- The layers of a name or of a target, in lists of layers that grow.
use Rattle.std.proofs.Common.{◌||◌, Bool, true, false, None, Some, if◌then◌else◌, true≢false, ◌≡◌, ℕ, ◌+◌, List, [], ◌∷◌, ◌++◌, length, ◌<◌, get_or, take, refl, ap, sym, ◌∙◌, append-nil, map}
use Rattle.std.proofs.lemmas.Bool.{and_parts}
use Rattle.std.proofs.lemmas.List.{map-append, take_more}
use Rattle.std.proofs.lemmas.List.Elements.{filter-append}
use Rattle.std.specs.List.{filter, list_any, range_with_len}
use Rattle.std.specs.Prelude.{slice_get, slice_index_or}
use Rattle.std.proofs.lemmas.List.FromFn.{fill_by_all}
use Rattle.json_values.specs.Table.{TableContent, RowValues}
use Rattle.table_rows.specs.Rows.{take_rows}
use Rattle.run_plane.specs.declared.layer.Layer.{Layer}
use Rattle.run_state.specs.Targets.{are_layers, has_target, is_selected, targets}
use Rattle.job_terms.specs.declared.job.Target.{Target}
use Rattle.run_state.specs.declared.state.HeldLayer.{HeldLayer}

-- all rows of a table are the table
pub whole_table : (t : TableContent) → take_rows t (range_with_len 0 (length t.rows)) ≡ t
whole_table t =
    ap (λ (rows : List RowValues). record { names = t.names; rows = rows }) (sym (fill_by_all (λ (k : ℕ). slice_index_or t.rows k []) t.rows (length t.rows) [] refl (λ k h. refl)))

-- ---- the layers that pass a test

abbrev passed : (HeldLayer → Bool) → List HeldLayer → List Layer
passed p layers = map (λ (held : HeldLayer). held.layer) (filter p layers)

first_passed : (p : HeldLayer → Bool) (held : HeldLayer) (rest : List HeldLayer) (b : Bool) → p held ≡ b → passed p (held ∷ rest) ≡ (if b then held.layer ∷ passed p rest else passed p rest)
first_passed p held rest true e = rw e refl
first_passed p held rest false e = rw e refl

-- those of a target

pub target_first : (t : Target) (held : HeldLayer) (rest : List HeldLayer) → is_selected t held ≡ true → targets t (held ∷ rest) ≡ held.layer ∷ targets t rest
target_first t held rest e = first_passed (is_selected t) held rest true e

pub other_first : (t : Target) (held : HeldLayer) (rest : List HeldLayer) → is_selected t held ≡ false → targets t (held ∷ rest) ≡ targets t rest
other_first t held rest e = first_passed (is_selected t) held rest false e

-- a target that is there has a first layer

no_first : (p : HeldLayer → Bool) (held : HeldLayer) (rest : List HeldLayer) → (list_any p rest ≡ true → None ≡ slice_get (passed p rest) 0 → ⊥) →
    (b : Bool) → p held ≡ b → list_any p (held ∷ rest) ≡ true → None ≡ slice_get (passed p (held ∷ rest)) 0 → ⊥
no_first p held rest onward true e h none =
    let first : None ≡ Some held.layer = none ∙ ap (λ (ls : List Layer). slice_get ls 0) (first_passed p held rest true e) in cc
no_first p held rest onward false e h none =
    onward (ap (λ (c : Bool). c || list_any p rest) (sym e) ∙ h) (none ∙ ap (λ (ls : List Layer). slice_get ls 0) (first_passed p held rest false e))

passed_first : (p : HeldLayer → Bool) (layers : List HeldLayer) → list_any p layers ≡ true → None ≡ slice_get (passed p layers) 0 → ⊥
passed_first p [] h none = absurd (true≢false (sym h))
passed_first p (held ∷ rest) h none = no_first p held rest (passed_first p rest) (p held) refl h none

pub has_first : (t : Target) (layers : List HeldLayer) → has_target t layers ≡ true → None ≡ slice_get (targets t layers) 0 → ⊥
has_first t layers h none = passed_first (is_selected t) layers (and_parts (are_layers t layers) (list_any (is_selected t) layers) h).1 none

-- with one more layer after others

both : (t : Target) (front : List HeldLayer) (held : HeldLayer) → targets t (front ++ held ∷ []) ≡ targets t front ++ targets t (held ∷ [])
both t front held =
    ap (map (λ (h : HeldLayer). h.layer)) (filter-append (is_selected t) front (held ∷ []))
    ∙ map-append (λ (h : HeldLayer). h.layer) (filter (is_selected t) front) (filter (is_selected t) (held ∷ []))

pub targets_on : (t : Target) (front : List HeldLayer) (held : HeldLayer) → is_selected t held ≡ true → targets t (front ++ held ∷ []) ≡ targets t front ++ held.layer ∷ []
targets_on t front held e = both t front held ∙ ap (λ (ls : List Layer). targets t front ++ ls) (target_first t held [] e)

pub targets_off : (t : Target) (front : List HeldLayer) (held : HeldLayer) → is_selected t held ≡ false → targets t (front ++ held ∷ []) ≡ targets t front
targets_off t front held e = both t front held ∙ (ap (λ (ls : List Layer). targets t front ++ ls) (other_first t held [] e) ∙ append-nil (targets t front))

-- the layer at a place

next_held : (all : List HeldLayer) (i : ℕ) (held : HeldLayer) → i < length all → held ≡ get_or all i held → take (i + 1) all ≡ take i all ++ held ∷ []
next_held all i held there is = take_more all i held there ∙ ap (λ (h : HeldLayer). take i all ++ h ∷ []) (sym is)

pub target_next : (t : Target) (all : List HeldLayer) (i : ℕ) (held : HeldLayer) → i < length all → held ≡ get_or all i held → is_selected t held ≡ true → targets t (take (i + 1) all) ≡ targets t (take i all) ++ held.layer ∷ []
target_next t all i held there is e = ap (targets t) (next_held all i held there is) ∙ targets_on t (take i all) held e

pub other_next : (t : Target) (all : List HeldLayer) (i : ℕ) (held : HeldLayer) → i < length all → held ≡ get_or all i held → is_selected t held ≡ false → targets t (take (i + 1) all) ≡ targets t (take i all)
other_next t all i held there is e = ap (targets t) (next_held all i held there is) ∙ targets_off t (take i all) held e
