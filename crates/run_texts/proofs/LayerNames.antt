-- Names one after another: whether two of them are one.
use Rattle.std.proofs.Common.{◌≡◌, ◌+◌, ℕ, suc, ◌<◌, Bool, true, false, ◌||◌, List, [], ◌∷◌, ◌++◌, length, map, filter, take, drop, get_or, refl, sym, ap, ◌∙◌, true≢false}
use Rattle.std.proofs.Math.Seq.{drop-cons}
use Rattle.std.proofs.lemmas.List.{map-append, take-append-drop}
use Rattle.std.proofs.lemmas.List.Elements.{filter-append}
use Rattle.std.specs.Str.{bytes_eq}
use Rattle.std.proofs.lemmas.Cmp.{nat_list_eq_equiv}
use Rattle.std.proofs.lemmas.List.Folds.{list_any-append}
use Rattle.std.proofs.lemmas.Bool.{or_from, or_left, or_parts, or_right}
use Rattle.table_terms.specs.Names.{has_name}
use Rattle.job_terms.specs.declared.job.Target.{Target}
use Rattle.run_state.specs.Targets.{is_selected, targets}
use Rattle.run_state.specs.declared.state.HeldLayer.{HeldLayer}
use Rattle.run_state.proofs.TargetLemmas.{target_first, target_next}
use Rattle.run_plane.specs.declared.layer.Layer.{Layer}
use Rattle.run_texts.specs.Written.{has_name_twice, names_of_layers}

-- a name after others is new, or is not
pub twice_new : (names : List (List ℕ)) (name : List ℕ) → has_name names name ≡ false → has_name_twice names ≡ false → has_name_twice (names ++ name ∷ []) ≡ false
twice_new [] name h once = refl
twice_new (x ∷ names) name h once =
    let new = or_parts (bytes_eq name x) (has_name names name) h in
    let apart = or_parts (has_name names x) (has_name_twice names) once in
    or_from (has_name (names ++ name ∷ []) x) (has_name_twice (names ++ name ∷ []))
    (list_any-append (bytes_eq x) names (name ∷ []) ∙ or_from (has_name names x) (bytes_eq x name || false) apart.0 (or_from (bytes_eq x name) false (nat_list_eq_equiv.symm x name ∙ new.0) refl))
    (twice_new names name new.1 apart.1)

pub twice_seen : (names rest : List (List ℕ)) (name : List ℕ) → has_name names name ≡ true → has_name_twice (names ++ name ∷ rest) ≡ true
twice_seen [] rest name h = absurd (true≢false (sym h))
twice_seen (x ∷ names) rest name h = by (twice_seen names rest name) (bytes_eq name x) refl
  where
    by : (has_name names name ≡ true → has_name_twice (names ++ name ∷ rest) ≡ true) → (b : Bool) → bytes_eq name x ≡ b → has_name_twice ((x ∷ names) ++ name ∷ rest) ≡ true
    by later true e =
        or_left (has_name (names ++ name ∷ rest) x) (has_name_twice (names ++ name ∷ rest))
        (list_any-append (bytes_eq x) names (name ∷ rest) ∙ or_right (has_name names x) (bytes_eq x name || has_name rest x) (or_left (bytes_eq x name) (has_name rest x) (nat_list_eq_equiv.symm x name ∙ e)))
    by later false e =
        or_right (has_name (names ++ name ∷ rest) x) (has_name_twice (names ++ name ∷ rest))
        (later (ap (λ (t : Bool). t || has_name names name) (sym e) ∙ h))

-- the layer of a target at a place, beside those before it

abbrev pub target_names : Target → List HeldLayer → List (List ℕ)
target_names t layers = names_of_layers (targets t layers)

pub names_next : (t : Target) (all : List HeldLayer) (i : ℕ) (held : HeldLayer) → i < length all → held ≡ get_or all i held → is_selected t held ≡ true → target_names t (take (i + 1) all) ≡ target_names t (take i all) ++ held.layer.name ∷ []
names_next t all i held there is e = ap names_of_layers (target_next t all i held there is e) ∙ map-append (λ (layer : Layer). layer.name) (targets t (take i all)) (held.layer ∷ [])

names_from : (t : Target) (front rest : List HeldLayer) (held : HeldLayer) → is_selected t held ≡ true → target_names t (front ++ held ∷ rest) ≡ target_names t front ++ held.layer.name ∷ target_names t rest
names_from t front rest held e =
    ap names_of_layers
    (ap (map (λ (h : HeldLayer). h.layer)) (filter-append (is_selected t) front (held ∷ rest))
    ∙ map-append (λ (h : HeldLayer). h.layer) (filter (is_selected t) front) (filter (is_selected t) (held ∷ rest))
    ∙ ap (λ (ls : List Layer). targets t front ++ ls) (target_first t held rest e))
    ∙ map-append (λ (layer : Layer). layer.name) (targets t front) (held.layer ∷ targets t rest)

pub name_repeats : (t : Target) (all : List HeldLayer) (i : ℕ) (held : HeldLayer) → i < length all → held ≡ get_or all i held → is_selected t held ≡ true →
    has_name (target_names t (take i all)) held.layer.name ≡ true → has_name_twice (target_names t all) ≡ true
name_repeats t all i held there is e h =
    let rest : drop i all ≡ held ∷ drop (suc i) all = drop-cons all i held there ∙ ap (λ (x : HeldLayer). x ∷ drop (suc i) all) (sym is) in
    let parts : all ≡ take i all ++ held ∷ drop (suc i) all = sym (take-append-drop i all) ∙ ap (λ (xs : List HeldLayer). take i all ++ xs) rest in
    ap (λ (xs : List HeldLayer). has_name_twice (target_names t xs)) parts
    ∙ ap has_name_twice (names_from t (take i all) (drop (suc i) all) held e)
    ∙ twice_seen (target_names t (take i all)) (target_names t (drop (suc i) all)) held.layer.name h

pub name_differs : (t : Target) (all : List HeldLayer) (i : ℕ) (held : HeldLayer) → i < length all → held ≡ get_or all i held → is_selected t held ≡ true →
    has_name (target_names t (take i all)) held.layer.name ≡ false → has_name_twice (target_names t (take i all)) ≡ false → has_name_twice (target_names t (take (i + 1) all)) ≡ false
name_differs t all i held there is e h once =
    ap has_name_twice (names_next t all i held there is e) ∙ twice_new (target_names t (take i all)) held.layer.name h once
