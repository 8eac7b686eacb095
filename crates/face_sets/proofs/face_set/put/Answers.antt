use Rattle.std.proofs.Common.{◌≡◌, ◌<◌, ◌∙◌, ◌++◌, sym, subst, ℕ, List, [], ◌∷◌, All, nat_lt, Ok, Err}
use Rattle.std.specs.List.{insert}
use Rattle.std.specs.List.Sorted.{IsStrictlyIncreasing, IsBinarySearchResult}
use Rattle.std.specs.Ordering.{nat_cmp}
use Rattle.lists.specs.Lists.{put_in_order}
use Rattle.face_sets.proofs.SetLemmas.{put_found, put_missed, put_past, put_IsStrictlyIncreasing}
use Rattle.face_sets.proofs.face_set.put.Goals as goal

-- the list with f put at the place where a search missed it
placed : (xs seen ys : List ℕ) (f i : ℕ) → seen ≡ xs → IsStrictlyIncreasing xs → IsBinarySearchResult (λ y. nat_cmp y f) seen (Err i) → ys ≡ insert xs i f → ys ≡ put_in_order nat_lt f xs
placed xs seen ys f i e up r made = made ∙ put_missed xs f i up (subst (λ (zs : List ℕ). IsBinarySearchResult (λ y. nat_cmp y f) zs (Err i)) e r)

-- the list with f put after all
appended : (xs seen ys : List ℕ) (f : ℕ) → seen ≡ xs → All (λ (g : ℕ). g < f) seen → ys ≡ xs ++ f ∷ [] → ys ≡ put_in_order nat_lt f xs
appended xs seen ys f e below made = made ∙ put_past xs f (subst (λ (zs : List ℕ). All (λ (g : ℕ). g < f) zs) e below)

pub returns-then-is_past-clause-ok : goal.returns-then-is_past-clause-ok
returns-then-is_past-clause-ok c =
    appended c.args.faces.now.items c.deref.result.now c.push.new.self.items c.args.f c.deref.ensures.value (c.is_past.ensures.yes c.if-is_past.true) c.in_ok-push.ensures.items

pub returns-then-is_past-clause-ascending : goal.returns-then-is_past-clause-ascending
returns-then-is_past-clause-ascending c =
    subst IsStrictlyIncreasing
    (sym (appended c.args.faces.now.items c.deref.result.now c.push.new.self.items c.args.f c.deref.ensures.value (c.is_past.ensures.yes c.if-is_past.true) c.in_ok-push.ensures.items))
    (put_IsStrictlyIncreasing c.args.f c.args.faces.now.items c.requires)

pub returns-in-Ok-clause-ok : goal.returns-in-Ok-clause-ok
returns-in-Ok-clause-ok c =
    put_found c.args.faces.now.items c.args.f c.in-Ok.field-0 c.requires
    (subst (λ (zs : List ℕ). IsBinarySearchResult (λ y. nat_cmp y c.args.f) zs (Ok c.in-Ok.field-0)) c.deref-2.ensures.value c.in-Ok.ensures.position)

pub returns-in_ok-insert-in-Err-clause-ok : goal.returns-in_ok-insert-in-Err-clause-ok
returns-in_ok-insert-in-Err-clause-ok c =
    placed c.args.faces.now.items c.deref-2.result.now c.insert.new.self.items c.args.f c.in-Err.place c.deref-2.ensures.value c.requires c.in-Err.ensures.position c.in_ok-insert-in-Err.ensures.items

pub returns-in_ok-insert-in-Err-clause-ascending : goal.returns-in_ok-insert-in-Err-clause-ascending
returns-in_ok-insert-in-Err-clause-ascending c =
    subst IsStrictlyIncreasing
    (sym (placed c.args.faces.now.items c.deref-2.result.now c.insert.new.self.items c.args.f c.in-Err.place c.deref-2.ensures.value c.requires c.in-Err.ensures.position c.in_ok-insert-in-Err.ensures.items))
    (put_IsStrictlyIncreasing c.args.f c.args.faces.now.items c.requires)
