use Rattle.std.proofs.Common.{◌≡◌, sym, ap, ◌∙◌, subst, arith, ℕ, suc, ◌+◌, ◌-◌, ◌<◌, All, List, [], ◌∷◌, ◌++◌, length, map, get_or, Option, IfSome, MatchOption, vec_len, length-append}
use Rattle.std.proofs.lemmas.List.{get_or_append_left, get_or-append-add, length-map}
use Rattle.grid_base.specs.Grid.{Corners}
use Rattle.bucket_grid.specs.declared.growing.Division.{Division}
use Rattle.bucket_grid.specs.declared.tree.Node.{Node}
use Rattle.bucket_grid.specs.declared.tree.Node.TheVariants.{Split}
use Rattle.bucket_grid.specs.Rects.{Holds, boxes_near}
use Rattle.bucket_grid.specs.Division.{IsDivisionOf}
use Rattle.bucket_grid.specs.Tree.{Grew}
use Rattle.bucket_grid.specs.Slabs.{slab_part}
use Rattle.bucket_grid.proofs.SharedPoints.{near_below}
use Rattle.bucket_grid.proofs.ListLemmas.{list_is}
use Rattle.bucket_grid.proofs.Growth.{IsFrom, top_of, nothing_grown, slab_grown, split_grown}
use Rattle.bucket_grid.proofs.growing.+grow.Goals as goal

pub division_of-requires : goal.division_of-requires
division_of-requires g t c =
    let items = c.args.items.now in
    record { near = subst (λ (n : ℕ). All (λ i. i < n) c.args.near) (length-map items g.T.Boxed.corners) (near_below (map g.T.Boxed.corners items) c.args.rect c.args.near c.requires.near) }

pub loop-part-init : goal.loop-part-init
loop-part-init g t c =
    let boxes = map g.T.Boxed.corners c.args.items.now in
    let s = c.in-Some.division.slabs in
    let lists = c.in-Some.division.lists.items in
    let d : IsDivisionOf boxes c.args.rect c.args.near c.in-Some.division =
    subst (λ (o : Option Division). IfSome o (IsDivisionOf boxes c.args.rect c.args.near)) c.in-Some.is c.in_ok-division.ensures.parted in
    let n = d.listed.count in
    let forest = c.args.forest.now in (
      list_is s boxes c.args.rect c.args.near lists d.divides c.requires.near d.listed,
      omega (arith, ap length c.in_ok-tops.ensures.items),
      nothing_grown (c.args.steps - 1) boxes c.args.rect s (length lists) forest.nodes.items forest.rects.items forest.near c.in_ok-tops.tops.items (omega arith),
    )

-- the popped list is the last one
popped : (xs ys : List (List ℕ)) (x : List ℕ) → xs ≡ ys ++ x ∷ [] → x ≡ get_or xs (length ys) []
popped xs ys x e =
    sym (get_or-append-add ys (x ∷ []) 0 []) ∙ ap (λ (i : ℕ). get_or (ys ++ x ∷ []) i []) (let n : length ys + 0 ≡ length ys = omega arith in n) ∙ ap (λ (l : List (List ℕ)). get_or l (length ys) []) (sym e)

longer : (xs ys : List (List ℕ)) (x : List ℕ) → xs ≡ ys ++ x ∷ [] → length xs ≡ length ys + 1
longer xs ys x e = ap length e ∙ (let n : length (ys ++ x ∷ []) ≡ length ys + 1 = omega (arith, length-append ys (x ∷ [])) in n)

pub grow-requires : goal.grow-requires
grow-requires g t c =
    let boxes = map g.T.Boxed.corners c.args.items.now in
    let s = c.in-Some.division.slabs in
    let xs = c.loop-part.lists.items in
    let ys = c.pop.new.self.items in
    let e = c.in-Some-pop.ensures.items in
    let m = longer xs ys c.in-Some-pop.part e in
    let n : c.len-in-Some-pop.result ≡ length ys = omega (arith, c.len-in-Some-pop.ensures, c.pop.new.self.ok.0) in
    let f : c.in_ok-slab.slab ≡ slab_part s c.len-in-Some-pop.result c.args.rect =
    subst (λ (o : Option Corners). IfSome o (λ part. part ≡ slab_part s c.len-in-Some-pop.result c.args.rect)) c.in_ok-slab.ensures.ok_part c.slab_rect.ensures.exact in
    λ lifetimes outlives. (
      omega arith,
      (outlives, popped xs ys c.in-Some-pop.part e ∙ c.loop-part.invariant.0 (length ys) (omega arith) ∙ ap (λ (k : ℕ). boxes_near boxes (slab_part s k c.args.rect)) (sym n) ∙ ap (boxes_near boxes) (sym f)),
    )

pub loop-part-preserved : goal.loop-part-preserved
loop-part-preserved g t c =
    let s = c.in-Some.division.slabs in
    let boxes = map g.T.Boxed.corners c.args.items.now in
    let rect = c.args.rect in
    let xs = c.loop-part.lists.items in
    let ys = c.pop.new.self.items in
    let e = c.in-Some-pop.ensures.items in
    let m = longer xs ys c.in-Some-pop.part e in
    let n : c.len-in-Some-pop.result ≡ length ys = omega (arith, c.len-in-Some-pop.ensures, c.pop.new.self.ok.0) in
    let f : c.in_ok-slab.slab ≡ slab_part s c.len-in-Some-pop.result rect =
    subst (λ (o : Option Corners). IfSome o (λ part. part ≡ slab_part s c.len-in-Some-pop.result rect)) c.in_ok-slab.ensures.ok_part c.slab_rect.ensures.exact in
    let d : IsDivisionOf boxes rect c.args.near c.in-Some.division = subst (λ (o : Option Division). IfSome o (IsDivisionOf boxes rect c.args.near)) c.in-Some.is c.in_ok-division.ensures.parted in
    let count = c.loop-part.invariant.1 in
    let tops = c.loop-part.tops.items in
    let top = c.in_ok-grow.field-0 in
    let tops_are : c.push.new.self.items ≡ tops ++ top ∷ [] = c.in_ok-push.ensures.items in
    let old = c.args.forest.now in
    let mid = c.loop-part.forest in
    let new = c.grow.new.forest in
    let slab_is : c.in_ok-slab.slab ≡ slab_part s (length ys) rect = f ∙ ap (λ (k : ℕ). slab_part s k rect) n in
    let l : Grew (c.args.steps - 1) boxes (IsFrom rect s (length ys + 1)) old.nodes.items mid.nodes.items old.rects.items mid.rects.items old.near mid.near (top_of s tops) =
    subst (λ (k : ℕ). Grew (c.args.steps - 1) boxes (IsFrom rect s k) old.nodes.items mid.nodes.items old.rects.items mid.rects.items old.near mid.near (top_of s tops)) m c.loop-part.invariant.2 in
    let h : Grew (c.args.steps - 1) boxes (Holds (slab_part s (length ys) rect)) mid.nodes.items new.nodes.items mid.rects.items new.rects.items mid.near new.near (λ g. top) =
    subst (λ (r : Corners). Grew (c.args.steps - 1) boxes (Holds r) mid.nodes.items new.nodes.items mid.rects.items new.rects.items mid.near new.near (λ g. top)) slab_is c.in_ok-grow.ensures.grew in (
      λ k b. sym (ap (λ (l : List (List ℕ)). get_or l k []) e ∙ get_or_append_left ys (c.in-Some-pop.part ∷ []) [] k b) ∙ c.loop-part.invariant.0 k (omega arith),
      omega (arith, ap length tops_are, length-append tops (top ∷ [])),
      subst (λ (l : List Node). Grew (c.args.steps - 1) boxes (IsFrom rect s (length ys)) old.nodes.items new.nodes.items old.rects.items new.rects.items old.near new.near (top_of s l)) (sym tops_are)
          (slab_grown (c.args.steps - 1) boxes rect s old.nodes.items mid.nodes.items new.nodes.items old.rects.items mid.rects.items new.rects.items old.near mid.near new.near tops top (length ys)
          d.divides (omega arith) l h),
    )

pub returns : goal.returns
returns g t c =
    let boxes = map g.T.Boxed.corners c.args.items.now in
    let s = c.in-Some.division.slabs in
    let old = c.args.forest.now in
    let mid = c.loop-part.forest in
    let tops = c.loop-part.tops.items in
    let xs = c.loop-part.lists.items in
    let none = subst (λ (o : Option (List ℕ)). MatchOption o ((vec_len c.loop-part.lists ≡ 0) × (vec_len c.pop.new.self ≡ 0)) (λ _. vec_len c.pop.new.self + 1 ≡ vec_len c.loop-part.lists)) c.in_default-pop.is c.pop.ensures.cases in
    let empty : length xs ≡ 0 = omega (arith, none.0, c.loop-part.lists.ok.0) in
    let count = c.loop-part.invariant.1 in
    let children : c.in_ok-children.children ≡ length mid.nodes.items = omega (arith, c.in_ok-children.ensures.exact, c.len-3.ensures, mid.nodes.ok.0) in
    let nodes : c.extend_from_slice.new.self.items ≡ mid.nodes.items ++ tops = c.in_ok-extend_from_slice.ensures.items ∙ ap (λ (l : List Node). mid.nodes.items ++ l) c.deref.ensures.value in
    let l : Grew (c.args.steps - 1) boxes (IsFrom c.args.rect s 0) old.nodes.items mid.nodes.items old.rects.items mid.rects.items old.near mid.near (top_of s tops) =
    subst (λ (k : ℕ). Grew (c.args.steps - 1) boxes (IsFrom c.args.rect s k) old.nodes.items mid.nodes.items old.rects.items mid.rects.items old.near mid.near (top_of s tops)) empty c.loop-part.invariant.2 in
    let steps : suc (c.args.steps - 1) ≡ c.args.steps = omega arith in
    record {
      grew = subst (λ (n : ℕ). Grew n boxes (Holds c.args.rect) old.nodes.items c.extend_from_slice.new.self.items old.rects.items mid.rects.items old.near mid.near (λ g. Split s c.in_ok-children.children)) steps
          (split_grown (c.args.steps - 1) boxes c.args.rect s old.nodes.items mid.nodes.items c.extend_from_slice.new.self.items old.rects.items mid.rects.items old.near mid.near tops c.in_ok-children.children
          (omega arith) children nodes l);
    }
