use Rattle.std.proofs.Common.{◌≡◌, ◌∙◌, [], ◌∷◌, ◌++◌, ◌+◌, sym, ap, subst, arith, inl, inr, Bool, false, List, length, length-append, get_or}
use Rattle.std.proofs.Math.ListN.{get_or-append}
use Rattle.std.proofs.Math.Seq.{get_or-append_seam}
use Rattle.std.proofs.lemmas.Bool.{cases_lt}
use Rattle.link_search.specs.Rows.{IsLowestAt}
use Rattle.link_search.proofs.rows.lowest_of.Goals as goal

pub loop-i-preserved : goal.loop-i-preserved
loop-i-preserved c =
    let links = c.args.links.now in
    let old : List Bool = c.loop-i.lowest.items in
    let mark : Bool = c.is_lowest.result in
    let before = c.loop-i.invariant in
    let each = before.each in
    let all : c.push.new.self.items ≡ old ++ mark ∷ [] = c.in_ok-push.ensures.items in
    let more : length c.push.new.self.items ≡ c.loop-i.i + 1 = ap (λ (xs : List Bool). length xs) all ∙ length-append old (mark ∷ []) ∙ ap (λ n. n + 1) each in
    let last : get_or (old ++ mark ∷ []) c.loop-i.i false ≡ mark = ap (λ n. get_or (old ++ mark ∷ []) n false) (sym each) ∙ get_or-append_seam old mark [] false in
    record {
      each = more;
      exact = λ i l. elim (cases_lt i c.loop-i.i) [
        | inl m ↦ subst (IsLowestAt links i) (sym (ap (λ (xs : List Bool). get_or xs i false) all ∙ get_or-append old (mark ∷ []) false i (omega arith))) (before.exact i (omega arith))
        | inr m ↦ (
            let here : c.loop-i.i ≡ i = omega arith in
            subst (λ k. IsLowestAt links k (get_or c.push.new.self.items k false)) here
            (subst (IsLowestAt links c.loop-i.i) (sym (ap (λ (xs : List Bool). get_or xs c.loop-i.i false) all ∙ last)) c.is_lowest.ensures.exact))
      ];
    }
