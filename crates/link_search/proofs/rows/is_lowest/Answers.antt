use Rattle.std.proofs.Common.{◌≡◌, ◌∙◌, refl, sym, ap, subst, Bool, true, false, not, Contains}
use Rattle.std.proofs.lemmas.List.Sorted.{Contains-permutation, IsPermutation-sym}
use Rattle.lists.proofs.Members.{Contains-map, map-Contains}
use Rattle.plane_model.specs.Points.{GridPoint}
use Rattle.link_search.specs.Rows.{start_at, stops_of}
use Rattle.link_search.specs.declared.links.ArcLink.{ArcLink}
use Rattle.link_search.proofs.RowLemmas.{start_is}
use Rattle.link_search.proofs.rows.is_lowest.Goals as goal

is_false : (b : Bool) → not b ≡ true → b ≡ false
is_false true e = absurd (let g : false ≡ true = e in cc)
is_false false e = refl

is_true : (b : Bool) → not b ≡ false → b ≡ true
is_true true e = refl
is_true false e = absurd (let g : true ≡ false = e in cc)

abbrev stop_of : ArcLink → GridPoint
stop_of l = l.link.stop

pub returns-then-starts_row : goal.returns-then-starts_row
returns-then-starts_row c =
    let links = c.args.links.now in
    let highs = c.args.highs.now in
    let low : start_at links c.args.i ≡ c.low.result = start_is links c.args.i c.index-links-i.result c.requires.there (sym c.index-links-i.is) ∙ ap (λ (x : ArcLink). x.link.start) c.index-links-i.is ∙ sym c.low.ensures.lesser in
    record {
      exact = record {
        row = λ e. sym c.if-starts_row.ensures.exact;
        vertex = λ e k h s. c.arrives_at.ensures.no (is_false c.arrives_at.result e) (subst (Contains highs) (s ∙ low) (Contains-permutation (stops_of links) highs k.link.stop c.requires.highs.all (Contains-map stop_of links k h)));
        no = λ e s m.
            let found = map-Contains stop_of links c.low.result (Contains-permutation highs (stops_of links) c.low.result (IsPermutation-sym (stops_of links) highs c.requires.highs.all) (c.arrives_at.ensures.yes (is_true c.arrives_at.result e))) in
            m found.0 found.1 (found.2 ∙ sym low);
      };
    }
