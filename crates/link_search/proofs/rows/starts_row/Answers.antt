use Rattle.std.proofs.Common.{◌≡◌, ◌∙◌, ◌-◌, sym, ap, arith, not}
use Rattle.plane_model.specs.Points.{same_point}
use Rattle.link_search.specs.Rows.{start_at}
use Rattle.link_search.specs.declared.links.ArcLink.{ArcLink}
use Rattle.link_search.proofs.RowLemmas.{start_is, starts_row_at}
use Rattle.link_search.proofs.rows.starts_row.Goals as goal

pub returns-else-i-eq0 : goal.returns-else-i-eq0
returns-else-i-eq0 c =
    let links = c.args.links.now in
    let i = c.args.i in
    let l = c.requires.there in
    let before : c.low.result ≡ start_at links (i - 1) = c.low.ensures.lesser ∙ ap (λ (x : ArcLink). x.link.start) (sym c.index-links-i.is) ∙ sym (start_is links (i - 1) c.index-links-i.result (omega arith) (sym c.index-links-i.is)) in
    let here : c.low-else-i-eq0.result ≡ start_at links i = c.low-else-i-eq0.ensures.lesser ∙ ap (λ (x : ArcLink). x.link.start) (sym c.index-links-i-else-i-eq0.is) ∙ sym (start_is links i c.index-links-i-else-i-eq0.result l (sym c.index-links-i-else-i-eq0.is)) in
    record { exact = ap not c.is_same.ensures.exact ∙ (λ t. not (same_point (before t) (here t))) ∙ sym (starts_row_at links i c.if-i-eq0.false) }
