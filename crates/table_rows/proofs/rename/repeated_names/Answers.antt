use Rattle.std.proofs.Common.{◌≡◌, ◌++◌, ◌∷◌, [], List, ℕ, ◌+◌, take, ap, sym, ◌∙◌, subst}
use Rattle.std.proofs.lemmas.List.{take_more}
use Rattle.table_terms.specs.Names.{Text}
use Rattle.table_rows.proofs.Renaming.{Seen, Repeated, seen_push, noted}
use Rattle.table_rows.proofs.rename.repeated_names.Goals as goal

pub loop-name-preserved : goal.loop-name-preserved
loop-name-preserved c =
    let names : List Text = c.as_slice-name-items.result.now in
    let i : ℕ = c.loop-name.name-index in
    let y : Text = c.as_str.result.now in
    let more : take (i + 1) names ≡ take i names ++ y ∷ [] =
    take_more names i c.name-item.result c.loop-name-test.true ∙ ap (λ (z : Text). take i names ++ z ∷ []) (sym c.name-item.is ∙ sym c.as_str.ensures.lent) in
    let s = c.in_ok-note_name.ensures in (
      subst (Seen c.note_name.new.seen) (sym more) (subst (λ (l : List Text). Seen l (take i names ++ y ∷ [])) (sym s.seen) (seen_push c.loop-name.seen (take i names) y c.loop-name.invariant.0)),
      subst (Repeated c.note_name.new.repeated) (sym more) (noted c.loop-name.seen c.loop-name.repeated c.note_name.new.repeated (take i names) y c.loop-name.invariant.0 c.loop-name.invariant.1 s.again s.first),
    )
