use Rattle.std.proofs.Common.{List, [], ◌∷◌, subst}
use Rattle.std.specs.Prelude.{Ok}
use Rattle.table_terms.specs.Names.{Text, place_of}
use Rattle.table_terms.specs.Refusals.{unless}
use Rattle.table_rows.specs.Refusals.{Answers, refused_item}
use Rattle.table_rows.proofs.split.listed_place.Goals as goal

pub returns : goal.returns
returns c =
    let field = c.args.field.now in
    record {
      exact = subst (λ (names : List Text). Answers c.place_in.result (unless (refused_item names [] 0 (field ∷ [])) (Ok (place_of names field)))) c.in_ok-columns.ensures.all c.place_in.ensures.exact;
    }
