use Rattle.std.proofs.Common.{◌≡◌, ℕ, List, map, subst, ◌∙◌}
use Rattle.std.specs.Prelude.{IfOk}
use Rattle.table_terms.specs.Names.{place_of}
use Rattle.table_rows.proofs.merge.places_in.Goals as goal

pub returns : goal.returns
returns c = record {
  places = subst (λ (ns : List ℕ). IfOk c.places_of.result (λ places. places.items ≡ ns))
      (λ i. map (place_of ((c.in_ok-columns.ensures.all ∙ c.names.ensures.names) i)) (c.as_slice.ensures.all i)) c.places_of.ensures.places;
}
