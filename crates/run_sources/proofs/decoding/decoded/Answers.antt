use Rattle.std.proofs.Common.{Bool, sym, subst, ◌∙◌}
use Rattle.std.specs.Prelude.{MatchBool}
use Rattle.io_core.specs.Contents.{Content}
use Rattle.run_sources.specs.Decoding.{DecodesJson, DecodesTable}
use Rattle.run_sources.specs.Titles.{title_of}
use Rattle.run_sources.proofs.decoding.decoded.Goals as goal

pub returns-then-is_csv : goal.returns-then-is_csv
returns-then-is_csv c = record {
  gives = subst (λ (b : Bool). MatchBool b (DecodesTable c.args.room c.args.source.now c.args.bytes.now c.table_layers.result) (DecodesJson c.args.places c.args.room (title_of c.args.source.now) c.args.bytes.now c.table_layers.result))
      (sym c.if-is_csv.true ∙ c.is_csv.ensures.exact) c.table_layers.ensures.gives;
  sound = c.table_layers.ensures.sound;
}

pub returns-else-is_csv : goal.returns-else-is_csv
returns-else-is_csv c =
    let titled = subst (λ (title : Content). DecodesJson c.args.places c.args.room title c.args.bytes.now c.json_layers.result) c.title_of.ensures.exact c.json_layers.ensures.gives in
    record {
      gives = subst (λ (b : Bool). MatchBool b (DecodesTable c.args.room c.args.source.now c.args.bytes.now c.json_layers.result) (DecodesJson c.args.places c.args.room (title_of c.args.source.now) c.args.bytes.now c.json_layers.result))
          (sym c.if-is_csv.false ∙ c.is_csv.ensures.exact) titled;
      sound = c.json_layers.ensures.sound;
    }
