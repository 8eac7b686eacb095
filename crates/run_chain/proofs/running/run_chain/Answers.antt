use Rattle.std.proofs.Common.{◌∙◌, List, ap, inl, inr, map, refl, subst}
use Rattle.lists.specs.Lists.{joined_up}
use Rattle.plane_model.specs.Snapped.{snapped}
use Rattle.job_terms.specs.declared.job.Owner.{Owner}
use Rattle.run_beginning.specs.BegunLayers.{BeginsOver}
use Rattle.run_beginning.specs.Drawing.{drawing_of}
use Rattle.job_terms.specs.declared.job.SourceWord.{SourceWord}
use Rattle.io_core.proofs.Reading.{NeverFell-refl}
use Rattle.run_chain.specs.Effects.{OutsideSeen, outside_seen}
use Rattle.run_sources.specs.Sources.{SourcesSeen, GivesAll, StopsAtSource, sources_seen}
use Rattle.run_chain.proofs.running.run_chain.Goals as goal

pub returns-in-Ok-begin : goal.returns-in-Ok-begin
returns-in-Ok-begin g c =
    let middle : OutsideSeen = outside_seen g.F.Files g.K.Sink c.read_sources.new.files c.args.output.now in
    let seen : SourcesSeen = sources_seen g.F.Files g.I.Source c.args.files.now c.args.input.now in
    let read : SourcesSeen = sources_seen g.F.Files g.I.Source c.read_sources.new.files c.read_sources.new.input in
    record {
      runs = inr (record {
        layers = map (λ source. source.layers) c.in-Ok.sources.items;
        read = read;
        given = subst (λ (words : List SourceWord). GivesAll c.args.chain.now.places words seen read (map (λ source. source.layers) c.in-Ok.sources.items)) c.as_slice.ensures.all c.in-Ok.ensures.gives;
        middle = middle;
        kept = record {
          files = c.read_sources.ensures.grew.files;
          stream = refl;
          counts = record { files = c.read_sources.ensures.writes; stream = NeverFell-refl (g.K.Sink.faults c.args.output.now) };
        };
        begun = c.in-Ok-begin.begun.layers.items;
        base = record { places = c.args.chain.now.places; plane = c.in-Ok-begin.begun.plane; sources = map (λ own. own.items) c.in-Ok-begin.begun.sources.items };
        places = refl;
        few = c.in-Ok-begin.ensures.few;
        over = subst (λ (owners : List Owner). BeginsOver (snapped (drawing_of (joined_up (map (λ source. source.layers) c.in-Ok.sources.items)) c.args.chain.now.boxes)) owners (map (λ source. source.layers) c.in-Ok.sources.items) c.in-Ok-begin.begun.plane.arcs c.in-Ok-begin.begun.plane.faces c.in-Ok-begin.begun.plane.boxes.items c.in-Ok-begin.begun.layers.items (map (λ own. own.items) c.in-Ok-begin.begun.sources.items))
            (c.in-Ok.ensures.owners ∙ ap (map (λ (source : SourceWord). source.owner)) c.as_slice.ensures.all) c.in-Ok-begin.ensures.over;
        ran = c.run_begun.ensures.ran;
      });
    }

pub returns-in-Err-begin : goal.returns-in-Err-begin
returns-in-Err-begin g c =
    let seen : SourcesSeen = sources_seen g.F.Files g.I.Source c.args.files.now c.args.input.now in
    let read : SourcesSeen = sources_seen g.F.Files g.I.Source c.read_sources.new.files c.read_sources.new.input in
    record {
      runs = inl (record {
        kept = record {
          files = c.read_sources.ensures.grew.files;
          stream = refl;
          counts = record { files = c.read_sources.ensures.writes; stream = NeverFell-refl (g.K.Sink.faults c.args.output.now) };
        };
        stops = inr (record {
          layers = map (λ source. source.layers) c.in-Ok.sources.items;
          given = subst (λ (words : List SourceWord). GivesAll c.args.chain.now.places words seen read (map (λ source. source.layers) c.in-Ok.sources.items)) c.as_slice.ensures.all c.in-Ok.ensures.gives;
          fault = c.in-Err-begin.fault;
          unbegun = c.in-Err-begin.ensures.fault;
          ends = c.of_drawing.ensures.exact;
        });
      });
    }

pub returns-in-Err : goal.returns-in-Err
returns-in-Err g c =
    let seen : SourcesSeen = sources_seen g.F.Files g.I.Source c.args.files.now c.args.input.now in
    let read : SourcesSeen = sources_seen g.F.Files g.I.Source c.read_sources.new.files c.read_sources.new.input in
    record {
      runs = inl (record {
        kept = record {
          files = c.read_sources.ensures.grew.files;
          stream = refl;
          counts = record { files = c.read_sources.ensures.writes; stream = NeverFell-refl (g.K.Sink.faults c.args.output.now) };
        };
        stops = inl (record {
          fault = c.in-Err.fault;
          stops = subst (λ (words : List SourceWord). StopsAtSource c.args.chain.now.places words seen read c.in-Err.fault) c.as_slice.ensures.all c.in-Err.ensures.stops;
          ends = c.of_sources.ensures.exact;
        });
      });
    }
