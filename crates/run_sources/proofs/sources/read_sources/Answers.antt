use Rattle.std.proofs.Common.{◌≡◌, ◌++◌, ◌∷◌, [], ◌∙◌, ◌+◌, List, length, map, take, refl, sym, ap, subst}
use Rattle.std.specs.Prelude.{All}
use Rattle.std.proofs.lemmas.List.{map-append, take_more}
use Rattle.std.proofs.lemmas.List.Elements.{All-nil, All-push}
use Rattle.std.proofs.lemmas.Option.{slice_get_read, get_or_from_slice_get}
use Rattle.geojson_io.specs.LayerContent.{LayerContent}
use Rattle.geojson_io.specs.Sound.{LayerIsSound}
use Rattle.job_terms.specs.declared.job.Owner.{Owner}
use Rattle.job_terms.specs.declared.job.SourceWord.{SourceWord}
use Rattle.run_sources.specs.Budget.{whole_budget}
use Rattle.run_sources.specs.Sources.{SourcesSeen, SourcesGive, sources_seen}
use Rattle.run_sources.specs.declared.sources.ReadSource.{ReadSource}
use Rattle.run_sources.proofs.Given.{given_on}
use Rattle.run_sources.proofs.Growing.{grew_same, grew_on, none_fell_same, none_fell_on}
use Rattle.run_sources.proofs.sources.read_sources.Goals as goal

abbrev layers_of : ReadSource → List LayerContent
layers_of read = read.layers

abbrev owner_of : ReadSource → Owner
owner_of read = read.owner

abbrev is_sound : ReadSource → Type 0
is_sound read = All LayerIsSound read.layers

abbrev word_owner : SourceWord → Owner
word_owner source = source.owner

pub loop-i-init : goal.loop-i-init
loop-i-init g c =
    let seen : SourcesSeen = sources_seen g.F.Files g.I.Source c.args.files.now c.args.input.now in
    record {
      grew = grew_same seen;
      writes = none_fell_same (g.F.Files.write_faults c.args.files.now);
      sound = subst (All is_sound) (sym c.new-all.ensures.items) (All-nil is_sound);
      owners = ap (map owner_of) c.new-all.ensures.items;
      given = subst (λ (items : List ReadSource). SourcesGive c.args.places [] whole_budget seen c.whole-budget.result seen (map layers_of items)) (sym c.new-all.ensures.items) (c.whole-budget.ensures.whole, refl);
    }

pub returns-in-Err-clause-grew : goal.returns-in-Err-clause-grew
returns-in-Err-clause-grew g c = grew_on _ _ _ c.loop-i.invariant.grew c.read_source-read.ensures.grew

pub returns-in-Err-clause-writes : goal.returns-in-Err-clause-writes
returns-in-Err-clause-writes g c = none_fell_on _ _ _ c.loop-i.invariant.writes c.read_source-read.ensures.writes

pub returns-in-Err-clause-stops : goal.returns-in-Err-clause-stops
returns-in-Err-clause-stops g c =
    let xs = c.args.sources.now in
    record {
      place = c.loop-i.i;
      source = c.index-sources-i.result;
      is_there = slice_get_read xs (length xs) c.loop-i.i c.index-sources-i.result refl c.loop-i-test.true c.index-sources-i.is;
      layers = map layers_of c.loop-i.all.items;
      left = c.loop-i.budget;
      middle = sources_seen g.F.Files g.I.Source c.loop-i.files c.loop-i.input;
      given = c.loop-i.invariant.given;
      grew = c.read_source-read.ensures.grew;
      stops = c.in-Err.ensures.stops;
    }

pub returns-in-Err-keep-clause-grew : goal.returns-in-Err-keep-clause-grew
returns-in-Err-keep-clause-grew g c = grew_on _ _ _ c.loop-i.invariant.grew c.read_source-read.ensures.grew

pub loop-i-preserved : goal.loop-i-preserved
loop-i-preserved g c =
    let xs = c.args.sources.now in
    let source = c.index-sources-i.result in
    let there = slice_get_read xs (length xs) c.loop-i.i source refl c.loop-i-test.true c.index-sources-i.is in
    let more : take (c.loop-i.i + 1) xs ≡ take c.loop-i.i xs ++ source ∷ [] =
    take_more xs c.loop-i.i source c.loop-i-test.true ∙ ap (λ (x : SourceWord). take c.loop-i.i xs ++ x ∷ []) (get_or_from_slice_get xs c.loop-i.i source source there) in
    let before : SourcesSeen = sources_seen g.F.Files g.I.Source c.args.files.now c.args.input.now in
    let middle : SourcesSeen = sources_seen g.F.Files g.I.Source c.loop-i.files c.loop-i.input in
    let after : SourcesSeen = sources_seen g.F.Files g.I.Source c.read_source-read.new.files c.read_source-read.new.input in
    let found : ReadSource = record { owner = source.owner; layers = c.in-Ok.layers } in
    let kept : map layers_of c.keep.new.all.items ≡ map layers_of c.loop-i.all.items ++ c.in-Ok.layers ∷ [] =
    ap (map layers_of) c.in-Ok-keep.ensures.kept ∙ map-append layers_of c.loop-i.all.items (found ∷ []) in
    let past = c.read_source-read.new.budget in
    let given = given_on c.args.places (take c.loop-i.i xs) whole_budget before c.loop-i.budget middle (map layers_of c.loop-i.all.items) source past after c.in-Ok.layers
    c.loop-i.invariant.given c.in-Ok.ensures.gives c.read_source-read.ensures.grew in
    let in_order = subst (λ (ys : List SourceWord). SourcesGive c.args.places ys whole_budget before past after (map layers_of c.loop-i.all.items ++ c.in-Ok.layers ∷ [])) (sym more) given in
    record {
      grew = grew_on before middle after c.loop-i.invariant.grew c.read_source-read.ensures.grew;
      writes = none_fell_on _ _ _ c.loop-i.invariant.writes c.read_source-read.ensures.writes;
      sound = subst (All is_sound) (sym c.in-Ok-keep.ensures.kept) (All-push is_sound c.loop-i.all.items found c.loop-i.invariant.sound c.in-Ok.ensures.sound);
      owners =
          ap (map owner_of) c.in-Ok-keep.ensures.kept
          ∙ map-append owner_of c.loop-i.all.items (found ∷ [])
          ∙ ap (λ (owners : List Owner). owners ++ source.owner ∷ []) c.loop-i.invariant.owners
          ∙ sym (ap (map word_owner) more ∙ map-append word_owner (take c.loop-i.i xs) (source ∷ []));
      given = subst (λ (ls : List (List LayerContent)). SourcesGive c.args.places (take (c.loop-i.i + 1) xs) whole_budget before past after ls) (sym kept) in_order;
    }
