-- What the definitions bind of three runs: no words, a missing file, and a table on standard input, printed as
-- comma-separated text.
use Rattle.std.proofs.Common.{arith, ◌≡◌, refl, Bool, ℕ, ◌*◌, ◌^◌, ℤ, pos, List, [], ◌∷◌, Some, None, codes, true, false, inl, inr}
use Rattle.std.specs.Prelude.{Contains, ◌<◌}
use Rattle.std.specs.Fmt.{digits}
use Rattle.csv.specs.Machine.{next_record}
use Rattle.csv.specs.Reading.{records_from, strip_bom}
use Rattle.csv.specs.Writing.{escaped, fields_text, is_blank}
use Rattle.plane_model.specs.Points.{RationalPoint}
use Rattle.grid_base.specs.declared.kinds.Kind.TheVariants as kind
use Rattle.numerals.specs.Decimal.{decimal_of_text, decimal_text, fraction_text, last_digits, trimmed_digits}
use Rattle.numerals.specs.Numeral.{numeral_of}
use Rattle.json_values.specs.declared.value.Value.TheVariants.{Null, Num}
use Rattle.geojson_io.specs.LayerContent.{LayerContent}
use Rattle.geojson_io.specs.declared.shape.GeoShape.TheVariants.{Nothing}
use Rattle.table_terms.specs.Names.{Text}
use Rattle.cmd_words.specs.ActionWords.{whole}
use Rattle.cmd_words.specs.Tells.{FitsJob}
use Rattle.cmd_words.specs.Words.{ChainWords, JobWords, Reading, chain}
use Rattle.job_terms.specs.declared.job.Job.TheVariants as job
use Rattle.job_terms.specs.declared.job.OutForm.TheVariants.{Geo, Csv}
use Rattle.job_terms.specs.declared.job.Owner.TheVariants as owner
use Rattle.cmd_words.specs.declared.action_words.ActionWords.TheVariants as words
use Rattle.job_terms.specs.declared.job.Action.TheVariants as ask
use Rattle.job_terms.specs.declared.job.OutForm.{OutForm}
use Rattle.job_terms.specs.declared.job.Target.TheVariants as target
use Rattle.cmd_words.specs.declared.fault.WordWhy.TheVariants.{NoInput}
use Rattle.io_core.specs.Contents.{FileMap}
use Rattle.region_model.specs.Region.{Region, Regions, feature, box, any, both, less, part, gap, no_regions, one_more, Has, SomeHas}
use Rattle.region_model.specs.Answers.{Answers, AreRight, Plane, plane_of}
use Rattle.chain_model.specs.Outcome.{done, bad_words, missing}
use Rattle.chain_model.specs.Headline.{Outside, Headline}
use Rattle.word_model.specs.Words.{words_say}
use Rattle.model_cases.proofs.WholeRows.{read, as_csv, chain_of}

abbrev said : List Text → Reading JobWords
said words = words_say read.refusals words

abbrev no_files : FileMap
no_files name = None

abbrev nothing_there : Outside
nothing_there = record { files = Some no_files; stream = Some [] }

-- ---- no words

refused_at_once : Headline read (said []) None nothing_there (bad_words 1 NoInput) nothing_there
refused_at_once = record { effects = []; told = (refl, refl); held = record { files = λ name. refl; stream = refl } }

-- no other stated answer is allowed, and no output
done_is_refused : (after : Outside) → Headline read (said []) None nothing_there done after → ⊥
done_is_refused after h = let e : done ≡ bad_words 1 NoInput = h.told.0 in cc

-- ---- what two lists of words say: one source, and one output

abbrev words_of : Text → Bool → OutForm → ChainWords
words_of name standard form = record {
  places = 6;
  so_far = record {
    sources = record { name = name; standard = standard; owner = owner.Import; string_fields = [] } ∷ [];
    boxes = [];
    commands = record { target = target.Default; name = None; keep = false; action = words.Whole (ask.Write (codes "-") true form) } ∷ [];
    reads_standard = standard;
  };
}

fits : (name : Text) (standard : Bool) (form : OutForm) → FitsJob (chain (words_of name standard form)) (job.Chain (chain_of (words_of name standard form)))
fits name standard form = record { places = refl; sources = refl; boxes = refl; commands = (record { target = refl; name = refl; keep = refl; action = whole }, tt) }

-- ---- a missing file

missing_file : Headline read (said (codes "in.json" ∷ codes "-o" ∷ codes "-" ∷ [])) None nothing_there (missing 1) nothing_there
missing_file = record { effects = []; told = (job.Chain (chain_of (words_of (codes "in.json") false Geo)), fits (codes "in.json") false Geo, (refl, refl)); held = record { files = λ name. refl; stream = refl } }

-- ---- a table: nothing is drawn, and no region has a point

abbrev blank : Plane
blank = plane_of (record { polygons = []; lines = []; points = []; boxes = [] })

not_true : false ≡ true → ⊥
not_true e = cc

in_nothing : {A : Type 0} (x : A) → Contains {X = A} [] x → ⊥
in_nothing x c = elim c.1 [ ]

mutual
  nothing_has : (r : Region) (z : RationalPoint) → Has blank.drawing blank.arcs r z → ⊥
  nothing_has (feature n) z h = not_true h
  nothing_has (box n) z h = not_true h
  nothing_has (any rs) z h = none_has rs z h
  nothing_has (both r s) z h = nothing_has r z h.0
  nothing_has (less r s) z h = nothing_has r z h.0
  nothing_has (part r j) z h = nothing_has r z h.0
  nothing_has (gap rs j) z h = elim h.1.is_number.is_arc.2 [ inl k ↦ none_has rs k.0.0 k.0.2 | inr k ↦ none_has rs k.0.0 k.0.2 ]

  none_has : (rs : Regions) (z : RationalPoint) → SomeHas blank.drawing blank.arcs rs z → ⊥
  none_has no_regions z h = h
  none_has (one_more r rs) z h = elim h [ inl k ↦ nothing_has r z k | inr k ↦ none_has rs z k ]

below_nothing : (j : ℕ) → j < 0 → ⊥
below_nothing j h = omega arith

abbrev no_answers : Answers
no_answers = record { left = λ r l. false; right = λ r l. false; inside = λ r p. false; parts = λ r. 0; gaps = λ rs. 0 }

right_answers : AreRight blank no_answers
right_answers = record {
  sides = λ r. record { left_side = λ l c. absurd (in_nothing l c); right_side = λ l c. absurd (in_nothing l c) };
  inside = λ r p c. absurd (in_nothing p c);
  parts = λ r j. (λ l. absurd (below_nothing j l), λ h. absurd (nothing_has (part r j) h.0 h.2));
  gaps = λ rs j. (λ l. absurd (below_nothing j l), λ h. absurd (nothing_has (gap rs j) h.0 h.2));
}

abbrev answer : Text
answer = codes "id,v\n7,1.5\n8,\n"

abbrev picture : LayerContent
picture = record {
  name = codes "layer";
  kind = kind.Table;
  table = record { names = codes "id" ∷ codes "v" ∷ []; rows = (Num (halves 14) ∷ Num (halves 3) ∷ []) ∷ (Num (halves 16) ∷ Null ∷ []) ∷ [] };
  shapes = Nothing ∷ Nothing ∷ [];
}
  where
    halves : ℕ → ℤ
    halves n = pos (n * (5 * 10 ^ 17))

-- the stream gains the text, and the answer is Done
table_printed : Headline read (said as_csv) (Some (codes "id,v\n007,1.50\n8,\n")) nothing_there done (record { files = Some no_files; stream = Some answer })
unfolding next_record records_from strip_bom numeral_of decimal_of_text escaped fields_text is_blank digits decimal_text fraction_text trimmed_digits last_digits
table_printed = record {
  effects = record { command = 1; to = None; text = answer } ∷ [];
  told = (
    job.Chain (chain_of (words_of (codes "-") true Csv)),
    fits (codes "-") true Csv,
    record {
      answers = no_answers;
      right = right_answers;
      links_meet_at_ends = record { ordered = λ k l h. absurd (below_nothing k h); apart = λ k l c. absurd (in_nothing k c) };
      ends = refl;
      gives = (record { command = refl; to = refl; text = record { pictures = picture ∷ []; shown = (record { name = refl; kind = refl; table = refl; shapes = (refl, (refl, tt)) }, tt); is = refl } }, tt);
    },
  );
  held = record { files = λ name. refl; stream = refl };
}
