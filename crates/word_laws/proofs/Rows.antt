-- The table's lines and the reader's rows, one by one.
use Rattle.std.proofs.Common.{◌≡◌, ℕ, ◌+◌, Bool, true, false, not, ◌&&◌, ◌||◌, cond, List, [], ◌∷◌, length, codes, Option, Some, None, is_some, option_map, option_and_then, bytes_eq, find, refl, ap, ap₂, ◌∙◌}
use Rattle.std.specs.Option.{option_or, unwrap_or}
use Rattle.grid_base.specs.declared.kinds.OverlapRule.TheVariants.{MaxArea}
use Rattle.table_terms.specs.Names.{Text}
use Rattle.table_terms.specs.declared.renames.Rename.{Rename}
use Rattle.table_terms.specs.declared.groupings.GroupSpec.{GroupSpec}
use Rattle.cmd_words.specs.declared.action_words.ActionWords.{ActionWords}
use Rattle.cmd_words.specs.declared.action_words.ActionWords.TheVariants as words
use Rattle.job_terms.specs.declared.job.Action.{Action}
use Rattle.job_terms.specs.declared.job.Action.TheVariants as ask
use Rattle.job_terms.specs.declared.job.LayerAction.TheVariants as each
use Rattle.job_terms.specs.declared.job.JointAction.TheVariants as joint
use Rattle.job_terms.specs.declared.job.Origin.{Origin}
use Rattle.job_terms.specs.declared.job.Origin.TheVariants as origin
use Rattle.job_terms.specs.declared.job.OutForm.{OutForm}
use Rattle.job_terms.specs.declared.job.OutForm.TheVariants.{Geo}
use Rattle.cmd_words.specs.Rows.{Row, rows}
use Rattle.cmd_words.specs.Texts.{form_by_ending, is_standard, names_file, pieces}
use Rattle.cmd_words.specs.Values.{rule_of}
use Rattle.cmd_words.specs.Quantities.{doubled_below, doubled_above}
use Rattle.cmd_words.specs.Groups.{Group}
use Rattle.cmd_words.specs.Groups as groups
use Rattle.cmd_words.specs.Chains.{SoFar, lacks_argument, lacks_form, action_of, takes_source}
use Rattle.cmd_words.specs.Chains as chains
use Rattle.word_model.specs.CommandTable.{Said, ArgumentForm, nothing, files, source, list, expression, assignments, renames, text, CommandLine, value_in, has_option, has_bare, has_argument, argument_in, argument_text, list_or_empty, group_spec, form_in, count_in, doubled_in, each_layer, joins, needs_source, command_lines}
use Rattle.word_model.specs.Words.{is_source, origin_of}
use Rattle.word_laws.proofs.Shown.{Word, Values, argument_as, value_as}
use Rattle.word_laws.proofs.Forms.{form_as}
use Rattle.word_laws.proofs.Values.{WellPlaced}
use Rattle.word_laws.proofs.Groups.{values_in, renames_seen, expression_of, assigns_of, group_of, value_same, bare_same, first_same}
use Rattle.word_laws.proofs.Readings.{Kept}

-- ## What the reader's group means

pub record Means (places : ℕ) (form : ArgumentForm) (said : Said) (g : Group) : Type 0 where
  pub value : (name : Text) → groups.value_in g name ≡ value_in said name
  pub bare : (word : Text) → groups.has_bare g word ≡ has_bare said word
  pub argument : groups.argument_in g ≡ argument_in said
  pub values : g.values ≡ values_in places said
  pub box : is_some g.values.rect ≡ has_option said (codes "bbox")
  pub renames : g.renames ≡ renames_seen form said
  pub expression : g.expression ≡ expression_of form said
  pub assigns : g.assigns ≡ assigns_of form said

pub kept_means : (places : ℕ) (taken : Bool) (form : ArgumentForm) (args : List Word) (said : Said) → Kept places form args said → Means places form said (group_of places taken form args said)
kept_means places taken form args said kept = record { value = value_same said; bare = bare_same said; argument = first_same args said kept.texts; values = refl; box = kept.box; renames = refl; expression = refl; assigns = refl }

abbrev text_from : Option Text → Text
text_from o = unwrap_or o []

pub lists_same : (o : Option Text) → chains.list_or_empty o ≡ list_or_empty o
lists_same None = refl
lists_same (Some s) = refl

module _ (places : ℕ) (form : ArgumentForm) (said : Said) (g : Group) (m : Means places form said g) where
  pub text_same : chains.argument_text g ≡ argument_text said
  text_same = ap text_from m.argument

  pub list_same : (name : Text) → chains.list_or_empty (groups.value_in g name) ≡ list_or_empty (value_in said name)
  list_same name = ap chains.list_or_empty (m.value name) ∙ lists_same (value_in said name)

  argument_list : chains.list_or_empty (groups.argument_in g) ≡ list_or_empty (argument_in said)
  argument_list = ap chains.list_or_empty m.argument ∙ lists_same (argument_in said)

  form_same : chains.out_form g ≡ form_in said
  form_same = ap₂ (λ (v : Values) (t : Text). option_or v.form (form_by_ending t)) m.values text_same

  origin_same : (s : SoFar) → chains.origin_of (length s.sources) (length s.boxes) g ≡ origin_of s said
  origin_same s = ap₂ (λ (b : Bool) (t : Text). cond b (origin.Area (length s.boxes)) (cond (names_file t) (origin.Source (length s.sources + 1)) (origin.Layer t))) m.box text_same

  abbrev spec_from : List Text → List Text → List Text → GroupSpec
  spec_from by copy sum = record { by = by; copy = copy; sum = sum }

  group_spec_same : chains.group_spec g ≡ group_spec said
  group_spec_same =
      ap (λ (k : List Text). spec_from k (chains.list_or_empty (groups.value_in g (codes "copy-fields"))) (chains.list_or_empty (groups.value_in g (codes "sum-fields")))) argument_list
      ∙ ap₂ (spec_from (list_or_empty (argument_in said))) (list_same (codes "copy-fields")) (list_same (codes "sum-fields"))

  clean_same : chains.clean_of g ≡ each.Clean (unwrap_or (option_and_then rule_of (value_in said (codes "overlap-rule"))) MaxArea) (has_bare said (codes "allow-empty")) (doubled_in (doubled_below places) said (codes "gap-fill-area"))
  clean_same = ap₂ (λ (v : Values) (b : Bool). each.Clean (unwrap_or v.rule MaxArea) b (unwrap_or v.gap 0)) m.values (m.bare (codes "allow-empty"))

  islands_same : chains.filter_islands_of g ≡ each.FilterIslands (doubled_in (doubled_above places) said (codes "min-area")) (count_in 0 said (codes "min-vertices")) (has_bare said (codes "remove-empty"))
  islands_same = ap₂ (λ (v : Values) (b : Bool). each.FilterIslands (unwrap_or v.least_area 0) (unwrap_or v.least_links 0) b) m.values (m.bare (codes "remove-empty"))

  abbrev join_by : Origin → Values → Option Text → Bool → Option Text → ActionWords
  join_by o v fields force prefix = elim v.keys [
    | Some keys ↦ words.Join o (record { target_key = keys.0; source_key = keys.1; fields = option_map pieces fields; force = force; test = None; prefix = unwrap_or prefix [] }) v.test
    | None ↦ words.SpatialJoin o (record { fields = option_map pieces fields; force = force; test = None; prefix = unwrap_or prefix []; calc = v.calculations }) v.test
  ]

  join_same : (s : SoFar) → chains.join_of (chains.origin_of (length s.sources) (length s.boxes) g) g ≡ joins (origin_of s said) said
  join_same s =
      ap₂ (λ (o : Origin) (v : Values). join_by o v (groups.value_in g (codes "fields")) (groups.has_bare g (codes "force")) (groups.value_in g (codes "prefix"))) (origin_same s) m.values
      ∙ ap₂ (λ (o : Option Text) (b : Bool). join_by (origin_of s said) (values_in places said) o b (groups.value_in g (codes "prefix"))) (m.value (codes "fields")) (m.bare (codes "force"))
      ∙ ap (join_by (origin_of s said) (values_in places said) (value_in said (codes "fields")) (has_bare said (codes "force"))) (m.value (codes "prefix"))

  module _ (e : expression_of form said ≡ argument_in said) where
    expression_is : g.expression ≡ argument_in said
    expression_is = m.expression ∙ e

    filter_same : words.Filter g.expression (groups.has_bare g (codes "invert")) (groups.has_bare g (codes "remove-empty")) ≡ words.Filter (argument_in said) (has_bare said (codes "invert")) (has_bare said (codes "remove-empty"))
    filter_same = ap₂ (λ (a b : Bool). words.Filter g.expression a b) (m.bare (codes "invert")) (m.bare (codes "remove-empty")) ∙ ap (λ (t : Option Text). words.Filter t (has_bare said (codes "invert")) (has_bare said (codes "remove-empty"))) expression_is

    sort_same : words.Sort (text_from g.expression) (groups.has_bare g (codes "descending")) ≡ words.Sort (argument_text said) (has_bare said (codes "descending"))
    sort_same = ap₂ (λ (t : Text) (b : Bool). words.Sort t b) (ap text_from expression_is) (m.bare (codes "descending"))

    uniq_same : words.Uniq (text_from g.expression) (unwrap_or g.values.most 1) (groups.has_bare g (codes "invert")) ≡ words.Uniq (argument_text said) (count_in 1 said (codes "max-count")) (has_bare said (codes "invert"))
    uniq_same =
        ap₂ (λ (t : Text) (v : Values). words.Uniq t (unwrap_or v.most 1) (groups.has_bare g (codes "invert"))) (ap text_from expression_is) m.values
        ∙ ap (λ (b : Bool). words.Uniq (argument_text said) (count_in 1 said (codes "max-count")) b) (m.bare (codes "invert"))

    lacks_key : not (is_some g.expression) ≡ not (has_argument said)
    lacks_key = ap (λ (t : Option Text). not (is_some t)) expression_is

  module _ (e : assigns_of form said ≡ argument_in said) where
    each_same : words.Each (text_from g.assigns) ≡ words.Each (argument_text said)
    each_same = ap (λ (t : Option Text). words.Each (text_from t)) (m.assigns ∙ e)

    lacks_assigns : not (is_some g.assigns) ≡ not (has_argument said)
    lacks_assigns = ap (λ (t : Option Text). not (is_some t)) (m.assigns ∙ e)

  write_same : chains.write_of g ≡ ask.Write (argument_text said) (is_standard (argument_text said)) (unwrap_or (form_in said) Geo)
  write_same = ap₂ (λ (t : Text) (f : Option OutForm). ask.Write t (is_standard t) (unwrap_or f Geo)) text_same form_same

  -- ## What a group lacks

  argument_some : is_some (groups.argument_in g) ≡ has_argument said
  argument_some = ap is_some m.argument

  lacks_source : not (is_some (groups.argument_in g) || is_some g.values.rect) ≡ not (needs_source said)
  lacks_source = ap₂ (λ (a b : Bool). not (a || b)) argument_some m.box

  lacks_test : not (is_some (groups.argument_in g) || groups.has_bare g (codes "remove-empty")) ≡ not (has_argument said || has_bare said (codes "remove-empty"))
  lacks_test = ap₂ (λ (a b : Bool). not (a || b)) argument_some (m.bare (codes "remove-empty"))

  lacks_least : not (is_some (groups.value_in g (codes "min-area")) || is_some (groups.value_in g (codes "min-vertices"))) ≡ not (has_option said (codes "min-area") || has_option said (codes "min-vertices"))
  lacks_least = ap₂ (λ (a b : Bool). not (a || b)) (ap is_some (m.value (codes "min-area"))) (ap is_some (m.value (codes "min-vertices")))

-- ## Lines and rows

abbrev pub takes_files : ArgumentForm → Bool
takes_files files = true
takes_files _ = false

pub record SameRow (c : CommandLine) (r : Row) : Type 0 where
  pub word : c.word ≡ r.word
  pub form : r.form ≡ form_as c.line
  pub fits : WellPlaced c.line
  pub no_files : takes_files c.line.argument ≡ false
  pub source : takes_source r.keyword ≡ is_source c.line.argument
  pub needed : (places : ℕ) (said : Said) (g : Group) → Means places c.line.argument said g → lacks_argument r.keyword g ≡ not (c.has_needed said)
  pub known : (places : ℕ) (said : Said) (g : Group) → Means places c.line.argument said g → lacks_form r.keyword g ≡ (bytes_eq c.word (codes "-o") && not (is_some (form_in said)))
  pub action : (places : ℕ) (s : SoFar) (said : Said) (g : Group) → Means places c.line.argument said g → action_of (length s.sources) (length s.boxes) r.keyword g ≡ c.asks places (origin_of s said) said

abbrev pub SameRows : List CommandLine → List Row → Type 0
SameRows [] [] = Unit {0}
SameRows [] (r ∷ rs) = ⊥
SameRows (c ∷ cs) [] = ⊥
SameRows (c ∷ cs) (r ∷ rs) = SameRow c r × SameRows cs rs

pub same_rows : SameRows command_lines rows
unfolding rows argument_as value_as
same_rows = (
  record { word = refl; form = refl; fits = refl; no_files = refl; source = refl; needed = λ places. lacks_source places source; known = λ places said g m. refl; action = λ places s said g m. ap (λ (o : Origin). each_layer (each.Clip o)) (origin_same places source said g m s) },
  (
    record { word = refl; form = refl; fits = refl; no_files = refl; source = refl; needed = λ places. lacks_source places source; known = λ places said g m. refl; action = λ places s said g m. ap (λ (o : Origin). each_layer (each.Erase o)) (origin_same places source said g m s) },
    (
      record { word = refl; form = refl; fits = refl; no_files = refl; source = refl; needed = λ places said g m. refl; known = λ places said g m. refl; action = λ places s said g m. ap₂ (λ (spec : GroupSpec) (b : Bool). each_layer (each.Dissolve spec b)) (group_spec_same places list said g m) (m.bare (codes "group-points")) },
      (
        record { word = refl; form = refl; fits = refl; no_files = refl; source = refl; needed = λ places said g m. refl; known = λ places said g m. refl; action = λ places s said g m. ap each_layer (clean_same places nothing said g m) },
        (
          record { word = refl; form = refl; fits = refl; no_files = refl; source = refl; needed = λ places said g m. refl; known = λ places said g m. refl; action = λ places s said g m. refl },
          (
            record { word = refl; form = refl; fits = refl; no_files = refl; source = refl; needed = λ places said g m. refl; known = λ places said g m. refl; action = λ places s said g m. refl },
            (
              record { word = refl; form = refl; fits = refl; no_files = refl; source = refl; needed = λ places said g m. refl; known = λ places said g m. refl; action = λ places s said g m. refl },
              (
                record { word = refl; form = refl; fits = refl; no_files = refl; source = refl; needed = λ places said g m. refl; known = λ places said g m. refl; action = λ places s said g m. ap (λ (ks : List Text). each_layer (each.Lines ks)) (argument_list places list said g m) },
                (
                  record { word = refl; form = refl; fits = refl; no_files = refl; source = refl; needed = λ places said g m. ap not (argument_some places source said g m); known = λ places said g m. refl; action = λ places s said g m. join_same places source said g m s },
                  (
                    record { word = refl; form = refl; fits = refl; no_files = refl; source = refl; needed = λ places. lacks_test places expression; known = λ places said g m. refl; action = λ places s said g m. filter_same places expression said g m refl },
                    (
                      record { word = refl; form = refl; fits = refl; no_files = refl; source = refl; needed = λ places said g m. refl; known = λ places said g m. refl; action = λ places s said g m. ap (λ (ks : List Text). each_layer (each.FilterFields ks)) (argument_list places list said g m) },
                      (
                        record { word = refl; form = refl; fits = refl; no_files = refl; source = refl; needed = λ places said g m. ap not (argument_some places renames said g m); known = λ places said g m. refl; action = λ places s said g m. ap (λ (rs : List Rename). each_layer (each.RenameFields rs)) m.renames },
                        (
                          record { word = refl; form = refl; fits = refl; no_files = refl; source = refl; needed = λ places said g m. refl; known = λ places said g m. refl; action = λ places s said g m. ap (λ (o : Option Text). each_layer (each.Split o)) m.argument },
                          (
                            record { word = refl; form = refl; fits = refl; no_files = refl; source = refl; needed = λ places said g m. lacks_assigns places assignments said g m refl; known = λ places said g m. refl; action = λ places s said g m. each_same places assignments said g m refl },
                            (
                              record { word = refl; form = refl; fits = refl; no_files = refl; source = refl; needed = λ places said g m. lacks_key places expression said g m refl; known = λ places said g m. refl; action = λ places s said g m. sort_same places expression said g m refl },
                              (
                                record { word = refl; form = refl; fits = refl; no_files = refl; source = refl; needed = λ places said g m. lacks_key places expression said g m refl; known = λ places said g m. refl; action = λ places s said g m. uniq_same places expression said g m refl },
                                (
                                  record { word = refl; form = refl; fits = refl; no_files = refl; source = refl; needed = λ places. lacks_least places nothing; known = λ places said g m. refl; action = λ places s said g m. ap each_layer (islands_same places nothing said g m) },
                                  (
                                    record { word = refl; form = refl; fits = refl; no_files = refl; source = refl; needed = λ places said g m. refl; known = λ places said g m. refl; action = λ places s said g m. ap (λ (b : Bool). words.Whole (ask.Together (joint.MergeLayers b))) (m.bare (codes "force")) },
                                    (
                                      record { word = refl; form = refl; fits = refl; no_files = refl; source = refl; needed = λ places said g m. refl; known = λ places said g m. refl; action = λ places s said g m. refl },
                                      (
                                        record { word = refl; form = refl; fits = refl; no_files = refl; source = refl; needed = λ places said g m. ap not (argument_some places text said g m); known = λ places said g m. ap (λ (o : Option OutForm). not (is_some o)) (form_same places text said g m); action = λ places s said g m. ap (λ (a : Action). words.Whole a) (write_same places text said g m) },
                                        tt,
                                      ),
                                    ),
                                  ),
                                ),
                              ),
                            ),
                          ),
                        ),
                      ),
                    ),
                  ),
                ),
              ),
            ),
          ),
        ),
      ),
    ),
  ),
)

-- a word is in both or in neither
abbrev pub SameFound : Option CommandLine → Option Row → Type 0
SameFound None None = Unit {0}
SameFound None (Some r) = ⊥
SameFound (Some c) None = ⊥
SameFound (Some c) (Some r) = SameRow c r

found_among : (cs : List CommandLine) (rs : List Row) → SameRows cs rs → (w : Text) → SameFound (find (λ (c : CommandLine). bytes_eq c.word w) cs) (find (λ (r : Row). bytes_eq r.word w) rs)
found_among [] [] s w = tt
found_among [] (r ∷ rs) s w = absurd s
found_among (c ∷ cs) [] s w = absurd s
found_among (c ∷ cs) (r ∷ rs) s w = choose (bytes_eq c.word w) (bytes_eq r.word w) (ap (λ (k : Text). bytes_eq k w) (s.0).word) (found_among cs rs s.1 w)
  where
    choose : (a b : Bool) → a ≡ b → SameFound (find (λ (c : CommandLine). bytes_eq c.word w) cs) (find (λ (r : Row). bytes_eq r.word w) rs) → SameFound (cond a (Some c) (find (λ (c : CommandLine). bytes_eq c.word w) cs)) (cond b (Some r) (find (λ (r : Row). bytes_eq r.word w) rs))
    choose true true e later = s.0
    choose false false e later = later
    choose true false e later = absurd (cc)
    choose false true e later = absurd (cc)

pub same_found : (w : Text) → SameFound (find (λ (c : CommandLine). bytes_eq c.word w) command_lines) (find (λ (r : Row). bytes_eq r.word w) rows)
same_found w = found_among command_lines rows same_rows w
