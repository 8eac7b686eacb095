-- The values of options: the reader keeps each by its form, and the table of commands looks it up by its name.
use Rattle.std.proofs.Common.{◌≡◌, ℕ, Bool, true, false, not, cond, List, [], ◌∷◌, map, codes, Option, Some, None, is_some, option_map, option_and_then, Result, Ok, Err, bytes_eq, find, refl, ap, subst}
use Rattle.grid_base.specs.Grid.{Corners}
use Rattle.table_terms.specs.Names.{Text}
use Rattle.table_terms.specs.Refusals.{unless}
use Rattle.join_terms.specs.declared.calculations.Calc.{Calc}
use Rattle.cmd_words.specs.declared.fault.ExprWhy.{ExprWhy}
use Rattle.cmd_words.specs.declared.fault.WordWhy.{WordWhy}
use Rattle.cmd_words.specs.declared.fault.WordWhy.TheVariants as why
use Rattle.cmd_words.specs.Boxes.{box_of_text, places_of}
use Rattle.cmd_words.specs.Quantities.{area_units, count_of, doubled_below, doubled_above, gap_of, least_area_of}
use Rattle.cmd_words.specs.Calculations.{calculations_of}
use Rattle.cmd_words.specs.Expressions as kind
use Rattle.cmd_words.specs.Expressions.{Refusals, text_or_fault}
use Rattle.cmd_words.specs.OptionValues.{take_value}
use Rattle.cmd_words.specs.Rows.{rows}
use Rattle.cmd_words.specs.Steps.{on_ok, or_refused}
use Rattle.cmd_words.specs.Values.{form_named, pair_of, rule_of}
use Rattle.word_model.specs.CommandTable.{ValueForm, a_text, a_list, two_names, a_precision, a_rule, a_format, a_box, an_expression, a_gap, a_least_area, one_or_more, zero_or_more, calculations, Line, calculations_from, form_of}
use Rattle.word_model.specs.Words.{refused_if, refusal_of, expression_fault, refused_value}
use Rattle.word_laws.proofs.Shown.{Values, value_as}
use Rattle.word_laws.proofs.Tests.{same_bytes}

-- ## Values by names, and by forms

abbrev pub ok_option : {A E : Type 0} → Result A E → Option A
ok_option (Ok v) = Some v
ok_option (Err e) = None

abbrev pub box_from : ℕ → Option Text → Option Corners
box_from places o = option_and_then (λ (s : Text). ok_option (box_of_text places s)) o

-- of options that are found so
abbrev pub values_by : ℕ → (Text → Option Text) → Values
values_by places look = record {
  places = option_and_then places_of (look (codes "precision"));
  rule = option_and_then rule_of (look (codes "overlap-rule"));
  form = option_and_then form_named (look (codes "format"));
  rect = box_from places (look (codes "bbox"));
  keys = option_and_then pair_of (look (codes "keys"));
  gap = option_map (doubled_below places) (option_and_then area_units (look (codes "gap-fill-area")));
  least_area = option_map (doubled_above places) (option_and_then area_units (look (codes "min-area")));
  most = option_and_then (count_of 1) (look (codes "max-count"));
  least_links = option_and_then (count_of 0) (look (codes "min-vertices"));
  calculations = calculations_from (look (codes "calc"));
  test = look (codes "where");
}

-- with one more, of this form
abbrev pub own : ℕ → ValueForm → Text → Values → Values
own places a_text s v = v
own places a_list s v = v
own places two_names s v = record v { keys = pair_of s }
own places a_precision s v = record v { places = places_of s }
own places a_rule s v = record v { rule = rule_of s }
own places a_format s v = record v { form = form_named s }
own places a_box s v = record v { rect = ok_option (box_of_text places s) }
own places an_expression s v = record v { test = Some s }
own places a_gap s v = record v { gap = gap_of places s }
own places a_least_area s v = record v { least_area = least_area_of places s }
own places one_or_more s v = record v { most = count_of 1 s }
own places zero_or_more s v = record v { least_links = count_of 0 s }
own places calculations s v = record v { calculations = calculations_from (Some s) }

-- the reader keeps a value of this form, or refuses it
module _ (refuses : Refusals) (places : ℕ) (s : Text) (v : Values) where
  chosen : {A : Type 0} (w : WordWhy) (o : Option A) (put : Option A → Values) → on_ok (or_refused w o) (λ (x : A). Ok (put (Some x))) ≡ unless (refused_if (not (is_some o)) w) (Ok (put o))
  chosen w None put = refl
  chosen w (Some x) put = refl

  measured : (f : ℕ → ℕ) (o : Option ℕ) (put : Option ℕ → Values)
      → on_ok (or_refused why.BadNumber (option_map f o)) (λ (n : ℕ). Ok (put (Some n))) ≡ unless (refused_if (not (is_some o)) why.BadNumber) (Ok (put (option_map f o)))
  measured f None put = refl
  measured f (Some n) put = refl

  boxed : (r : Result Corners WordWhy) (put : Option Corners → Values) → on_ok r (λ (a : Corners). Ok (put (Some a))) ≡ unless (refusal_of r) (Ok (put (ok_option r)))
  boxed (Ok a) put = refl
  boxed (Err w) put = refl

  calculated : (r : Result (List Calc) WordWhy) (put : List Calc → Values) → on_ok r (λ (cs : List Calc). Ok (put cs)) ≡ unless (refusal_of r) (Ok (put (elim r [ Ok columns ↦ columns | Err w ↦ [] ])))
  calculated (Ok cs) put = refl
  calculated (Err w) put = refl

  tested : (r : Option (ℕ × ExprWhy)) (put : Text → Values) → on_ok (text_or_fault r s) (λ (t : Text). Ok (put t)) ≡ unless (expression_fault r) (Ok (put s))
  tested None put = refl
  tested (Some f) put = refl

  pub value_taken : (f : ValueForm) → take_value refuses places (value_as f) s v ≡ unless (refused_value refuses places f s) (Ok (own places f s v))
  unfolding rows value_as
  value_taken a_text = refl
  value_taken a_list = refl
  value_taken two_names = chosen why.BadChoice (pair_of s) (λ o. record v { keys = o })
  value_taken a_precision = chosen why.BadPrecision (places_of s) (λ o. record v { places = o })
  value_taken a_rule = chosen why.BadChoice (rule_of s) (λ o. record v { rule = o })
  value_taken a_format = chosen why.BadChoice (form_named s) (λ o. record v { form = o })
  value_taken a_box = boxed (box_of_text places s) (λ o. record v { rect = o })
  value_taken an_expression = tested (refuses kind.expression s) (λ t. record v { test = Some t })
  value_taken a_gap = measured (doubled_below places) (area_units s) (λ o. record v { gap = o })
  value_taken a_least_area = measured (doubled_above places) (area_units s) (λ o. record v { least_area = o })
  value_taken one_or_more = chosen why.BadNumber (count_of 1 s) (λ o. record v { most = o })
  value_taken zero_or_more = chosen why.BadNumber (count_of 0 s) (λ o. record v { least_links = o })
  value_taken calculations = calculated (calculations_of s) (λ cs. record v { calculations = cs })

-- ## Options that stand in their places

abbrev pub is_box : ValueForm → Bool
is_box a_box = true
is_box _ = false

-- look-ups that find one option more
abbrev pub with_look : (Text → Option Text) → Text → Text → Text → Option Text
with_look look name s other = cond (bytes_eq name other) (Some s) (look other)

-- what an option keeps, and whether it is a box
abbrev pub Placing : Type 0
Placing = (ℕ → (Text → Option Text) → Text → Values) × Bool

abbrev pub by_name : Text × ValueForm → Placing
by_name o = (λ places look s. values_by places (with_look look o.0 s), bytes_eq o.0 (codes "bbox"))

abbrev pub by_form : Text × ValueForm → Placing
by_form o = (λ places look s. own places o.1 s (values_by places look), is_box o.1)

-- the name of each option says what its form does
abbrev pub WellPlaced : Line → Type 0
WellPlaced l = map by_name l.options ≡ map by_form l.options

abbrev pub Placed : ValueForm → Text → Type 0
Placed f name = by_name (name, f) ≡ by_form (name, f)

pub placed_by : (l : Line) → WellPlaced l → (name : Text) (f : ValueForm) → form_of l name ≡ Some f → Placed f name
placed_by l e name f found = go l.options e found
  where
    first : (o : Text × ValueForm) (os : List (Text × ValueForm)) → map by_name (o ∷ os) ≡ map by_form (o ∷ os) → by_name o ≡ by_form o
    first o os same = ap (λ (ps : List Placing). elim ps [ [] ↦ by_name o | p ∷ rest ↦ p ]) same

    others : (o : Text × ValueForm) (os : List (Text × ValueForm)) → map by_name (o ∷ os) ≡ map by_form (o ∷ os) → map by_name os ≡ map by_form os
    others o os same = ap (λ (ps : List Placing). elim ps [ [] ↦ [] | p ∷ rest ↦ rest ]) same

    go : (os : List (Text × ValueForm)) → map by_name os ≡ map by_form os → option_map (λ (o : Text × ValueForm). o.1) (find (λ (o : Text × ValueForm). bytes_eq o.0 name) os) ≡ Some f → Placed f name
    go [] same s = absurd (cc)
    go (o ∷ os) same s = choose (bytes_eq o.0 name) refl s (go os (others o os same))
      where
        choose : (b : Bool) → bytes_eq o.0 name ≡ b → option_map (λ (o : Text × ValueForm). o.1) (cond b (Some o) (find (λ (o : Text × ValueForm). bytes_eq o.0 name) os)) ≡ Some f
            → (option_map (λ (o : Text × ValueForm). o.1) (find (λ (o : Text × ValueForm). bytes_eq o.0 name) os) ≡ Some f → Placed f name) → Placed f name
        choose true t s' later =
            let form_is : o.1 ≡ f = cc in
            subst (λ (v : ValueForm). Placed v name) form_is (subst (λ (n : Text). Placed o.1 n) (same_bytes o.0 name t) (first o os same))
        choose false t s' later = later s'
