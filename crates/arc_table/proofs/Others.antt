-- The steps from one start stand together among sorted steps, in a row; the two of a row of two lead on to each other.
use Rattle.std.proofs.Common.{◌≡◌, ◌⊎◌, inl, inr, refl, sym, ap, ◌∙◌, subst, arith, ℕ, ◌+◌, ◌<◌, ◌≤◌, true, false, List, length, get_or, set, Some, None, Contains}
use Rattle.std.specs.Prelude.{◌≢◌}
use Rattle.std.specs.List.Sorted.{IsSorted}
use Rattle.std.specs.Ordering.{is_lt}
use Rattle.std.proofs.lemmas.Bool.{cases_lt}
use Rattle.std.proofs.lemmas.List.{get_or-set_same, get_or-set_other, length-set}
use Rattle.std.proofs.lemmas.List.MinMax.{ranks_by}
use Rattle.std.proofs.lemmas.List.Sorted.{sorted_far}
use Rattle.std.proofs.lemmas.Option.{slice_get-get_or, slice_get_cases, get_or_from_slice_get}
use Rattle.plane_model.specs.Points.{GridPoint, Segment, same_point, is_before}
use Rattle.plane_model.proofs.PointOrder.{clash, same_point_from, same_point_to}
use Rattle.known_order.proofs.Orders.{first_counts, tied_from_both}
use Rattle.grid_base.specs.Order.{point_cmp}
use Rattle.grid_base.proofs.PointSearch.{point_cmp-total, equal_is}
use Rattle.arc_table.specs.Steps.{step_cmp, AreMutual, StartsAt, EndsRow, IsRow, IsOther, LeadsOn, IsOnward, AreOnward, AreLed}
use Rattle.arc_table.specs.Numbering.{step_at}
use Rattle.arc_table.proofs.Marks.{same_or_not}
use Rattle.arc_table.proofs.StepSearch.{step_cmp-total, not_before}

pub starts_yes : (p q : GridPoint) → same_point p q ≡ true → p ≡ q
starts_yes p q e = same_point_from p q e

pub starts_no : (p q : GridPoint) → same_point p q ≡ false → p ≡ q → ⊥
starts_no p q e f = clash (same_point p q) (same_point_to p q f) e

within : (steps : List Segment) (k : ℕ) (p : GridPoint) → StartsAt steps k p → k < length steps
within steps k p c = elim (slice_get_cases steps k).1 [ inl r ↦ r.1 | inr r ↦ absurd (let f : Some c.0 ≡ None = sym c.1 ∙ r.1 in cc) ]

pub start_is : (steps : List Segment) (k : ℕ) (p : GridPoint) (d : Segment) → StartsAt steps k p → (get_or steps k d).start ≡ p
start_is steps k p d c = ap (λ (s : Segment). s.start) (get_or_from_slice_get steps k c.0 d c.1) ∙ c.2

not_less : (s t : Segment) → is_lt (step_cmp s t) ≡ false → is_lt (point_cmp s.start t.start) ≡ false
not_less s t e = first_counts (point_cmp s.start t.start) (point_cmp s.stop t.stop) e

pub same_from_both : (p q : GridPoint) → is_lt (point_cmp p q) ≡ false → is_lt (point_cmp q p) ≡ false → p ≡ q
same_from_both p q e f = equal_is p q (tied_from_both point_cmp point_cmp-total p q e f)

pub starts : (steps : List Segment) (h : ℕ) → h < length steps → StartsAt steps h (step_at steps h).start
starts steps h l = (step_at steps h, slice_get-get_or steps h _ l, refl)

module _ (steps : List Segment) (up : IsSorted step_cmp steps) where
  -- what stands between two steps from p starts at p
  between : (p : GridPoint) (i m j : ℕ) → i ≤ m → m ≤ j → StartsAt steps i p → StartsAt steps j p → StartsAt steps m p
  between p i m j l k ci cj =
      let last = within steps j p cj in
      let here : m < length steps = omega arith in
      let d = ci.0 in
      let order = ranks_by step_cmp-total (λ (s : Segment). s) in
      let lower = not_less (get_or steps m d) (get_or steps i d) (sorted_far (λ (s : Segment) (t : Segment). is_lt (step_cmp s t)) order steps up i m d l here) in
      let upper = not_less (get_or steps j d) (get_or steps m d) (sorted_far (λ (s : Segment) (t : Segment). is_lt (step_cmp s t)) order steps up m j d k last) in (
        get_or steps m d,
        slice_get-get_or steps m d here,
        same_from_both (get_or steps m d).start p
            (subst (λ (q : GridPoint). is_lt (point_cmp (get_or steps m d).start q) ≡ false) (start_is steps i p d ci) lower)
            (subst (λ (q : GridPoint). is_lt (point_cmp q (get_or steps m d).start) ≡ false) (start_is steps j p d cj) upper),
      )

  -- from one end of a row to the next is a row
  pub row_between : (first h : ℕ) → first ≤ h → h < length steps → ((k : ℕ) (p : GridPoint) → k < first → StartsAt steps k p → StartsAt steps first p → ⊥) → ((p : GridPoint) → StartsAt steps first p → StartsAt steps h p) → EndsRow steps h → IsRow steps first h
  row_between first h l m begins together ends =
      let p = (step_at steps first).start in
      let here = starts steps first (omega arith) in
      let there = together p here in
      record {
        start = p;
        all = λ k. (
          (λ c. (
            elim (cases_lt k first) [ inl low ↦ absurd (begins k p low c here) | inr high ↦ high ],
            elim (cases_lt h k) [ inl past ↦ absurd (ends p there (between p h (h + 1) k (omega arith) (omega arith) there c)) | inr within ↦ within ],
          )),
          (λ b. between p first k h b.0 b.1 here there),
        );
      }

  -- no row is begun past the last step
  pub rows_end : (first h : ℕ) → first ≤ h → h ≡ length steps → ((p : GridPoint) → StartsAt steps first p → StartsAt steps h p) → first ≡ length steps
  rows_end first h l e together = elim (cases_lt first (length steps)) [
    | inl m ↦ absurd (let past = within steps h _ (together _ (starts steps first m)) in omega arith)
    | inr m ↦ omega arith
  ]

  pub row_begins : (h : ℕ) → EndsRow steps h → (k : ℕ) (p : GridPoint) → k < h + 1 → StartsAt steps k p → StartsAt steps (h + 1) p → ⊥
  row_begins h ends k p l c d = ends p (between p k h (h + 1) (omega arith) (omega arith) c d) d

-- no later step starts before an earlier one
pub none_starts_before : (steps : List Segment) (up : IsSorted step_cmp steps) (i j : ℕ) (d : Segment) → i ≤ j → j < length steps → is_before (get_or steps j d).start (get_or steps i d).start ≡ false
none_starts_before steps up i j d l m =
    not_before (get_or steps j d).start (get_or steps i d).start
    (not_less (get_or steps j d) (get_or steps i d) (sorted_far (λ (s : Segment) (t : Segment). is_lt (step_cmp s t)) (ranks_by step_cmp-total (λ (s : Segment). s)) steps up i j d l m))

-- ---- where there are not just two steps

pub same_start : (steps : List Segment) (h : ℕ) (p q : GridPoint) → StartsAt steps h p → StartsAt steps h q → p ≡ q
same_start steps h p q c d =
    let e : Some c.0 ≡ Some d.0 = sym c.1 ∙ d.1 in
    let f : c.0 ≡ d.0 = cc in
    sym c.2 ∙ ap (λ (s : Segment). s.start) f ∙ d.2

one_other : (steps : List Segment) (h j k : ℕ) → IsOther steps h j → IsOther steps h k → j ≡ k
one_other steps h j k a b = elim (a.only k (subst (StartsAt steps k) (same_start steps h b.start a.start b.here a.here) b.other)) [ inl e ↦ absurd (b.apart (sym e)) | inr e ↦ sym e ]

-- ---- steps onward

module _ (steps : List Segment) (turns : List GridPoint) where
  leads_there : (h twin next : ℕ) → LeadsOn steps turns twin next → IsOnward steps turns h twin next
  leads_there h twin next a = record { leads = λ differs. a; only = λ k b. one_other steps twin next k a.other b.other }

  leads_nowhere : (h twin : ℕ) → ((k : ℕ) → LeadsOn steps turns twin k → ⊥) → IsOnward steps turns h twin h
  leads_nowhere h twin none = record { leads = λ differs. absurd (differs refl); only = λ k b. absurd (none k b) }

  -- the same two steps, the other one first
  pub turned : (h k : ℕ) → LeadsOn steps turns h k → LeadsOn steps turns k h
  turned h k a =
      let o = a.other in
      record {
        other = record {
          start = o.start;
          here = o.other;
          other = o.here;
          apart = λ e. o.apart (sym e);
          only = λ j c. elim (o.only j c) [ inl e ↦ inr e | inr e ↦ inl e ];
        };
        plain = a.plain;
      }

  -- one step more, which leads on
  led_step : (twins onward : List ℕ) (k next : ℕ) → AreMutual twins (length steps) → length onward ≡ length steps → LeadsOn steps turns k next → AreLed steps turns twins onward k → AreLed steps turns twins (set onward (get_or twins k 0) next) (k + 1)
  led_step twins onward k next back size lead led =
      let twin : ℕ → ℕ = λ j. get_or twins j 0 in
      let all = set onward (twin k) next in
      let here = back k (within steps k lead.other.start lead.other.here) in
      let there = here.0 in
      let kept : (j : ℕ) → j < length steps → j ≢ k → get_or all (twin j) 0 ≡ get_or onward (twin j) 0 = λ j l apart. get_or-set_other onward (twin k) (twin j) next 0 (λ e. apart (sym (back j l).1 ∙ ap twin e ∙ here.1)) in
      let last : IsOnward steps turns (twin k) k (get_or all (twin k) 0) = subst (IsOnward steps turns (twin k) k) (sym (get_or-set_same onward (twin k) next 0 (omega arith))) (leads_there (twin k) k next lead) in
      let inside = within steps k lead.other.start lead.other.here in
      record {
        before = λ j l. elim (cases_lt j k) [
          | inl m ↦ subst (IsOnward steps turns (twin j) j) (sym (kept j (omega arith) (λ e. omega arith))) (led.before j m)
          | inr m ↦ (let e : k ≡ j = omega arith in subst (λ (i : ℕ). IsOnward steps turns (twin i) i (get_or all (twin i) 0)) e last)
        ];
        after = λ j l m. kept j m (λ e. omega arith) ∙ led.after j (omega arith) m;
      }

  module _ (first last : ℕ) (ordered : first ≤ last) (row : IsRow steps first last) where
    pub row_start : (p : GridPoint) → StartsAt steps first p → p ≡ row.start
    row_start p here = same_start steps first p row.start here ((row.all first).1 (omega arith, ordered))

    two_lead : last ≡ first + 1 → (Contains turns row.start → ⊥) → LeadsOn steps turns first last
    two_lead e plain = record {
      other = record {
        start = row.start;
        here = (row.all first).1 (omega arith, omega arith);
        other = (row.all last).1 (omega arith, omega arith);
        apart = λ f. omega arith;
        only = λ j c. let b = (row.all j).0 c in elim (cases_lt first j) [ inl l ↦ inr (omega (arith, b)) | inr l ↦ inl (omega (arith, b)) ];
      };
      plain = plain;
    }

    none_lead : (last ≢ first + 1) ⊎ Contains turns row.start → (k j : ℕ) → first ≤ k → k ≤ last → LeadsOn steps turns k j → ⊥
    none_lead why k j l m a =
        let o = a.other in
        let e : o.start ≡ row.start = same_start steps k o.start row.start o.here ((row.all k).1 (l, m)) in
        let other = (row.all j).0 (subst (StartsAt steps j) e o.other) in
        let one_of : (i : ℕ) → first ≤ i → i ≤ last → (i ≡ k) ⊎ (i ≡ j) = λ i n u. o.only i (subst (StartsAt steps i) (sym e) ((row.all i).1 (n, u))) in
        elim why [
          | inl differs ↦ (
              let apart = o.apart in
              let wide : first + 2 ≤ last = omega (arith, other) in
              omega (arith, one_of first (omega arith) (omega arith), one_of (first + 1) (omega arith) (omega arith), one_of last (omega arith) (omega arith)))
          | inr turn ↦ a.plain (subst (Contains turns) (sym e) turn)
        ]

    -- the row looked at, with the steps before it
    module _ (twins onward : List ℕ) (led : AreLed steps turns twins onward first) where
      pub led_over : (last ≢ first + 1) ⊎ Contains turns row.start → AreLed steps turns twins onward (last + 1)
      led_over why = record {
        before = λ k l. elim (cases_lt k first) [
          | inl m ↦ led.before k m
          | inr m ↦ (let inside = within steps k row.start ((row.all k).1 (m, omega arith)) in
              subst (IsOnward steps turns (get_or twins k 0) k) (sym (led.after k m inside)) (leads_nowhere (get_or twins k 0) k (λ j. none_lead why k j m (omega arith))))
        ];
        after = λ k l m. led.after k (omega arith) m;
      }

      pub led_through : AreMutual twins (length steps) → length onward ≡ length steps → last ≡ first + 1 → (Contains turns row.start → ⊥) → AreLed steps turns twins (set (set onward (get_or twins first 0) last) (get_or twins last 0) first) (last + 1)
      led_through back size two plain =
          let lead = two_lead two plain in
          let once = set onward (get_or twins first 0) last in
          led_step twins once last first back (length-set onward (get_or twins first 0) last ∙ size) (turned first last lead) (subst (AreLed steps turns twins once) (sym two) (led_step twins onward first last back size lead led))

  -- with all steps looked at each has its step onward
  module _ (twins onward : List ℕ) (back : AreMutual twins (length steps)) (led : AreLed steps turns twins onward (length steps)) where
    pub all_led : AreOnward steps twins turns onward (length steps)
    all_led h l = subst (λ (j : ℕ). IsOnward steps turns j (get_or twins h 0) (get_or onward j 0)) (back h l).1 (led.before (get_or twins h 0) (back h l).0)

    pub onward_there : (h : ℕ) → h < length steps → get_or onward h 0 < length steps
    onward_there h l = elim (same_or_not (get_or onward h 0) h) [
      | inl e ↦ omega arith
      | inr e ↦ (let o = ((all_led h l).leads e).other in within steps (get_or onward h 0) o.start o.other)
    ]
