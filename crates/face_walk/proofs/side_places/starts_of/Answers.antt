use Rattle.std.proofs.Common.{◌≡◌, ◌∙◌, [], ◌∷◌, ◌++◌, ◌+◌, ℕ, List, length, sym, ap, subst, arith}
use Rattle.std.proofs.lemmas.List.{length_push}
use Rattle.std.proofs.lemmas.List.Sorted.{IsPartitionedBy-ltb}
use Rattle.face_walk.specs.Sides.{IsStartOf}
use Rattle.face_walk.proofs.SplitLemmas.{starts_more}
use Rattle.face_walk.proofs.side_places.starts_of.Goals as goal

pub loop-f-preserved : goal.loop-f-preserved
loop-f-preserved c =
    let faces = c.args.faces.now in
    let f = c.loop-f.f in
    let old = c.loop-f.starts.items in
    let new = c.push.new.self.items in
    let start = c.first_from-start.result in
    let place = c.in_ok-next_number.field-0 in
    let pushed : new ≡ old ++ place ∷ [] = c.in_ok-push.ensures.items in
    let found : IsStartOf faces f start = record { within = c.first_from-start.ensures.bound; point = c.first_from-start.ensures.exact (IsPartitionedBy-ltb (λ (g : ℕ). g) faces f c.requires.in_order) } in
    let this : IsStartOf faces f place = subst (IsStartOf faces f) (sym c.in_ok-next_number.ensures.exact) found in
    record {
      number = ap (λ (xs : List ℕ). length xs) pushed ∙ length_push old place ∙ ap (λ (n : ℕ). n + 1) c.loop-f.invariant.number;
      each = starts_more faces f old new place c.loop-f.invariant.number c.loop-f.invariant.each this pushed;
    }

pub returns : goal.returns
returns c =
    let end = c.loop-f.auto.f-end in
    let done = c.loop-f-test.false in
    let all = c.loop-f.invariant.number in
    record { exact = record { number = omega arith; each = λ f l. c.loop-f.invariant.each f (omega arith) } }
