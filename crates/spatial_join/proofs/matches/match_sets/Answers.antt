use Rattle.std.proofs.Common.{◌≡◌, ◌∙◌, ap, List, ℕ, ◌<◌, All, length, map}
use Rattle.std.specs.List.{range_with_len}
use Rattle.std.specs.List.Sorted.{IsStrictlyIncreasing}
use Rattle.std.proofs.lemmas.Result.{IfOk-weaker}
use Rattle.face_sets.specs.Owners.{owners_of}
use Rattle.spatial_join.specs.Matches.{AreMatchedSets}
use Rattle.spatial_join.proofs.MatchLemmas.{turned_below, turned_each, turned_rise}
use Rattle.spatial_join.proofs.matches.match_sets.Goals as goal

pub returns-clause-exact : goal.returns-clause-exact
returns-clause-exact c =
    let matches = c.in_ok-matches.matches in
    IfOk-weaker c.turned_round.result (λ (g : List (List ℕ)). g ≡ map (owners_of matches) (range_with_len 0 c.len.result)) (AreMatchedSets c.args.t.now c.args.f.now c.args.points.now c.args.sets.now)
    (λ g same. record { by_points = matches; matched = c.in_ok-matches.ensures.exact; listed = same ∙ ap (λ (n : ℕ). map (owners_of matches) (range_with_len 0 n)) c.len.ensures.count })
    c.turned_round.ensures.exact

pub returns-clause-each : goal.returns-clause-each
returns-clause-each c =
    IfOk-weaker c.turned_round.result (AreMatchedSets c.args.t.now c.args.f.now c.args.points.now c.args.sets.now) (λ (g : List (List ℕ)). length g ≡ length c.args.sets.now)
    (λ g h. turned_each c.args.t.now c.args.f.now c.args.points.now c.args.sets.now g h) (returns-clause-exact c)

pub returns-clause-ascending : goal.returns-clause-ascending
returns-clause-ascending c =
    IfOk-weaker c.turned_round.result (AreMatchedSets c.args.t.now c.args.f.now c.args.points.now c.args.sets.now) (All IsStrictlyIncreasing)
    (λ g h. turned_rise c.args.t.now c.args.f.now c.args.points.now c.args.sets.now g h) (returns-clause-exact c)

pub returns-clause-numbers : goal.returns-clause-numbers
returns-clause-numbers c =
    IfOk-weaker c.turned_round.result (AreMatchedSets c.args.t.now c.args.f.now c.args.points.now c.args.sets.now) (All (All (λ (n : ℕ). n < length c.args.points.now)))
    (λ g h. turned_below c.args.t.now c.args.f.now c.args.points.now c.args.sets.now g h) (returns-clause-exact c)
