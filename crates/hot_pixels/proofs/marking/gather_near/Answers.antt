use Rattle.std.proofs.Common.{arith}
use Rattle.std.proofs.lemmas.Result.{IfOk-weaker}
use Rattle.hot_pixels.proofs.MeetingLemmas.{adds_none}
use Rattle.hot_pixels.proofs.MarkingLemmas.{near_there, all_seen, all_seen_in_crowd}
use Rattle.hot_pixels.specs.Marking.{IsSeen}
use Rattle.std.proofs.Common.{ℕ, Bool, All}
use Rattle.hot_pixels.proofs.marking.gather_near.Goals as goal

pub gather_met-requires-clause-there : goal.gather_met-requires-clause-there
gather_met-requires-clause-there c = near_there c.args.edges.now c.args.buckets.now c.requires.over c.bucket_of.result c.near_of-near.result.now c.near_of-near.ensures.exact

pub returns-clause-seen : goal.returns-clause-seen
returns-clause-seen c =
    let edges = c.args.edges.now in
    let crowded = c.args.crowded.now in
    let lasts = c.gather_met.new.lasts.items in
    let meetings = c.gather_met.new.meetings.items in
    IfOk-weaker _ (λ (b : Bool). All (IsSeen edges crowded lasts meetings b c.args.p) c.near_of-near.result.now) (λ (b : Bool). (i : ℕ) → IsSeen edges crowded lasts meetings b c.args.p i)
    (λ b h. all_seen edges c.args.buckets.now c.requires.over c.bucket_of.result c.near_of-near.result.now c.near_of-near.ensures.exact c.args.p c.bucket_of.ensures.place crowded lasts meetings b h)
    c.gather_met.ensures.seen

pub returns-then-near-gt-CROWD-clause-adds : goal.returns-then-near-gt-CROWD-clause-adds
returns-then-near-gt-CROWD-clause-adds c = adds_none c.args.edges.now c.args.p c.args.lasts.now.items c.args.meetings.now.items c.requires.lists

pub returns-then-near-gt-CROWD-clause-seen : goal.returns-then-near-gt-CROWD-clause-seen
returns-then-near-gt-CROWD-clause-seen c =
    all_seen_in_crowd c.args.edges.now c.args.buckets.now c.requires.over c.bucket_of.result c.near_of-near.result.now c.near_of-near.ensures.exact c.args.p c.bucket_of.ensures.place c.args.crowded.now c.args.lasts.now.items c.args.meetings.now.items c.requires.crowds
    (let l = c.if-near-gt-CROWD.true in omega arith)
