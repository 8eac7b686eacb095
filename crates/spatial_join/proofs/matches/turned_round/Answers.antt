use Rattle.std.proofs.Common.{◌≡◌, ◌∙◌, subst, ap, arith, ℕ, List, get_or, map, Vec, Global}
use Rattle.std.specs.List.{range_with_len}
use Rattle.std.proofs.lemmas.List.{length-map, take_all}
use Rattle.std.proofs.lemmas.Result.{IfOk-weaker}
use Rattle.face_sets.specs.Owners.{AreOwners, IsNumbered, owners_of}
use Rattle.face_sets.proofs.OwnerLemmas.{owners_none, owners_more}
use Rattle.spatial_join.proofs.MatchLemmas.{all_owners}
use Rattle.spatial_join.proofs.matches.turned_round.Goals as goal

pub loop-n-init : goal.loop-n-init
loop-n-init c = owners_none c.args.count (map (λ list. list.items) c.in_ok-places.places.items) (simp length-map c.in_ok-places.ensures.each) c.in_ok-places.ensures.empty

pub loop-n-preserved : goal.loop-n-preserved
loop-n-preserved c =
    let read = c.index-as_slice-n in
    let old : List (List ℕ) = map (λ list. list.items) c.loop-n.places.items in
    let new : List (List ℕ) = map (λ list. list.items) c.add_number.new.lists.items in
    owners_more c.args.lists.now c.args.count c.loop-n.n read.result read.result old new
    (let e = c.len-n-end.ensures.count in let l = c.loop-n-test.true in omega arith)
    (read.is ∙ ap (λ (lists : List (List ℕ)). get_or lists c.loop-n.n read.result) c.as_slice.ensures.all)
    c.loop-n.invariant
    (subst (λ (list : List ℕ). IsNumbered c.loop-n.n list old new) c.as_slice-in-loop-n.ensures.all c.in_ok-add_number.ensures.ok)

pub returns : goal.returns
returns c =
    let lists = c.args.lists.now in
    let n = c.loop-n.n in
    let items : Vec ℕ Global → List ℕ = λ (v : Vec ℕ Global). v.items in
    let places : List (List ℕ) = map items c.loop-n.places.items in
    let count = c.len-n-end.ensures.count in
    let past = c.loop-n-test.false in
    let all = take_all n lists (omega arith) in
    let owners : AreOwners lists c.args.count places = subst (λ (ls : List (List ℕ)). AreOwners ls c.args.count places) all c.loop-n.invariant in
    record {
      exact = IfOk-weaker c.group_list.result (λ (g : List (List ℕ)). g ≡ places) (λ (g : List (List ℕ)). g ≡ map (owners_of lists) (range_with_len 0 c.args.count))
          (λ g same. same ∙ all_owners lists places c.args.count owners)
          c.group_list.ensures.same;
    }
