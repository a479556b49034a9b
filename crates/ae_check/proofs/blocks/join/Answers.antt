use Rattle.std.proofs.Common.{ℕ, List, drop, length, take, sym, ap, ◌∙◌, arith}
use Rattle.ae_judge.specs.Tabled.{code_of}
use Rattle.ae_scope.specs.declared.scope.Scope.{Scope}
use Rattle.ae_scope.specs.declared.slot.Change.{Change}
use Rattle.ae_scope.specs.Slots.{all_same}
use Rattle.ae_scope.specs.Scope.{context_of}
use Rattle.ae_scope.specs.Grows.{Grows, Marks}
use Rattle.ae_check.specs.Blocks.{Branched}
use Rattle.ae_check.proofs.from_scope.JoinLemmas.{Alike, back_to, grows_alike}
use Rattle.ae_check.proofs.from_scope.ReplayLemmas.{grows_then}
use Rattle.ae_check.proofs.from_scope.StackLemmas.{grows_cut, groups_ended}
use Rattle.ae_check.proofs.BlockLemmas.{still_marked}
use Rattle.ae_check.proofs.BranchLemmas.{branches_meet_so, then_this_stays, true_where_it_went_through, marks_alike}
use Rattle.ae_check.proofs.BranchLemmas.{as_many_taken_back, as_many_done_again}
use Rattle.ae_check.proofs.blocks.join.Goals as goal

pub returns : goal.returns
returns c =
    let w = c.args.scope.now in
    let q = c.take_back.new.scope in
    let r = c.replay.new.self in
    let v = c.end_block.new.self in
    let mark = c.args.begun in
    let first = c.args.first.now in
    let taken = c.in_ok-second.ensures in
    let back : (s u : Scope) → Branched s u mark first w → Alike s q = λ s u b.
    back_to s w q mark.changes b.marks.changes b.second_ended.grows b.second_ended.locals taken.locals taken.groups
    taken.table taken.trail b.second_ended.group_trail taken.group_trail in
    let grown : Grows q r = c.in_ok-replay.ensures.grows in
    let marks : (s u : Scope) → Branched s u mark first w → Marks q mark = λ s u b.
    marks_alike s q mark b.marks (back s u b) in
    record {
      answer = λ s u b. then_this_stays _ c.args.at (context_of v) _ c.agree.result
          (branches_meet_so (code_of c.args.tabled.now) c.args.at s u w q v mark first c.in_ok-second.second.items _ _
          (sym b.second_ended.grows.table ∙ c.requires.table)
          record {
            branched = b;
            same = c.holds-same.ensures;
            noted = taken.held;
            back = back s u b;
            again = c.end_block.ensures.locals ∙ ap (λ (n : ℕ). take n r.locals.items) (marks s u b).locals
                ∙ ap (take (length q.locals.items)) c.in_ok-replay.ensures.locals
                ∙ as_many_done_again first q.locals.items;
            groups = groups_ended q r v mark (marks s u b) grown c.end_block.ensures ∙ (back s u b).groups;
            same_too = c.holds-same_too.ensures
                ∙ ap (λ (cs : List Change). all_same cs v.locals.items) c.as_slice.ensures.value;
          })
          c.agree.ensures;
      grows = λ s u b. true_where_it_went_through c.agree.result (Grows s v)
          (grows_then s q v (grows_alike s q (back s u b))
          (grows_cut q r v mark (marks s u b) grown c.end_block.ensures));
    }

pub end_block-requires-clause-locals : goal.end_block-requires-clause-locals
end_block-requires-clause-locals c =
    let taken = c.in_ok-second.ensures in
    (still_marked c.take_back.new.scope c.replay.new.self c.args.begun.locals 0 0 c.in_ok-replay.ensures.grows
    (omega (
      arith,
      c.requires.locals,
      ap length taken.locals,
      as_many_taken_back (drop c.args.begun.changes
          c.args.scope.now.trail.items) c.args.scope.now.locals.items,
    ))
    (omega arith) (omega arith)).0

pub end_block-requires-clause-groups : goal.end_block-requires-clause-groups
end_block-requires-clause-groups c =
    (still_marked c.take_back.new.scope c.replay.new.self 0 0 c.args.begun.groups c.in_ok-replay.ensures.grows
    (omega arith) (omega arith) (omega (arith, c.requires.groups, ap length c.in_ok-second.ensures.group_trail))).2
