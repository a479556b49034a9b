use Rattle.std.proofs.Common.{List, sym, ◌∙◌}
use Rattle.std.proofs.lemmas.List.{at_drop_all}
use Rattle.ae_tree.specs.declared.tree.NameAt.{NameAt}
use Rattle.ae_rules.specs.Statements.{while_split}
use Rattle.ae_scope.specs.Scope.{context_of}
use Rattle.ae_scope.proofs.RegroupLemmas.{next_is_shared}
use Rattle.ae_scope.proofs.ReplayLemmas.{grows_then}
use Rattle.ae_scope.proofs.scope.Scope.share_all.Goals as goal

pub set_group-requires-clause-within : goal.set_group-requires-clause-within
set_group-requires-clause-within c =
    rw c.loop-group.invariant.table (c.requires.named c.loop-group.group-index _ c.loop-group-test.true)

pub set_group-requires-clause-listed : goal.set_group-requires-clause-listed
set_group-requires-clause-listed c =
    rw c.loop-group.invariant.known (c.requires.listed c.loop-group.group-index _ c.loop-group-test.true)

pub loop-group-preserved : goal.loop-group-preserved
loop-group-preserved c =
    let s = c.loop-group.self in
    let t = c.set_group.new.self in
    record {
      rest = next_is_shared c.args.groups.now c.loop-group.group-index _ (context_of c.args.self.now) (context_of s)
          (context_of t) c.loop-group-test.true c.loop-group.invariant.rest c.in_ok-set_group.ensures.context;
      known = c.in_ok-set_group.ensures.known ∙ c.loop-group.invariant.known;
      table = t.sized ∙ c.in_ok-set_group.ensures.table ∙ sym s.sized ∙ c.loop-group.invariant.table;
      grows = grows_then c.args.self.now s t c.loop-group.invariant.grows c.in_ok-set_group.ensures.grows;
    }

pub returns-clause-context : goal.returns-clause-context
returns-clause-context c = sym (c.loop-group.invariant.rest
    ∙ at_drop_all (λ (xs : List NameAt). while_split xs (context_of c.loop-group.self)) c.args.groups.now
    c.loop-group.group-index c.loop-group-test.false)
