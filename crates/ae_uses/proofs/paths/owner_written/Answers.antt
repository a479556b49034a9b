use Rattle.std.proofs.Common.{List, ap, ◌∙◌, subst}
use Rattle.ae_tree.specs.declared.tree.NameAt.{NameAt}
use Rattle.ae_rules.specs.Uses.{write_uses}
use Rattle.ae_rules.specs.Walks.{without_last}
use Rattle.ae_scope.specs.Scope.{context_of}
use Rattle.ae_judge.specs.Tabled.{code_of}
use Rattle.ae_uses.specs.Used.{Adds}
use Rattle.ae_uses.proofs.paths.owner_written.Goals as goal

pub returns : goal.returns
returns c =
    subst (λ (ss : List NameAt). Adds c.args.used.now (write_uses (code_of c.args.tabled.now)
    (context_of c.args.scope.now) (record { root = c.args.path.now.root; steps = ss })) c.write_used.new.used)
    (c.without_last-steps.ensures ∙ ap without_last c.as_slice.ensures) c.in_ok-write_used.ensures
