use Rattle.std.proofs.Common.{◌≡◌, List, [], ◌∷◌, ap, ◌∙◌}
use Rattle.std.proofs.lemmas.List.{drop_all}
use Rattle.ae_tree.specs.declared.tree.Param.{Param}
use Rattle.ae_rules.specs.Verdict.{Holds}
use Rattle.ae_scope.specs.Scope.{context_of}
use Rattle.ae_check.specs.Methods.{with_params}
use Rattle.ae_check.proofs.MethodLemmas.{next_added, none_added}
use Rattle.ae_check.proofs.methods.add_params.Goals as goal

pub loop-param-preserved : goal.loop-param-preserved
loop-param-preserved c =
    let k = context_of c.loop-param.scope in
    let d = context_of c.add_param.new.scope in
    let h : Holds (with_params (c.param-item.result ∷ []) k) ≡ Holds d = c.in_ok-add_param.ensures.context in
    let i : with_params (c.param-item.result ∷ []) k ≡ d = cc in
    record {
      rest = next_added c.args.params.now c.loop-param.param-index c.param-item.result (context_of c.args.scope.now) k d
          c.loop-param-test.true c.param-item.is c.loop-param.invariant.rest i;
      table = c.in_ok-add_param.ensures.table ∙ c.loop-param.invariant.table;
      groups = c.in_ok-add_param.ensures.groups ∙ c.loop-param.invariant.groups;
    }

pub returns-clause-context : goal.returns-clause-context
returns-clause-context c = ap Holds (c.loop-param.invariant.rest
    ∙ ap (λ (xs : List Param). with_params xs (context_of c.loop-param.scope))
    (drop_all c.loop-param.param-index c.args.params.now c.loop-param-test.false)
    ∙ none_added (context_of c.loop-param.scope))
