use Rattle.std.proofs.Common.{subst}
use Rattle.ae_tree.specs.declared.tree.Expr.{Expr}
use Rattle.ae_tree.specs.Shown.{expression}
use Rattle.ae_rules.specs.Uses.{value_uses}
use Rattle.ae_scope.specs.Scope.{context_of}
use Rattle.ae_judge.specs.Tabled.{code_of}
use Rattle.ae_uses.specs.Used.{Adds}
use Rattle.ae_uses.proofs.ValueLemmas.{item_adds_three, length_adds_two, operator_adds_two}
use Rattle.ae_uses.proofs.values.+value_used.Goals as goal

pub returns-in_ok-value_used-in-Index : goal.returns-in_ok-value_used-in-Index
returns-in_ok-value_used-in-Index t c =
    let p = code_of c.args.tabled.now in
    let d = context_of c.args.scope.now in
    item_adds_three p d c.args.used.now c.reads.new.self c.end_used.new.used c.value_used.new.used
    c.args.expr.now c.in-Index.path c.in-Index.index c.in-Index.is c.in_ok-reads-in-Index.ensures
    c.in_ok-end_used-in-Index.ensures
    (subst (λ (x : Expr). Adds c.end_used.new.used (value_uses p d (expression x)) c.value_used.new.used)
    c.get.ensures c.in_ok-value_used-in-Index.ensures)

pub returns-in_ok-end_used-in-Len : goal.returns-in_ok-end_used-in-Len
returns-in_ok-end_used-in-Len t c =
    length_adds_two (code_of c.args.tabled.now) (context_of c.args.scope.now) c.args.used.now c.reads-in-Len.new.self
    c.end_used-in-Len.new.used c.args.expr.now c.in-Len.path c.in-Len.field-1 c.in-Len.is
    c.in_ok-reads-in-Len.ensures c.in_ok-end_used-in-Len.ensures

pub returns-in_ok-value_used-in-Bin-2 : goal.returns-in_ok-value_used-in-Bin-2
returns-in_ok-value_used-in-Bin-2 t c =
    let p = code_of c.args.tabled.now in
    let d = context_of c.args.scope.now in
    operator_adds_two p d c.args.used.now c.value_used-in-Bin.new.used c.value_used-in-Bin-2.new.used
    c.args.expr.now c.in-Bin.field-0 c.in-Bin.a c.in-Bin.b c.in-Bin.is
    (subst (λ (x : Expr). Adds c.args.used.now (value_uses p d (expression x)) c.value_used-in-Bin.new.used)
    c.get-in-Bin.ensures c.in_ok-value_used-in-Bin.ensures)
    (subst (λ (x : Expr). Adds c.value_used-in-Bin.new.used (value_uses p d (expression x))
    c.value_used-in-Bin-2.new.used) c.get-in-Bin-2.ensures c.in_ok-value_used-in-Bin-2.ensures)
