use Rattle.std.proofs.Common.{List, subst}
use Rattle.ae_tree.specs.declared.tree.NameAt.{NameAt}
use Rattle.ae_tree.specs.Shown.{expression}
use Rattle.ae_rules.specs.Uses.{◌∪◌, value_uses, write_uses}
use Rattle.ae_scope.specs.Scope.{context_of}
use Rattle.ae_judge.specs.Tabled.{code_of}
use Rattle.ae_uses.specs.Used.{Adds}
use Rattle.ae_uses.proofs.UsedLemmas.{adds_one_then_other}
use Rattle.ae_uses.proofs.simple.store_at_used.Goals as goal

pub returns : goal.returns
returns c =
    let p = code_of c.args.tabled.now in
    let d = context_of c.args.scope.now in
    let i = value_uses p d (expression c.args.index.now) in
    let e = value_uses p d (expression c.args.expr.now) in
    adds_one_then_other c.args.used.now c.write_used.new.used c.value_used-2.new.used
    (write_uses p d c.args.path.now) (i ∪ e)
    (subst (λ (ss : List NameAt). Adds c.args.used.now (write_uses p d (record {
      root = c.args.path.now.root;
      steps = ss;
    })) c.write_used.new.used) c.as_slice.ensures c.in_ok-write_used.ensures)
    (adds_one_then_other c.write_used.new.used c.value_used.new.used c.value_used-2.new.used i e
    c.in_ok-value_used.ensures c.in_ok-value_used-2.ensures)
