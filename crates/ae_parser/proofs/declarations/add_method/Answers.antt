use Rattle.std.proofs.Common.{◌∷◌, ◌++◌, [], length, ℕ, refl, ap, ◌∙◌, arith}
use Rattle.ae_tree.specs.declared.tree.Decl.TheVariants as decl
use Rattle.ae_parser.specs.Productions.{method_behind}
use Rattle.ae_parser.proofs.DeclarationLemmas.{method_fails, added_method, leaves_one}
use Rattle.ae_parser.proofs.declarations.add_method.Goals as goal

pub method-requires : goal.method-requires
method-requires c = omega (arith, c.requires.methods)

pub returns-in_err-method : goal.returns-in_err-method
returns-in_err-method c = leaves_one method_behind _ _ _ _ _
    (method_fails (length c.args.parts.now.classes) (length c.args.parts.now.methods) _ _ c.in_err-method.ensures)
    c.from_residual.ensures.1

pub returns : goal.returns
returns c =
    let numbered = ap (λ (n : ℕ). c.args.parts.now.decls ++ decl.Method n ∷ []) c.len-number.ensures in
    added_method _ _ _ _ _ refl c.in_ok-push.ensures.ok (c.in_ok-push-2.ensures.ok ∙ numbered) c.in_ok-method.ensures
