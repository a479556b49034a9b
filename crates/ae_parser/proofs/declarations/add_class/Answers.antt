use Rattle.std.proofs.Common.{◌∷◌, ◌++◌, [], ℕ, ap, ◌∙◌}
use Rattle.ae_tree.specs.declared.tree.Decl.TheVariants as decl
use Rattle.ae_parser.specs.Productions.{class_behind}
use Rattle.ae_parser.proofs.DeclarationLemmas.{added_class, leaves_one, failed_counts, took_counts}
use Rattle.ae_parser.proofs.declarations.add_class.Goals as goal

pub returns-in_err-read : goal.returns-in_err-read
returns-in_err-read c = leaves_one class_behind _ _ _ _ _
    (failed_counts _ _ _ _ _ _ c.len-number.ensures c.len-first.ensures c.in_err-read.ensures)
    c.from_residual.ensures.1

pub returns : goal.returns
returns c =
    let numbered = ap (λ (n : ℕ). c.args.parts.now.decls ++ decl.Class n ∷ []) c.len-number.ensures in
    added_class _ _ _ _ _ c.in_ok-push.ensures.ok c.in_ok-append.ensures (c.in_ok-push-2.ensures.ok ∙ numbered)
    (took_counts _ _ _ _ _ _ _ c.len-number.ensures c.len-first.ensures c.in_ok-read.ensures)
