use Rattle.std.proofs.Common.{sym, subst, ap, ◌∷◌, []}
use Rattle.ae_tree.specs.Plain.{Expression}
use Rattle.ae_tree.specs.Shown.{expression}
use Rattle.ae_reading.specs.Reads.{Always, Free, Took}
use Rattle.ae_expressions.specs.Productions.{literal, counted}
use Rattle.ae_expressions.proofs.from_reading.ReadsLemmas.{refuses}
use Rattle.ae_expressions.proofs.OperandLemmas.{took_literal, literal_end, literal_other}
use Rattle.ae_expressions.proofs.expressions.literal.Goals as goal

pub returns-in_default-clause-reads : goal.returns-in_default-clause-reads
returns-in_default-clause-reads c = refuses counted literal Free Always _ _ c.unexpected.ensures
    (literal_end _ c.in_default.ensures)

pub returns-in-Some-literal_of-clause-reads : goal.returns-in-Some-literal_of-clause-reads
returns-in-Some-literal_of-clause-reads c =
    let P : Expression → Type 0 = λ x. Took literal Free Always c.args.ts.now x c.in-Some.rest.now in
    let d : literal (expression c.in-Some-literal_of.tree) (c.in-Some.first.now ∷ []) = c.in-Some-literal_of.ensures in
    subst P (sym (ap expression c.leaf.ensures.tree)) (took_literal _ _ _ _ c.in-Some.ensures d)

pub returns-in-None-clause-reads : goal.returns-in-None-clause-reads
returns-in-None-clause-reads c = refuses counted literal Free Always _ _ c.unexpected-in-None.ensures
    (literal_other _ _ _ c.in-Some.ensures c.in-None.ensures)
