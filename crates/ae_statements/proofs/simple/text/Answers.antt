use Rattle.std.proofs.Common.{sym, subst, ◌∙◌, List, ℕ}
use Rattle.ae_reading.specs.Reads.{itself, Always, Free, Took}
use Rattle.ae_statements.specs.Productions.{text}
use Rattle.ae_statements.proofs.from_reading.ReadsLemmas.{refuses}
use Rattle.ae_statements.proofs.SimpleLemmas.{text_took, text_end, text_other}
use Rattle.ae_statements.proofs.simple.text.Goals as goal

pub returns-in_default : goal.returns-in_default
returns-in_default c = refuses itself text Free Always _ _ c.unexpected.ensures (text_end _ c.in_default.ensures)

pub returns-in_ok-from_slice-in-Text : goal.returns-in_ok-from_slice-in-Text
returns-in_ok-from_slice-in-Text c =
    let P : List ℕ → Type 0 = λ s. Took text Free Always c.args.ts.now s c.in-Some.rest.now in
    subst P (sym (c.in_ok-from_slice-in-Text.ensures ∙ c.as_slice.ensures))
    (text_took _ _ _ _ c.in-Some.ensures c.in-Text.is)

pub returns-in_default-kind : goal.returns-in_default-kind
returns-in_default-kind c = refuses itself text Free Always _ _ c.unexpected-in_default-kind.ensures
    (text_other _ _ _ c.in-Some.ensures c.in_default-kind.not-Text)
