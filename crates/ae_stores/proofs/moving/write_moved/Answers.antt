use Rattle.std.proofs.Common.{◌≡◌, ap, sym, ◌∙◌, None, true, false}
use Rattle.ae_semantics.specs.Places.{with_bound, write_in}
use Rattle.ae_values.specs.Shown.{shown}
use Rattle.ae_reads.specs.Views.{base_of}
use Rattle.ae_stores.specs.Stand.{is_local}
use Rattle.ae_stores.proofs.MoveLemmas.{moved_before, moved_into_itself}
use Rattle.ae_stores.proofs.moving.write_moved.Goals as goal

pub returns-then-is_own-clause-meant : goal.returns-then-is_own-clause-meant
returns-then-is_own-clause-meant c = λ s t is e.
    let own : is_local c.args.name (base_of c.args.base) ≡ true = sym c.is_own.ensures ∙ c.if-is_own.true in
    is ∙ sym (moved_into_itself s t c.args.name (base_of c.args.base) c.args.fields.now (shown c.args.value) own e)

pub returns-else-is_own-clause-meant : goal.returns-else-is_own-clause-meant
returns-else-is_own-clause-meant c = λ s t is e.
    let other : is_local c.args.name (base_of c.args.base) ≡ false = sym c.is_own.ensures ∙ c.if-is_own.false in
    let b = base_of c.args.base in
    c.write.ensures.meant (with_bound c.args.name None t)
    (ap (λ z. write_in z b c.args.fields.now (shown c.args.value)) is
    ∙ moved_before s t c.args.name b c.args.fields.now (shown c.args.value) other e)
