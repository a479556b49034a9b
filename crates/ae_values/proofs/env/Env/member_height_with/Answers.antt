use Rattle.std.proofs.Common.{◌≡◌, Some, slice_get, ap, sym, ◌∙◌, subst}
use Rattle.std.specs.Option.{option_copied}
use Rattle.std.proofs.lemmas.Option.{none-some, same_Some}
use Rattle.ae_values.proofs.env.Env.member_height_with.Goals as goal

pub returns-in-Some : goal.returns-in-Some
returns-in-Some c = λ cells r st t seen at new high.
    let same : c.in-Some.store.now ≡ st = same_Some c.in-Some.store.now st
    (ap option_copied (sym c.in-Some.is) ∙ c.store.ensures cells r ∙ seen) in
    c.height_with.ensures t (subst (λ s. slice_get s c.args.number ≡ Some t) (sym same) at) new high

pub returns-in-None : goal.returns-in-None
returns-in-None c = λ cells r st t seen at new high.
    absurd (none-some st (ap option_copied (sym c.in-None.is) ∙ c.store.ensures cells r ∙ seen))
