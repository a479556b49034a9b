use Rattle.std.proofs.Common.{sym}
use Rattle.std.specs.Str.{chars}
use Rattle.ae_text.proofs.SpellingLemmas.{NoDouble, no_sign_end, no_double_end, no_double, no_sign, single_longest}
use Rattle.ae_text.proofs.ScanLemmas.{front_as}
use Rattle.ae_text.proofs.signs.sign.Goals.{in-Some+in_default-double, in_default}
use Rattle.ae_text.proofs.signs.sign.Goals as goal

pub returns-in_err-first : goal.returns-in_err-first
returns-in_err-first c = rw (c.from_residual.ensures) (no_sign_end _ c.in_err-first.ensures)

pub returns-in_err-sign : goal.returns-in_err-sign
returns-in_err-sign c =
    let d : NoDouble c.in_ok-first.first (chars c.in_ok-first.rest.now) =
    elim c.match-next.branch [
      | in-Some+in_default-double w ↦ no_double _ _ _ _ w.in-Some.ensures.characters
          w.in_default-double.ensures
      | in_default w ↦ no_double_end _ _ w.in_default.ensures
    ] in
    rw (c.from_residual-in_err-sign.ensures) (no_sign _ _ _ c.in_ok-first.ensures.characters d c.in_err-sign.ensures)

pub returns : goal.returns
returns c =
    let d : NoDouble c.in_ok-first.first (chars c.in_ok-first.rest.now) =
    elim c.match-next.branch [
      | in-Some+in_default-double w ↦ no_double _ _ _ _ w.in-Some.ensures.characters
          w.in_default-double.ensures
      | in_default w ↦ no_double_end _ _ w.in_default.ensures
    ] in
    record {
      front = front_as _ _ _ _ (sym c.in_ok-sign.ensures) c.in_ok-first.ensures;
      longest =
          single_longest _ _ _ c.in_ok-sign.ensures d;
    }
