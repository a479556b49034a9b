use Rattle.std.proofs.Common.{◌-◌, ℕ, List, length, take, sym, ap, ◌∙◌, subst, arith}
use Rattle.std.proofs.lemmas.List.{length-take}
use Rattle.ae_text.specs.declared.token.Token.{Token}
use Rattle.ae_text.specs.declared.refusal.Deny.{Deny}
use Rattle.ae_text.specs.Tokens.{Lexes, IsTextDenied, spot_after}
use Rattle.ae_text.specs.Scan.{denied}
use Rattle.ae_text.proofs.CutLemmas.{scanned_end, scanned_next, scanned_place, scanned_denied, scanned_refused}
use Rattle.ae_text.proofs.CutLemmas.{cuts_smaller, cuts_utf8}
use Rattle.ae_text.proofs.scan.scan.Goals as goal

pub pieces-preserved : goal.pieces-preserved
pieces-preserved c =
    let size : ℕ = length c.pieces.rest.now - length c.in-Ok.after.now in
    let spot = c.advance-spot.ensures ∙ ap (λ r. spot_after c.pieces.spot (take size r)) c.as_bytes.ensures.value in (
      cuts_utf8 _ _ _ c.in-Ok.ensures c.pieces.invariant.0,
      scanned_next _ _ _ _ _ _ _ _ c.pieces.invariant.1
          c.in-Ok.ensures spot c.in_ok-push_token-in-Ok.ensures,
    )

pub pieces-smaller : goal.pieces-smaller
pieces-smaller c = cuts_smaller _ _ _ c.in-Ok.ensures

pub advance-spot-requires-clause-line : goal.advance-spot-requires-clause-line
advance-spot-requires-clause-line c =
    let p = scanned_place _ _ _ _ c.pieces.invariant.1 in
    omega (
      arith,
      p.0,
      c.requires,
      length-take (length c.pieces.rest.now - length c.in-Ok.after.now)
          c.as_bytes.result.now,
      ap length c.as_bytes.ensures.value,
    )

pub advance-spot-requires-clause-col : goal.advance-spot-requires-clause-col
advance-spot-requires-clause-col c =
    let p = scanned_place _ _ _ _ c.pieces.invariant.1 in
    omega (
      arith,
      p.1,
      c.requires,
      length-take (length c.pieces.rest.now - length c.in-Ok.after.now)
          c.as_bytes.result.now,
      ap length c.as_bytes.ensures.value,
    )

pub advance-spot-requires-clause-first : goal.advance-spot-requires-clause-first
advance-spot-requires-clause-first c = (scanned_place _ _ _ _ c.pieces.invariant.1).2

pub deny-requires-clause-line : goal.deny-requires-clause-line
deny-requires-clause-line c =
    let p = scanned_place _ _ _ _ c.pieces.invariant.1 in
    omega (arith, p.0, c.requires, ap length c.as_bytes-in-Err.ensures.value)

pub deny-requires-clause-col : goal.deny-requires-clause-col
deny-requires-clause-col c =
    let p = scanned_place _ _ _ _ c.pieces.invariant.1 in
    omega (arith, p.1, c.requires, ap length c.as_bytes-in-Err.ensures.value)

pub deny-requires-clause-first : goal.deny-requires-clause-first
deny-requires-clause-first c = (scanned_place _ _ _ _ c.pieces.invariant.1).2

pub returns-in-Err-clause-refused : goal.returns-in-Err-clause-refused
returns-in-Err-clause-refused c =
    let P : Deny → Type 0 = IsTextDenied c.args.text.now in
    let is = c.deny.ensures ∙ ap (λ r. denied c.in-Err.fault r c.pieces.spot) c.as_bytes-in-Err.ensures.value in
    subst P (sym is) (scanned_denied _ _ _ _ _ c.pieces.invariant.1 c.in-Err.ensures)

pub returns-in-Err-clause-only : goal.returns-in-Err-clause-only
returns-in-Err-clause-only c = λ tokens l.
    c.deny.ensures ∙ ap (λ r. denied c.in-Err.fault r c.pieces.spot) c.as_bytes-in-Err.ensures.value
    ∙ scanned_refused _ _ _ _ tokens _ c.pieces.invariant.1 c.in-Err.ensures l

pub returns-clause-ok : goal.returns-clause-ok
returns-clause-ok c =
    let P : List Token → Type 0 = Lexes c.args.text.now in
    subst P (sym c.in_ok-push.ensures.ok) (scanned_end _ _ _ _ c.pieces.invariant.1 c.in_default.ensures)
