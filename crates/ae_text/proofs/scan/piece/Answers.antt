use Rattle.std.proofs.Common.{refl, sym, arith}
use Rattle.std.proofs.Common.{inl}
use Rattle.std.proofs.lemmas.Int.{ints}
use Rattle.ae_text.proofs.ScanLemmas.{span_digits}
use Rattle.ae_text.proofs.LexLemmas.{cuts_white, cuts_word, cuts_number, too_large, cuts_text, cuts_comment}
use Rattle.ae_text.proofs.LexLemmas.{cuts_sign, nothing_begins, fault_here}
use Rattle.ae_text.proofs.scan.piece.Goals as goal

pub returns-then-white : goal.returns-then-white
returns-then-white c = cuts_white _ _ _ c.requires (sym c.if-white.ensures)

pub returns-then-starts_word : goal.returns-then-starts_word
returns-then-starts_word c = cuts_word _ _ _ _ _ _ c.span.ensures c.requires
    (sym c.if-starts_word.ensures) c.in_ok-kind.ensures

pub number-requires : goal.number-requires
number-requires c = span_digits _ _ _ c.span-then-digit.ensures

pub returns-in-Some : goal.returns-in-Some
returns-in-Some c =
    let e = c.in-Some.ensures.0 in
    let small = c.in-Some.ensures.1 in
    cuts_number _ _ _ _ _ _ c.span-then-digit.ensures c.requires (sym c.if-digit.ensures)
    (omega (arith, ints, e, small)) small

pub returns-in-None : goal.returns-in-None
returns-in-None c = fault_here _ _
    (refl, too_large _ _ _ _ _ c.span-then-digit.ensures c.requires (sym c.if-digit.ensures) c.in-None.ensures)

pub returns-then-first-eq34 : goal.returns-then-first-eq34
returns-then-first-eq34 c = cuts_text _ _ _ _ _ c.requires c.if-first-eq34.true c.in_ok-value.ensures

pub returns-in-Some-comment : goal.returns-in-Some-comment
returns-in-Some-comment c = cuts_comment _ _ c.in-Some-comment.ensures

pub returns-in-Some-sign : goal.returns-in-Some-sign
returns-in-Some-sign c = cuts_sign _ _ _ c.in-Some-sign.ensures c.in_default.ensures

pub returns-in-None-sign : goal.returns-in-None-sign
returns-in-None-sign c = fault_here _ _
    (inl (
      refl,
      nothing_begins _ _ _ c.requires (sym c.if-white.ensures) (sym c.if-starts_word.ensures)
          (sym c.if-digit.ensures) c.if-first-eq34.false c.in_default.ensures c.in-None-sign.ensures,
    ))
