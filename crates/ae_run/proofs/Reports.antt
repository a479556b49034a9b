-- Facts on an answer that is handed on, and on what a report means.
use Rattle.std.proofs.Common.{◌≡◌, [], ◌++◌, Some, Result, Ok, Err, IfOk, MatchResult, is_ok, subst, sym, ap, ◌∙◌}
use Rattle.std.proofs.Common.{append-nil}
use Rattle.std.specs.Prelude.{option_map}
use Rattle.ae_rules.specs.Verdict.{given}
use Rattle.ae_meaning.specs.declared.report.RunReport.{RunReport}
use Rattle.ae_meaning.specs.Meaning.{Meaning}
use Rattle.ae_semantics.specs.Means as whole
use Rattle.ae_semantics.specs.Means.{pieces_bytes}
use Rattle.ae_cases.specs.Laws.{as_whole, IsAsToday}

pub weaker : {A E : Type 0} (P Q : A → Type 0) → ((x : A) → P x → Q x) → (r : Result A E) → IfOk r P → IfOk r Q
weaker P Q f (Ok x) h = f x h
weaker P Q f (Err e) h = tt

-- where only the error is another one
pub handed : {A E D : Type 0} (P : A → Type 0) (N : E → Type 0) (r : Result A E) (s : Result A D)
    → MatchResult r (λ x. s ≡ Ok x) N → is_ok s ≡ is_ok r → IfOk r P → IfOk s P
handed P N (Ok x) s m v h = subst (λ (t : Result _ _). IfOk t P) (sym m) h
handed P N (Err e) (Ok x) m v h = absurd (cc)
handed P N (Err e) (Err d) m v h = tt

-- An ending of today's meaning is one of the whole meaning.
pub ending_meant : (r : RunReport) (m : Meaning) (w : whole.Meant) → IsAsToday m w → Some r.ending ≡ m.ending
    → Some (as_whole r.ending) ≡ w.ending
ending_meant r m w same e = ap (option_map as_whole) e ∙ sym same.ending

-- The bytes of today's meaning are those of the whole meaning.
pub out_meant : (r : RunReport) (m : Meaning) (w : whole.Meant) → IsAsToday m w → r.out ≡ m.out
    → r.out ≡ whole.bytes w []
out_meant r m w same o =
    o ∙ sym same.out ∙ sym (append-nil (pieces_bytes w.log))
    ∙ ap (λ c. pieces_bytes w.log ++ given c [] (λ _. [])) (sym same.unsplit)
