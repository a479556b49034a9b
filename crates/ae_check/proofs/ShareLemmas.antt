-- The judgement of a `share` from its premises.
use Rattle.std.proofs.Common.{◌≡◌, ap, ◌∙◌}
use Rattle.std.specs.Prelude.{⊤}
use Rattle.ae_rules.specs.Verdict.{Verdict, ◌>>◌, fine}

-- what comes after three premises that hold
pub after_three_that_hold : {A : Type 0} (a b c : Verdict ⊤) (v : Verdict A) → a ≡ fine → b ≡ fine → c ≡ fine
    → (a >> b >> c >> v) ≡ v
after_three_that_hold a b c v e f g =
    ap (λ (k : Verdict ⊤). k >> b >> c >> v) e ∙ ap (λ (k : Verdict ⊤). k >> c >> v) f
    ∙ ap (λ (k : Verdict ⊤). k >> v) g
