use Rattle.std.proofs.Common.{length, ◌≤◌, ◌+◌, ◌≡◌, List, subst}
use Rattle.std.proofs.Common.{Result, Ok, Err}
use Rattle.std.specs.Result.{IfOk, IfErr, MatchResult}
use Rattle.ae_text.specs.declared.token.Token.{Token}
use Rattle.ae_text.specs.declared.refusal.Deny.{Deny}
use Rattle.ae_text.specs.declared.refusal.Deny.TheVariants as deny
use Rattle.ae_text.specs.Tokens.{Text, Lexes, IsWhole}
use Rattle.ae_text.proofs.CutLemmas.{lexes_unique, lexes_whole, lexes_few}
use Rattle.ae_text.proofs.scan.lex.Goals as goal

only_these : (text : Text) (r : Result (List Token) Deny) → IfOk r (Lexes text)
    → IfErr r (λ e. (tokens : List Token) → Lexes text tokens → e ≡ deny.Memory) →
    (tokens : List Token) → Lexes text tokens → MatchResult r (λ found. found ≡ tokens) (λ e. e ≡ deny.Memory)
only_these text (Ok found) ok only tokens l = lexes_unique text found tokens ok l
only_these text (Err e) ok only tokens l = only tokens l

all_whole : (text : Text) (r : Result (List Token) Deny) → IfOk r (Lexes text) → IfOk r IsWhole
all_whole text (Ok found) ok = lexes_whole text found ok
all_whole text (Err e) ok = ok

pub returns-in-Ok-clause-only : goal.returns-in-Ok-clause-only
returns-in-Ok-clause-only c =
    let P : Text → Type 0 = λ w. (tokens : List Token) → Lexes w tokens
    → MatchResult c.scan.result (λ found. found ≡ tokens) (λ e. e ≡ deny.Memory) in
    subst P c.in-Ok.ensures.cases.0 (only_these _ _ c.scan.ensures.ok c.scan.ensures.only)

pub returns-in-Ok-clause-whole : goal.returns-in-Ok-clause-whole
returns-in-Ok-clause-whole c = all_whole _ _ c.scan.ensures.ok

all_few : (text : Text) (r : Result (List Token) Deny) → IfOk r (Lexes text)
    → IfOk r (λ ts. length ts ≤ length text + 1)
all_few text (Ok found) ok = lexes_few text found ok
all_few text (Err e) ok = ok

pub returns-in-Ok-clause-few : goal.returns-in-Ok-clause-few
returns-in-Ok-clause-few c =
    let P : Text → Type 0 = λ w. IfOk c.scan.result (λ ts. length ts ≤ length w + 1) in
    subst P c.in-Ok.ensures.cases.0 (all_few _ _ c.scan.ensures.ok)
