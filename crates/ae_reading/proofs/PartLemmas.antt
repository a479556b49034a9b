-- Loops over items that are free of limits and end by themselves.
use Rattle.std.proofs.Common.{◌≡◌, ◌++◌, List, [], ◌∷◌, sym, subst}
use Rattle.ae_tree.specs.Grammar.{Tokens, one_by_one, further}
use Rattle.ae_reading.specs.declared.fail.Fail.{Fail}
use Rattle.ae_reading.specs.Reads.{head, Always, Is, Isnt, Free, Took, Failed}
use Rattle.ae_reading.proofs.ReadsLemmas.{Lang, Follow}
use Rattle.ae_reading.proofs.Runs.{Run, run_start, run_more, run_failed, run_end}
use Rattle.ae_reading.proofs.Parts.{Comma, no_comma}

abbrev pub NoComma : Follow
NoComma = Isnt Comma

pub loop_start : {A : Type 0} (D : Lang A) (F : Follow) (ts : Tokens) (xs : List A) → xs ≡ [] → Run D Free F ts xs ts
loop_start {A} D F ts xs e = let P : List A → Type 0 = λ l. Run D Free F ts l ts in subst P (sym e)
    (run_start D Free F ts (λ l. tt))

pub loop_more : {A : Type 0} (D : Lang A) (F : Follow) (ts rest rest' : Tokens) (xs ys : List A) (x : A)
    → (F (head rest) → ⊥) → ys ≡ xs ++ x ∷ [] →
    Run D Free F ts xs rest → Took D Free Always rest x rest' → Run D Free F ts ys rest'
loop_more {A} D F ts rest rest' xs ys x goes_on e t u = let P : List A → Type 0 =
    λ l. Run D Free F ts l rest' in subst P (sym e) (run_more (λ zs vs r m f. tt) goes_on (λ l. tt) t u)

pub loop_failed : {A : Type 0} (D : Lang A) (F : Follow) (ts rest : Tokens) (xs : List A) (e : Fail)
    → (F (head rest) → ⊥) →
    Run D Free F ts xs rest → Failed D Free Always rest e → Failed (one_by_one D) Free F ts e
loop_failed D F ts rest xs e goes_on t f = run_failed (λ zs vs r m f. tt) goes_on (λ l z w. tt) (λ l z zs w. tt) t f

pub commas_end : {A : Type 0} (D : Lang A) (F : Follow) (ts rest : Tokens) (xs : List A) → (Is Comma (head rest) → ⊥) →
    Run (further D) Free F ts xs rest → Took (one_by_one (further D)) Free F ts xs rest
commas_end D F ts rest xs other t = run_end (no_comma D rest other) t
