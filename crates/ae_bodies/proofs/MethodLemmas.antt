-- The body of a method of an accepted program.
use Rattle.std.proofs.Common.{◌≡◌, ℕ, List, [], ◌++◌, Some, ap, sym, subst, ◌∙◌}
use Rattle.ae_tree.specs.Plain.{Lines, Definition, Code}
use Rattle.ae_rules.specs.Verdict.{◌>>=◌, each}
use Rattle.ae_rules.specs.Lookups.{method_at}
use Rattle.ae_rules.specs.Context.{Context}
use Rattle.ae_rules.specs.Statements.{judge_lines, end_block}
use Rattle.ae_rules.specs.Table.{table_verdict}
use Rattle.ae_rules.specs.Judges.{start, end_method, judge_method, Accepts}
use Rattle.ae_rules.specs.Blocks.{scenes}
use Rattle.ae_uses.specs.declared.opened.OpenedBlock.{OpenedBlock}
use Rattle.ae_uses.specs.declared.used.Used.{Used}
use Rattle.ae_uses.specs.Opened.{AreOpenedFor}
use Rattle.ae_bodies.specs.Passed.{IsHeld, PassesBlock}
use Rattle.ae_bodies.proofs.from_rules.PathLemmas.{first_holds, each_holds}

-- the statements of its methods are judged
pub body_is_judged : (p : Code) → Accepts p → (n : ℕ) (m : Definition) → method_at p n ≡ Some m
    → IsHeld (judge_lines p m m.body (start p m))
body_is_judged p a n m e =
    let t = first_holds (table_verdict p) (λ _. each (judge_method p) p.methods) tt a in
    let j = each_holds (judge_method p) p.methods tt n m t.2 e in
    let l = first_holds (judge_lines p m m.body (start p m))
    (λ c. end_block p (start p m) m.body c >>= λ d. end_method p m d) j.0 j.1 in (l.0, l.1)

-- the blocks of a method, where nothing was opened before
pub body_opens : (p : Code) (m : Definition) (n : ℕ) (b : Lines) (c d : Context) (os qs : List OpenedBlock) (w : Used)
    → m.no ≡ n → m.body ≡ b → start p m ≡ c → os ≡ [] → PassesBlock p m n b c d os qs w
    → AreOpenedFor p (scenes p m) qs
body_opens p m n b c d os qs w e f g z h = subst (AreOpenedFor p (scenes p m))
    (ap (λ (xs : List OpenedBlock). xs ++ k.opens.added) (sym z) ∙ sym k.opens.behind) k.opens.opened
  where
    k : PassesBlock p m m.no m.body (start p m) d os qs w
    k = subst (λ (i : ℕ). PassesBlock p m i m.body (start p m) d os qs w) (sym e)
        (subst (λ (x : Lines). PassesBlock p m n x (start p m) d os qs w) (sym f)
        (subst (λ (x : Context). PassesBlock p m n b x d os qs w) (sym g) h))
