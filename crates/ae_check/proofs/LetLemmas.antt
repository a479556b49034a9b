-- The judgement of a `let` from its parts.
use Rattle.std.proofs.Common.{◌≡◌, Bool, false, not, Err, sym, ap, ◌∙◌}
use Rattle.std.specs.Prelude.{⊤}
use Rattle.ae_text.specs.declared.refusal.Rule.TheVariants as rule
use Rattle.ae_text.specs.declared.refusal.Deny.{Deny}
use Rattle.ae_text.specs.declared.refusal.Deny.TheVariants as deny
use Rattle.ae_tree.specs.declared.tree.NameAt.{NameAt}
use Rattle.ae_tree.specs.declared.tree.Ty.{Ty}
use Rattle.ae_tree.specs.declared.form.Form.{Form}
use Rattle.ae_tree.specs.Form.{form}
use Rattle.ae_tree.specs.Plain.{Code, RightSide}
use Rattle.ae_rules.specs.Verdict.{Verdict, Holds, ◌>>=◌, ◌>>◌, fine, require}
use Rattle.ae_rules.specs.Answers.{Answers}
use Rattle.ae_rules.specs.Types.{forms_type}
use Rattle.ae_rules.specs.Groups.{known}
use Rattle.ae_rules.specs.Context.{Context, is_visible, with_local}
use Rattle.ae_rules.specs.Statements.{judge_right, judge_let}

-- where the type may be written and the name is new, the right side decides
pub right_side_decides : (p : Code) (c : Context) (t : Ty) (x : NameAt) (e : RightSide) (f : Form)
    → forms_type p (known c.group) false t ≡ fine → is_visible c x.name ≡ false → f ≡ form t
    → judge_let p c t x e ≡ (judge_right p c f e >>= λ d. Holds (with_local x.name f d))
right_side_decides p c t x e f a v i =
    ap (λ (k : Verdict ⊤). k >> require (not (is_visible c x.name)) rule.DuplicateLocal x.at >>
    judge_right p c (form t) e >>= λ d. Holds (with_local x.name (form t) d)) a
    ∙ ap (λ (b : Bool). require (not b) rule.DuplicateLocal x.at >>
    judge_right p c (form t) e >>= λ d. Holds (with_local x.name (form t) d)) v
    ∙ ap (λ (g : Form). judge_right p c g e >>= λ d. Holds (with_local x.name g d)) (sym i)

-- where the first part fails, all fails so; an answer that is refused shows nothing
pub first_part_fails : {A B : Type 0} (v : Verdict B) (w : Verdict A) (next : A → Verdict B) (e : Deny)
    → v ≡ (w >>= next) → Answers w (λ (x : A). x) (Err e) → Answers v (λ (x : B). x) (Err e)
first_part_fails v w next deny.Memory q h = tt
first_part_fails v w next (deny.Refused r) q h = q ∙ ap (λ k. k >>= next) h
