-- A judged local gets what stands right of a = alike, and a declared group was not known.
use Rattle.std.proofs.Common.{◌≡◌, inl, inr, subst, ℕ, Bool, false, not}
use Rattle.std.proofs.Common.{Option, Some}
use Rattle.std.specs.Prelude.{is_some}
use Rattle.std.proofs.lemmas.Bool.{not-true}
use Rattle.ae_text.specs.declared.refusal.Spot.{Spot}
use Rattle.ae_text.specs.declared.refusal.Rule.TheVariants as rule
use Rattle.ae_tree.specs.declared.tree.NameAt.{NameAt}
use Rattle.ae_tree.specs.declared.tree.Ty.{Ty}
use Rattle.ae_tree.specs.declared.form.Form.{Form}
use Rattle.ae_tree.specs.Form.{form}
use Rattle.ae_tree.specs.Plain.{Code, RightSide, Declares}
use Rattle.ae_rules.specs.declared.uses.Resource.{Resource}
use Rattle.ae_rules.specs.declared.held.GroupPerm.TheVariants as group
use Rattle.ae_rules.specs.Verdict.{Holds, require, found}
use Rattle.ae_rules.specs.Types.{forms_type}
use Rattle.ae_rules.specs.Groups.{known, declare, with_group}
use Rattle.ae_rules.specs.Context.{Local, Context, held_of, is_visible, with_local, with_held}
use Rattle.ae_rules.specs.Statements.{judge_right, judge_assign, judge_group}
use Rattle.ae_rules.specs.Judges.{Judges}
use Rattle.ae_rules.specs.Edges.{Uses}
use Rattle.ae_rules.specs.Uses.{of_found, write_use, right_uses, assign_uses, statement_uses}
use Rattle.ae_semantics.specs.Places.{there, State}
use Rattle.ae_semantics.specs.Observations.{Notes}
use Rattle.ae_semantics.specs.Runs.{Where, Machine, Below}
use Rattle.ae_semantics.specs.Meaning.{sets, assigns}
use Rattle.ae_needs.specs.Agree.{Agree, Covers, with_used, GoAlike}
use Rattle.ae_needs.proofs.AgreeLemmas.{AllIn, stronger_right, in_right, in_there, covered}
use Rattle.ae_needs.proofs.AlikeLemmas.{from_outcome}
use Rattle.ae_needs.proofs.RightLemmas.{IsMore}
use Rattle.ae_needs.proofs.NewLemmas.{UseLaws, allowed_seen, used_mode, in_or_used, let_used}
use Rattle.ae_needs.proofs.from_rules.PathLemmas.{first_holds}
use Rattle.ae_needs.proofs.from_rules.SeenLemmas.{found_is, required}
use Rattle.ae_needs.proofs.from_rules.VisibleLemmas as visible
use Rattle.ae_needs.proofs.from_text.Basics.{option_holds_one}
use Rattle.ae_needs.proofs.from_soundness.StandLemmas.{there_is}

-- ---- a local that is set

-- A group that is declared was not known.
pub group_is_new : (c d : Context) (g : NameAt) → judge_group c g ≡ Holds d → known c.group g.name ≡ false
group_is_new c d g h =
    let a = first_holds (require (not (is_some (c.local g.name))) rule.DuplicateLocal g.at) _ d h in
    let b = first_holds (declare g c.group) (λ gs. Holds (record c { group = gs })) d a.2 in
    let e = first_holds (require (not (known c.group g.name)) rule.DuplicateLocal g.at)
    (λ _. Holds (with_group g.name group.Exclusive c.group)) b.0 b.1 in
    not-true (known c.group g.name) (required (not (known c.group g.name)) rule.DuplicateLocal g.at e.0 e.1)

-- a judged right side goes to a local alike
abbrev pub SetsAlike : {W : Type 0} → (Resource → Bool) → Machine W → Option (Below W) → Where → Spot → ℕ → Form
    → RightSide → State → State → Notes W → Notes W → Type 0
SetsAlike on m below here at x w e s t n k = (d : Context) → judge_right m.code here.context w e ≡ Holds d
    → AllIn on (right_uses m.code here.context w e) → (more : Resource → Bool) → IsMore on more x
    → GoAlike (Agree more) n k (sets m below here at x w e s n) (sets m below here at x w e t k)

-- A local is declared alike where its right side goes to it alike.
pub declared_alike : {W : Type 0} → UseLaws → (on : Resource → Bool) (m : Machine W) (below : Option (Below W))
    (here : Where) (d : Context) (at : Spot) (ty : Ty) (x : NameAt) (e : RightSide) (s t : State) (n k : Notes W)
    → Judges m.code here.method at (Declares ty x e) here.context d
    → Covers on here.context (statement_uses m.code here.method (Declares ty x e) here.context)
    → SetsAlike on m below here at x.name (form ty) e s t n k
    → GoAlike (Agree (with_used (statement_uses m.code here.method (Declares ty x e) here.context) on)) n k
    (sets m below here at x.name (form ty) e s n) (sets m below here at x.name (form ty) e t k)
declared_alike laws on m below here d at ty x e s t n k h i set =
    let p : Code = m.code in
    let c : Context = here.context in
    let w : Form = form ty in
    let a = first_holds (forms_type p (known c.group) false ty) _ d h in
    let b = first_holds (require (not (is_visible c x.name)) rule.DuplicateLocal x.at) _ d a.2 in
    let r = first_holds (judge_right p c w e) (λ y. Holds (with_local x.name w y)) d b.2 in
    let uses : Uses = statement_uses p here.method (Declares ty x e) c in
    set r.0 r.1
    (covered on c (right_uses p c w e)
    (λ y j. let l = used_mode (right_uses p c w e y) j in
    allowed_seen c y l.0 ((visible.in_right p c w e).value r.0 r.1 y l.0 l.1))
    (λ y j l. i y j (stronger_right (write_use x.name y) (right_uses p c w e y) l)))
    (with_used uses on)
    (λ y j. elim (in_or_used on uses y j) [
      | inl l ↦ inl l
      | inr l ↦ let_used laws on p here.method at ty x e c d h i y l
    ])

-- A local is assigned alike where its right side goes to it alike.
pub assigned_so : {W : Type 0} (on : Resource → Bool) (m : Machine W) (below : Option (Below W)) (here : Where)
    (d : Context) (at : Spot) (x : NameAt) (e : RightSide) (s t : State) (n k : Notes W)
    → judge_assign m.code here.context x e ≡ Holds d → AllIn on (assign_uses m.code here.context x e)
    → ((w : Form) → SetsAlike on m below here at x.name w e s t n k)
    → GoAlike (Agree on) n k (assigns m below here at x.name e s n) (assigns m below here at x.name e t k)
assigned_so on m below here d at x e s t n k h i set =
    let p : Code = m.code in
    let c : Context = here.context in
    let a = first_holds (found (c.local x.name) rule.UnknownName x.at) _ d h in
    let l : Local = a.0 in
    let b = first_holds (require (not l.stays) rule.ParameterMoved x.at) _ d a.2 in
    let r = first_holds (judge_right p c l.form e) (λ y. Holds (with_held x.name (held_of l.form) y)) d b.2 in
    let is : c.local x.name ≡ Some l = found_is (c.local x.name) rule.UnknownName x.at l a.1 in
    let rest : Uses = of_found (c.local x.name) (λ (l : Local). right_uses p c l.form e) in
    from_outcome (Agree on) (there (c.local x.name)) at n k (λ (l : Local). sets m below here at x.name l.form e s n)
    (λ (l : Local). sets m below here at x.name l.form e t k)
    (λ (y : Local) j.
    let same : l ≡ y = option_holds_one (c.local x.name) l y is (there_is (c.local x.name) y j) in
    subst (λ (y : Local). GoAlike (Agree on) n k (sets m below here at x.name y.form e s n)
    (sets m below here at x.name y.form e t k)) same
    (set l.form r.0 r.1
    (in_there on (c.local x.name) (λ (l : Local). right_uses p c l.form e) l is
    (in_right on (write_use x.name) rest i)) on (λ u v. inl v)))
